-- A request of the code as the definitions' own. The contracts compare by it.
use Rattle.lists.specs.Values.{as_settings}
use Rattle.spec_gauge.specs.Printed as Printed
use Rattle.gauge_run.specs.declared.request.Request.{Request}

abbrev pub as_request : Request → Printed.Request
as_request r = record { settings = as_settings r.settings; triangles = r.triangles.now; points = r.points.now; distance = r.distance; rule = r.rule }
