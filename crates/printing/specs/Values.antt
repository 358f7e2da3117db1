-- What was found for a point, as the definitions' own. A contract compares by it.
use Rattle.spec_printing.specs.Printed as printed
use Rattle.printing.specs.declared.lines.Found.{Found}

abbrev pub found_of : Found → printed.Found
found_of f = record { triangle = f.triangle; x = f.x; y = f.y; z = f.z; squared = f.squared; part = f.part }
