-- `stl::get::Facets::read` meets its contract: the facets are as many as the bytes say.
use Rattle.spec_stl.specs.Stl.{stl_triangles}
use Rattle.stl.proofs.get.Facets.read.Goals as goal

pub read_facets-requires : goal.read_facets-requires
read_facets-requires c = (c.args.self.now.room, c.requires)

pub returns : goal.returns
unfolding stl_triangles
returns c = rw (← c.args.self.now.count_is) c.read_facets.ensures
