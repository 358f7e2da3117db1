-- `grow::tables::put_bounds` meets its contract: a turn writes one box behind those that stand there.
use Rattle.spec_tables.proofs.Runs.{Run}
use Rattle.spec_lists.specs.Reading.{box_at}
use Rattle.spec_tree.specs.Trees.{six_of}
use Rattle.grow.proofs.tables.put_bounds.Given as goal

abbrev pub invariant-loop-t : goal.invariant-loop-t
invariant-loop-t l = Run (λ k. six_of (box_at l.triangles k)) 0 l.count l.initial.bounds l.bounds l.t
