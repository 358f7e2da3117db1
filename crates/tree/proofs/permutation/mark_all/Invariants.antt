-- `tree::permutation::mark_all` meets its contract. The invariant: the first i entries are each new, and exactly they are marked.
use mathlib.Core.Path.{◌≡◌}
use lib.ListN.{length}
use Rattle.spec_tree.proofs.Marks.{Marked}
use Rattle.tree.proofs.permutation.mark_all.Given as goal

abbrev pub invariant-loop-i : goal.invariant-loop-i
invariant-loop-i l = Marked l.n l.order l.seen l.i × (length l.seen ≡ length l.initial.seen)
