-- `tree::listing::first_of` meets its contract. The invariant: the listing that ends here begins with the same node.
use mathlib.Core.Path.{◌≡◌}
use Prim.Native.Nat.{◌≤◌}
use Rattle.spec_tree.specs.Ways.{first_of}
use Rattle.tree.proofs.listing.first_of.Given as goal

abbrev pub invariant-loop-first : goal.invariant-loop-first
invariant-loop-first l = (l.first ≤ l.node) × (first_of l.links l.first l.first ≡ first_of l.links l.node l.node)

abbrev pub decreases-loop-first : goal.decreases-loop-first
decreases-loop-first l = l.first
