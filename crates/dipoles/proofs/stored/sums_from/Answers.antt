-- `dipoles::stored::sums_from` meets its contract: a leaf is summed, and any other node joins what stands in the list.
use mathlib.Core.Path.{◌∙◌, sym}
use Rattle.spec_dipoles.proofs.Storing.{from_leaf, from_branch}
use Rattle.dipoles.proofs.stored.sums_from.Goals as goal

pub returns-in-Leaf : goal.returns-in-Leaf
returns-in-Leaf c =
    let leaf = c.in-Leaf.ensures in
    c.range_sums.ensures ∙ rw (leaf.first_is, leaf.last_is) (sym (from_leaf _ _ _ _ _ _ leaf.is_leaf))

pub returns-in-Branch : goal.returns-in-Branch
returns-in-Branch c =
    let branch = c.in-Branch.ensures in
    rw (c.plus.ensures, c.restored_at-from_right.ensures, c.restored_at-from_left.ensures, branch.right_is, branch.left_is)
    (sym (from_branch _ _ _ _ _ _ branch.no_leaf))
