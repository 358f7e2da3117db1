-- Leaves, their entries and their count in the code as the definitions' own. The contracts compare by these.
use Rattle.std.specs.Prelude.{ℕ, Option, None, Some, Result, Ok, Err}
use Rattle.shapes.specs.Values.{as_box}
use Rattle.lists.specs.Values.{number_of, place_of}
use Rattle.lists.specs.declared.refusal.Refusal.{Refusal}
use Rattle.spec_tree.specs.Leaves as Leaves
use Rattle.leaves.specs.declared.calls.LeafNode.{LeafNode}

abbrev pub as_entry : Option ℕ → Leaves.EntryFound
as_entry None = Leaves.no_entry
as_entry (Some t) = Leaves.triangle t

abbrev pub as_entry_found : Result (Option ℕ) Refusal → Leaves.EntryFound
as_entry_found (Ok found) = as_entry found
as_entry_found (Err r) = Leaves.entry_refused (number_of r) (place_of r)

abbrev pub as_leaf : LeafNode → Leaves.Leaf
as_leaf l = record { node = l.node; first = l.first; last = l.last; box = as_box l.over }

abbrev pub as_leaf_option : Option LeafNode → Leaves.LeafFound
as_leaf_option None = Leaves.nothing
as_leaf_option (Some l) = Leaves.found (as_leaf l)

abbrev pub as_leaf_found : Result (Option LeafNode) Refusal → Leaves.LeafFound
as_leaf_found (Ok found) = as_leaf_option found
as_leaf_found (Err r) = Leaves.not_sought (number_of r) (place_of r)

abbrev pub as_leaves_counted : Result ℕ Refusal → Leaves.LeavesCounted
as_leaves_counted (Ok n) = Leaves.counted n
as_leaves_counted (Err r) = Leaves.not_counted (number_of r) (place_of r)
