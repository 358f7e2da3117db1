-- No two answers about leaves stand for the same of the definitions.
use Rattle.std.proofs.Common.{◌≡◌, ℕ, refl, ap}
use Rattle.std.specs.Prelude.{Option, None, Some, Result, Ok, Err}
use Rattle.shapes.proofs.Unique.{back_box}
use Rattle.lists.specs.declared.refusal.Refusal.{Refusal}
use Rattle.lists.specs.Values.{number_of, place_of}
use Rattle.lists.proofs.Unique.{refusal_unique}
use Rattle.spec_tree.specs.Leaves as Leaves
use Rattle.leaves.specs.Values.{as_entry, as_entry_found, as_leaf, as_leaf_option, as_leaf_found, as_leaves_counted}
use Rattle.leaves.specs.declared.calls.LeafNode.{LeafNode}

-- what the entry of a leaf stands for fixes it
pub entry_unique : (a b : Result (Option ℕ) Refusal) → as_entry_found a ≡ as_entry_found b → a ≡ b
entry_unique (Ok None) (Ok None) e = refl
entry_unique (Ok None) (Ok (Some t)) e = cc
entry_unique (Ok (Some t)) (Ok None) e = cc
entry_unique (Ok (Some t)) (Ok (Some s)) e = let same : t ≡ s = cc in rw same
entry_unique (Ok None) (Err q) e = cc
entry_unique (Ok (Some t)) (Err q) e = cc
entry_unique (Err r) (Ok None) e = cc
entry_unique (Err r) (Ok (Some t)) e = cc
entry_unique (Err r) (Err q) e =
    let n : number_of r ≡ number_of q = cc in
    let p : place_of r ≡ place_of q = cc in
    ap Err (refusal_unique r q n p)

-- the same where no call refuses: what `entry_at` and `entry_of` answer
pub entry_option_unique : (a b : Option ℕ) → as_entry a ≡ as_entry b → a ≡ b
entry_option_unique a b e = let same = entry_unique (Ok a) (Ok b) e in cc

abbrev back_leaf : Leaves.Leaf → LeafNode
back_leaf l = record { node = l.node; first = l.first; last = l.last; over = back_box l.box }

-- what a leaf stands for fixes it
pub leaf_unique : (a b : Result (Option LeafNode) Refusal) → as_leaf_found a ≡ as_leaf_found b → a ≡ b
leaf_unique (Ok None) (Ok None) e = refl
leaf_unique (Ok None) (Ok (Some m)) e = cc
leaf_unique (Ok (Some l)) (Ok None) e = cc
leaf_unique (Ok (Some l)) (Ok (Some m)) e = let same : as_leaf l ≡ as_leaf m = cc in let back : l ≡ m = ap back_leaf same in rw back
leaf_unique (Ok None) (Err q) e = cc
leaf_unique (Ok (Some l)) (Err q) e = cc
leaf_unique (Err r) (Ok None) e = cc
leaf_unique (Err r) (Ok (Some l)) e = cc
leaf_unique (Err r) (Err q) e =
    let n : number_of r ≡ number_of q = cc in
    let p : place_of r ≡ place_of q = cc in
    ap Err (refusal_unique r q n p)

-- the same where no call refuses: what `leaf_from` answers
pub leaf_option_unique : (a b : Option LeafNode) → as_leaf_option a ≡ as_leaf_option b → a ≡ b
leaf_option_unique a b e = let same = leaf_unique (Ok a) (Ok b) e in cc

-- what a count of leaves stands for fixes it
pub count_unique : (a b : Result ℕ Refusal) → as_leaves_counted a ≡ as_leaves_counted b → a ≡ b
count_unique (Ok m) (Ok n) e = let same : m ≡ n = cc in ap Ok same
count_unique (Ok m) (Err r) e = cc
count_unique (Err r) (Ok n) e = cc
count_unique (Err r) (Err q) e =
    let n : number_of r ≡ number_of q = cc in
    let p : place_of r ≡ place_of q = cc in
    ap Err (refusal_unique r q n p)
