-- The two loops of `node_sums` over the lent list: the sums of the nodes (`SumsStored`), then their dipoles (`DipolesMade`).
-- Then what stands in that list when the call is done, or refused.
use mathlib.Core.Path.{◌≡◌, refl, sym, ap, ◌∙◌}
use mathlib.Core.Bool.{true}
use mathlib.Core.List.{List}
use Prim.Native.Nat.{ℕ, ◌+◌, ◌*◌, ◌/◌, ◌≤◌, ◌<◌}
use native.Mathlib.Omega.{arith}
use borrow.Author.Tests.{ne_eqb}
use lib.ListN.{length}
use lib.Ieee.{Float, Format}
use Rattle.spec_tables.specs.Tables.{overwrite, concat_map}
use Rattle.spec_tables.proofs.Tables.{length_overwrite, length_concat_map, concat_map_same}
use Rattle.spec_tables.proofs.Runs.{Run, run_start, run_front, run_end}
use Rattle.spec_shapes.specs.Boxes.{Box}
use Rattle.spec_lists.specs.Reading.{triangle_at, box_at, triangle_count}
use Rattle.spec_lists.specs.Refusals.{Verdict, passes, refuses}
use Rattle.spec_lists.proofs.Verdicts.{all_pass, refusal_leaves}
use Rattle.spec_lists.proofs.Passed.{room_passed}
use Rattle.spec_tree.specs.Accepted.{accepted}
use Rattle.spec_tree.specs.Trees.{kind_at, left_at, right_at, node_box}
use Rattle.spec_tree.specs.Hangs.{leaf_slice}
use Rattle.spec_dipoles.specs.Sums.{Sums, leaf_sums, joined_sums, node_sums, Dipole, dipole_of}
use Rattle.spec_dipoles.specs.Calls.{sixteen_of, dipole_at, sums_refusal, dipole_in, dipoles, after_sums}
use Rattle.spec_dipoles.specs.Stored.{stored, restored, sums_from, stored_sums, made_dipoles, Readable}
use Rattle.spec_tree.proofs.Unchanged.{tree_passed}
use Rattle.spec_dipoles.proofs.Readable.{accepted_readable, accepted_boxed}
use Rattle.spec_dipoles.proofs.Lent.{overwrite_again, dipole_read, dipole_behind}
use Rattle.spec_dipoles.proofs.Levels.{sums_by_earlier}

-- ---- the sums of one node, by what stands in the list
module _ (f : Format) (triangles : List Float) (order links : List ℕ) (sums : List Float) (node : ℕ) where
  -- a leaf's are those of its triangles
  pub from_leaf : kind_at links node ≡ 1 → sums_from f triangles order links sums node ≡ leaf_sums f (triangle_at triangles) (leaf_slice order links node)
  unfolding sums_from
  from_leaf p = rw p

  -- any other's are those of its children, joined
  pub from_branch : (kind_at links node ≡ 1 → ⊥)
      → sums_from f triangles order links sums node
      ≡ joined_sums f (restored (dipole_at sums (left_at links node))) (restored (dipole_at sums (right_at links node)))
  unfolding sums_from
  from_branch p = rw (ne_eqb (kind_at links node) 1 p)

-- ---- the sums: those of the first `node` nodes stand in the list
module _ (f : Format) (triangles : List Float) (order links : List ℕ) where
  abbrev sums_of : ℕ → Dipole
  sums_of node = stored (node_sums f (triangle_at triangles) order links node)

pub record SumsStored (f : Format) (triangles : List Float) (order links : List ℕ) (nodes : ℕ) (old out : List Float) (node : ℕ) : Type 0 where
  pub run : Run (λ k. sixteen_of (sums_of f triangles order links k)) 0 nodes old out node

module _ (f : Format) (triangles : List Float) (order links : List ℕ) (nodes : ℕ) (old : List Float) where
  -- start: nothing is stored
  pub store_start : SumsStored f triangles order links nodes old old 0
  store_start = record { run = run_start _ 16 0 nodes old }

  -- what stands in the list gives the sums of the next node, since its children are before it
  next_sums : (out : List Float) (node : ℕ) → Readable triangles order links nodes → node < nodes → SumsStored f triangles order links nodes old out node
      → sums_from f triangles order links out node ≡ node_sums f (triangle_at triangles) order links node
  unfolding sums_from
  next_sums out node is l s =
      sums_by_earlier f (triangle_at triangles) order links nodes is.node_is node (λ child. restored (dipole_at out child)) l
      (λ k h.
      ap (λ (xs : List Float). restored (dipole_at xs k)) s.run.filled ∙ ap restored (dipole_read (sums_of f triangles order links) node old k h))

  -- turn: the next node's sums are stored in its place
  pub store_more : (out now : List Float) (node : ℕ) (s : Sums) → Readable triangles order links nodes → 16 * nodes ≤ length old → node < nodes
      → SumsStored f triangles order links nodes old out node
      → s ≡ sums_from f triangles order links out node → now ≡ overwrite (16 * node) (sixteen_of (stored s)) out
      → SumsStored f triangles order links nodes old now (node + 1)
  store_more out now node s is room l h S W = record {
    run =
        run_front (λ k. sixteen_of (sums_of f triangles order links k)) 16 nodes old out now node (λ k. refl) room l h.run
        (W ∙ ap (λ (t : Sums). overwrite (16 * node) (sixteen_of (stored t)) out) (S ∙ next_sums out node is l h));
  }

  -- end: all sums stand in the list
  pub store_end : (out : List Float) (node : ℕ) → nodes ≤ node → SumsStored f triangles order links nodes old out node
      → out ≡ overwrite 0 (stored_sums f triangles order links nodes) old
  unfolding stored_sums
  store_end out node l h = run_end _ 0 nodes old out node l h.run

-- ---- the dipoles: those of the first `node` nodes stand in the list, and behind them the sums
module _ (f : Format) (boxes sums : List Float) where
  abbrev made_of : ℕ → Dipole
  made_of node = dipole_of f (node_box boxes node) (restored (dipole_at sums node))

pub record DipolesMade (f : Format) (boxes : List Float) (nodes : ℕ) (old out : List Float) (node : ℕ) : Type 0 where
  pub run : Run (λ k. sixteen_of (made_of f boxes old k)) 0 nodes old out node

module _ (f : Format) (boxes : List Float) (nodes : ℕ) (old : List Float) where
  -- start: no dipole is made
  pub make_start : DipolesMade f boxes nodes old old 0
  make_start = record { run = run_start _ 16 0 nodes old }

  -- turn: the next node's dipole is made of its sums, which are as they were, and written in their place
  pub make_more : (out now : List Float) (node : ℕ) (box : Box) (s : Sums) (d : Dipole) → 16 * nodes ≤ length old → node < nodes
      → DipolesMade f boxes nodes old out node
      → box ≡ node_box boxes node → s ≡ restored (dipole_at out node) → d ≡ dipole_of f box s → now ≡ overwrite (16 * node) (sixteen_of d) out
      → DipolesMade f boxes nodes old now (node + 1)
  make_more out now node box s d room l h B S D W =
      let as_it_was : dipole_at out node ≡ dipole_at old node =
      ap (λ (xs : List Float). dipole_at xs node) h.run.filled ∙ dipole_behind (made_of f boxes old) node old node (omega arith) in
      let made : d ≡ made_of f boxes old node = rw (D, B, S, as_it_was) in
      record {
        run =
            run_front (λ k. sixteen_of (made_of f boxes old k)) 16 nodes old out now node (λ k. refl) room l h.run
            (W ∙ ap (λ (e : Dipole). overwrite (16 * node) (sixteen_of e) out) made);
      }

  -- end: all dipoles stand in the list
  pub make_end : (out : List Float) (node : ℕ) → nodes ≤ node → DipolesMade f boxes nodes old out node → out ≡ overwrite 0 (made_dipoles f boxes old nodes) old
  unfolding made_dipoles
  make_end out node l h = run_end _ 0 nodes old out node l h.run

-- ---- both
-- dipoles made of the stored sums, and written over them, are the dipoles of the nodes
made_of_stored : (f : Format) (triangles : List Float) (order links : List ℕ) (boxes : List Float) (nodes : ℕ) (old mid out : List Float)
    → mid ≡ overwrite 0 (stored_sums f triangles order links nodes) old → out ≡ overwrite 0 (made_dipoles f boxes mid nodes) mid
    → out ≡ overwrite 0 (dipoles f triangles order links boxes nodes) old
unfolding stored_sums made_dipoles dipoles dipole_in
made_of_stored f triangles order links boxes nodes old mid out S M =
    let sums : ℕ → Dipole = sums_of f triangles order links in
    let own : ℕ → List Float = λ node. sixteen_of (dipole_of f (node_box boxes node) (restored (sums node))) in
    let read : made_dipoles f boxes mid nodes ≡ concat_map own nodes =
    concat_map_same (λ node. sixteen_of (made_of f boxes mid node)) own nodes
    (λ k h. ap (λ (d : Dipole). sixteen_of (dipole_of f (node_box boxes k) (restored d)))
    (ap (λ (xs : List Float). dipole_at xs k) S ∙ dipole_read sums nodes old k h)) in
    let same : length (concat_map (λ node. sixteen_of (sums node)) nodes) ≡ length (concat_map own nodes) =
    length_concat_map (λ node. sixteen_of (sums node)) 16 nodes (λ k. refl) ∙ sym (length_concat_map own 16 nodes (λ k. refl)) in
    M ∙ ap (λ (xs : List Float). overwrite 0 xs mid) read ∙ ap (overwrite 0 (concat_map own nodes)) S
    ∙ overwrite_again (concat_map (λ node. sixteen_of (sums node)) nodes) (concat_map own nodes) old same

-- ---- the call
module _ (triangles : List Float) (order links : List ℕ) (boxes : List Float) (nodes : ℕ) (old : List Float) where
  -- a call that refuses keeps its contract by leaving the lent list as it was
  pub sums_refused : (f : Format) (v : Verdict) → v ≡ sums_refusal triangles order links boxes nodes (length old) → refuses v ≡ true
      → old ≡ after_sums f triangles order links boxes nodes old
  unfolding after_sums
  sums_refused f v is h = rw (← is) (refusal_leaves v (overwrite 0 (dipoles f triangles order links boxes nodes) old) old h)

  module _ (h : sums_refusal triangles order links boxes nodes (length old) ≡ passes) where
    -- a call that passed its tests has sixteen numbers a node
    pub sums_room : 16 * nodes ≤ length old
    unfolding sums_refusal
    sums_room = omega (arith, room_passed (length old / 16) nodes (all_pass _ h).1.0)

    sums_accepted : accepted (box_at triangles) (triangle_count triangles) order links boxes nodes ≡ true
    unfolding sums_refusal
    sums_accepted = tree_passed triangles order links boxes nodes (all_pass _ h).1.1.0

    -- and a tree whose nodes can be read
    pub sums_readable : Readable triangles order links nodes
    sums_readable = accepted_readable triangles order links boxes nodes sums_accepted

    -- each of which has its box
    pub sums_boxed : 6 * nodes ≤ length boxes
    sums_boxed = accepted_boxed triangles order links boxes nodes sums_accepted

    -- it keeps its contract by storing all sums and making the dipoles of them
    pub sums_written : (f : Format) (mid out : List Float) → mid ≡ overwrite 0 (stored_sums f triangles order links nodes) old
        → out ≡ overwrite 0 (made_dipoles f boxes mid nodes) mid → out ≡ after_sums f triangles order links boxes nodes old
    unfolding after_sums
    sums_written f mid out S M = rw h (made_of_stored f triangles order links boxes nodes old mid out S M)

    -- between its two loops the list is as long as it was
    pub sums_between : (f : Format) (mid : List Float) → mid ≡ overwrite 0 (stored_sums f triangles order links nodes) old → length mid ≡ length old
    unfolding stored_sums
    sums_between f mid S =
        ap length S
        ∙ length_overwrite 0 _ old (omega (arith, sums_room, length_concat_map (λ k. sixteen_of (sums_of f triangles order links k)) 16 nodes (λ k. refl)))
