-- A layout that is right has the bodies that its counts of triangles and nodes give: so what was read fixes the layout.
use mathlib.Core.Path.{◌≡◌, refl, sym, ap, ◌∙◌, subst}
use mathlib.Core.List.{List, [], ◌∷◌}
use mathlib.Core.Bool.{Bool, true, false, cond}
use Prim.Native.Nat.{ℕ, ◌+◌, ◌*◌, ◌/◌, ◌%◌, ◌<◌}
use native.Mathlib.Nat.{mul-div_cancel_left}
use native.Mathlib.Omega.{arith}
use borrow.Author.Tests.{eqb-true}
use lib.Dec.{eqb}
use lib.ListN.{length}
use Rattle.spec_tables.specs.Tables.{slice}
use Rattle.spec_records.specs.Records.{Span, Layout, wrong, bodies, Wants, done, one, exactly, whole, size_at, body_at, is_right, behind, laid_out}
use Rattle.spec_records.specs.Layouts.{Shape, version_for, triangle_size, node_size, settings_right, triangles_of, triangles_right, tree_wants, image_wants, image_spans}
use Rattle.spec_image.specs.Reading.{Rooms, by_room, judged}
use Rattle.spec_records.proofs.Records.{both, RightRecord, right_parts}
use Rattle.spec_records.proofs.Layouts.{version_triangle, body_long, whole_entries}

-- ---- one record
-- of a layout that is right, and whose bodies are bs: its first record is right, and the rest is laid out behind it
record Back (kind : ℕ) (test : List ℕ → Bool) (next : List ℕ → Wants) (s : List ℕ) (at : ℕ) (bs : List Span) : Type 0 where
  pub right : RightRecord kind test s at (size_at s at)
  pub rest : List Span
  pub are : bs ≡ record { start = at + 6; size = size_at s at } ∷ rest
  pub onward : laid_out (next (body_at s at)) s (at + 6 + size_at s at) ≡ bodies rest

never_right : (at : ℕ) (bs : List Span) → wrong at ≡ bodies bs → ⊥
never_right at bs e = let z : ◌≡◌ {A = ℕ} 0 1 = cc in omega arith

back : (kind : ℕ) (test : List ℕ → Bool) (next : List ℕ → Wants) (s : List ℕ) (at : ℕ) (bs : List Span)
    → laid_out (one kind test next) s at ≡ bodies bs → Back kind test next s at bs
unfolding laid_out
back kind test next s at bs e = go (is_right kind test s at) (laid_out (next (body_at s at)) s (at + 6 + size_at s at)) refl refl e
  where
    go : (b : Bool) (l : Layout) → is_right kind test s at ≡ b → laid_out (next (body_at s at)) s (at + 6 + size_at s at) ≡ l
        → cond b (behind (record { start = at + 6; size = size_at s at }) l) (wrong at) ≡ bodies bs → Back kind test next s at bs
    go false l p q f = absurd (never_right at bs f)
    go true (wrong place) p q f = absurd (never_right place bs f)
    go true (bodies rest) p q f = record { right = right_parts kind test s at p; rest = rest; are = cc; onward = q }

end_back : (s : List ℕ) (at : ℕ) (bs : List Span) → laid_out done s at ≡ bodies bs → bs ≡ []
unfolding laid_out
end_back s at bs e = go (eqb at (length s)) e
  where
    go : (b : Bool) → cond b (bodies []) (wrong at) ≡ bodies bs → bs ≡ []
    go true f = cc
    go false f = absurd (never_right at bs f)

-- ---- an image
abbrev span : ℕ → ℕ → Span
span start size = record { start = start; size = size }

-- the bodies behind the triangles
nodes_back : (sh : Shape) (s : List ℕ) (at : ℕ) (bs : List Span) → laid_out (one 4 (whole (node_size sh)) (λ _. done)) s at ≡ bodies bs
    → (n : ℕ) × (bs ≡ span (at + 6) (node_size sh * n) ∷ [])
nodes_back sh s at bs e =
    let a = back 4 (whole (node_size sh)) (λ _. done) s at bs e in
    let size = size_at s at in
    let none = end_back s (at + 6 + size) a.rest a.onward in
    let ragged : size % node_size sh ≡ 0 = ap (λ (k : ℕ). k % node_size sh) (sym (body_long a.right)) ∙ eqb-true _ 0 a.right.passes in
    let n = size / node_size sh in
    (n, a.are ∙ ap (λ (r : List Span). span (at + 6) size ∷ r) none ∙ ap (λ (k : ℕ). span (at + 6) k ∷ []) (sym (whole_entries (node_size sh) size ragged)))

tree_back : (sh : Shape) (t : ℕ) (s : List ℕ) (at : ℕ) (bs : List Span) → laid_out (tree_wants sh t) s at ≡ bodies bs
    → (n : ℕ) × (bs ≡ span (at + 6) (sh.entry * t) ∷ span (at + 6 + sh.entry * t + 6) (node_size sh * n) ∷ [])
tree_back sh t s at bs e =
    let a = back 3 (exactly (sh.entry * t)) (λ _. one 4 (whole (node_size sh)) (λ _. done)) s at bs e in
    let size : size_at s at ≡ sh.entry * t = sym (body_long a.right) ∙ eqb-true _ _ a.right.passes in
    let b = nodes_back sh s (at + 6 + sh.entry * t) a.rest (rw size at a.onward) in
    (b.0, a.are ∙ ap (λ (k : ℕ). span (at + 6) k ∷ a.rest) size ∙ ap (λ (r : List Span). span (at + 6) (sh.entry * t) ∷ r) b.1)

-- the counts of triangles and of nodes, and that the bodies are theirs
pub record Counted (bs : List Span) : Type 0 where
  pub triangles : ℕ
  pub nodes : ℕ
  pub are : bs ≡ image_spans (version_for triangles) triangles nodes

triangles_back : (version : ℕ) (s : List ℕ) (bs : List Span)
    → laid_out (one 2 (triangles_right version) (λ body. tree_wants (version_for (triangles_of body)) (triangles_of body))) s 14 ≡ bodies bs
    → Counted (span 6 8 ∷ bs)
unfolding image_spans
triangles_back version s bs e =
    let a = back 2 (triangles_right version) _ s 14 bs e in
    let size = size_at s 14 in
    let long = body_long a.right in
    let ragged : size % 36 ≡ 0 = ap (λ (k : ℕ). k % 36) (sym long) ∙ eqb-true _ 0 (both (whole 36 (slice s 20 size)) _ a.right.passes).0 in
    let t = size / 36 in
    let sh = version_for t in
    let count : triangles_of (slice s 20 size) ≡ t = ap (λ (k : ℕ). k / 36) long in
    let are : size ≡ triangle_size sh * t = sym (ap (λ (k : ℕ). k * t) (version_triangle t) ∙ whole_entries 36 size ragged) in
    let b = tree_back sh t s (20 + size) a.rest
    (subst (λ (k : ℕ). laid_out (tree_wants (version_for k) k) s (20 + size) ≡ bodies a.rest) count a.onward) in
    record {
      triangles = t;
      nodes = b.0;
      are =
          ap (λ (r : List Span). span 6 8 ∷ r) (a.are ∙ ap (λ (r : List Span). span 20 size ∷ r) b.1)
          ∙ ap (λ (k : ℕ). span 6 8 ∷ span 20 k ∷ span (20 + k + 6) (sh.entry * t) ∷ span (20 + k + 6 + sh.entry * t + 6) (node_size sh * b.0) ∷ []) are;
    }

-- a right layout has counts
pub counted : (s : List ℕ) (bs : List Span) → laid_out image_wants s 0 ≡ bodies bs → Counted bs
counted s bs e =
    let a = back 1 settings_right _ s 0 bs e in
    let eight : size_at s 0 ≡ 8 = sym (body_long a.right) ∙ eqb-true _ 8 (both (exactly 8 (body_at s 0)) _ a.right.passes).0 in
    subst Counted (sym (a.are ∙ ap (λ (k : ℕ). span 6 k ∷ a.rest) eight)) (triangles_back _ s a.rest (rw eight at a.onward))

-- with the layout right for t triangles and n nodes, the room for them decides what reading answers
pub judged_by_room : (s : List ℕ) (r : Rooms) (t n : ℕ) → judged s r (bodies (image_spans (version_for t) t n)) ≡ by_room s r t n
unfolding image_spans
judged_by_room s r t n =
    let size : triangle_size (version_for t) * t ≡ 36 * t = ap (λ (k : ℕ). k * t) (version_triangle t) in
    let triangles : triangle_size (version_for t) * t / 36 ≡ t = omega arith in
    let some : 0 < node_size (version_for t) = omega arith in
    rw (triangles, mul-div_cancel_left n {n = node_size (version_for t)} some)
