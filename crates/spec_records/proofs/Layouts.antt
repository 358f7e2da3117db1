-- Whether a record is right, by the size of its body and by the version, and where the bodies of right records stand; which version keeps
-- how many triangles, and that an image of version 1 is laid out as it was before there were two.
use mathlib.Core.Path.{◌≡◌, refl, sym, ap, ◌∙◌, subst}
use mathlib.Core.List.{List, [], ◌∷◌}
use mathlib.Core.Bool.{Bool, true, false, ◌&&◌, and_assoc}
use Prim.Native.Nat.{ℕ, ◌+◌, ◌*◌, ◌/◌, ◌%◌, ◌≤◌, ◌<◌}
use native.Mathlib.Omega.{arith}
use native.Mathlib.Nat.{div-add-mod}
use borrow.Author.Tests.{ltb-true, ltb-false, lt-ltb, le-ltb, eqb-true, ne_eqb}
use lib.ListN.{length}
use lib.Dec.{ltb, eqb}
use lib.Ieee.{binary32}
use Rattle.spec_tables.specs.Tables.{slice}
use Rattle.spec_tables.proofs.Pieces.{length_slice}
use Rattle.spec_records.specs.Little.{little_at}
use Rattle.spec_records.specs.Records.{Wants, wrong, done, one, exactly, whole, size_at, body_at, is_record, is_right, laid_out}
use Rattle.spec_records.specs.Layouts.{
  Shape,
  version1,
  version2,
  shape_by,
  max_small,
  version_for,
  triangle_size,
  node_size,
  is_known,
  settings_right,
  triangles_of,
  triangles_right,
  opening,
  image_wants,
  image_spans,
  gauge_spans,
}
use Rattle.spec_records.proofs.Little.{number_slice}
use Rattle.spec_records.proofs.Records.{
  both,
  RightRecord,
  right_within,
  right_parts,
  test_decides,
  record_within,
  Reached,
  reach_start,
  reach_on,
  reach_wrong,
}

-- ---- versions
-- 4,096 triangles or fewer are kept in version 1
pub version_small : (t : ℕ) → t ≤ 4096 → version_for t ≡ version1
unfolding version_for
version_small t h = ap shape_by (le-ltb 4096 t h)

-- more are kept in version 2
pub version_large : (t : ℕ) → 4096 < t → version_for t ≡ version2
unfolding version_for
version_large t h = ap shape_by (lt-ltb 4096 t h)

-- code picks the version by one test
pub version_by : (t : ℕ) → version_for t ≡ shape_by (ltb max_small t)
unfolding version_for
version_by t = refl

-- and what it picks is the version that keeps so many triangles
pub version_picked : (t : ℕ) {wide : Bool} → wide ≡ ltb max_small t → shape_by wide ≡ version_for t
version_picked t e = ap shape_by e ∙ sym (version_by t)

-- what holds of both versions holds of the one that keeps so many triangles
pub each_version : (P : Shape → Type 0) → P version1 → P version2 → (t : ℕ) → P (version_for t)
unfolding version_for
each_version P small large t = go (ltb max_small t)
  where
    go : (wide : Bool) → P (shape_by wide)
    go false = small
    go true = large

-- a triangle takes 36 bytes in both
pub version_triangle : (t : ℕ) → triangle_size (version_for t) ≡ 36
version_triangle = each_version (λ (sh : Shape). triangle_size sh ≡ 36) refl refl

-- and its numbers are f32
pub version_float : (t : ℕ) → (version_for t).float ≡ binary32
version_float = each_version (λ (sh : Shape). sh.float ≡ binary32) refl refl

-- the number of the version says whether there are 4,096 triangles or fewer
pub version_one : (t : ℕ) → (version_for t).version ≡ 1 → t ≤ 4096
unfolding version_for
version_one t e = go (ltb 4096 t) refl e
  where
    go : (wide : Bool) → ltb 4096 t ≡ wide → (shape_by wide).version ≡ 1 → t ≤ 4096
    go false f e = ltb-false 4096 t f
    go true f e = omega arith

-- or more
pub version_two : (t : ℕ) → (version_for t).version ≡ 2 → 4096 < t
unfolding version_for
version_two t e = go (ltb 4096 t) refl e
  where
    go : (wide : Bool) → ltb 4096 t ≡ wide → (shape_by wide).version ≡ 2 → 4096 < t
    go false f e = omega arith
    go true f e = ltb-true 4096 t f

-- ---- the size of a body
module _ (kind : ℕ) (s : List ℕ) (at size : ℕ) (there : is_record kind s at ≡ true) (sized : size_at s at ≡ size) where
  long : length (slice s (at + 6) size) ≡ size
  long = length_slice s (at + 6) size (omega (arith, record_within kind s at there))

  -- of a record that wants a size, the size in its header decides: the body is not read
  pub exactly_decides : (wanted : ℕ) → is_right kind (exactly wanted) s at ≡ eqb size wanted
  exactly_decides wanted = test_decides kind (exactly wanted) s at size (eqb size wanted) there sized (rw long)

  -- of a record that wants whole entries, the size in its header decides: the body is not read
  pub whole_decides : (entry : ℕ) → is_right kind (whole entry) s at ≡ eqb (size % entry) 0
  whole_decides entry = test_decides kind (whole entry) s at size (eqb (size % entry) 0) there sized (rw long)

-- ---- what it says that a record is right
-- the body of a right record has the size in its header
pub body_long : {kind at size : ℕ} {test : List ℕ → Bool} {s : List ℕ} → RightRecord kind test s at size → length (slice s (at + 6) size) ≡ size
body_long {kind} {at} {size} {test} {s} r = length_slice s (at + 6) size (right_within r)

-- a right record of whole entries has no bytes over, so its size gives their number
pub whole_size : (entry : ℕ) {kind at size : ℕ} {s : List ℕ} → RightRecord kind (whole entry) s at size → size % entry ≡ 0
whole_size entry r = ap (λ (n : ℕ). n % entry) (sym (body_long r)) ∙ eqb-true _ 0 r.passes

-- a right record that wants a size has it
pub exactly_right : (kind wanted : ℕ) (s : List ℕ) (at : ℕ) → is_right kind (exactly wanted) s at ≡ true → RightRecord kind (exactly wanted) s at wanted
exactly_right kind wanted s at e =
    let r = right_parts kind (exactly wanted) s at e in
    subst (RightRecord kind (exactly wanted) s at) (sym (body_long r) ∙ eqb-true _ wanted r.passes) r

-- ---- a record with two tests: settings of a size and a known version, triangles that are whole and as many as the version keeps
module _ (kind : ℕ) (first second : List ℕ → Bool) (s : List ℕ) (at : ℕ) where
  abbrev twice : List ℕ → Bool
  twice body = first body && second body

  right_both : is_right kind twice s at ≡ is_right kind first s at && second (body_at s at)
  unfolding is_right
  right_both = sym (and_assoc (is_record kind s at) (first (body_at s at)) (second (body_at s at)))

  -- where the first test fails the record is wrong
  pub first_fails : is_right kind first s at ≡ false → is_right kind twice s at ≡ false
  first_fails e = rw (right_both, e)

  -- where the first test passes the second decides
  pub second_decides : is_right kind first s at ≡ true → is_right kind twice s at ≡ second (body_at s at)
  second_decides e = rw (right_both, e)

  -- a right record passes the first test
  pub first_passed : {size : ℕ} → RightRecord kind twice s at size → RightRecord kind first s at size
  first_passed {size} r = record { there = r.there; sized = r.sized; passes = (both (first (slice s (at + 6) size)) _ r.passes).0 }

-- ---- settings
-- of eight bytes, whatever versions are known
module _ (known : ℕ → Bool) (s : List ℕ) where
  abbrev readable : List ℕ → Bool
  readable body = exactly 8 body && known (little_at 2 body 0)

  unreadable : is_right 1 (exactly 8) s 0 ≡ false → is_right 1 readable s 0 ≡ false
  unreadable e = first_fails 1 (exactly 8) (λ body. known (little_at 2 body 0)) s 0 e

  known_decides : is_right 1 (exactly 8) s 0 ≡ true → is_right 1 readable s 0 ≡ known (little_at 2 s 6)
  known_decides e =
      let two : 2 ≤ 8 = omega arith in
      let eight : size_at s 0 ≡ 8 = (exactly_right 1 8 s 0 e).sized in
      let same : little_at 2 (body_at s 0) 0 ≡ little_at 2 s 6 = rw eight (number_slice 2 s 6 8 two) in
      second_decides 1 (exactly 8) (λ body. known (little_at 2 body 0)) s 0 e ∙ ap known same

  of_eight : is_right 1 readable s 0 ≡ true → RightRecord 1 readable s 0 8
  of_eight e =
      let r = right_parts 1 readable s 0 e in
      let eight = first_passed 1 (exactly 8) (λ body. known (little_at 2 body 0)) s 0 r in
      subst (RightRecord 1 readable s 0) (sym (body_long eight) ∙ eqb-true _ 8 eight.passes) r

-- without a settings record of eight bytes the settings are wrong, whatever the version
pub settings_missing : (s : List ℕ) → is_right 1 (exactly 8) s 0 ≡ false → is_right 1 settings_right s 0 ≡ false
settings_missing s e = unreadable is_known s e

-- of a settings record of eight bytes the version decides
pub version_decides : (s : List ℕ) → is_right 1 (exactly 8) s 0 ≡ true → is_right 1 settings_right s 0 ≡ is_known (little_at 2 s 6)
version_decides s e = known_decides is_known s e

-- right settings have eight bytes, so the triangles start at a known place
pub settings_right_lem : (s : List ℕ) → is_right 1 settings_right s 0 ≡ true → RightRecord 1 settings_right s 0 8
settings_right_lem s e = of_eight is_known s e

-- ---- triangles
module _ (version : ℕ) (s : List ℕ) (at : ℕ) where
  abbrev suits : List ℕ → Bool
  suits body = eqb (version_for (triangles_of body)).version version

  -- without a record of whole triangles the triangles are wrong, whatever the version
  pub triangles_missing : is_right 2 (whole 36) s at ≡ false → is_right 2 (triangles_right version) s at ≡ false
  triangles_missing e = first_fails 2 (whole 36) suits s at e

  -- of a record of whole triangles the version that keeps so many decides
  pub count_decides : {size : ℕ} → RightRecord 2 (whole 36) s at size
      → is_right 2 (triangles_right version) s at ≡ eqb (version_for (size / 36)).version version
  count_decides {size} r =
      test_decides 2 (triangles_right version) s at size _ r.there r.sized
      (rw (r.passes, body_long r))

  -- right triangles are whole
  pub triangles_whole : {size : ℕ} → RightRecord 2 (triangles_right version) s at size → size % 36 ≡ 0
  triangles_whole r = whole_size 36 (first_passed 2 (whole 36) suits s at r)

  -- right triangles are as many as the version keeps
  pub triangles_suit : {size : ℕ} → RightRecord 2 (triangles_right version) s at size → (version_for (size / 36)).version ≡ version
  triangles_suit {size} r =
      ap (λ (n : ℕ). (version_for (n / 36)).version) (sym (body_long r))
      ∙ eqb-true _ version (both (whole 36 (slice s (at + 6) size)) (suits (slice s (at + 6) size)) r.passes).1

-- ---- settings and triangles at the front
-- behind right settings and triangles comes what is wanted there
pub opened : (next : List ℕ → Wants) {s : List ℕ} {size : ℕ} → RightRecord 1 settings_right s 0 8 → RightRecord 2 (triangles_right (little_at 2 s 6)) s 14 size
    → Reached (opening next) s (record { start = 6; size = 8 } ∷ record { start = 20; size = size } ∷ []) (next (slice s 20 size)) (20 + size)
opened next {s} {size} settings triangles =
    let two : 2 ≤ 8 = omega arith in
    let e : little_at 2 s 6 ≡ little_at 2 (slice s 6 8) 0 = sym (number_slice 2 s 6 8 two) in
    reach_on (reach_on (reach_start (opening next) s) settings) (subst (λ (v : ℕ). RightRecord 2 (triangles_right v) s 14 size) e triangles)

-- behind right settings triangles that are not right are the first wrong record
pub triangles_wrong : (next : List ℕ → Wants) {s : List ℕ} → RightRecord 1 settings_right s 0 8 → is_right 2 (triangles_right (little_at 2 s 6)) s 14 ≡ false
    → laid_out (opening next) s 0 ≡ wrong 14
triangles_wrong next {s} settings off =
    let two : 2 ≤ 8 = omega arith in
    reach_wrong (reach_on (reach_start (opening next) s) settings) (rw (number_slice 2 s 6 8 two) off)

-- behind right settings and triangles, an image must have an order entry for each triangle, and then whole nodes
pub tree_wanted : {s : List ℕ} {size : ℕ} → RightRecord 1 settings_right s 0 8 → RightRecord 2 (triangles_right (little_at 2 s 6)) s 14 size
    → Reached image_wants s (record { start = 6; size = 8 } ∷ record { start = 20; size = size } ∷ [])
    (one 3 (exactly ((version_for (size / 36)).entry * (size / 36))) (λ _. one 4 (whole (node_size (version_for (size / 36)))) (λ _. done))) (20 + size)
tree_wanted {s} {size} settings triangles =
    subst (λ (n : ℕ). Reached image_wants s (record { start = 6; size = 8 } ∷ record { start = 20; size = size } ∷ [])
    (one 3 (exactly ((version_for (n / 36)).entry * (n / 36))) (λ _. one 4 (whole (node_size (version_for (n / 36)))) (λ _. done))) (20 + size))
    (body_long triangles)
    (opened _ settings triangles)

-- ---- one drawing has one image
-- triangles that the version of the settings does not keep make record 2 the first wrong one
pub other_count : (next : List ℕ → Wants) (s : List ℕ) → is_right 1 settings_right s 0 ≡ true
    → ((version_for (size_at s 14 / 36)).version ≡ little_at 2 s 6 → ⊥)
    → laid_out (opening next) s 0 ≡ wrong 14
other_count next s settings other = triangles_wrong next (settings_right_lem s settings) (go (is_right 2 (whole 36) s 14) refl)
  where
    go : (right : Bool) → is_right 2 (whole 36) s 14 ≡ right → is_right 2 (triangles_right (little_at 2 s 6)) s 14 ≡ false
    go true e = count_decides (little_at 2 s 6) s 14 (right_parts 2 (whole 36) s 14 e) ∙ ne_eqb _ _ other
    go false e = triangles_missing (little_at 2 s 6) s 14 e

-- version 2 does not keep 4,096 triangles or fewer
pub few_in_version2 : (next : List ℕ → Wants) (s : List ℕ) → is_right 1 settings_right s 0 ≡ true → little_at 2 s 6 ≡ 2 → size_at s 14 / 36 ≤ 4096
    → laid_out (opening next) s 0 ≡ wrong 14
few_in_version2 next s settings two few =
    other_count next s settings (λ e. omega (arith, version_two (size_at s 14 / 36) (e ∙ two)))

-- version 1 does not keep more than 4,096
pub many_in_version1 : (next : List ℕ → Wants) (s : List ℕ) → is_right 1 settings_right s 0 ≡ true → little_at 2 s 6 ≡ 1 → 4096 < size_at s 14 / 36
    → laid_out (opening next) s 0 ≡ wrong 14
many_in_version1 next s settings first many =
    other_count next s settings (λ e. omega (arith, version_one (size_at s 14 / 36) (e ∙ first)))

-- ---- version 1 as it was before there was another
abbrev is_first : (version : ℕ) → Bool
is_first version = eqb version 1

-- what was wanted of an image then
abbrev pub wants_before : Wants
wants_before =
    one 1 (λ body. exactly 8 body && is_first (little_at 2 body 0))
    (λ _. one 2 (whole 36) (λ triangles. one 3 (exactly (2 * (length triangles / 36))) (λ _. one 4 (whole 30) (λ _. done))))

module _ (s : List ℕ) (first : little_at 2 s 6 ≡ 1) (few : size_at s 14 / 36 ≤ 4096) where
  abbrev Same : Type 0
  Same = laid_out image_wants s 0 ≡ laid_out wants_before s 0

  module _ (settings : RightRecord 1 settings_right s 0 8) (before : RightRecord 1 (readable is_first s) s 0 8) where
    by_triangles : (right : Bool) → is_right 2 (whole 36) s 14 ≡ right → Same
    by_triangles false e =
        triangles_wrong _ settings (triangles_missing (little_at 2 s 6) s 14 e)
        ∙ sym (reach_wrong (reach_on (reach_start wants_before s) before) e)
    by_triangles true e =
        let r = right_parts 2 (whole 36) s 14 e in
        let small = version_small (size_at s 14 / 36) few in
        let same : eqb (version_for (size_at s 14 / 36)).version (little_at 2 s 6) ≡ true = rw (small, first) in
        let suited = right_parts 2 (triangles_right (little_at 2 s 6)) s 14 (count_decides (little_at 2 s 6) s 14 r ∙ same) in
        let earlier = reach_on (reach_on (reach_start wants_before s) before) r in
        rw small at (tree_wanted settings suited).so ∙ sym (rw (body_long r) at earlier.so)

  by_settings : (right : Bool) → is_right 1 (exactly 8) s 0 ≡ right → Same
  by_settings false e =
      reach_wrong (reach_start image_wants s) (settings_missing s e) ∙ sym (reach_wrong (reach_start wants_before s) (unreadable is_first s e))
  by_settings true e =
      by_triangles (settings_right_lem s (version_decides s e ∙ ap is_known first)) (of_eight is_first s (known_decides is_first s e ∙ ap is_first first))
      (is_right 2 (whole 36) s 14) refl

  -- an image of version 1 of 4,096 triangles or fewer is laid out as it was then
  pub version1_as_before : laid_out image_wants s 0 ≡ laid_out wants_before s 0
  version1_as_before = by_settings (is_right 1 (exactly 8) s 0) refl

-- ---- the bodies by the counts
-- whole entries are so many times their size
pub whole_entries : (entry size : ℕ) → size % entry ≡ 0 → entry * (size / entry) ≡ size
whole_entries entry size e = omega (arith, div-add-mod size entry)

-- the bodies of an image, by the sizes in its headers, are where its triangle and node counts put them
pub image_spans_lem : (sh : Shape) (triangles nodes : ℕ) → triangle_size sh ≡ 36 → triangles % 36 ≡ 0 → nodes % node_size sh ≡ 0
    → image_spans sh (triangles / 36) (nodes / node_size sh)
    ≡ record { start = 6; size = 8 } ∷ record { start = 20; size = triangles } ∷ record { start = 20 + triangles + 6; size = sh.entry * (triangles / 36) }
    ∷ record { start = 20 + triangles + 6 + sh.entry * (triangles / 36) + 6; size = nodes } ∷ []
unfolding image_spans
image_spans_lem sh triangles nodes size a b =
    rw (size, whole_entries 36 triangles a, whole_entries (node_size sh) nodes b)

module _ (triangles points : ℕ) (a : triangles % 36 ≡ 0) (b : points % 12 ≡ 0) where
  -- the bodies of gauge's input, by the sizes in its headers, are where its triangle and point counts put them
  pub gauge_spans_lem : gauge_spans (triangles / 36) (points / 12) false
      ≡ record { start = 6; size = 8 } ∷ record { start = 20; size = triangles } ∷ record { start = 20 + triangles + 6; size = points }
      ∷ record { start = 20 + triangles + 6 + points + 6; size = 4 } ∷ []
  unfolding gauge_spans
  gauge_spans_lem = rw (whole_entries 36 triangles a, whole_entries 12 points b)

  -- and where there is a rule, its body stands behind them
  pub ruled_spans : gauge_spans (triangles / 36) (points / 12) true
      ≡ record { start = 6; size = 8 } ∷ record { start = 20; size = triangles } ∷ record { start = 20 + triangles + 6; size = points }
      ∷ record { start = 20 + triangles + 6 + points + 6; size = 4 } ∷ record { start = 20 + triangles + 6 + points + 6 + 4 + 6; size = 2 } ∷ []
  unfolding gauge_spans
  ruled_spans = rw (whole_entries 36 triangles a, whole_entries 12 points b)
