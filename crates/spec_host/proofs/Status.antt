-- The status of a call is decoded without loss, number, place and count; and which verdicts can be encoded in it.
use mathlib.Core.Path.{◌≡◌, refl, sym, ap, ◌∙◌}
use mathlib.Core.Bool.{Bool, true, false, cond, not, ◌&&◌, ◌||◌}
use mathlib.Core.List.{List, [], ◌∷◌}
use Prim.Native.Nat.{ℕ, ◌+◌, ◌*◌, ◌-◌, ◌/◌, ◌%◌, ◌^◌, ◌≤◌, ◌<◌}
use native.Mathlib.Omega.{arith}
use native.Mathlib.Nat.{mod-eq_of_lt, div-eq_of_lt, mul-add-div_right, mul-add-mod_self_right}
use lib.Dec.{eqb, leb, ltb}
use lib.Ieee.{Float}
use lib.ListN.{length}
use borrow.Author.Tests.{eqb-true, ltb-true, ltb-false, lt-ltb, le-leb, lt-leb}
use Rattle.spec_lists.specs.Limits.{max_triangles}
use Rattle.spec_lists.specs.Reading.{triangle_count}
use Rattle.spec_lists.specs.Refusals.{Verdict, passes, refused, first_refusal, refused_if, ragged_refusal, none_refusal, too_many_refusal, coordinate_refusal, triangles_refusal, Settings, settings_refusal, room_refusal, distance_refusal, scale_refusal, first_bad, are_settings, is_distance, is_scale}
use Rattle.spec_lists.proofs.Verdicts.{test_has, row_ends, row_has, not_refused}
use Rattle.spec_lists.proofs.Passed.{triangles_passed}
use Rattle.spec_tree.specs.Refusals.{tree_refusal}
use Rattle.spec_tree.proofs.Places.{InTree}
use Rattle.spec_tree.proofs.Unchanged.{tree_placed}
use Rattle.spec_search.specs.Answers as Answers
use Rattle.spec_search.specs.Answers.{Query, sure, source}
use Rattle.spec_search.specs.Rules.{rule_refusal}
use Rattle.spec_search.specs.Calls.{most_few, most_refusal, choice_refusal}
use Rattle.spec_host.specs.Status.{status, refusal_status, saturated, status_number, status_place, status_count, Placed, InPlace, Encodable, Decoded}

-- ---- decoding
decoded_8 : (place : ℕ) → place < 2 ^ 63 → (status_number (2 ^ 63 + place) ≡ 8) × (status_place (2 ^ 63 + place) ≡ place)
unfolding status_number status_place
decoded_8 place h =
    let top = le-leb (2 ^ 63) (2 ^ 63 + place) (omega arith) in
    (rw top, rw top (omega arith))

decoded_other : (number place : ℕ) → number ≤ 127 → place < 2 ^ 56
    → (status_number (number * 2 ^ 56 + place) ≡ number) × (status_place (number * 2 ^ 56 + place) ≡ place)
unfolding status_number status_place
decoded_other number place m h =
    let low = lt-leb (2 ^ 63) (number * 2 ^ 56 + place) (omega arith) in
    let some : 0 < 2 ^ 56 = omega arith in
    let p : (number * 2 ^ 56 + place) / 2 ^ 56 ≡ number = mul-add-div_right some number place ∙ ap (λ (n : ℕ). number + n) (div-eq_of_lt h) ∙ omega arith in
    let q : (number * 2 ^ 56 + place) % 2 ^ 56 ≡ place = mul-add-mod_self_right number (2 ^ 56) place ∙ mod-eq_of_lt h in
    (rw low p, rw low q)

refusal_decoded : (number place : ℕ) → Placed number place
    → (status_number (refusal_status number place) ≡ number) × (status_place (refusal_status number place) ≡ place)
unfolding refusal_status
refusal_decoded number place ok = go (eqb number 8) refl
  where
    go : (b : Bool) → eqb number 8 ≡ b → (status_number (refusal_status number place) ≡ number) × (status_place (refusal_status number place) ≡ place)
    go true e =
        let near : place < 2 ^ 63 = rw e at ok.near in
        let eight : number ≡ 8 = eqb-true number 8 e in
        let h = decoded_8 place near in
        (rw e (h.0 ∙ sym eight), rw e h.1)
    go false e =
        let near : place < 2 ^ 56 = rw e at ok.near in
        rw e (decoded_other number place ok.most near)

-- the status loses nothing: number, place and count are decoded as they were encoded
pub status_decoded : (v : Verdict) (count : ℕ) → Encodable v count → Decoded v count (status v count)
unfolding status_number status_count
status_decoded passes count ok =
    let low = lt-leb (2 ^ 63) count (omega (arith, ok.counted)) in
    (rw (low, div-eq_of_lt ok.counted), mod-eq_of_lt ok.counted)
status_decoded (refused number place) count ok = refusal_decoded number place ok.verdict

-- a refusal is decoded without loss whatever the count, which matters only where all passed
pub decoded : (v : Verdict) (count : ℕ) → InPlace v → (v ≡ passes → count < 2 ^ 56) → Decoded v count (status v count)
decoded passes count place few = status_decoded passes count (record { verdict = tt; counted = few refl })
decoded (refused number place) count ok few = refusal_decoded number place ok

-- a status below 2^56 says that the call is done: all that a host compares
pub done_below : (v : Verdict) (count : ℕ) → InPlace v → status v count < 2 ^ 56 → v ≡ passes
unfolding refusal_status
done_below passes count ok low = refl
done_below (refused number place) count ok low = absurd (go (eqb number 8) refl)
  where
    go : (b : Bool) → eqb number 8 ≡ b → ⊥
    go true e = let h : 2 ^ 63 + place < 2 ^ 56 = rw e at low in omega arith
    go false e = let h : number * 2 ^ 56 + place < 2 ^ 56 = rw e at low in omega (arith, ok.some)

-- ---- verdicts that can be encoded
-- a test can be encoded where its place is in range whenever it refuses
pub placed : (b : Bool) (number place : ℕ) → (b ≡ true → Placed number place) → InPlace (refused_if b number place)
placed = test_has InPlace tt

-- a row of no tests passes, which can be encoded
pub no_test : InPlace (first_refusal [])
no_test = row_ends InPlace tt

-- a row of tests can be encoded where its first can, and the rest can once that passed
pub then_test : (test : Verdict) (tests : List Verdict) → InPlace test → (test ≡ passes → InPlace (first_refusal tests))
    → InPlace (first_refusal (test ∷ tests))
then_test = row_has InPlace tt

-- ---- verdicts whose place 56 bits hold, whatever the number
pub record ToldAt (number place : ℕ) : Type 0 where
  pub some : 1 ≤ number
  pub most : number ≤ 127
  pub low : place < 2 ^ 56

-- what a verdict needs so that nothing of it is cut
abbrev pub Told : Verdict → Type 0
Told passes = Unit {0}
Told (refused number place) = ToldAt number place

-- such a test, from what is known where it refuses
pub told_if : (b : Bool) (number place : ℕ) → 1 ≤ number → number ≤ 127 → (b ≡ true → place < 2 ^ 56) → Told (refused_if b number place)
told_if b number place s m h = test_has Told tt b number place (λ e. record { some = s; most = m; low = h e })

-- a row of no tests
pub no_told : Told (first_refusal [])
no_told = row_ends Told tt

-- a row of tests
pub then_told : (test : Verdict) (tests : List Verdict) → Told test → (test ≡ passes → Told (first_refusal tests)) → Told (first_refusal (test ∷ tests))
then_told = row_has Told tt

-- such a verdict can be encoded
pub told_encodable : (v : Verdict) → Told v → InPlace v
told_encodable passes h = tt
told_encodable (refused number place) h = record { some = h.some; most = h.most; near = go (eqb number 8) }
  where
    go : (b : Bool) → place < cond b (2 ^ 63) (2 ^ 56)
    go true = omega (arith, h.low)
    go false = h.low

-- and nothing of it is cut
pub told_whole : (v : Verdict) → Told v → saturated v ≡ v
told_whole passes h = refl
told_whole (refused number place) h = rw (lt-ltb place (2 ^ 56) h.low)

-- what is cut can be encoded, so only the number matters
pub cut_told : (number place : ℕ) → 1 ≤ number → number ≤ 127 → Told (saturated (refused number place))
cut_told number place s m = record { some = s; most = m; low = go (ltb place (2 ^ 56)) refl }
  where
    go : (b : Bool) → ltb place (2 ^ 56) ≡ b → cond b place (2 ^ 56 - 1) < 2 ^ 56
    go true e = ltb-true place (2 ^ 56) e
    go false e = omega arith

-- ---- the tests of the lists
-- a refusal at place 0 can be encoded
pub at_zero : (b : Bool) (number : ℕ) → 1 ≤ number → number ≤ 127 → InPlace (refused_if b number 0)
at_zero b number s m = told_encodable (refused_if b number 0) (told_if b number 0 s m (λ _. omega arith))

-- the places of a triangle list's tests are low: a bad coordinate is looked for only in a list that is short enough
pub triangles_told : (xs : List Float) → Told (triangles_refusal xs)
unfolding triangles_refusal ragged_refusal none_refusal too_many_refusal coordinate_refusal triangle_count
triangles_told xs =
    then_told (ragged_refusal xs) _ (told_if (not (eqb (length xs % 9) 0)) 1 0 (omega arith) (omega arith) (λ _. omega arith))
    (λ _. then_told (none_refusal xs) _ (told_if (eqb (triangle_count xs) 0) 2 0 (omega arith) (omega arith) (λ _. omega arith))
    (λ _. then_told (too_many_refusal xs) _ (told_if (ltb max_triangles (triangle_count xs)) 3 0 (omega arith) (omega arith) (λ _. omega arith))
    (λ few. then_told (coordinate_refusal 4 xs) []
    (told_if (ltb (first_bad xs) (length xs)) 4 (first_bad xs) (omega arith) (omega arith) (bad few)) (λ _. no_told))))
  where
    bad : too_many_refusal xs ≡ passes → ltb (first_bad xs) (length xs) ≡ true → first_bad xs < 2 ^ 56
    bad few e = omega (
      arith,
      ltb-true (first_bad xs) (length xs) e,
      ltb-false max_triangles (length xs / 9) (not_refused (ltb max_triangles (triangle_count xs)) 3 0 few),
    )

-- so they can be encoded
pub triangles_encodable : (xs : List Float) → InPlace (triangles_refusal xs)
triangles_encodable xs = told_encodable (triangles_refusal xs) (triangles_told xs)

-- the test of the settings can be encoded
pub settings_encodable : (s : Settings) → InPlace (settings_refusal s)
unfolding settings_refusal
settings_encodable s = at_zero (not (are_settings s)) 5 (omega arith) (omega arith)

rule_encodable : (rule : ℕ) → InPlace (rule_refusal rule)
unfolding rule_refusal
rule_encodable rule = at_zero (not (eqb rule 1 || eqb rule 2)) 5 (omega arith) (omega arith)

most_encodable : (most : ℕ) → InPlace (most_refusal most)
unfolding most_refusal
most_encodable most = at_zero (not (leb 1 most && leb most most_few)) 5 (omega arith) (omega arith)

-- the test of what a query chooses, its rule and how many answers it asks for, can be encoded
pub choice_encodable : (query : Query) → InPlace (choice_refusal query)
choice_encodable (sure rule) = rule_encodable rule
choice_encodable (Answers.few rule most) = then_test _ _ (rule_encodable rule) (λ _. then_test _ _ (most_encodable most) (λ _. no_test))
choice_encodable source = tt

-- the place of the room's test is low
pub room_told : (given need : ℕ) → Told (room_refusal given need)
unfolding room_refusal
room_told given need = told_if (ltb given need) 6 0 (omega arith) (omega arith) (λ _. omega arith)

-- so it can be encoded
pub room_encodable : (given need : ℕ) → InPlace (room_refusal given need)
room_encodable given need = told_encodable (room_refusal given need) (room_told given need)

-- the test of the distance can be encoded
pub distance_encodable : (d : Float) → InPlace (distance_refusal d)
unfolding distance_refusal
distance_encodable d = at_zero (not (is_distance d)) 9 (omega arith) (omega arith)

-- the test of the accuracy scale can be encoded
pub scale_encodable : (s : Float) → InPlace (scale_refusal s)
unfolding scale_refusal
scale_encodable s = at_zero (not (is_scale s)) 14 (omega arith) (omega arith)

-- The test of the tree can be encoded, once the triangles passed: a place in the order list or among the nodes is at most 2n.
pub tree_encodable : (triangles : List Float) (order links : List ℕ) (boxes : List Float) (nodes : ℕ) → triangles_refusal triangles ≡ passes
    → InPlace (tree_refusal triangles order links boxes nodes)
tree_encodable triangles order links boxes nodes good =
    let v : Verdict = tree_refusal triangles order links boxes nodes in
    told_encodable v (go v (tree_placed triangles order links boxes nodes))
  where
    go : (v : Verdict) → InTree (triangle_count triangles) v → Told v
    go passes p = tt
    go (refused number place) p =
        record { some = omega (arith, p.some); most = omega (arith, p.most); low = omega (arith, p.near, (triangles_passed triangles good).few) }
