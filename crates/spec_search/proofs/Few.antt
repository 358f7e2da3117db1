-- The nearest few, by either rule: the walk of an accepted tree keeps what the scan of all triangles keeps, which is the front of the ranking of all that
-- counts; and the first of them is what the scan for one answers. At most = 1 this is demand 3 of the scope.
use mathlib.Core.Path.{◌≡◌, refl, sym, ap, ◌∙◌}
use mathlib.Core.Bool.{Bool, true, false, cond, ◌&&◌}
use mathlib.Core.Logic.{⊎_elim}
use mathlib.Core.List.{List, [], ◌∷◌}
use Prim.Native.Nat.{ℕ, zero, suc, ◌≤◌, ◌<◌}
use native.Mathlib.Nat.{le_of_suc-le-suc}
use native.Mathlib.Omega.{arith}
use lib.ListN.{take}
use lib.Ieee.{Float, Format, lt}
use lib.Ieee.Bits.{is_false}
use Rattle.spec_numbers.specs.Values.{Number}
use Rattle.spec_numbers.specs.Axes.{Finite}
use Rattle.spec_numbers.proofs.Tests.{either}
use Rattle.spec_numbers.proofs.Order.{le→not_lt}
use Rattle.spec_shapes.specs.Points.{Point, at, squared_distance}
use Rattle.spec_shapes.specs.Boxes.{Box, held_squared, Contains, Proper}
use Rattle.spec_shapes.specs.Triangles.{held_point}
use Rattle.spec_shapes.proofs.Held.{held_squared_number, box_is_nearer}
use Rattle.spec_lists.specs.Reading.{triangle_at, box_at, triangle_count}
use Rattle.spec_lists.specs.Passed.{GoodTriangles}
use Rattle.spec_lists.proofs.Reading.{triangle_inside, corners_finite}
use Rattle.spec_tree.specs.Order.{range}
use Rattle.spec_tree.specs.Accepted.{accepted}
use Rattle.spec_search.specs.Answers.{Hit, squared_of, number_of, Answer, found}
use Rattle.spec_search.specs.Rules.{Limit, counts}
use Rattle.spec_search.specs.Ranked.{inserted, offered_to, IsRanking}
use Rattle.spec_search.specs.Walk.{fold}
use Rattle.spec_search.specs.Sure.{better, offered, hit, took_sure, scan}
use Rattle.spec_search.specs.Few.{offered_few, is_skipped, took_few, scan_few, answer_in, node_squared, skipped_few, right_nearer, few_walk}
use Rattle.spec_search.proofs.Rules.{counts_number, counts_nearer}
use Rattle.spec_search.proofs.Ranked.{FewGood, few_stays, few_swaps, few_skips, goes_before, goes_behind, ranked_in, ranked, kept_is_front}
use Rattle.spec_search.proofs.Searches.{search_is_scan}

-- no triangle under a box is nearer than the box
no_nearer : (f : Format) (triangles : List Float) → GoodTriangles triangles → (p : Point) → Finite (at p) → (b : Box) → Proper b → (t : ℕ)
    → t < triangle_count triangles → Contains b (box_at triangles t) → lt (hit f triangles p t).squared (held_squared f b p) ≡ false
unfolding hit box_at
no_nearer f triangles good p P b B t l c =
    is_false (lt (squared_distance f (held_point f (triangle_at triangles t) p) p) (held_squared f b p))
    (le→not_lt (held_squared f b p) (squared_distance f (held_point f (triangle_at triangles t) p) p)
    (box_is_nearer f (triangle_at triangles t) (corners_finite triangles good.coordinates t (triangle_inside triangles t l)) p P b B c))

module _ (f : Format) (triangles : List Float) (p : Point) (most : ℕ) (limit : Limit) where
  abbrev Kept : List Hit → Type 0
  Kept = FewGood squared_of number_of most

  abbrev counts_at : ℕ → Bool
  counts_at t = counts limit (hit f triangles p t).squared

  bears : (t : ℕ) → number_of (hit f triangles p t) ≡ t
  unfolding hit
  bears t = refl

  numeric : (t : ℕ) → counts_at t ≡ true → Number (squared_of (hit f triangles p t))
  numeric t c = counts_number limit _ c

  stays : (t : ℕ) (ks : List Hit) → Kept ks → Kept (took_few f triangles p most limit t ks)
  unfolding took_few offered_few
  stays = few_stays squared_of number_of most (hit f triangles p) bears counts_at numeric

  swaps : (t u : ℕ) (ks : List Hit) → Kept ks
      → took_few f triangles p most limit t (took_few f triangles p most limit u ks)
      ≡ took_few f triangles p most limit u (took_few f triangles p most limit t ks)
  unfolding took_few offered_few
  swaps = few_swaps squared_of number_of most (hit f triangles p) bears counts_at numeric

  module _ (good : GoodTriangles triangles) (P : Finite (at p)) where
    box_skips : (b : Box) → Proper b → (t : ℕ) → t < triangle_count triangles → Contains b (box_at triangles t) → (ks : List Hit) → Kept ks
        → is_skipped most limit (held_squared f b p) ks ≡ true → took_few f triangles p most limit t ks ≡ ks
    unfolding took_few offered_few is_skipped
    box_skips b B t l c ks g h =
        let far = no_nearer f triangles good p P b B t l c in
        few_skips squared_of number_of most (hit f triangles p) bears counts_at numeric (held_squared f b p) t ks g
        (λ k. (far, simp (counts_nearer limit (hit f triangles p t).squared (held_squared f b p) (held_squared_number b B p P f) far k) at h))

    -- what the sure queries promise: the walk of an accepted tree keeps what the scan of all triangles keeps
    pub walk_is_scan : (order links : List ℕ) (boxes : List Float) (nodes : ℕ)
        → accepted (box_at triangles) (triangle_count triangles) order links boxes nodes ≡ true
        → (few_walk f triangles order links boxes nodes p most limit).best ≡ scan_few f triangles p most limit
    unfolding few_walk scan_few skipped_few node_squared
    walk_is_scan order links boxes nodes passes =
        search_is_scan triangles good (took_few f triangles p most limit) Kept stays swaps (λ b ks. is_skipped most limit (held_squared f b p) ks) box_skips
        (right_nearer f boxes p) order links boxes nodes (record { best = []; measured = 0 }) (tt, omega arith) passes

  -- ---- what the scan keeps
  -- all that counts, ranked
  abbrev ranking : List Hit
  ranking = fold (ranked_in squared_of number_of most (hit f triangles p) bears counts_at numeric) (range (triangle_count triangles)) []

  -- the front of the ranking of all that counts: so the smallest, rising, the lower number first among equals, and fewer exactly when fewer count
  pub scan_is_front : (hs : List Hit) × (IsRanking squared_of number_of (hit f triangles p) counts_at (triangle_count triangles) hs
      × (scan_few f triangles p most limit ≡ take most hs))
  unfolding scan_few took_few offered_few
  scan_is_front = (
    ranking,
    (
      (ranked squared_of number_of most (hit f triangles p) bears counts_at numeric (triangle_count triangles)).is,
      kept_is_front squared_of number_of most (hit f triangles p) bears counts_at numeric (triangle_count triangles),
    ),
  )

-- ---- the first of them is the sure query's answer
abbrev first_of : List Hit → Answer
first_of ks = answer_in ks 0

module _ (limit : Limit) (at : ℕ → Hit) where
  first_offered : (more : ℕ) (h : Hit) (ks : List Hit) → first_of (offered_few (suc more) limit h ks) ≡ offered limit h (first_of ks)
  unfolding offered_few offered_to offered inserted answer_in
  first_offered more h ks = go ks (counts limit h.squared)
    where
      go : (ks : List Hit) (c : Bool) → first_of (cond c (take (suc more) (inserted squared_of number_of h ks)) ks)
          ≡ cond (c && better h (first_of ks)) (found h) (first_of ks)
      go ks false = refl
      go [] true = refl
      go (k ∷ ks) true =
          ⊎_elim
          (λ (e : better h (found k) ≡ true). ap (λ (l : List Hit). first_of (take (suc more) l)) (goes_before squared_of number_of h k ks e)
          ∙ sym (ap (λ (b : Bool). cond b (found h) (found k)) e))
          (λ (e : better h (found k) ≡ false). ap (λ (l : List Hit). first_of (take (suc more) l)) (goes_behind squared_of number_of h k ks e)
          ∙ sym (ap (λ (b : Bool). cond b (found h) (found k)) e))
          (either (better h (found k)))

  first_kept : (more : ℕ) (ts : List ℕ) (ks : List Hit)
      → first_of (fold (λ t l. offered_few (suc more) limit (at t) l) ts ks) ≡ fold (λ t a. offered limit (at t) a) ts (first_of ks)
  unfolding fold
  first_kept more [] ks = refl
  first_kept more (t ∷ ts) ks = first_kept more ts (offered_few (suc more) limit (at t) ks)
      ∙ ap (fold (λ u a. offered limit (at u) a) ts) (first_offered more (at t) ks)

-- the first of the few is what the scan for one answers
pub first_is_sure : (f : Format) (triangles : List Float) (p : Point) (more : ℕ) (limit : Limit)
    → answer_in (scan_few f triangles p (suc more) limit) 0 ≡ scan f triangles p limit
unfolding scan_few scan took_few took_sure answer_in
first_is_sure f triangles p more limit = first_kept limit (hit f triangles p) more _ []

-- asking for more changes none of the answers before: the list for fewer is the front of the list for more
pub fewer_is_front : (f : Format) (triangles : List Float) (p : Point) (few more : ℕ) (limit : Limit) → few ≤ more
    → scan_few f triangles p few limit ≡ take few (scan_few f triangles p more limit)
unfolding scan_is_front
fewer_is_front f triangles p few more limit l =
    (scan_is_front f triangles p few limit).1.1
    ∙ sym (ap (take few) (scan_is_front f triangles p more limit).1.1 ∙ take_fewer few more (scan_is_front f triangles p more limit).0 l)
  where
    take_fewer : (m k : ℕ) (ks : List Hit) → m ≤ k → take m (take k ks) ≡ take m ks
    take_fewer zero k ks h = refl
    take_fewer (suc m) zero ks h = absurd (omega (arith, h))
    take_fewer (suc m) (suc k) [] h = refl
    take_fewer (suc m) (suc k) (h ∷ ks) e = ap (λ (t : List Hit). h ∷ t) (take_fewer m k ks (le_of_suc-le-suc e))

-- demand 3 of the scope, the case of one: the walk of an accepted tree answers what the scan of all triangles answers
pub sure_walk_is_scan : (f : Format) (triangles : List Float) → GoodTriangles triangles → (p : Point) → Finite (at p) → (limit : Limit) (order links : List ℕ)
    (boxes : List Float) (nodes : ℕ) → accepted (box_at triangles) (triangle_count triangles) order links boxes nodes ≡ true
    → answer_in (few_walk f triangles order links boxes nodes p 1 limit).best 0 ≡ scan f triangles p limit
sure_walk_is_scan f triangles good p P limit order links boxes nodes passes =
    ap (λ (ks : List Hit). answer_in ks 0) (walk_is_scan f triangles p 1 limit good P order links boxes nodes passes) ∙ first_is_sure f triangles p 0 limit
