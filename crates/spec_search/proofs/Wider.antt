-- What earlier readings are worth: a larger search distance changes no answer that was found, and triangles appended at the end leave an answer as it
-- was or put one of theirs in its place, strictly nearer or where nothing was found. By either rule, whichever accepted trees are used before and after.
use mathlib.Core.Path.{◌≡◌, refl, sym, ap, subst, ◌∙◌}
use mathlib.Core.Bool.{Bool, true, false, not, cond}
use mathlib.Core.Logic.{⊎_elim}
use mathlib.Core.List.{List, ◌++◌}
use Prim.Native.Nat.{ℕ, ◌+◌, ◌-◌, ◌*◌, ◌≤◌, ◌<◌}
use native.Mathlib.Omega.{arith}
use borrow.Author.Tests.{ltb-true, ltb-false}
use lib.Dec.{T, T_not, not_T, ltb}
use lib.ListN.{length}
use lib.Ieee.{Float, Format, lt, le, eq}
use lib.Ieee.Bits.{is_true}
use Rattle.spec_numbers.specs.Values.{zero}
use Rattle.spec_numbers.proofs.Tests.{either, passed, failed}
use Rattle.spec_numbers.proofs.Order.{transitive, lt→le, eq→le, lt→not_le, not_lt→le, lt_le_transitive}
use Rattle.spec_numbers.proofs.Square.{square_keeps_order, abs_grows_upward}
use Rattle.spec_shapes.specs.Points.{Point}
use Rattle.spec_lists.specs.Reading.{triangle_count}
use Rattle.spec_lists.proofs.Reading.{triangle_in_front, triangle_behind, count_appended}
use Rattle.spec_search.specs.Answers.{sure, Hit, Answer, nothing, found}
use Rattle.spec_search.specs.Rules.{Rule, strictly_below, below_or_equal, rule_of, Limit, limit_squared, limit_of, counts}
use Rattle.spec_search.specs.Sure.{hit, scan}
use Rattle.spec_search.specs.Nearest.{IsNearest, NoneCounts, Nearest}
use Rattle.spec_search.specs.Calls.{sure_answer, Askable}
use Rattle.spec_search.specs.Wider.{Passing, answer_of, NoNarrower, narrowed_to, numbered, numbered_from, nearer_of, StandsOrNearer, stands, replaced}
use Rattle.spec_search.proofs.Rules.{counts_number, counts_no_farther, counts_equal}
use Rattle.spec_search.proofs.Nearest.{scan_nearest, scan_only}
use Rattle.spec_search.proofs.Calls.{query_passed}

-- ---- a wider search
-- by either rule a larger distance counts what a smaller one counts
pub larger_counts : (f : Format) (rule : Rule) (distance larger : Float) → T (le zero distance) → T (le distance larger)
    → NoNarrower (limit_of f rule distance) (limit_of f rule larger)
unfolding counts limit_squared
larger_counts f rule distance larger low l d = by rule
  where
    grows : T (le (limit_squared f distance) (limit_squared f larger))
    grows = square_keeps_order f distance larger (abs_grows_upward distance larger low l)

    by : (r : Rule) → T (counts (limit_of f r distance) d) → T (counts (limit_of f r larger) d)
    by strictly_below c = lt_le_transitive d _ _ c grows
    by below_or_equal c = transitive d _ _ c grows

-- the second rule counts what the first counts
pub revised_counts : (f : Format) (distance : Float) → NoNarrower (limit_of f strictly_below distance) (limit_of f below_or_equal distance)
unfolding counts
revised_counts f distance d c = lt→le d _ c

module _ (hit : ℕ → Hit) (limit wider : Limit) (w : NoNarrower limit wider) (n : ℕ) where
  -- what is nearest by the wider limit, if it counts by the narrower, is nearest by that
  nearest_narrowed : (a : Answer) → Nearest hit wider n a → Nearest hit limit n (narrowed_to limit a)
  nearest_narrowed nothing none = λ t l. not_T (counts limit (hit t).squared) (λ c. T_not (counts wider (hit t).squared) (none t l) (w _ c))
  nearest_narrowed (found h) m = ⊎_elim stays goes (either (counts limit h.squared))
    where
      stays : counts limit h.squared ≡ true → Nearest hit limit n (narrowed_to limit (found h))
      stays c = rw c (record {
        one_of_them = m.one_of_them;
        measured_there = m.measured_there;
        counted = passed c;
        smallest = λ t l k. m.smallest t l (w _ k);
        lowest = m.lowest;
      })

      goes : counts limit h.squared ≡ false → Nearest hit limit n (narrowed_to limit (found h))
      goes c =
          rw c (λ t l. not_T (counts limit (hit t).squared)
          (λ k. T_not (counts limit h.squared) (failed c) (counts_no_farther limit h.squared (hit t).squared (m.smallest t l (w _ k)) k)))

-- what a limit leaves was found
found_narrowed : (limit : Limit) (a : Answer) (h : Hit) → narrowed_to limit a ≡ found h → a ≡ found h
found_narrowed limit nothing h e = e
found_narrowed limit (found k) h e = left (counts limit k.squared) e
  where
    left : (b : Bool) → cond b (found k) nothing ≡ found h → found k ≡ found h
    left true e = e
    left false e = cc

-- ---- triangles appended: n are measured as before, and m behind them as if they stood alone
module _ (hit others all : ℕ → Hit) (limit : Limit) (n m : ℕ) (front : (t : ℕ) → t < n → all t ≡ hit t)
    (back : (u : ℕ) → all (n + u) ≡ numbered n (others u)) where
  -- what holds in front and behind holds everywhere
  everywhere : (P : ℕ → Hit → Type 0) → ((t : ℕ) → t < n → P t (hit t)) → ((u : ℕ) → u < m → P (n + u) (numbered n (others u)))
      → (t : ℕ) → t < n + m → P t (all t)
  everywhere P before behind t l = ⊎_elim in_front after (either (ltb t n))
    where
      in_front : ltb t n ≡ true → P t (all t)
      in_front e = let b = ltb-true t n e in subst (P t) (sym (front t b)) (before t b)

      after : ltb t n ≡ false → P t (all t)
      after e =
          let far : n ≤ t = ltb-false t n e in
          let there : n + (t - n) ≡ t = omega arith in
          subst (λ (k : ℕ). P k (all k)) there (subst (P (n + (t - n))) (sym (back (t - n))) (behind (t - n) (omega arith)))

  none_of_all : NoneCounts hit limit n → NoneCounts others limit m → NoneCounts all limit (n + m)
  none_of_all = everywhere (λ t h. T (not (counts limit h.squared)))

  -- the nearest in front, if nothing behind is nearer
  front_nearest : (h : Hit) → IsNearest hit limit n h → ((u : ℕ) → u < m → T (counts limit (others u).squared) → T (le h.squared (others u).squared))
      → IsNearest all limit (n + m) h
  front_nearest h a no_nearer = record {
    one_of_them = omega (arith, a.one_of_them);
    measured_there = a.measured_there ∙ sym (front h.triangle a.one_of_them);
    counted = a.counted;
    smallest = everywhere (λ t k. T (counts limit k.squared) → T (le h.squared k.squared)) a.smallest no_nearer;
    lowest = everywhere (λ t k. T (eq k.squared h.squared) → h.triangle ≤ t) a.lowest (λ u l e. omega (arith, a.one_of_them));
  }

  -- the nearest behind, if it is strictly nearer than all in front
  back_nearest : (k : Hit) → IsNearest others limit m k → ((t : ℕ) → t < n → T (counts limit (hit t).squared) → T (lt k.squared (hit t).squared))
      → IsNearest all limit (n + m) (numbered n k)
  back_nearest k b nearer = record {
    one_of_them = omega (arith, b.one_of_them);
    measured_there = ap (numbered n) b.measured_there ∙ sym (back k.triangle);
    counted = b.counted;
    smallest = everywhere (λ t h. T (counts limit h.squared) → T (le k.squared h.squared)) (λ t l c. lt→le _ _ (nearer t l c)) b.smallest;
    lowest =
        everywhere (λ t h. T (eq h.squared k.squared) → n + k.triangle ≤ t)
        (λ t l e. absurd (lt→not_le _ _ (nearer t l (counts_equal limit _ _ e b.counted)) (eq→le _ _ e))) (λ u l e. omega (arith, b.lowest u l e));
  }

  -- the nearer of the nearest in front and of the nearest behind is the nearest of all
  nearest_of_all : (a b : Answer) → Nearest hit limit n a → Nearest others limit m b → Nearest all limit (n + m) (nearer_of a (numbered_from n b))
  nearest_of_all nothing nothing a b = none_of_all a b
  nearest_of_all nothing (found k) a b = back_nearest k b (λ t l c. absurd (T_not (counts limit (hit t).squared) (a t l) c))
  nearest_of_all (found h) nothing a b = front_nearest h a (λ u l c. absurd (T_not (counts limit (others u).squared) (b u l) c))
  nearest_of_all (found h) (found k) a b = ⊎_elim behind before (either (lt k.squared h.squared))
    where
      behind : lt k.squared h.squared ≡ true → Nearest all limit (n + m) (nearer_of (found h) (numbered_from n (found k)))
      behind e = rw e (back_nearest k b (λ t l c. lt_le_transitive _ _ _ (passed e) (a.smallest t l c)))

      before : lt k.squared h.squared ≡ false → Nearest all limit (n + m) (nearer_of (found h) (numbered_from n (found k)))
      before e =
          let level : T (le h.squared k.squared) =
          not_lt→le _ _ (counts_number limit _ (is_true _ b.counted)) (counts_number limit _ (is_true _ a.counted)) (failed e) in
          rw e (front_nearest h a (λ u l c. transitive _ _ _ level (b.smallest u l c)))

-- the nearer of two stands in front, or is one of those behind it
nearer_stands : (others : ℕ → Hit) (limit : Limit) (n m : ℕ) (a b : Answer) → Nearest others limit m b
    → StandsOrNearer n (n + m) a (nearer_of a (numbered_from n b))
nearer_stands others limit n m nothing nothing o = stands refl
nearer_stands others limit n m nothing (found k) o = replaced (numbered n k) refl (omega arith) (omega (arith, o.one_of_them)) tt
nearer_stands others limit n m (found h) nothing o = stands refl
nearer_stands others limit n m (found h) (found k) o =
    ⊎_elim
    (λ (e : lt k.squared h.squared ≡ true). replaced (numbered n k) (rw e refl) (omega arith) (omega (arith, o.one_of_them)) (passed e))
    (λ (e : lt k.squared h.squared ≡ false). stands (rw e refl)) (either (lt k.squared h.squared))

-- ---- of the scan
module _ (f : Format) (triangles : List Float) (p : Point) where
  -- what a narrower limit finds is what the wider one finds, if that counts
  pub scan_narrowed : (limit wider : Limit) → NoNarrower limit wider → scan f triangles p limit ≡ narrowed_to limit (scan f triangles p wider)
  scan_narrowed limit wider w =
      scan_only f triangles p limit (narrowed_to limit (scan f triangles p wider))
      (nearest_narrowed (hit f triangles p) limit wider w (triangle_count triangles) (scan f triangles p wider) (scan_nearest f triangles p wider))

  -- over triangles with others behind them the scan answers the nearer of what it answers over each
  pub scan_patched : (behind : List Float) (limit : Limit) → length triangles ≡ 9 * triangle_count triangles
      → scan f (triangles ++ behind) p limit ≡ nearer_of (scan f triangles p limit) (numbered_from (triangle_count triangles) (scan f behind p limit))
  unfolding hit
  scan_patched behind limit whole =
      let n = triangle_count triangles in
      let m = triangle_count behind in
      scan_only f (triangles ++ behind) p limit (nearer_of (scan f triangles p limit) (numbered_from n (scan f behind p limit)))
      (rw (count_appended triangles behind whole) (nearest_of_all (hit f triangles p) (hit f behind p) (hit f (triangles ++ behind) p) limit n m
      (λ t l. rw (triangle_in_front triangles behind t l)) (λ u. rw (triangle_behind triangles behind whole u))
      (scan f triangles p limit) (scan f behind p limit) (scan_nearest f triangles p limit) (scan_nearest f behind p limit)))

-- ---- of sure queries that pass, each with a tree of its own
module _ (f : Format) {rule : ℕ} {triangles : List Float} {distance : Float} (before : Passing rule triangles distance) (p : Point) where
  askable : Askable triangles before.order before.links before.boxes before.nodes before.points distance
  askable = (query_passed (sure rule) triangles _ _ _ _ _ distance _ before.passed).0

  module _ {larger : Float} (l : T (le distance larger)) (after : Passing rule triangles larger) where
    -- what a larger distance may change: the smaller one's answer is the larger one's, where that counts by the smaller, and else nothing
    pub narrower_search : answer_of f before p ≡ narrowed_to (limit_of f (rule_of rule) distance) (answer_of f after p)
    unfolding sure_answer
    narrower_search =
        scan_narrowed f triangles p (limit_of f (rule_of rule) distance) (limit_of f (rule_of rule) larger)
        (larger_counts f (rule_of rule) distance larger askable.distance_good.low l)

    -- so a larger distance never changes an answer already found
    pub wider_search_keeps : (h : Hit) → answer_of f before p ≡ found h → answer_of f after p ≡ found h
    wider_search_keeps h e = found_narrowed (limit_of f (rule_of rule) distance) (answer_of f after p) h (sym narrower_search ∙ e)

  module _ (behind : List Float) (after : Passing rule (triangles ++ behind) distance) where
    -- what appended triangles may change: the answer is the nearer of what it was and of what a query over them alone answers
    pub patched_search : (patch : Passing rule behind distance)
        → answer_of f after p ≡ nearer_of (answer_of f before p) (numbered_from (triangle_count triangles) (answer_of f patch p))
    unfolding sure_answer
    patched_search patch = scan_patched f triangles p behind (limit_of f (rule_of rule) distance) askable.searchable.triangles_good.whole

    -- so triangles appended at the end, while the list still passes, leave the answer as it was or replace it by an appended triangle at a strictly
    -- smaller squared distance, or, where nothing was found, by an appended triangle
    pub appended_stands_or_nearer : StandsOrNearer (triangle_count triangles) (triangle_count (triangles ++ behind)) (answer_of f before p)
        (answer_of f after p)
    unfolding sure_answer
    appended_stands_or_nearer =
        let limit = limit_of f (rule_of rule) distance in
        let whole = askable.searchable.triangles_good.whole in
        rw (count_appended triangles behind whole, scan_patched f triangles p behind limit whole)
        (nearer_stands (hit f behind p) limit (triangle_count triangles) (triangle_count behind) (scan f triangles p limit) (scan f behind p limit)
        (scan_nearest f behind p limit))

-- parts that are gauged anew by the second rule: it changes no answer that the first found
pub revised_rule_keeps : (f : Format) {triangles : List Float} {distance : Float} (before : Passing 1 triangles distance) (after : Passing 2 triangles distance)
    (p : Point) (h : Hit) → answer_of f before p ≡ found h → answer_of f after p ≡ found h
unfolding sure_answer rule_of
revised_rule_keeps f {triangles} {distance} before after p h e =
    found_narrowed (limit_of f strictly_below distance) (answer_of f after p) h
    (sym (scan_narrowed f triangles p (limit_of f strictly_below distance) (limit_of f below_or_equal distance) (revised_counts f distance)) ∙ e)

-- ---- what may be concluded once triangles were appended
module _ (n m : ℕ) where
  -- what was found is found still, and is no farther away
  pub found_still : (h : Hit) (after : Answer) → StandsOrNearer n m (found h) after
      → (k : Hit) × ((after ≡ found k) × T (not (lt h.squared k.squared)))
  found_still h after (stands e) = (h, (e, not_T (lt h.squared h.squared) (λ c. lt→not_le _ _ c (lt→le _ _ c))))
  found_still h after (replaced k e far near l) = (k, (e, not_T (lt h.squared k.squared) (λ c. lt→not_le _ _ c (lt→le _ _ l))))

  -- an answer that is none of the appended triangles is the answer without them
  pub old_stands : (before : Answer) (k : Hit) → k.triangle < n → StandsOrNearer n m before (found k) → before ≡ found k
  old_stands before k l (stands e) = sym e
  old_stands before k l (replaced h e far near s) = let same : k ≡ h = cc in absurd (omega (arith, l, rw (← same) at far))

  -- and what is only level with an answer has not replaced it
  pub level_stands : (h k : Hit) → T (eq h.squared k.squared) → StandsOrNearer n m (found h) (found k) → k ≡ h
  level_stands h k level (stands e) = cc
  level_stands h k level (replaced j e far near l) =
      let same : k ≡ j = cc in
      absurd (lt→not_le k.squared h.squared (rw (← same) at l) (eq→le h.squared k.squared level))
