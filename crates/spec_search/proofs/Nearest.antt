-- What a scan's answer is: it counts, nothing that counts is smaller, and nothing equal has a lower number; or nothing, where no triangle counts.
-- No other answer is that.
use mathlib.Core.Path.{◌≡◌, refl, sym, ap, subst, ◌∙◌}
use mathlib.Core.Bool.{Bool, true, false, not, ◌&&◌, ◌||◌}
use mathlib.Core.Logic.{◌⊎◌, ⊎_elim}
use mathlib.Core.List.{List, [], ◌∷◌}
use Prim.Native.Nat.{ℕ, zero, suc, ◌≤◌, ◌<◌}
use native.Mathlib.Nat.{eq-or-lt_of_le, le_of_suc-le-suc, le_refl, le_antisymm}
use native.Mathlib.Omega.{arith}
use borrow.Author.Tests.{le-ltb}
use lib.Dec.{T, T_not}
use lib.Ieee.{Float, Format, lt, le, eq}
use lib.Ieee.Bits.{is_true}
use Rattle.spec_numbers.specs.Values.{Number}
use Rattle.spec_numbers.proofs.Tests.{either, passed, failed}
use Rattle.spec_numbers.proofs.Order.{reflexive, lt→le, eq→le, lt→not_le, lt_le_transitive, not_lt→le, antisymmetric}
use Rattle.spec_shapes.specs.Points.{Point}
use Rattle.spec_lists.specs.Reading.{triangle_count}
use Rattle.spec_tree.specs.Order.{range}
use Rattle.spec_search.specs.Answers.{Hit, Answer, nothing, found}
use Rattle.spec_search.specs.Walk.{fold}
use Rattle.spec_search.specs.Rules.{Limit, counts}
use Rattle.spec_search.specs.Sure.{better, offered, hit, took_sure, scan}
use Rattle.spec_search.specs.Nearest.{IsNearest, NoneCounts, Nearest}
use Rattle.spec_search.proofs.Scan.{kept_append}
use Rattle.spec_search.proofs.Rules.{counts_number, counts_equal}

module _ (hit : ℕ → Hit) (named : (t : ℕ) → (hit t).triangle ≡ t) (limit : Limit) where
  number : (x : Float) → T (counts limit x) → Number x
  number x h = counts_number limit x (is_true (counts limit x) h)

  -- ---- one triangle more
  one_more : (n t : ℕ) → t < suc n → (t ≡ n) ⊎ (t < n)
  one_more n t h = eq-or-lt_of_le (le_of_suc-le-suc h)

  -- the last one does not count
  uncounted : (n : ℕ) (a : Answer) → Nearest hit limit n a → T (not (counts limit (hit n).squared)) → Nearest hit limit (suc n) a
  uncounted n nothing m c = λ t h. ⊎_elim (λ (e : t ≡ n). rw e c) (λ (l : t < n). m t l) (one_more n t h)
  uncounted n (found h) m c =
      let no_counting : (t : ℕ) → t ≡ n → T (counts limit (hit t).squared) → ⊥ = λ t e k.
      T_not (counts limit (hit n).squared) c (subst (λ (j : ℕ). T (counts limit (hit j).squared)) e k) in
      record {
        one_of_them = omega (arith, m.one_of_them);
        measured_there = m.measured_there;
        counted = m.counted;
        smallest = λ t l k. ⊎_elim (λ (e : t ≡ n). absurd (no_counting t e k)) (λ (b : t < n). m.smallest t b k) (one_more n t l);
        lowest = λ t l k.
            ⊎_elim (λ (e : t ≡ n). absurd (no_counting t e (counts_equal limit (hit t).squared h.squared k m.counted))) (λ (b : t < n). m.lowest t b k)
            (one_more n t l);
      }

  -- the last one counts, and is the first that does
  first_counted : (n : ℕ) → NoneCounts hit limit n → T (counts limit (hit n).squared) → IsNearest hit limit (suc n) (hit n)
  first_counted n none c =
      let nothing_before : (t : ℕ) → t < n → T (counts limit (hit t).squared) → ⊥ = λ t l k. T_not (counts limit (hit t).squared) (none t l) k in
      record {
        one_of_them = rw (named n) (le_refl (suc n));
        measured_there = ap hit (sym (named n));
        counted = c;
        smallest = λ t l k.
            ⊎_elim (λ (e : t ≡ n). rw e (reflexive (hit n).squared (number (hit n).squared c))) (λ (b : t < n). absurd (nothing_before t b k))
            (one_more n t l);
        lowest = λ t l k.
            ⊎_elim (λ (e : t ≡ n). rw (named n, e) (le_refl n))
            (λ (b : t < n). absurd (nothing_before t b (counts_equal limit (hit t).squared (hit n).squared k c))) (one_more n t l);
      }

  -- the last one counts, and is smaller than the best so far
  smaller : (n : ℕ) (h : Hit) → IsNearest hit limit n h → T (counts limit (hit n).squared) → T (lt (hit n).squared h.squared)
      → IsNearest hit limit (suc n) (hit n)
  smaller n h m c l =
      let below : (t : ℕ) → t < n → T (counts limit (hit t).squared) → T (lt (hit n).squared (hit t).squared) =
      λ t b k. lt_le_transitive (hit n).squared h.squared (hit t).squared l (m.smallest t b k) in
      record {
        one_of_them = rw (named n) (le_refl (suc n));
        measured_there = ap hit (sym (named n));
        counted = c;
        smallest = λ t b k.
            ⊎_elim (λ (e : t ≡ n). rw e (reflexive (hit n).squared (number (hit n).squared c)))
            (λ (s : t < n). lt→le (hit n).squared (hit t).squared (below t s k)) (one_more n t b);
        lowest = λ t b k.
            ⊎_elim (λ (e : t ≡ n). rw (named n, e) (le_refl n))
            (λ (s : t < n). absurd (lt→not_le (hit n).squared (hit t).squared (below t s (counts_equal limit (hit t).squared (hit n).squared k c))
            (eq→le (hit t).squared (hit n).squared k)))
            (one_more n t b);
      }

  -- the last one counts, and is not smaller: what was best stays
  not_smaller : (n : ℕ) (h : Hit) → IsNearest hit limit n h → T (counts limit (hit n).squared) → T (not (lt (hit n).squared h.squared))
      → IsNearest hit limit (suc n) h
  not_smaller n h m c l =
      let above : T (le h.squared (hit n).squared) = not_lt→le (hit n).squared h.squared (number (hit n).squared c)
      (number h.squared m.counted) l in
      record {
        one_of_them = omega (arith, m.one_of_them);
        measured_there = m.measured_there;
        counted = m.counted;
        smallest = λ t b k. ⊎_elim (λ (e : t ≡ n). rw e above) (λ (s : t < n). m.smallest t s k) (one_more n t b);
        lowest = λ t b k. ⊎_elim (λ (e : t ≡ n). omega (arith, m.one_of_them)) (λ (s : t < n). m.lowest t s k) (one_more n t b);
      }

  -- ---- what is kept once the next triangle is offered
  better_is_smaller : (n : ℕ) (h : Hit) → h.triangle < n → better (hit n) (found h) ≡ lt (hit n).squared h.squared
  better_is_smaller n h l =
      rw (le-ltb (hit n).triangle h.triangle (omega (arith, named n, l))) (alone (lt (hit n).squared h.squared) (eq (hit n).squared h.squared))
    where
      alone : (a b : Bool) → (a || (b && false)) ≡ a
      alone true b = refl
      alone false true = refl
      alone false false = refl

  offered_not : (h : Hit) (a : Answer) (b c : Bool) → counts limit h.squared ≡ c → better h a ≡ b → (c && b) ≡ false → offered limit h a ≡ a
  unfolding offered
  offered_not h a b c p q e = rw (p, q, e)

  offered_yes : (h : Hit) (a : Answer) → counts limit h.squared ≡ true → better h a ≡ true → offered limit h a ≡ found h
  unfolding offered
  offered_yes h a p q = rw (p, q)

  taken : (n : ℕ) (a : Answer) → Nearest hit limit n a → Nearest hit limit (suc n) (offered limit (hit n) a)
  taken n a m =
      ⊎_elim (counted a m) (λ (c : counts limit (hit n).squared ≡ false). rw (offered_not (hit n) a _ false c refl refl) (uncounted n a m (failed c)))
      (either (counts limit (hit n).squared))
    where
      counted : (a : Answer) → Nearest hit limit n a → counts limit (hit n).squared ≡ true → Nearest hit limit (suc n) (offered limit (hit n) a)
      counted nothing m c = rw (offered_yes (hit n) nothing c refl) (first_counted n m (passed c))
      counted (found h) m c =
          ⊎_elim
          (λ (l : lt (hit n).squared h.squared ≡ true).
          rw (offered_yes (hit n) (found h) c (better_is_smaller n h m.one_of_them ∙ l)) (smaller n h m (passed c) (passed l)))
          (λ (l : lt (hit n).squared h.squared ≡ false).
          rw (offered_not (hit n) (found h) false true c (better_is_smaller n h m.one_of_them ∙ l) refl) (not_smaller n h m (passed c) (failed l)))
          (either (lt (hit n).squared h.squared))

  -- the fold over a range keeps the nearest of its triangles
  kept_nearest : (n : ℕ) → Nearest hit limit n (fold (λ t k. offered limit (hit t) k) (range n) nothing)
  unfolding range fold
  kept_nearest zero = λ t l. absurd (omega arith)
  kept_nearest (suc n) = rw (kept_append (λ t k. offered limit (hit t) k) (range n) (n ∷ []) nothing) (taken n _ (kept_nearest n))

-- ---- there is one nearest
module _ (hit : ℕ → Hit) (limit : Limit) (n : ℕ) where
  counts_there : (h : Hit) → IsNearest hit limit n h → T (counts limit (hit h.triangle).squared)
  counts_there h m = subst (λ (k : Hit). T (counts limit k.squared)) m.measured_there m.counted

  no_farther : (h k : Hit) → IsNearest hit limit n h → IsNearest hit limit n k → T (le h.squared k.squared)
  no_farther h k m o =
      subst (λ (j : Hit). T (le h.squared j.squared)) (sym o.measured_there) (m.smallest k.triangle o.one_of_them (counts_there k o))

  no_higher : (h k : Hit) → IsNearest hit limit n h → IsNearest hit limit n k → h.triangle ≤ k.triangle
  no_higher h k m o =
      m.lowest k.triangle o.one_of_them
      (subst (λ (j : Hit). T (eq j.squared h.squared)) o.measured_there (antisymmetric _ _ (no_farther k h o m) (no_farther h k m o)))

  -- two answers that are nearest are the same: the words of order leave nothing open
  pub nearest_only : (a b : Answer) → Nearest hit limit n a → Nearest hit limit n b → a ≡ b
  nearest_only nothing nothing m o = refl
  nearest_only nothing (found k) m o = absurd (T_not (counts limit (hit k.triangle).squared) (m k.triangle o.one_of_them) (counts_there k o))
  nearest_only (found h) nothing m o = absurd (T_not (counts limit (hit h.triangle).squared) (o h.triangle m.one_of_them) (counts_there h m))
  nearest_only (found h) (found k) m o =
      ap found (m.measured_there ∙ ap hit (le_antisymm (no_higher h k m o) (no_higher k h o m)) ∙ sym o.measured_there)

-- ---- the scan
module _ (f : Format) (triangles : List Float) (p : Point) (limit : Limit) where
  -- what the sure query promises of its answer: the nearest triangle that counts, the lowest number among equals
  pub scan_nearest : Nearest (hit f triangles p) limit (triangle_count triangles) (scan f triangles p limit)
  unfolding scan took_sure hit
  scan_nearest = kept_nearest (hit f triangles p) (λ t. refl) limit (triangle_count triangles)

  -- and no other answer is that: where no triangle counts, for one, the scan answers nothing
  pub scan_only : (a : Answer) → Nearest (hit f triangles p) limit (triangle_count triangles) a → scan f triangles p limit ≡ a
  scan_only a m = nearest_only (hit f triangles p) limit (triangle_count triangles) (scan f triangles p limit) a scan_nearest m
