-- By the second rule a search distance of 0 finds exactly where a held squared distance is zero.
use mathlib.Core.Path.{◌≡◌, refl, sym, subst}
use mathlib.Core.Bool.{Bool, true, false}
use mathlib.Core.List.{List}
use Prim.Native.Nat.{ℕ, ◌<◌}
use lib.Dec.{T}
use lib.Ieee.{Float, Format, binary32, binary64, round, mul, le, eq}
use Rattle.spec_numbers.specs.Values.{zero}
use Rattle.spec_numbers.specs.Axes.{Finite}
use Rattle.spec_numbers.proofs.Order.{number_right, eq→le, transitive, antisymmetric}
use Rattle.spec_numbers.proofs.Square.{square_not_below, square_keeps_order, abs_grows_downward}
use Rattle.spec_shapes.specs.Points.{Point, at}
use Rattle.spec_shapes.proofs.Held.{held_squared_not_below}
use Rattle.spec_lists.specs.Reading.{triangle_at, triangle_count}
use Rattle.spec_lists.specs.Passed.{GoodTriangles}
use Rattle.spec_lists.proofs.Reading.{triangle_inside, corners_finite}
use Rattle.spec_search.specs.Answers.{Hit, Answer, nothing, found}
use Rattle.spec_search.specs.Rules.{below_or_equal, limit_squared, limit_of, counts}
use Rattle.spec_search.specs.Sure.{hit, scan}
use Rattle.spec_search.specs.Nearest.{Nearest, Touched}
use Rattle.spec_search.specs.Calls.{sure_answer}
use Rattle.spec_search.proofs.Nearest.{scan_nearest}

-- ---- the square of a zero, of either sign, is zero
nought_squared : (f : Format) → mul f zero zero ≡ zero
unfolding mul round
nought_squared binary32 = refl
nought_squared binary64 = refl

module _ (f : Format) (distance : Float) (low : T (le zero distance)) (high : T (le distance zero)) where
  limit_not_above : T (le (limit_squared f distance) zero)
  unfolding limit_squared
  limit_not_above =
      subst (λ (z : Float). T (le (mul f distance distance) z)) (nought_squared f)
      (square_keeps_order f distance zero (abs_grows_downward distance zero high low))

  limit_not_below : T (le zero (limit_squared f distance))
  unfolding limit_squared
  limit_not_below = square_not_below f distance (number_right zero distance low)

  -- at no distance, by the second rule, what is not below zero counts exactly where it is zero
  counts_at_zero : (d : Float) → T (le zero d) → counts (limit_of f below_or_equal distance) d ≡ eq d zero
  unfolding counts
  counts_at_zero d h = same _ _ forth back
    where
      same : (a b : Bool) → (T a → T b) → (T b → T a) → a ≡ b
      same true true f g = refl
      same true false f g = absurd (f tt)
      same false true f g = absurd (g tt)
      same false false f g = refl

      forth : T (counts (limit_of f below_or_equal distance) d) → T (eq d zero)
      forth c = antisymmetric d zero (transitive d _ zero c limit_not_above) h

      back : T (eq d zero) → T (counts (limit_of f below_or_equal distance) d)
      back e = transitive d zero _ (eq→le d zero e) limit_not_below

  module _ (triangles : List Float) (good : GoodTriangles triangles) (p : Point) (P : Finite (at p)) where
    hit_not_below : (t : ℕ) → t < triangle_count triangles → T (le zero (hit f triangles p t).squared)
    unfolding hit
    hit_not_below t l = held_squared_not_below f (triangle_at triangles t) (corners_finite triangles good.coordinates t (triangle_inside triangles t l)) p P

    -- a triangle counts exactly where the squared distance to its held point is zero
    pub at_no_distance : (t : ℕ) → t < triangle_count triangles
        → counts (limit_of f below_or_equal distance) (hit f triangles p t).squared ≡ eq (hit f triangles p t).squared zero
    at_no_distance t l = counts_at_zero (hit f triangles p t).squared (hit_not_below t l)

    touched : (a : Answer) → Nearest (hit f triangles p) (limit_of f below_or_equal distance) (triangle_count triangles) a
        → Touched (hit f triangles p) (triangle_count triangles) a
    touched nothing none = λ t l. rw (← at_no_distance t l) (none t l)
    touched (found h) m =
        let there : T (eq (hit f triangles p h.triangle).squared zero) =
        rw (← at_no_distance h.triangle m.one_of_them)
        (subst (λ (k : Hit). T (counts (limit_of f below_or_equal distance) k.squared)) m.measured_there m.counted) in
        let zero_there : T (eq h.squared zero) = subst (λ (k : Hit). T (eq k.squared zero)) (sym m.measured_there) there in
        let not_below : T (le zero h.squared) =
        subst (λ (k : Hit). T (le zero k.squared)) (sym m.measured_there) (hit_not_below h.triangle m.one_of_them) in
        record {
          one_of_them = m.one_of_them;
          measured_there = m.measured_there;
          at_zero = zero_there;
          lowest = λ t l e.
              m.lowest t l
              (antisymmetric (hit f triangles p t).squared h.squared
              (transitive _ zero _ (eq→le (hit f triangles p t).squared zero e) not_below)
              (transitive _ zero _ (eq→le h.squared zero zero_there) (hit_not_below t l)));
        }

    -- what the sure query answers by the second rule at a distance of 0, of either sign: it finds exactly where a held squared distance is zero
    pub touched_at_no_distance : Touched (hit f triangles p) (triangle_count triangles) (sure_answer f below_or_equal triangles distance p)
    unfolding sure_answer
    touched_at_no_distance = touched (scan f triangles p (limit_of f below_or_equal distance)) (scan_nearest f triangles p (limit_of f below_or_equal distance))
