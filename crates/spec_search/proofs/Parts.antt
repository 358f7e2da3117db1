-- The part of an answer: it has no say in which triangle is answered, it is one digit, and a corner that is told is where the answer is.
use mathlib.Core.Path.{◌≡◌, refl, sym, ap, subst, ◌∙◌}
use mathlib.Core.Bool.{Bool, true, false, cond, ◌&&◌}
use mathlib.Core.List.{List, [], ◌∷◌}
use Prim.Native.Nat.{ℕ, ◌<◌}
use lib.Ieee.{Float, Format, lt}
use Rattle.spec_shapes.specs.Points.{Point}
use Rattle.spec_shapes.specs.Triangles.{Part, part_number, held_spot, held_point, AtCorner}
use Rattle.spec_shapes.proofs.Parts.{part_number_unique, part_number_below, corner_is_hit}
use Rattle.spec_lists.specs.Reading.{triangle_at, triangle_count}
use Rattle.spec_lists.specs.Passed.{GoodTriangles}
use Rattle.spec_lists.proofs.Reading.{triangle_inside, corners_finite}
use Rattle.spec_search.specs.Answers.{Hit, Answer, nothing, found, retold, retold_in}
use Rattle.spec_search.specs.Rules.{Limit, counts}
use Rattle.spec_search.specs.Walk.{fold}
use Rattle.spec_search.specs.Sure.{better, offered, hit}
use Rattle.spec_search.specs.Source.{smallest, keep_smaller}

-- ---- the part has no say
module _ (told : ℕ → ℕ) where
  picked : (b : Bool) (h : Hit) (k : Answer) → cond b (found (retold told h)) (retold_in told k) ≡ retold_in told (cond b (found h) k)
  picked true h k = refl
  picked false h k = refl

  -- whatever parts are told, the sure query keeps the same
  pub offered_without_part : (limit : Limit) (h : Hit) (k : Answer) → offered limit (retold told h) (retold_in told k) ≡ retold_in told (offered limit h k)
  unfolding offered
  offered_without_part limit h nothing = picked (counts limit h.squared && true) h nothing
  offered_without_part limit h (found k) = picked (counts limit h.squared && better h (found k)) h (found k)

  -- and so does the source query
  pub smaller_without_part : (h : Hit) (k : Answer) → keep_smaller (retold told h) (retold_in told k) ≡ retold_in told (keep_smaller h k)
  unfolding keep_smaller
  smaller_without_part h nothing = picked (lt h.squared (smallest nothing)) h nothing
  smaller_without_part h (found k) = picked (lt h.squared k.squared) h (found k)

  -- so a scan answers the same triangle, at the same point, whatever parts its hits are told with
  pub scan_without_part : (limit : Limit) (hit : ℕ → Hit) (numbers : List ℕ) (k : Answer)
      → fold (λ t. offered limit (retold told (hit t))) numbers (retold_in told k) ≡ retold_in told (fold (λ t. offered limit (hit t)) numbers k)
  unfolding fold
  scan_without_part limit hit [] k = refl
  scan_without_part limit hit (t ∷ ts) k =
      ap (fold (λ u. offered limit (retold told (hit u))) ts) (offered_without_part limit (hit t) k)
      ∙ scan_without_part limit hit ts (offered limit (hit t) k)

-- ---- what it tells
module _ (f : Format) (triangles : List Float) (p : Point) (t : ℕ) where
  -- one digit, 0 to 6
  pub hit_part_below : (hit f triangles p t).part < 7
  unfolding hit
  hit_part_below = part_number_below (held_spot f (triangle_at triangles t) p).part

  -- where it tells a corner, the point is that corner of the triangle
  pub hit_at_corner : GoodTriangles triangles → t < triangle_count triangles → (q : Part) → part_number q ≡ (hit f triangles p t).part
      → AtCorner (triangle_at triangles t) q (hit f triangles p t).point
  unfolding hit
  hit_at_corner good l q e =
      subst (λ (x : Part). AtCorner (triangle_at triangles t) x (held_point f (triangle_at triangles t) p))
      (sym (part_number_unique q (held_spot f (triangle_at triangles t) p).part e))
      (corner_is_hit f (triangle_at triangles t) (corners_finite triangles good.coordinates t (triangle_inside triangles t l)) p)
