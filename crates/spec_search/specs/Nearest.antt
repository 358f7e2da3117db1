-- What the answer of a scan is, in words of order: the nearest triangle that counts, the lowest number among equals; and what it is at no distance.
use Rattle.std.specs.Prelude.{◌≡◌, not, ℕ, ◌≤◌, ◌<◌, T}
use Rattle.std.specs.Float.Ieee.{le, eq}
use Rattle.spec_numbers.specs.Values.{zero}
use Rattle.spec_search.specs.Answers.{Hit, Answer, nothing, found}
use Rattle.spec_search.specs.Rules.{Limit, counts}

module _ (hit : ℕ → Hit) (limit : Limit) (n : ℕ) where
  -- h is what is measured of one of the n triangles; it counts; nothing that counts is smaller, and nothing that is equal has a lower number
  pub record IsNearest (h : Hit) : Type 0 where
    pub one_of_them : h.triangle < n
    pub measured_there : h ≡ hit h.triangle
    pub counted : T (counts limit h.squared)
    pub smallest : (t : ℕ) → t < n → T (counts limit (hit t).squared) → T (le h.squared (hit t).squared)
    pub lowest : (t : ℕ) → t < n → T (eq (hit t).squared h.squared) → h.triangle ≤ t

  -- no triangle counts
  abbrev pub NoneCounts : Type 0
  NoneCounts = (t : ℕ) → t < n → T (not (counts limit (hit t).squared))

  -- what an answer promises
  abbrev pub Nearest : Answer → Type 0
  Nearest nothing = NoneCounts
  Nearest (found h) = IsNearest h

module _ (hit : ℕ → Hit) (n : ℕ) where
  -- h is what is measured of one of the n triangles, at a squared distance of zero; none with a lower number is at zero
  pub record IsTouched (h : Hit) : Type 0 where
    pub one_of_them : h.triangle < n
    pub measured_there : h ≡ hit h.triangle
    pub at_zero : T (eq h.squared zero)
    pub lowest : (t : ℕ) → t < n → T (eq (hit t).squared zero) → h.triangle ≤ t

  -- what an answer promises that finds exactly where a squared distance is zero
  abbrev pub Touched : Answer → Type 0
  Touched nothing = (t : ℕ) → t < n → T (not (eq (hit t).squared zero))
  Touched (found h) = IsTouched h
