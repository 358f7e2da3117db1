-- What a walk keeps, in two lent lists: four numbers a slot, and two a slot with the number of places behind them. The last place is slot 0, the nearest
-- the highest that is used. The source's walk uses slot 0 alone.
use Rattle.std.specs.Prelude.{◌≡◌, List, [], ◌∷◌, ℕ, zero, suc, ◌+◌, ◌-◌, ◌*◌, ◌≤◌, ◌<◌, length, get_or, Float}
use Rattle.std.specs.Float.{Format, nan}
use Rattle.spec_shapes.specs.Points.{Point}
use Rattle.spec_search.specs.Answers.{Hit, squared_of, number_of, Answer}
use Rattle.spec_search.specs.Calls.{most_few}
use Rattle.spec_search.specs.Ranked.{Sorted}
use Rattle.spec_search.specs.Few.{took_few}
use Rattle.spec_search.specs.Source.{took_source}
use Rattle.spec_search.specs.Kept.{kept}
use Rattle.spec_search.specs.Marked.{below, unmarked}
use Rattle.spec_search.specs.Walk.{Sought}
use Rattle.walks.specs.declared.answer.Measures.{Measures}
use Rattle.walks.specs.declared.answer.Measures.TheVariants.{Held, Computed}

-- how many places there are
abbrev pub most_of : List ℕ → ℕ
most_of which = get_or which (2 * most_few) 0

unfoldable pub slot_at : List Float → List ℕ → ℕ → Hit
slot_at best which j = record {
  point = record { x = get_or best (4 * j) nan; y = get_or best (4 * j + 1) nan; z = get_or best (4 * j + 2) nan };
  squared = get_or best (4 * j + 3) nan;
  triangle = get_or which (2 * j) 0;
  part = get_or which (2 * j + 1) 0;
}

-- n slots from slot a on, the highest first
unfoldable pub slots_from : List Float → List ℕ → ℕ → ℕ → List Hit
slots_from best which a zero = []
slots_from best which a (suc n) = slot_at best which (a + n) ∷ slots_from best which a n

-- what is kept, the nearest first
abbrev pub places_of : List Float → List ℕ → List Hit
places_of best which = slots_from best which 0 (most_of which)

-- the lists are as long as they are lent
pub record Lent (best : List Float) (which : List ℕ) : Type 0 where
  pub floats : length best ≡ 4 * most_few
  pub numbers : length which ≡ 2 * most_few + 1

-- they hold so many places, none before one that is nearer
pub record Sound (best : List Float) (which : List ℕ) : Type 0 where
  pub lent : Lent best which
  pub least : 1 ≤ most_of which
  pub most : most_of which ≤ most_few
  pub sorted : Sorted squared_of number_of (places_of best which)

-- ---- what a walk keeps in them, by which point of a triangle it measures: the sure one its places, the source's the answer that slot 0 stands for
abbrev pub Keeps : Measures → Type 0
Keeps Held = List Hit
Keeps Computed = Answer

abbrev pub kept_in : (by : Measures) → List Float → List ℕ → Keeps by
kept_in Held best which = places_of best which
kept_in Computed best which = kept (slot_at best which 0)

-- what measuring a triangle does to it
abbrev pub took_by : (by : Measures) → Format → List Float → Point → Float → ℕ → ℕ → Keeps by → Keeps by
took_by Held f triangles p limit most t ks = took_few f triangles p most (below limit) t ks
took_by Computed f triangles p limit most t k = took_source f triangles p t k

-- what a walk needs of them
abbrev pub Ready : Measures → List Float → List ℕ → Type 0
Ready Held best which = Sound best which
Ready Computed best which = Lent best which

-- they hold this, in as many places
pub record Holds (by : Measures) (best : List Float) (which : List ℕ) (most : ℕ) (s : Keeps by) : Type 0 where
  pub lent : Lent best which
  pub most_is : most_of which ≡ most
  pub kept_is : kept_in by best which ≡ s

-- what a search keeps, and how many triangles it measured
abbrev pub sought_of : (by : Measures) → List Float → List ℕ → ℕ → Sought (Keeps by)
sought_of by best which measured = record { best = kept_in by best which; measured = measured }

-- they hold what a search keeps, and so many triangles were measured
pub record Reached (by : Measures) (best : List Float) (which : List ℕ) (measured most : ℕ) (sought : Sought (Keeps by)) : Type 0 where
  pub holds : Holds by best which most sought.best
  pub measured_is : measured ≡ sought.measured

-- the answer at place j, from 0: nothing where the place is still a marker's
abbrev pub answer_of : List Float → List ℕ → ℕ → Answer
answer_of best which j = unmarked (slot_at best which (most_of which - 1 - j))

-- they hold these answers, so many
pub record Answered (best : List Float) (which : List ℕ) (most : ℕ) (answer : ℕ → Answer) : Type 0 where
  pub lent : Lent best which
  pub most_is : most_of which ≡ most
  pub answers_are : (j : ℕ) → j < most → answer_of best which j ≡ answer j

-- slot j holds h, and the others and the number of places are as they were
pub record PutAt (best : List Float) (which : List ℕ) (j : ℕ) (h : Hit) (best' : List Float) (which' : List ℕ) : Type 0 where
  pub lent : Lent best' which'
  pub most_is : most_of which' ≡ most_of which
  pub here : slot_at best' which' j ≡ h
  pub elsewhere : (i : ℕ) → (i ≡ j → ⊥) → slot_at best' which' i ≡ slot_at best which i
