-- What a call of a walk has reached, as what the definition's walk keeps: from call to call, and what the next call needs.
use mathlib.Core.Path.{◌≡◌, refl, sym, ap, subst, ◌∙◌}
use mathlib.Core.List.{List}
use Prim.Native.Nat.{ℕ, zero, suc, ◌+◌, ◌-◌, ◌<◌}
use native.Mathlib.Omega.{arith}
use lib.ListN.{get_or}
use lib.Ieee.{Float, Format}
use Rattle.spec_shapes.specs.Points.{Point}
use Rattle.spec_search.specs.Answers.{Hit, squared_of, number_of}
use Rattle.spec_search.specs.Rules.{Limit}
use Rattle.spec_search.specs.Ranked.{Sorted}
use Rattle.spec_search.specs.Walk.{Search, Sought, node_walk}
use Rattle.spec_search.specs.Few.{few_search, answer_in}
use Rattle.spec_search.specs.Marked.{padded, padded_in, unmarked}
use Rattle.spec_search.proofs.Walked.{walk_keeps}
use Rattle.spec_search.proofs.Steps.{few_sorted}
use Rattle.walks.specs.declared.answer.Measures.{Measures}
use Rattle.walks.specs.declared.answer.Measures.TheVariants.{Held}
use Rattle.walks.specs.Places.{most_of, slot_at, slots_from, Lent, Sound, Keeps, Reached, sought_of, Answered}
use Rattle.walks.proofs.Slots as Slots

-- the lists hold what was reached
pub reached_is : {by : Measures} {best : List Float} {which : List ℕ} {m most : ℕ} {s : Sought (Keeps by)} → Reached by best which m most s
    → sought_of by best which m ≡ s
reached_is r = λ i. record { best = r.holds.kept_is i; measured = r.measured_is i }

-- what was reached is what a law says that it is
pub reached_on : {by : Measures} {best : List Float} {which : List ℕ} {m most : ℕ} {s next : Sought (Keeps by)} → Reached by best which m most s → s ≡ next
    → Reached by best which m most next
reached_on {by} {best} {which} {m} {most} r e = subst (Reached by best which m most) e r

-- where nothing is done, what was there is reached
pub reached_still : (by : Measures) {best : List Float} {which : List ℕ} (m : ℕ) → Lent best which
    → Reached by best which m (most_of which) (sought_of by best which m)
reached_still by m lent = record { holds = record { lent = lent; most_is = refl; kept_is = refl }; measured_is = refl }

-- a walk that follows goes on from what the first one reached
pub reached_then : {by : Measures} (how : ℕ → Search (Keeps by)) (order links : List ℕ) {best best' : List Float} {which which' : List ℕ} {m m' most : ℕ}
    {s : Sought (Keeps by)} (d node : ℕ) → Reached by best which m most s
    → Reached by best' which' m' (most_of which) (node_walk (how (most_of which)) order links d node (sought_of by best which m))
    → Reached by best' which' m' most (node_walk (how most) order links d node s)
reached_then {by} how order links {best} {best'} {which} {which'} {m} {m'} {most} {s} d node first second =
    reached_on
    (subst (λ (k : ℕ). Reached by best' which' m' k (node_walk (how k) order links d node (sought_of by best which m))) first.holds.most_is second)
    (ap (node_walk (how most) order links d node) (reached_is first))

-- and so does a sure walk
pub few_then : (f : Format) (triangles boxes : List Float) (p : Point) (limit : Limit) (order links : List ℕ) {best best' : List Float}
    {which which' : List ℕ} {m m' most : ℕ} {s : Sought (List Hit)} (d node : ℕ) → Reached Held best which m most s
    → Reached Held best' which' m' (most_of which)
    (node_walk (few_search f triangles boxes p (most_of which) limit) order links d node (sought_of Held best which m))
    → Reached Held best' which' m' most (node_walk (few_search f triangles boxes p most limit) order links d node s)
few_then f triangles boxes p limit order links d node first second =
    reached_then (λ most. few_search f triangles boxes p most limit) order links d node first second

-- after a walk the lists are sound, so another may follow
pub walk_sound : (f : Format) (triangles boxes : List Float) (p : Point) (limit : Limit) (order links : List ℕ) {best best' : List Float}
    {which which' : List ℕ} {m' : ℕ} (m d node : ℕ) → Sound best which
    → Reached Held best' which' m' (most_of which)
    (node_walk (few_search f triangles boxes p (most_of which) limit) order links d node (sought_of Held best which m))
    → Sound best' which'
walk_sound f triangles boxes p limit order links {best} {best'} {which} {which'} m d node sound r =
    Slots.sound_after best which sound best' which' _ r.holds
    (walk_keeps (few_search f triangles boxes p (most_of which) limit) order links (Sorted squared_of number_of)
    (few_sorted f triangles p (most_of which) limit) d node (sought_of Held best which m) sound.sorted)

-- ---- what the places are answered as
slot_there : (best : List Float) (which : List ℕ) (n j : ℕ) (other : Hit) → j < n → get_or (slots_from best which 0 n) j other ≡ slot_at best which (n - 1 - j)
unfolding slots_from
slot_there best which zero j other l = absurd (omega (arith, l))
slot_there best which (suc n) zero other l =
    let same : 0 + n ≡ suc n - 1 - 0 = omega arith in
    ap (slot_at best which) same
slot_there best which (suc n) (suc j) other l =
    let same : n - 1 - j ≡ suc n - 1 - suc j = omega arith in
    slot_there best which n j other (omega (arith, l)) ∙ ap (slot_at best which) same

-- places that hold what is kept and markers behind it have it as their answers
pub reached_answers : {best : List Float} {which : List ℕ} {m most : ℕ} (squared : Float) (s : Sought (List Hit)) (other : Hit)
    → Reached Held best which m most (padded_in most squared s)
    → ((j : ℕ) → j < most → unmarked (get_or (padded most squared s.best) j other) ≡ answer_in s.best j)
    → Answered best which most (answer_in s.best)
reached_answers {best} {which} squared s other r answers = record {
  lent = r.holds.lent;
  most_is = r.holds.most_is;
  answers_are = λ j l.
      ap unmarked
      (sym (slot_there best which (most_of which) j other (subst (λ (n : ℕ). j < n) (sym r.holds.most_is) l))
      ∙ ap (λ (ks : List Hit). get_or ks j other) r.holds.kept_is)
      ∙ answers j l;
}
