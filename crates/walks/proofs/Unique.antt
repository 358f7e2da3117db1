-- No two answers, and no two results of a walk, stand for the same of the definitions.
use mathlib.Core.Path.{◌≡◌, refl, sym, ap, ◌∙◌}
use Prim.Native.Nat.{ℕ}
use Rattle.std.proofs.Common.{Option, Some, None}
use Rattle.spec_search.specs.Answers as Answers
use Rattle.spec_search.specs.Walk as Walk
use Rattle.walks.specs.declared.answer.Hit.{Hit}
use Rattle.walks.specs.declared.answer.Sought.{Sought}
use Rattle.walks.specs.Values.{as_answer, as_sought}

abbrev back : Answers.Answer → Option Hit
back Answers.nothing = None
back (Answers.found h) = Some (record {
  point = record { x = h.point.x; y = h.point.y; z = h.point.z };
  squared = h.squared;
  triangle = h.triangle;
  part = h.part;
})

back_is : (a : Option Hit) → back (as_answer a) ≡ a
back_is None = refl
back_is (Some h) = refl

-- what an answer stands for fixes it
pub answer_unique : (a b : Option Hit) → as_answer a ≡ as_answer b → a ≡ b
answer_unique a b e = sym (back_is a) ∙ ap back e ∙ back_is b

abbrev sought : Option Hit → ℕ → Sought
sought best measured = record { best = best; measured = measured }

-- what the result of a walk stands for fixes it
pub sought_unique : (a b : Sought) → as_sought a ≡ as_sought b → a ≡ b
sought_unique a b e =
    let best : a.best ≡ b.best = answer_unique a.best b.best (ap (λ (s : Walk.Sought Answers.Answer). s.best) e) in
    let measured : a.measured ≡ b.measured = ap (λ (s : Walk.Sought Answers.Answer). s.measured) e in
    let same : sought a.best a.measured ≡ sought b.best b.measured = cc in
    same
