-- `grow::tries::Cutter::try_axes` meets its contract. The invariant: the tries on the axes that remain are, from here, those on all.
use mathlib.Core.Path.{◌≡◌, refl, sym, ap, ◌∙◌}
use mathlib.Core.List.{List, ◌∷◌}
use Prim.Native.Nat.{ℕ, ◌+◌, ◌<◌, ◌≤◌}
use native.Mathlib.Numerals.{add-one}
use native.Mathlib.Omega.{arith}
use borrow.Author.Rules.{rules}
use lib.ListN.{length, get_or, drop, drop_of_length-le}
use lib.Seq.{drop-cons}
use lib.Ieee.{binary32}
use Rattle.shapes.specs.Values.{as_axis}
use Rattle.shapes.specs.declared.vec3.Axis.{Axis}
use Rattle.splits.specs.Values.{as_split}
use Rattle.spec_numbers.specs.Axes as Spec
use Rattle.spec_shapes.specs.Boxes.{Box}
use Rattle.spec_shapes.specs.Points.{Point, at}
use Rattle.spec_build.specs.Grown.{Tried, uncut}
use Rattle.spec_build.specs.Tries.{axes_by_size, tried_in}
use Rattle.spec_build.proofs.Trying.{next_needs, stays_cut, tries_next, in_turn_lem}
use Rattle.grow.specs.Values.{as_axes}
use Rattle.grow.proofs.tries.Cutter.try_axes.Goals as goal

-- of the axes that remain the first is the one at the index
next_axis : (d : Axis) (axes : List Axis) (i : ℕ) → i < length axes → as_axes (drop i axes) ≡ as_axis (get_or axes i d) ∷ as_axes (drop (i + 1) axes)
next_axis d axes i h = rw add-one (ap as_axes (drop-cons axes i d h))

module _ (box_at : ℕ → Box) (strategy : ℕ) (parent : Box) (axes : List Axis) (i : ℕ) (slice : List ℕ) (whole : Tried)
    (rest_is : tried_in binary32 box_at strategy (as_axes (drop i axes)) parent slice ≡ whole) where
  -- before a turn: the first of the axes that remain is the one that is tried
  on_next : (d : Axis) → i < length axes → tried_in binary32 box_at strategy (as_axis (get_or axes i d) ∷ as_axes (drop (i + 1) axes)) parent slice ≡ whole
  on_next d h = sym (ap (λ (l : List Spec.Axis). tried_in binary32 box_at strategy l parent slice) (next_axis d axes i h)) ∙ rest_is

  -- at the end no axis remains, and the slice stays whole
  on_none : length axes ≤ i → uncut slice ≡ whole
  unfolding tried_in
  on_none h = sym (ap (λ (l : List Axis). tried_in binary32 box_at strategy (as_axes l) parent slice) (drop_of_length-le axes h)) ∙ rest_is

pub loop-axis-init : goal.loop-axis-init
loop-axis-init c = record {
  may = c.requires;
  rest_is = in_turn_lem binary32 _ _ _ _ _ _ (c.axes_by_size-axis-items.ensures ∙ ap (λ (p : Point). axes_by_size (at p)) c.sizes.ensures) refl;
}

pub returns-in-Some : goal.returns-in-Some
returns-in-Some c =
    let loop = c.loop-axis in
    let axes = c.axes_by_size-axis-items.result in
    let full : length axes ≡ 3 = search (rules, c.axes_by_size-axis-items.type_inv) in
    stays_cut binary32 _ _ _ _ _ _ _ _ _ (ap as_split c.in-Some.is) c.try_on.ensures
    ∙ on_next _ _ _ axes loop.axis-index _ _ loop.invariant.rest_is _ (omega arith)

pub loop-axis-preserved : goal.loop-axis-preserved
loop-axis-preserved c =
    let loop = c.loop-axis in
    let axes = c.axes_by_size-axis-items.result in
    let full : length axes ≡ 3 = search (rules, c.axes_by_size-axis-items.type_inv) in
    record {
      may = next_needs binary32 _ _ loop.invariant.may _ _ _ _ _ (as_split c.try_on.result) c.try_on.ensures c.try_on.auto.scratch;
      rest_is =
          tries_next binary32 _ _ _ _ _ _ _ _ _ (ap as_split c.in_default.is) c.try_on.ensures refl
          ∙ on_next _ _ _ axes loop.axis-index _ _ loop.invariant.rest_is _ (omega arith);
    }

pub returns : goal.returns
returns c =
    let loop = c.loop-axis in
    let axes = c.axes_by_size-axis-items.result in
    let full : length axes ≡ 3 = search (rules, c.axes_by_size-axis-items.type_inv) in
    on_none _ _ _ axes loop.axis-index _ _ loop.invariant.rest_is (omega arith)
