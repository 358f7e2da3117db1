-- `tree::listing::first_of` meets its contract. The invariant: the listing that ends here begins with the same node.
use mathlib.Core.Path.{◌≡◌, refl, sym, ◌∙◌}
use native.Mathlib.Omega.{arith}
use Rattle.spec_tree.specs.Trees.{kind_at}
use Rattle.spec_tree.proofs.Down.{first_here, first_below}
use Rattle.tree.proofs.listing.first_of.Goals as goal

pub kind_at-requires : goal.kind_at-requires
kind_at-requires c = omega (arith, c.requires.there, c.loop-first.invariant.0)

pub left_at-first-requires : goal.left_at-first-requires
left_at-first-requires c = omega (arith, c.requires.there, c.loop-first.invariant.0)

pub loop-first-smaller : goal.loop-first-smaller
loop-first-smaller c =
    let loop = c.loop-first in
    let kind : kind_at c.args.links.now loop.first ≡ 2 = sym c.kind_at.ensures ∙ c.loop-first-test.true in
    omega (arith, c.left_at-first.ensures, (c.requires.falls loop.first loop.invariant.0 kind).left_before)

pub loop-first-preserved : goal.loop-first-preserved
loop-first-preserved c =
    let loop = c.loop-first in
    let kind : kind_at c.args.links.now loop.first ≡ 2 = sym c.kind_at.ensures ∙ c.loop-first-test.true in (
      omega (arith, c.left_at-first.ensures, (c.requires.falls loop.first loop.invariant.0 kind).left_before, loop.invariant.0),
      rw c.left_at-first.ensures (first_below _ _ c.requires loop.first loop.invariant.0 kind ∙ loop.invariant.1),
    )

pub returns : goal.returns
returns c =
    let loop = c.loop-first in
    sym (first_here _ loop.first (λ e. c.loop-first-test.false (c.kind_at.ensures ∙ e))) ∙ loop.invariant.1

pub loop-first-init : goal.loop-first-init
loop-first-init c = (omega arith, refl)
