-- `tree::permutation::mark_all` meets its contract. The invariant: the first i entries are each new, and exactly they are marked.
use mathlib.Core.Path.{◌≡◌, refl, sym}
use native.Mathlib.Omega.{arith}
use lib.ListN.{length, length-set}
use Rattle.spec_tree.proofs.Marks.{marked_none, marked_more, marked_large, marked_twice, marked_all}
use Rattle.tree.proofs.permutation.mark_all.Goals as goal

pub loop-i-init : goal.loop-i-init
loop-i-init c = (marked_none _ _ _ c.requires, refl)

pub shape_of-seen-then-k-n : goal.shape_of-seen-then-k-n
shape_of-seen-then-k-n c = c.loop-i.invariant.1

pub returns-then-k-n : goal.returns-then-k-n
returns-then-k-n c =
    sym (marked_large _ _ _ c.loop-i.i c.loop-i.invariant.0 c.loop-i-test.true _ refl c.if-k-n.true)

pub bounds-seen-k : goal.bounds-seen-k
bounds-seen-k c =
    omega (arith, c.if-k-n.false, c.loop-i.invariant.0.room)

pub shape_of-seen-then-seen-k : goal.shape_of-seen-then-seen-k
shape_of-seen-then-seen-k c =
    c.loop-i.invariant.1

pub returns-then-seen-k : goal.returns-then-seen-k
returns-then-seen-k c =
    sym (marked_twice _ _ _ c.loop-i.i c.loop-i.invariant.0 c.loop-i-test.true _ refl c.if-k-n.false
    c.if-seen-k.true)

pub bounds-seen-k-in-loop-i : goal.bounds-seen-k-in-loop-i
bounds-seen-k-in-loop-i c =
    omega (arith, c.if-k-n.false, c.loop-i.invariant.0.room)

pub loop-i-preserved : goal.loop-i-preserved
loop-i-preserved c = (
  marked_more _ _ _ c.loop-i.i c.loop-i.invariant.0 c.loop-i-test.true _ refl c.if-k-n.false c.if-seen-k.false,
  simp length-set c.loop-i.invariant.1,
)

pub shape_of-seen : goal.shape_of-seen
shape_of-seen c = c.loop-i.invariant.1

pub returns : goal.returns
returns c =
    let end : c.loop-i.i ≡ length c.args.order.now = omega (arith, c.loop-i-test.false) in
    rw end at (sym (marked_all _ _ _ c.loop-i.i c.loop-i.invariant.0 c.loop-i-test.false))
