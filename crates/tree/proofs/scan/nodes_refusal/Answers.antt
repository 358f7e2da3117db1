-- `tree::scan::nodes_refusal` meets its contract. The invariant: nothing broke before this node, and the first box that differs among those before it is known.
use mathlib.Core.Path.{◌≡◌, refl, sym, ◌∙◌}
use Prim.Native.Nat.{◌+◌, ◌-◌}
use native.Mathlib.Omega.{arith}
use Rattle.spec_lists.specs.Refusals.{first_refusal}
use Rattle.lists.proofs.Rows.{handed_on, refused_first, passed_first, last}
use Rattle.spec_tree.specs.Reasons.{failing_from, refused_where, box_refusal}
use Rattle.spec_tree.proofs.Scanning as Scanning
use Rattle.tree.proofs.scan.nodes_refusal.Goals as goal

pub loop-node-init : goal.loop-node-init
unfolding failing_from
loop-node-init c = (omega arith, (Scanning.scanned_start _ _, refl))

pub goes_on-requires : goal.goes_on-requires
goes_on-requires c =
    record {
      there = omega (arith, c.requires.links_there, c.loop-node-test.true);
      before = Scanning.scanned_falls _ _ _ c.requires.links_there c.loop-node.node c.loop-node.entry c.loop-node.invariant.1.0 c.loop-node.invariant.0;
    }

pub returns-then-not-goes_on : goal.returns-then-not-goes_on
unfolding first_refusal
returns-then-not-goes_on c =
    let broke =
    Scanning.breaks_refused _ _ _ c.requires.links_there c.loop-node.node c.loop-node.entry c.loop-node.invariant.1.0 c.loop-node-test.true
    (sym c.goes_on.ensures ∙ c.if-not-goes_on.true) in
    rw broke

pub entry_after-entry-requires : goal.entry_after-entry-requires
entry_after-entry-requires c =
    omega (arith, c.requires.links_there, c.loop-node-test.true)

pub first_unlike-unlike-requires : goal.first_unlike-unlike-requires
first_unlike-unlike-requires c =
    let h = c.loop-node-test.true in
    let next = Scanning.goes_on_lem _ _ _ c.requires.links_there c.loop-node.node c.loop-node.entry c.loop-node.invariant.1.0 h
    (sym c.goes_on.ensures ∙ c.if-not-goes_on.false) in record {
      boxable = record {
        links_there = omega (arith, c.requires.links_there);
        boxes_there = omega (arith, c.requires.boxes_there);
        node_is = Scanning.scanned_sound _ _ _ c.requires.links_there _ c.requires.long (c.loop-node.node + 1) _ next (omega arith) c.loop-node.node
            (omega arith);
        entries = c.requires.entries;
      };
      before = c.loop-node.invariant.1.1;
    }

pub loop-node-preserved : goal.loop-node-preserved
loop-node-preserved c =
    let h = c.loop-node-test.true in (
      omega arith,
      (
        rw c.entry_after-entry.ensures
            (Scanning.goes_on_lem _ _ _ c.requires.links_there c.loop-node.node c.loop-node.entry c.loop-node.invariant.1.0 h
            (sym c.goes_on.ensures ∙ c.if-not-goes_on.false)),
        c.first_unlike-unlike.ensures,
      ),
    )

pub end_refusal-requires : goal.end_refusal-requires
end_refusal-requires c =
    let end : c.loop-node.node ≡ c.args.drawing.now.nodes = omega (arith, c.loop-node.invariant.0, c.loop-node-test.false) in
    record { some = c.requires.some; there = c.requires.links_there; scanned = rw end at c.loop-node.invariant.1.0 }

pub returns-in_err-end_refusal : goal.returns-in_err-end_refusal
returns-in_err-end_refusal c = handed_on _ _ _ c.from_residual.ensures.1 (refused_first _ _ _ _ c.in_err-end_refusal.ensures)

pub depth_refusal-requires : goal.depth_refusal-requires
depth_refusal-requires c =
    record {
      triangles = c.args.n;
      some = c.requires.some;
      there = c.requires.links_there;
      listed = sym c.in_ok-end_refusal.ensures;
    }

pub returns-in_err-depth_refusal : goal.returns-in_err-depth_refusal
returns-in_err-depth_refusal c =
    handed_on _ _ _ c.from_residual-in_err-depth_refusal.ensures.1
    (passed_first _ _ _ c.in_ok-end_refusal.ensures (refused_first _ _ _ _ c.in_err-depth_refusal.ensures))

pub returns : goal.returns
unfolding refused_where box_refusal
returns c =
    let end : c.loop-node.node ≡ c.args.drawing.now.nodes = omega (arith, c.loop-node.invariant.0, c.loop-node-test.false) in
    let unlike = rw end at c.loop-node.invariant.1.1 in
    passed_first _ _ _ c.in_ok-end_refusal.ensures
    (passed_first _ _ _ c.in_ok-depth_refusal.ensures (last _ _ (rw (← unlike) c.refused_if.ensures)))
