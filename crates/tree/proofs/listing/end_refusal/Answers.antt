-- `tree::listing::end_refusal` meets its contract: nothing broke, so one tree stands where the last one begins with node 0.
use mathlib.Core.Path.{sym, ap, ◌∙◌}
use mathlib.Core.Bool.{not, ◌&&◌}
use Prim.Native.Nat.{ℕ, ◌-◌}
use lib.Dec.{eqb}
use Rattle.spec_lists.specs.Refusals.{refused_if}
use Rattle.spec_tree.proofs.Scanning.{ends_refused}
use Rattle.spec_tree.proofs.Checks.{scanned_descends}
use Rattle.tree.proofs.listing.end_refusal.Goals as goal

pub first_of-requires : goal.first_of-requires
first_of-requires c = scanned_descends _ _ _ _ c.requires.some c.requires.there c.requires.scanned

pub returns : goal.returns
returns c =
    c.refused_if.ensures
    ∙ ap (λ (first : ℕ). refused_if (not (eqb first 0 && eqb c.args.entry c.args.n)) 73 (c.args.nodes - 1)) c.first_of.ensures
    ∙ sym (ends_refused _ _ _ c.requires.there _ c.requires.scanned c.requires.some)
