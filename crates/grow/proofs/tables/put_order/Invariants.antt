-- `grow::tables::put_order` meets its contract: a turn stores one number behind those that stand there.
use mathlib.Core.List.{[], ◌∷◌}
use Rattle.spec_tables.proofs.Runs.{Run}
use Rattle.grow.proofs.tables.put_order.Given as goal

abbrev pub invariant-loop-number : goal.invariant-loop-number
invariant-loop-number l = Run (λ k. k ∷ []) 0 l.count l.initial.order l.order l.number
