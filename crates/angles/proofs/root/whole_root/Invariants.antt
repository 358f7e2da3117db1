-- `angles::root::whole_root` meets its contract. The invariant: the root lies from r on and below r + step. The measure is the step.
use Rattle.std.proofs.Common.{ℕ, ◌+◌, ◌*◌, ◌^◌, ◌<◌, ◌≤◌}
use Rattle.angles.proofs.root.whole_root.Given as goal

pub record Between (n r step : ℕ) : Type 0 where
  pub low : r * r ≤ n
  pub high : n < (r + step) * (r + step)
  pub least : 1 ≤ step
  pub most : step ≤ 2 ^ 24

abbrev pub invariant-loop-step : goal.invariant-loop-step
invariant-loop-step l = Between l.n l.r l.step

abbrev pub decreases-loop-step : goal.decreases-loop-step
decreases-loop-step l = l.step
