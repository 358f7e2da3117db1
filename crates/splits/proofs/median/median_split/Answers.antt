-- `splits::median::median_split` meets its contract: at each return the tests before have failed and this one has passed.
use lib.ListN.{length-map}
use Rattle.spec_splits.specs.Median.{median_split}
use Rattle.splits.proofs.median.median_split.Goals as goal
use Rattle.splits.proofs.median.median_split.Goals.{then-all_meet_at-via-then-all_meet_at, then-all_meet_at-via-else-all_meet_at+then-are_both_large}

pub returns-then-all_meet_at : goal.returns-then-all_meet_at
unfolding median_split
returns-then-all_meet_at c =
    elim c.then-all_meet_at.branch [
      | then-all_meet_at-via-then-all_meet_at w ↦ rw (length-map, ← c.all_meet_at.ensures, w.if-all_meet_at.true)
      | then-all_meet_at-via-else-all_meet_at+then-are_both_large w ↦
          rw (length-map, ← c.all_meet_at.ensures, w.if-all_meet_at.false, ← w.are_both_large.ensures, w.if-are_both_large.true)
    ]

pub returns : goal.returns
unfolding median_split
returns c =
    rw (length-map, ← c.all_meet_at.ensures, c.if-all_meet_at.false, ← c.are_both_large.ensures, c.if-are_both_large.false)
