-- The rows so far are gathered.
use Rattle.std.proofs.Common.{◌≡◌}
use Rattle.bounded.specs.Items.{items}
use Rattle.planner.specs.Ends.{gathered}
use Rattle.planner.proofs.ends.gathering.rows_on.Given as goal

abbrev pub invariant-loop-i : goal.invariant-loop-i
invariant-loop-i l = items l.rows ≡ gathered l.table.rows l.side l.i
