-- The marks of the ends so far are written.
use Rattle.planner.specs.Listing.{Marked}
use Rattle.planner.proofs.ends.costs.listing.laying.mark_rows.Given as goal

abbrev pub invariant-loop-k : goal.invariant-loop-k
invariant-loop-k l = Marked l.ends l.marks l.k l.initial.by_row l.by_row
