-- The wires of the sources before, and of this one to the sinks so far, are drafted.
use Rattle.planner.specs.Listing.{Drafted}
use Rattle.planner.proofs.ends.costs.listing.Solution.lay_row.Given as goal

abbrev pub invariant-loop-j : goal.invariant-loop-j
invariant-loop-j l = Drafted l.self.case.now l.self.ends.sources.now l.self.ends.sinks.now l.self.plan.now.flow l.i l.j l.draft
