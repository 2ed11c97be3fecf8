-- The wires of the sources so far are drafted.
use Rattle.planner.specs.Listing.{Drafted}
use Rattle.planner.proofs.ends.costs.listing.Solution.lay_links.Given as goal

abbrev pub invariant-loop-i : goal.invariant-loop-i
invariant-loop-i l = Drafted l.self.case.now l.self.ends.sources.now l.self.ends.sinks.now l.self.plan.now.flow l.i 0 l.draft
