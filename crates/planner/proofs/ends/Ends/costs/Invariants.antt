-- The costs from the sources so far.
use Rattle.planner.specs.Costs.{Costs}
use Rattle.planner.proofs.ends.Ends.costs.Given as goal

abbrev pub invariant-loop-i : goal.invariant-loop-i
invariant-loop-i g l = Costs (g.R.Ruler.meaning l.ruler) l.self.table.now.rows l.self.sources.now l.self.sinks.now l.i l.costs
