-- The costs to the sinks so far.
use Rattle.planner.specs.Costs.{CostRow}
use Rattle.planner.proofs.ends.Ends.fill_row.Given as goal

abbrev pub invariant-loop-j : goal.invariant-loop-j
invariant-loop-j g l = CostRow (g.R.Ruler.meaning l.ruler) l.self.table.now.rows l.self.sources.now l.self.sinks.now l.i l.j l.initial.costs l.costs
