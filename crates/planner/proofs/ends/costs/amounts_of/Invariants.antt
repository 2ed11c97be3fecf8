-- The amounts so far.
use Rattle.planner.specs.Costs.{Amounts}
use Rattle.planner.proofs.ends.costs.amounts_of.Given as goal

abbrev pub invariant-loop-k : goal.invariant-loop-k
invariant-loop-k l = Amounts l.table.rows l.rows l.side l.k l.amounts
