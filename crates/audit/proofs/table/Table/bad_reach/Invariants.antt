use Rattle.std.proofs.Common.{length}
use Rattle.audit.specs.Audit.{strained}
use Rattle.audit.proofs.Lowest.{Clear}
use Rattle.audit.proofs.table.Table.bad_reach.Given as goal

abbrev pub invariant-loop-a : goal.invariant-loop-a
invariant-loop-a g l = Clear (strained (g.R.Ruler.meaning l.ruler) l.self.rows l.marks) (length l.yielded)
