use Rattle.std.proofs.Common.{not}
use Rattle.wires.specs.Wiring.{lies}
use Rattle.audit.specs.Audit.{wire_at}
use Rattle.audit.proofs.Lowest.{Clear}
use Rattle.audit.proofs.table.audit.bad_site.Given as goal

abbrev pub invariant-loop-i : goal.invariant-loop-i
invariant-loop-i g l = Clear (λ k. not (lies (g.R.Ruler.meaning l.ruler) (wire_at l.wires k))) l.i
