use Rattle.std.proofs.Common.{not}
use Rattle.audit.specs.Audit.{carries, wire_at}
use Rattle.audit.proofs.Lowest.{Clear}
use Rattle.audit.proofs.table.audit.bad_current.Given as goal

abbrev pub invariant-loop-i : goal.invariant-loop-i
invariant-loop-i l = Clear (λ k. not (carries (wire_at l.wires k))) l.i
