-- The ends of the wires so far were looked at.
use Rattle.std.proofs.Common.{[], take}
use Rattle.audit.specs.Audit.{unmet}
use Rattle.audit.specs.Search.{Looked}
use Rattle.audit.proofs.table.audit.Filing.unmet_end.Given as goal

abbrev pub invariant-loop-wire : goal.invariant-loop-wire
invariant-loop-wire l = Looked (unmet l.self.table.now.rows l.self.wires.now) l.found (take l.wire-index l.self.wires.now) []
