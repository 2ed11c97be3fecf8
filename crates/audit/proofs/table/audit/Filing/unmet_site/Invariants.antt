-- The ends of the wires and the terminals of the rows so far were looked at.
use Rattle.std.proofs.Common.{take}
use Rattle.audit.specs.Audit.{unmet}
use Rattle.audit.specs.Search.{Looked}
use Rattle.audit.proofs.table.audit.Filing.unmet_site.Given as goal

abbrev pub invariant-loop-row : goal.invariant-loop-row
invariant-loop-row l = Looked (unmet l.self.table.now.rows l.self.wires.now) l.found l.self.wires.now (take l.row-index l.self.table.now.rows)
