use Rattle.std.proofs.Common.{not, length}
use Rattle.audit.specs.Audit.{mark_fits, row_at, mark_at}
use Rattle.audit.proofs.Lowest.{Clear}
use Rattle.audit.proofs.table.Table.bad_mark.Given as goal

abbrev pub invariant-loop-i : goal.invariant-loop-i
invariant-loop-i l = Clear (λ k. not (mark_fits (row_at l.self.rows k) (mark_at l.marks k))) (length l.yielded)
