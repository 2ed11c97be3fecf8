use Rattle.std.proofs.Common.{length}
use Rattle.audit.specs.Audit.{too_far, row_at, mark_at}
use Rattle.audit.proofs.Lowest.{Clear}
use Rattle.audit.proofs.table.Table.is_strained.Given as goal

abbrev pub invariant-loop-row : goal.invariant-loop-row
invariant-loop-row g l =
    Clear (λ k. too_far (g.R.Ruler.meaning l.ruler) l.from l.mark (row_at l.self.rows k) (mark_at l.marks k)) (length l.yielded)
