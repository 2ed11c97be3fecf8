-- The rows so far are bare.
use Rattle.std.proofs.Common.{ℕ, ◌≡◌, ◌<◌}
use Rattle.ruler.specs.Cells.{bare_at, cell}
use Rattle.ruler.proofs.map.table.clear.Given as goal

abbrev pub invariant-loop-i : goal.invariant-loop-i
invariant-loop-i l = (k j : ℕ) → k < l.i → j < 64 → cell l.rows k j ≡ bare_at l.ring k j
