-- The rows so far are relaxed, the others as they were.
use Rattle.std.proofs.Common.{ℕ, ◌≡◌, ◌<◌, ◌≤◌}
use Rattle.ruler.specs.Cells.{cell, relaxed_at}
use Rattle.ruler.proofs.map.table.shorten.Given as goal

abbrev pub invariant-loop-row : goal.invariant-loop-row
invariant-loop-row l =
    record {
      relaxed : (i j : ℕ) → i < l.row-index → j < 64 → cell l.rows i j ≡ relaxed_at l.initial.rows l.from l.to l.length i j;
      rest : (i j : ℕ) → l.row-index ≤ i → cell l.rows i j ≡ cell l.initial.rows i j;
    }
