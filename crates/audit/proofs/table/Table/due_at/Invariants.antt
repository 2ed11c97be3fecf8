-- The sum so far is what the rows so far seat at the site, and each adds at most 2 ^ 31 either way.
use Rattle.std.proofs.Common.{◌≡◌, ◌*◌, take, pos, neg_ℤ, ◌≤ℤ◌}
use Rattle.wires.specs.Wiring.{due, seated}
use Rattle.audit.proofs.table.Table.due_at.Given as goal

abbrev pub invariant-loop-row : goal.invariant-loop-row
invariant-loop-row l = (l.sum ≡ due (seated (take l.row-index l.self.rows)) l.site) × (neg_ℤ (pos (2147483648 * l.row-index)) ≤ℤ l.sum) × (l.sum ≤ℤ pos (2147483648 * l.row-index))
