-- The balance is that of the rows so far, each of which moves it by at most 2 ^ 31.
use Rattle.std.proofs.Common.{◌≡◌, ◌*◌, ◌^◌, take, pos, neg_ℤ, ◌≤ℤ◌}
use Rattle.wires.specs.Sums.{sum}
use Rattle.wires.specs.Wiring.{seated}
use Rattle.wires.proofs.balance.balance_of.Given as goal

abbrev pub invariant-loop-row : goal.invariant-loop-row
invariant-loop-row l = (l.balance ≡ sum (λ t. t.current) (seated (take l.row-index l.rows))) × (neg_ℤ (pos (2 ^ 31 * l.row-index)) ≤ℤ l.balance) × (l.balance ≤ℤ pos (2 ^ 31 * l.row-index))
