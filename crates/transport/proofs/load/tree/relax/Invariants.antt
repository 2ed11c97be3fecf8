-- The slacks of the sources so far are taken in, the others are as they were.
use Rattle.std.proofs.Common.{◌≡◌, ℕ, ◌<◌, ◌≤◌, length}
use Rattle.transport.specs.Solver.{Nearer}
use Rattle.transport.specs.Transport.{at}
use Rattle.transport.proofs.load.tree.relax.Given as goal

abbrev pub invariant-loop-i : goal.invariant-loop-i
invariant-loop-i l =
    ((k : ℕ) → k < l.i → Nearer l.market.case.now l.market.marks l.sink l.initial.slack-items l.initial.toward l.slack-items l.toward k)
    × ((k : ℕ) → l.i ≤ k → at l.slack-items k ≡ at l.initial.slack-items k)
    × ((k : ℕ) → l.i ≤ k → at l.toward k ≡ at l.initial.toward k)
    × (length l.toward ≡ 64)
