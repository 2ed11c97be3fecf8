-- The nearest of the sources so far.
use Rattle.std.proofs.Common.{ℕ, ◌<◌, ◌≤◌, max, length}
use Rattle.transport.specs.Transport.{at}
use Rattle.transport.proofs.load.tree.nearest.Given as goal

abbrev pub invariant-loop-i : goal.invariant-loop-i
invariant-loop-i l =
    (l.source < length l.slack) × (max (at l.slack l.source) (at l.closed l.source) ≤ l.least)
    × ((k : ℕ) → k < l.i → l.least ≤ max (at l.slack k) (at l.closed k))
