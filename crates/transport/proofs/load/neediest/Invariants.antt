-- What was found among the sinks so far, and how much it wants.
use Rattle.std.proofs.Common.{◌≡◌, ℕ, ◌<◌, ◌≤◌, Some, None}
use Rattle.transport.specs.Transport.{at}
use Rattle.transport.proofs.load.neediest.Given as goal

abbrev pub invariant-loop-j : goal.invariant-loop-j
invariant-loop-j l =
    ((k : ℕ) → k < l.j → at l.want k ≤ l.most)
    × (elim l.found [ Some k ↦ (k < l.j) × (0 < l.most) × (l.most ≡ at l.want k) | None ↦ l.most ≡ 0 ])
