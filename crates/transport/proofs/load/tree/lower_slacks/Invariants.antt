-- The slacks so far are lowered, the others are as they were.
use Rattle.std.proofs.Common.{◌≡◌, ℕ, ◌+◌, ◌<◌, ◌≤◌}
use Rattle.transport.specs.Transport.{at}
use Rattle.transport.proofs.load.tree.lower_slacks.Given as goal

abbrev pub invariant-loop-i : goal.invariant-loop-i
invariant-loop-i l =
    ((k : ℕ) → k < l.i → 0 < at l.closed k → at l.slack-items k ≡ at l.initial.slack-items k)
    × ((k : ℕ) → k < l.i → at l.closed k ≡ 0 → at l.slack-items k + l.by ≡ at l.initial.slack-items k)
    × ((k : ℕ) → l.i ≤ k → at l.slack-items k ≡ at l.initial.slack-items k)
