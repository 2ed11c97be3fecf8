-- The marks so far are raised, the others are as they were.
use Rattle.std.proofs.Common.{◌≡◌, ℕ, ◌+◌, ◌<◌, ◌≤◌, Bool, cond}
use Rattle.transport.specs.Transport.{at}
use Rattle.transport.proofs.load.tree.raise_marks.Given as goal

abbrev pub invariant-loop-k : goal.invariant-loop-k
invariant-loop-k g l =
    ((k : ℕ) → k < l.k → (b : Bool) × goal.F-post g l.is_inside k b × (at l.marks k ≡ at l.initial.marks k + cond b l.by 0))
    × ((k : ℕ) → l.k ≤ k → at l.marks k ≡ at l.initial.marks k)
