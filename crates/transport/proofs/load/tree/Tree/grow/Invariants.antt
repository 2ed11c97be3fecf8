-- After n rounds n sources are closed, and no sink was reached later than in round n + 1.
use Rattle.std.proofs.Common.{◌≡◌, ℕ, ◌+◌, ◌*◌, ◌<◌, ◌≤◌}
use Rattle.transport.specs.Transport.{at, sum_to}
use Rattle.transport.specs.Solver.{round_at, Grown}
use Rattle.transport.proofs.load.tree.Tree.grow.Given as goal

abbrev pub invariant-loop-n : goal.invariant-loop-n
invariant-loop-n l =
    Grown l.market.case.now l.market.marks l.market.load l.self
    × ((j : ℕ) → j < l.market.case.now.sinks → round_at l.self.reached j ≤ l.n + 1)
    × (sum_to (at l.self.closed) l.market.case.now.sources ≡ 4294967295 * l.n)
    × (l.self.root ≡ l.initial.self.root)
    × (l.market.case.now ≡ l.initial.market.case.now)
    × (l.market.load ≡ l.initial.market.load)
