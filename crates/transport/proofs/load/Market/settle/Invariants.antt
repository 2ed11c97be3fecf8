-- The case stays; what is wanted in all falls with each phase.
use Rattle.std.proofs.Common.{◌≡◌}
use Rattle.transport.specs.Transport.{at, sum_to}
use Rattle.transport.proofs.load.Market.settle.Given as goal

abbrev pub invariant-loop-root : goal.invariant-loop-root
invariant-loop-root l = l.self.case.now ≡ l.initial.self.case.now

abbrev pub decreases-loop-root : goal.decreases-loop-root
decreases-loop-root l = sum_to (at l.self.load.want) l.self.case.now.sinks
