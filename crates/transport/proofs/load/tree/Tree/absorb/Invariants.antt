-- The sinks so far that the source serves are reached.
use Rattle.std.proofs.Common.{◌+◌}
use Rattle.transport.proofs.Growing.{Absorbing}
use Rattle.transport.proofs.load.tree.Tree.absorb.Given as goal

abbrev pub invariant-loop-j : goal.invariant-loop-j
invariant-loop-j l = Absorbing l.market.case.now l.market.marks l.market.load l.source (l.round + 1) l.j l.initial.self l.self
