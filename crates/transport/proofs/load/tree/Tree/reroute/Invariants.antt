-- All columns are right, and only the source at hand sends the amount less than it should. Rounds fall on the way.
use Rattle.transport.specs.Solver.{round_at}
use Rattle.transport.specs.Transport.{at}
use Rattle.transport.proofs.Routes.{Rerouting}
use Rattle.transport.proofs.load.tree.Tree.reroute.Given as goal

abbrev pub invariant-back : goal.invariant-back
invariant-back l = Rerouting l.case l.self l.amount l.initial.source l.initial.flow l.source l.flow

abbrev pub decreases-back : goal.decreases-back
decreases-back l = round_at l.self.reached (at l.self.toward l.source)
