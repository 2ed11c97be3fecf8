use Rattle.std.proofs.Common.{◌+◌, ◌-◌, ◌*◌, ◌≡◌, set, refl, ap, arith}
use Rattle.transport.specs.Solver.{parent_of, parent_at}
use Rattle.transport.specs.Transport.{at, cell}
use Rattle.transport.proofs.Writes.{put_set}
use Rattle.transport.proofs.Routes.{rerouting_more, rerouted, gives_little}
use Rattle.transport.proofs.load.tree.Tree.reroute.Goals as goal

pub overflow_add-flow-in-back : goal.overflow_add-flow-in-back
overflow_add-flow-in-back c =
    let little = gives_little c.args.case.now c.args.self.now c.args.amount c.args.source c.args.flow.now c.requires.way c.back.source c.back.flow c.back.invariant c.requires.small.0 c.requires.small.1 in
    omega arith

pub returns-then-sink-self : goal.returns-then-sink-self
returns-then-sink-self c =
    let tree = c.args.self.now in
    let source = c.back.source in
    let sink = at tree.toward source in
    let inside = c.requires.way.inside source c.back.invariant.inside in
    rerouted c.args.case.now tree c.args.amount c.args.source c.args.flow.now c.requires.way source sink refl c.back.flow _ c.back.invariant
    (put_set 0 c.back.flow (64 * source + sink) (cell c.back.flow source sink + c.args.amount) (omega (arith, c.back.invariant.size, c.back.invariant.inside))) c.if-sink-self.true

pub back-preserved : goal.back-preserved
back-preserved c =
    let tree = c.args.self.now in
    let source = c.back.source in
    let sink = at tree.toward source in
    let way = c.requires.way in
    let inside = way.inside source c.back.invariant.inside in
    let met = way.met source c.back.invariant.inside in
    let parent = parent_at tree.reached sink in
    let kept = (way.back sink inside met c.if-sink-self.false).inside in
    let flow1 = c.back.flow in
    let flow2 = set flow1 (64 * source + sink) (cell flow1 source sink + c.args.amount) in
    let give = put_set 0 flow1 (64 * source + sink) (cell flow1 source sink + c.args.amount) (omega (arith, c.back.invariant.size, c.back.invariant.inside)) in
    let from : parent ≡ c.unwrap-source.result.parent = ap parent_of c.unwrap-source.ensures in
    rw (← from)
    (rerouting_more c.args.case.now tree c.args.amount c.args.source c.args.flow.now way source sink refl flow1 flow2 c.back.invariant give _ c.if-sink-self.false
    (put_set 0 flow2 (64 * parent + sink) (cell flow2 parent sink - c.args.amount) (omega (arith, give.size, c.back.invariant.size))))
