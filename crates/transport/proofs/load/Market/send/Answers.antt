use Rattle.std.proofs.Common.{◌≡◌, ◌-◌, ◌<◌, ◌≤◌, ap, arith}
use Rattle.transport.specs.Solver.{room_of, room_at}
use Rattle.transport.specs.Transport.{at}
use Rattle.transport.proofs.Writes.{put_set}
use Rattle.transport.proofs.Routes.{way_of, sent, still_summed, still_tied}
use Rattle.transport.proofs.load.Market.send.Goals as goal

pub reroute-requires : goal.reroute-requires
reroute-requires c =
    let market = c.args.self.now in
    let tree = c.args.tree.now in
    let source = c.args.source in
    let ahead : room_at tree.reached (at tree.toward source) ≡ c.unwrap-ahead.result.room = ap room_of c.unwrap-ahead.ensures in
    let supply = market.limited.supplies source c.requires.inside.0 in
    let all = market.summed.sent source c.requires.inside.0 in
    record {
      way = way_of market.case.now market.marks market.load tree market.limited c.requires.grown;
      inside = (c.requires.inside.0, (c.requires.inside.1.0, omega (arith, c.min-amount.ensures)));
      small = (omega (arith, c.min-amount.ensures), λ i l. omega (arith, market.summed.sent i l, market.limited.supplies i l));
    }

pub invariant_of-self : goal.invariant_of-self
invariant_of-self c =
    let market = c.args.self.now in
    let load = market.load in
    let tree = c.args.tree.now in
    let source = c.args.source in
    let amount = c.min-amount.result in
    let g = c.requires.grown in
    let fits : amount ≤ at load.stock source = omega (arith, c.min-amount.ensures) in
    let stock = put_set 0 load.stock source (at load.stock source - amount) (omega (arith, market.limited.few, market.summed.stocks)) in
    let want = put_set 0 load.want tree.root (at load.want tree.root - amount) (omega (arith, market.limited.few, market.summed.wants)) in
    record {
      limited = market.limited;
      marked = market.marked;
      tied = still_tied market.case.now market.marks load tree source amount _ _ _ g c.requires.inside.0 fits c.reroute.ensures stock want market.tied;
      summed = still_summed market.case.now market.marks load tree source amount _ _ _ g c.requires.inside.0 fits c.reroute.ensures stock want market.summed;
    }

pub returns-clause-sent : goal.returns-clause-sent
returns-clause-sent c =
    let market = c.args.self.now in
    let load = market.load in
    let tree = c.args.tree.now in
    let source = c.args.source in
    let amount = c.min-amount.result in
    let g = c.requires.grown in
    let fits : amount ≤ at load.stock source = omega (arith, c.min-amount.ensures) in
    let ahead : room_at tree.reached (at tree.toward source) ≡ c.unwrap-ahead.result.room = ap room_of c.unwrap-ahead.ensures in
    let some : 0 < amount = omega (arith, c.min-amount.ensures, c.requires.inside.1.1, g.roomy (at tree.toward source) (g.inside source c.requires.inside.0) (g.met source c.requires.inside.0)) in
    sent market.case.now market.marks load tree source amount _ _ _ g c.requires.inside.0 fits c.reroute.ensures (put_set 0 load.stock source (at load.stock source - amount) (omega (arith, market.limited.few, market.summed.stocks))) (put_set 0 load.want tree.root (at load.want tree.root - amount) (omega (arith, market.limited.few, market.summed.wants))) some market.summed
