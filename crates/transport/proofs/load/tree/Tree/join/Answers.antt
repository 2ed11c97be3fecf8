use Rattle.std.proofs.Common.{ℕ, ◌≡◌, min, Some, None, ap, arith}
use Rattle.transport.specs.declared.load.tree.Reached.{Reached}
use Rattle.transport.specs.Solver.{room_of, room_at}
use Rattle.transport.specs.Transport.{at, cell}
use Rattle.transport.proofs.Writes.{put_set_as}
use Rattle.transport.proofs.Growing.{joined}
use Rattle.transport.proofs.load.tree.Tree.join.Goals as goal

pub returns : goal.returns
returns c =
    let tree = c.args.self.now in
    let market = c.args.market.now in
    let source = c.args.source in
    let from : ℕ → Reached = λ room. record { round = c.args.round; parent = source; room = room } in
    let ahead : room_at tree.reached (at tree.toward source) ≡ c.unwrap-ahead.result.room = ap room_of c.unwrap-ahead.ensures in
    let room : c.min.result ≡ min (room_at tree.reached (at tree.toward source)) (cell market.load.flow source c.args.sink) = omega (arith, c.min.ensures) in
    joined market.case.now market.marks market.load market.limited market.marked tree source c.args.sink c.args.round _ _ _ c.requires.grown
    c.requires.inside.0 c.requires.inside.1 c.requires.serves.0 c.requires.serves.1 c.requires.anew.0 c.requires.anew.1
    (put_set_as None tree.reached c.args.sink (Some (from c.min.result)) _ (omega arith) (ap (λ r. Some (from r)) room))
    c.relax.ensures
