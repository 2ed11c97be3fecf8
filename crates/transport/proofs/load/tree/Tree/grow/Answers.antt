use Rattle.std.proofs.Common.{◌≡◌, ◌<◌, arith}
use Rattle.transport.specs.Transport.{at, sum_to}
use Rattle.transport.proofs.Growing.{can_rise, some_open}
use Rattle.transport.proofs.load.tree.Tree.grow.Goals as goal

pub raise-requires-clause-rises : goal.raise-requires-clause-rises
raise-requires-clause-rises c =
    let market = c.loop-n.market in
    let inv = c.loop-n.invariant in
    let stocked : 0 < sum_to (at market.load.stock) market.case.now.sources = rw (inv.5, inv.4) c.requires.stocked in
    can_rise market.case.now market.marks market.load market.limited market.marked market.tied c.loop-n.self c.nearest-source.result inv.0 stocked (rw inv.4 c.nearest-source.ensures)

pub unreachable-requires : goal.unreachable-requires
unreachable-requires c =
    let market = c.loop-n.market in
    let inv = c.loop-n.invariant in
    let stocked : 0 < sum_to (at market.load.stock) market.case.now.sources = rw (inv.5, inv.4) c.requires.stocked in
    let all : c.loop-n.n ≡ market.case.now.sources = rw inv.4 (omega arith) in
    some_open market.case.now market.marks market.load market.limited market.marked market.tied c.loop-n.self inv.0 stocked (omega (arith, inv.2))
