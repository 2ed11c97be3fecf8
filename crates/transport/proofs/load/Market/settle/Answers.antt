use Rattle.transport.proofs.Ends.{optimal}
use Rattle.transport.proofs.load.Market.settle.Goals as goal

pub returns : goal.returns
returns c =
    let market = c.loop-root.self in
    rw (← c.loop-root.invariant)
    (optimal market.case.now market.load.flow market.load.stock market.load.want market.marks.source market.marks.sink c.loop-root.phases market.limited market.marked market.tied market.summed c.in_default.ensures)
