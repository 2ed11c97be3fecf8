use Rattle.std.proofs.Common.{arith}
use Rattle.transport.specs.Transport.{at}
use Rattle.transport.proofs.Sums.{sum_at}
use Rattle.transport.proofs.load.Market.phase.Goals as goal

pub grow-source-requires-clause-stocked : goal.grow-source-requires-clause-stocked
grow-source-requires-clause-stocked c =
    let market = c.args.self.now in
    omega (arith, sum_at (at market.load.want) market.case.now.sinks c.args.root c.requires.0, c.requires.1, market.summed.even)
