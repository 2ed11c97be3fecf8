use Rattle.std.proofs.Common.{ap, ◌∙◌, arith}
use borrow.Author.Differences.{ints}
use Rattle.std.proofs.lemmas.List.{take_all}
use Rattle.wires.specs.Wiring.{flow, net}
use Rattle.wires.proofs.Sums.{sum_more}
use Rattle.audit.specs.Audit.{no_wire}
use Rattle.audit.proofs.table.audit.Filing.net_at.Goals as goal

pub loop-wire-preserved : goal.loop-wire-preserved
loop-wire-preserved c =
    let more = sum_more (flow c.args.site) c.args.self.now.wires.now c.loop-wire.wire-index no_wire c.loop-wire-test.true in
    omega (arith, ints)

pub returns : goal.returns
returns c = let all = ap (λ ws. net ws c.args.site) (take_all c.loop-wire.wire-index c.args.self.now.wires.now c.loop-wire-test.false) in c.loop-wire.invariant.0 ∙ all
