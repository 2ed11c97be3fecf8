use Rattle.std.proofs.Common.{◌∙◌}
use Rattle.dimacs.proofs.Seating.{seated_more}
use Rattle.dimacs.proofs.load.seat_nodes.Goals as goal

pub loop-node-preserved : goal.loop-node-preserved
loop-node-preserved g c =
    let made = c.seat_node.ensures in
    let so = c.loop-node.invariant in
    (made.same ∙ so.0, seated_more g.R.Ruler.meaning c.args.sheet.now.ruler _ _ _ _ c.args.nodes.now c.loop-node.node-index _ c.loop-node-test.true so.0 so.1 made.ledger made.plan)
