use Rattle.std.proofs.Common.{None, ap, ◌∙◌, arith}
use borrow.Author.Differences.{ints}
use Rattle.std.proofs.lemmas.List.{take_all}
use Rattle.wires.specs.declared.terminal.Terminal.{Terminal}
use Rattle.wires.specs.Wiring.{due, share, seated}
use Rattle.wires.proofs.Sums.{seated_more}
use Rattle.audit.proofs.table.Table.due_at.Goals as goal

pub loop-row-preserved : goal.loop-row-preserved
loop-row-preserved c =
    let more = seated_more (λ (t : Terminal). share t.site c.args.site t.current) c.args.self.now.rows c.loop-row.row-index None (omega arith) in
    omega (arith, ints)

pub returns : goal.returns
returns c = c.loop-row.invariant.0 ∙ ap (λ rows. due (seated rows) c.args.site) (take_all c.loop-row.row-index c.args.self.now.rows (omega arith))
