use Rattle.std.proofs.Common.{ap, ◌∙◌, arith}
use Rattle.audit.specs.Audit.{row_at}
use Rattle.transport.specs.Transport.{at}
use Rattle.planner.specs.Costs.{cost_between}
use Rattle.planner.proofs.Filling.{row_more}
use Rattle.planner.proofs.Gathering.{placed_is}
use Rattle.planner.proofs.ends.Ends.fill_row.Goals as goal

pub offset_bounds-self-to : goal.offset_bounds-self-to
offset_bounds-self-to g c = let inside = (placed_is _ _ _ c.args.self.now.takes).inside c.loop-j.j c.loop-j-test.true in omega arith

pub bounds-self-to : goal.bounds-self-to
bounds-self-to g c = let inside = (placed_is _ _ _ c.args.self.now.takes).inside c.loop-j.j c.loop-j-test.true in omega arith

pub overflow_mul-costs : goal.overflow_mul-costs
overflow_mul-costs g c = let few = (placed_is _ _ _ c.args.self.now.gives).few in omega arith

pub overflow_add-costs : goal.overflow_add-costs
overflow_add-costs g c = let few = (placed_is _ _ _ c.args.self.now.gives).few in let less = (placed_is _ _ _ c.args.self.now.takes).few in omega arith

pub offset_bounds-costs-i : goal.offset_bounds-costs-i
offset_bounds-costs-i g c = let few = (placed_is _ _ _ c.args.self.now.gives).few in let less = (placed_is _ _ _ c.args.self.now.takes).few in omega arith

pub bounds-costs-i : goal.bounds-costs-i
bounds-costs-i g c = let few = (placed_is _ _ _ c.args.self.now.gives).few in let less = (placed_is _ _ _ c.args.self.now.takes).few in omega arith

pub loop-j-preserved : goal.loop-j-preserved
loop-j-preserved g c =
    let ends = c.args.self.now in
    let rows = ends.table.now.rows in
    let sinks = ends.sinks.now in
    let few = (placed_is _ _ _ ends.gives).few in
    let less = (placed_is _ _ _ ends.takes).few in
    let m = g.R.Ruler.meaning c.args.ruler.now in
    let is = c.cost_of.ensures ∙ ap (λ from. cost_between m from (row_at rows (at sinks c.loop-j.j))) c.requires.row in
    row_more m rows ends.sources.now sinks c.args.i c.loop-j.j _ c.args.costs.now c.loop-j.costs c.loop-j.invariant (omega arith) (omega arith) is
