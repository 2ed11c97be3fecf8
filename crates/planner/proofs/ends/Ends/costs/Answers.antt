use Rattle.std.proofs.Common.{arith}
use Rattle.planner.proofs.Filling.{costs_more}
use Rattle.planner.proofs.Gathering.{placed_is}
use Rattle.planner.proofs.ends.Ends.costs.Goals as goal

pub offset_bounds-self-from : goal.offset_bounds-self-from
offset_bounds-self-from g c = let inside = (placed_is _ _ _ c.args.self.now.gives).inside c.loop-i.i c.loop-i-test.true in omega arith

pub bounds-self-from : goal.bounds-self-from
bounds-self-from g c = let inside = (placed_is _ _ _ c.args.self.now.gives).inside c.loop-i.i c.loop-i-test.true in omega arith

pub loop-i-preserved : goal.loop-i-preserved
loop-i-preserved g c = costs_more _ _ _ _ c.loop-i.i _ _ (placed_is _ _ _ c.args.self.now.takes).few c.loop-i.invariant c.fill_row.ensures
