use Rattle.std.proofs.Common.{arith}
use Rattle.planner.proofs.Filling.{amounts_more}
use Rattle.planner.proofs.Gathering.{placed_is}
use Rattle.planner.proofs.ends.costs.amounts_of.Goals as goal

pub offset_bounds-table-row : goal.offset_bounds-table-row
offset_bounds-table-row c = let inside = (placed_is _ _ _ c.requires).inside c.loop-k.k c.loop-k-test.true in omega arith

pub bounds-table-row : goal.bounds-table-row
bounds-table-row c = let inside = (placed_is _ _ _ c.requires).inside c.loop-k.k c.loop-k-test.true in omega arith

pub bounds-amounts-k : goal.bounds-amounts-k
bounds-amounts-k c = let few = (placed_is _ _ _ c.requires).few in omega arith

pub loop-k-preserved : goal.loop-k-preserved
loop-k-preserved c =
    let few = (placed_is _ _ _ c.requires).few in
    amounts_more c.args.table.now.rows c.args.rows.now c.args.side c.loop-k.k _ c.loop-k.amounts c.loop-k.invariant (omega arith) c.amount.ensures
