use Rattle.std.proofs.Common.{rules, arith}
use Rattle.transport.proofs.Ends.{limits, marked_none, tied_none, summed_none}
use Rattle.transport.proofs.load.tree.phases.solve.Goals as goal

pub invariant_of-market : goal.invariant_of-market
invariant_of-market c =
    let case = c.args.case.now in
    let limited = limits case (search rules) in
    record { limited = limited; marked = marked_none case; tied = tied_none case case.supply case.demand; summed = summed_none case limited (omega arith) (omega arith) }
