use Rattle.std.proofs.Common.{rules}
use Rattle.transport.proofs.Growing.{risen}
use Rattle.transport.proofs.load.tree.Tree.raise.Goals as goal

pub invariant_of-market : goal.invariant_of-market
invariant_of-market c =
    let market = c.args.market.now in
    let now =
    risen market.case.now market.marks market.load market.limited market.marked market.tied c.args.self.now c.args.source c.raise_marks.new.marks c.raise_marks-2.new.marks _ c.requires.grown c.requires.rises
    (record { raised = λ i l. let new = c.raise_marks.ensures.raised i l in (new.0, search rules, new.2); size = c.raise_marks.ensures.size })
    c.lower_slacks.ensures
    (record { raised = λ j l. let new = c.raise_marks-2.ensures.raised j l in (new.0, search rules, new.2); size = c.raise_marks-2.ensures.size }) in
    record { limited = market.limited; marked = now.0; tied = now.1; summed = market.summed }

pub returns-clause-tightened : goal.returns-clause-tightened
returns-clause-tightened c =
    let market = c.args.market.now in
    (risen market.case.now market.marks market.load market.limited market.marked market.tied c.args.self.now c.args.source c.raise_marks.new.marks c.raise_marks-2.new.marks _ c.requires.grown c.requires.rises
    (record { raised = λ i l. let new = c.raise_marks.ensures.raised i l in (new.0, search rules, new.2); size = c.raise_marks.ensures.size })
    c.lower_slacks.ensures
    (record { raised = λ j l. let new = c.raise_marks-2.ensures.raised j l in (new.0, search rules, new.2); size = c.raise_marks-2.ensures.size })).2
