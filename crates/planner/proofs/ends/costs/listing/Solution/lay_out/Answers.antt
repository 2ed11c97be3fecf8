use Rattle.std.proofs.Common.{arith}
use Rattle.planner.proofs.Gathering.{gathered_is}
use Rattle.planner.proofs.Laying.{planned}
use Rattle.planner.proofs.ends.costs.listing.Solution.lay_out.Goals as goal

pub returns : goal.returns
returns c m metric upheld case_of =
    let self = c.args.self.now in
    let table = self.ends.table.now in
    let draft = c.lay_links-draft.ensures in
    let costs = draft.costs in
    planned m table.rows _ _ self.case.now self.plan.now (record { metric = metric; upheld = upheld; ranged = table.ranged; gives = gathered_is _ _ _ self.ends.gives; takes = gathered_is _ _ _ self.ends.takes; case_of = case_of; solved = self.solved }) c.mark_rows-by_source.result _ c.mark_rows-by_source.ensures c.mark_rows.ensures draft.lists (omega arith)
