use Rattle.std.proofs.Common.{◌≡◌, pos, sym, ◌∙◌, rules}
use Rattle.std.proofs.lemmas.Bool.{false≢true}
use Rattle.wires.specs.declared.terminal.Terminal.{Terminal}
use Rattle.wires.specs.Sums.{sum}
use Rattle.wires.specs.Wiring.{seated}
use Rattle.planner.proofs.Gathering.{gathered_is}
use Rattle.planner.proofs.Seats.{solved_case}
use Rattle.planner.proofs.Within.{case_within}
use Rattle.planner.proofs.ends.costs.listing.laying.planning.plan_of.Goals as goal

pub unreachable-requires : goal.unreachable-requires
unreachable-requires g c =
    let table = c.args.table.now in
    let m = g.R.Ruler.meaning c.args.ruler.now in
    let even : sum (λ (t : Terminal). t.current) (seated table.rows) ≡ pos 0 = search rules in
    let gives = gathered_is _ _ _ (c.as_slice.ensures.value ∙ c.rows_on-sources.ensures) in
    let takes = gathered_is _ _ _ (c.as_slice-2.ensures.value ∙ c.rows_on-sinks.ensures) in
    let fits = case_within m (g.met.R.Ruler.metric c.args.ruler.now) table.rows table.full table.ranged _ _ gives takes _ c.case-case.ensures even in
    false≢true (c.in_default.ensures.absent ∙ fits)

pub invariant_of-solution : goal.invariant_of-solution
invariant_of-solution g c =
    let m = g.R.Ruler.meaning c.args.ruler.now in
    let gives = gathered_is _ _ _ (c.as_slice.ensures.value ∙ c.rows_on-sources.ensures) in
    let takes = gathered_is _ _ _ (c.as_slice-2.ensures.value ∙ c.rows_on-sinks.ensures) in
    let found = c.in-Some.ensures in
    record { solved = solved_case m c.args.table.now.rows _ _ _ _ gives takes c.case-case.ensures (sym found.absent) found.optimal }
