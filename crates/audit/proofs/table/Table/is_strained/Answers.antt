use Rattle.std.proofs.Common.{is_some, sym, ap, rules, arith}
use Rattle.std.proofs.lemmas.Slice.Zip.{zip_turn, zip_end}
use Rattle.audit.specs.Audit.{row_at, mark_at, too_far}
use Rattle.audit.proofs.Lowest.{lowest_none, lowest_found}
use Rattle.audit.proofs.table.Table.is_strained.Goals as goal

pub returns : goal.returns
returns g c =
    let rows = c.args.self.now.rows in
    let marks = c.args.marks.now in
    let all = zip_end rows marks c.loop-row.yielded _ _ c.next.new.self _ (search rules) (search rules) c.loop-row.yielded_by c.in-None.is c.next.ensures.steps in
    sym (ap is_some (lowest_none (λ b. too_far (g.R.Ruler.meaning c.args.ruler.now) c.args.from c.args.mark (row_at rows b) (mark_at marks b)) 64 (λ k h. c.loop-row.invariant k (omega arith))))

pub returns-then-is_too_far : goal.returns-then-is_too_far
returns-then-is_too_far g c =
    let turn = zip_turn c.args.self.now.rows c.args.marks.now c.loop-row.yielded _ _ c.next.new.self _ (search rules) (search rules) c.loop-row.yielded_by _ c.in-Some.is c.next.ensures.steps in
    sym (ap is_some (lowest_found _ _ _ c.loop-row.invariant (search (rules, turn)) (omega arith)))
