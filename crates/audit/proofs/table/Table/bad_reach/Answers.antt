use Rattle.std.proofs.Common.{sym, rules, arith}
use Rattle.audit.proofs.Lowest.{lowest_none, lowest_found}
use Rattle.audit.proofs.Numbered.{numbered_turn, numbered_end}
use Rattle.audit.proofs.table.Table.bad_reach.Goals as goal

pub returns : goal.returns
returns g c =
    let all = numbered_end c.args.self.now.rows c.args.marks.now c.loop-a.yielded _ _ c.next.new.self _ (search rules) (search rules) (search rules) c.loop-a.yielded_by (search rules) c.in-None.is c.next.ensures.steps in
    sym (lowest_none _ _ (λ k h. c.loop-a.invariant k (omega arith)))

pub returns-then-is_strained : goal.returns-then-is_strained
returns-then-is_strained g c =
    let turn = numbered_turn c.args.self.now.rows c.args.marks.now c.loop-a.yielded _ _ c.next.new.self _ (search rules) (search rules) (search rules) c.loop-a.yielded_by _ c.in-Some.is c.next.ensures.steps in
    sym (lowest_found _ _ _ (λ k h. c.loop-a.invariant k (omega arith)) (search (rules, turn)) (omega arith))
