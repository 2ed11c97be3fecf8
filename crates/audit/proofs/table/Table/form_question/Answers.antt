use Rattle.std.proofs.Common.{arith}
use Rattle.audit.proofs.Lowest.{lowest_below}
use Rattle.audit.proofs.table.Table.form_question.Goals as goal

pub overflow_cast-result : goal.overflow_cast-result
overflow_cast-result g c = let below = lowest_below _ _ _ c.in-Some.ensures in omega arith

pub overflow_cast-result-in-Some-bad_site : goal.overflow_cast-result-in-Some-bad_site
overflow_cast-result-in-Some-bad_site g c = let below = lowest_below _ _ _ c.in-Some-bad_site.ensures in omega arith

pub overflow_cast-result-in-Some-bad_mark : goal.overflow_cast-result-in-Some-bad_mark
overflow_cast-result-in-Some-bad_mark g c = let below = lowest_below _ _ _ c.in-Some-bad_mark.ensures in omega arith

pub overflow_add-result : goal.overflow_add-result
overflow_add-result g c = let below = lowest_below _ _ _ c.in-Some-bad_mark.ensures in omega arith

pub overflow_cast-result-in-Some-bad_reach : goal.overflow_cast-result-in-Some-bad_reach
overflow_cast-result-in-Some-bad_reach g c = let below = lowest_below _ _ _ c.in-Some-bad_reach.ensures in omega arith

pub overflow_add-result-in-Some-bad_reach : goal.overflow_add-result-in-Some-bad_reach
overflow_add-result-in-Some-bad_reach g c = let below = lowest_below _ _ _ c.in-Some-bad_reach.ensures in omega arith
