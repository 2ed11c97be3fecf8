use Rattle.std.proofs.Common.{rules}
use Rattle.dimacs.proofs.Questions.{still_refused}
use Rattle.dimacs.proofs.draft.Draft.enter_arc.Goals as goal

pub returns-in_err-arc_question-clause-entry : goal.returns-in_err-arc_question-clause-entry
returns-in_err-arc_question-clause-entry c = still_refused _ _ _ _ _ _ (search rules) c.in_err-arc_question.ensures.asked
