use Rattle.std.proofs.Common.{rules}
use Rattle.dimacs.proofs.Questions.{still_refused}
use Rattle.dimacs.proofs.draft.Draft.enter_node.Goals as goal

pub returns-in_err-node_question-clause-entry : goal.returns-in_err-node_question-clause-entry
returns-in_err-node_question-clause-entry g c = still_refused _ _ _ _ _ _ (search rules) c.in_err-node_question.ensures.asked
