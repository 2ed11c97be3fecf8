use Rattle.std.proofs.Common.{rules}
use Rattle.sheet.proofs.Lawfulness.{lawful}
use Rattle.sheet.proofs.Chains.{no_from}
use Rattle.sheet.proofs.sheet.Sheet.seat.Goals as goal

pub returns-in_err-seat_question-clause-after : goal.returns-in_err-seat_question-clause-after
returns-in_err-seat_question-clause-after g c = let no = no_from _ _ _ c.in_err-seat_question.ensures.asked in search (rules, no)

pub returns-in_err-seat_question-clause-plan : goal.returns-in_err-seat_question-clause-plan
returns-in_err-seat_question-clause-plan g c = let no = no_from _ _ _ c.in_err-seat_question.ensures.asked in search (rules, no)

pub returns-in_err-seat_question-clause-law : goal.returns-in_err-seat_question-clause-law
returns-in_err-seat_question-clause-law g c = let s = c.args.self.now in lawful _ (g.met.R.Ruler.metric s.ruler) s.net s.upheld s.planned

pub returns-clause-law : goal.returns-clause-law
returns-clause-law g c = let s = c.enter.new.self in lawful _ (g.met.R.Ruler.metric s.ruler) s.net s.upheld s.planned
