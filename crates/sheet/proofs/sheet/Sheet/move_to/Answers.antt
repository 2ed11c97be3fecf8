use Rattle.sheet.proofs.Lawfulness.{lawful}
use Rattle.sheet.proofs.sheet.Sheet.move_to.Goals as goal

pub returns-in_err-pin-clause-law : goal.returns-in_err-pin-clause-law
returns-in_err-pin-clause-law g c = let s = c.args.self.now in lawful _ (g.met.R.Ruler.metric s.ruler) s.net s.upheld s.planned

pub returns-in_err-site_question-clause-law : goal.returns-in_err-site_question-clause-law
returns-in_err-site_question-clause-law g c = let s = c.args.self.now in lawful _ (g.met.R.Ruler.metric s.ruler) s.net s.upheld s.planned

pub returns-clause-law : goal.returns-clause-law
returns-clause-law g c = let s = c.enter.new.self in lawful _ (g.met.R.Ruler.metric s.ruler) s.net s.upheld s.planned
