use Rattle.sheet.proofs.Lawfulness.{lawful}
use Rattle.sheet.proofs.sheet.Sheet.lift.Goals as goal

pub returns-in_err-seated-clause-law : goal.returns-in_err-seated-clause-law
returns-in_err-seated-clause-law g c = let s = c.args.self.now in lawful _ (g.met.R.Ruler.metric s.ruler) s.net s.upheld s.planned

pub returns-clause-law : goal.returns-clause-law
returns-clause-law g c = let s = c.enter.new.self in lawful _ (g.met.R.Ruler.metric s.ruler) s.net s.upheld s.planned
