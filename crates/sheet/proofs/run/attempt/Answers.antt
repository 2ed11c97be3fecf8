use Rattle.sheet.proofs.Lawfulness.{lawful}
use Rattle.sheet.proofs.run.attempt.Goals as goal

pub returns-in-Audit-clause-law : goal.returns-in-Audit-clause-law
returns-in-Audit-clause-law g c = let s = c.args.sheet.now in lawful _ (g.met.R.Ruler.metric s.ruler) s.net s.upheld s.planned

pub returns-in-Area-clause-law : goal.returns-in-Area-clause-law
returns-in-Area-clause-law g c = let s = c.args.sheet.now in lawful _ (g.met.R.Ruler.metric s.ruler) s.net s.upheld s.planned

pub returns-in-Wire-clause-law : goal.returns-in-Wire-clause-law
returns-in-Wire-clause-law g c = let s = c.args.sheet.now in lawful _ (g.met.R.Ruler.metric s.ruler) s.net s.upheld s.planned

pub returns-in-Mark-clause-law : goal.returns-in-Mark-clause-law
returns-in-Mark-clause-law g c = let s = c.args.sheet.now in lawful _ (g.met.R.Ruler.metric s.ruler) s.net s.upheld s.planned
