use Rattle.sheet.proofs.Lawfulness.{lawful}
use Rattle.dimacs.proofs.load.load_sheet.Goals as goal

pub returns-then-not-is_bare-clause-law : goal.returns-then-not-is_bare-clause-law
returns-then-not-is_bare-clause-law g c = let s = c.args.sheet.now in lawful _ (g.met.R.Ruler.metric s.ruler) s.net s.upheld s.planned

pub returns-clause-law : goal.returns-clause-law
returns-clause-law g c = let s = c.fill.new.sheet in lawful _ (g.met.R.Ruler.metric s.ruler) s.net s.upheld s.planned
