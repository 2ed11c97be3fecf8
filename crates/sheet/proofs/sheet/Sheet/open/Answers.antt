use Rattle.std.proofs.Common.{rules}
use Rattle.sheet.proofs.Lawfulness.{lawful}
use Rattle.sheet.proofs.sheet.Sheet.open.Goals as goal

pub returns-clause-law : goal.returns-clause-law
returns-clause-law g c =
    let m = g.R.Ruler.meaning c.args.ruler in
    search (rules, lawful m (g.met.R.Ruler.metric c.args.ruler))
