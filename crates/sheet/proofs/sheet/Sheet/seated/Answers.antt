use Rattle.std.proofs.Common.{◌-◌, sym, ap, ◌∙◌, rules}
use Rattle.sheet.specs.Questions.{row_known}
use Rattle.sheet.proofs.Chains.{answer_from}
use Rattle.sheet.proofs.Upholding.{kept_row}
use Rattle.sheet.proofs.sheet.Sheet.seated.Goals as goal

pub returns : goal.returns
returns g c =
    let sheet = c.args.self.now in
    let m = g.R.Ruler.meaning sheet.ruler in
    let row = answer_from _ _ _ c.in_ok-terminal.ensures in
    record { found = search rules; known = ap (row_known m) (sym c.in-Some.is ∙ row) ∙ kept_row m sheet.net.table.rows (c.args.id - 1) sheet.upheld.known }
