use Rattle.std.proofs.Common.{◌-◌, ◌∙◌, length-set}
use Rattle.sheet.proofs.Rows.{set_allowed}
use Rattle.sheet.proofs.Upholding.{set_upheld}
use Rattle.sheet.proofs.sheet.Sheet.enter.Goals as goal

pub invariant_of-self : goal.invariant_of-self
invariant_of-self g c =
    let open_sheet = c.reopen.new.self in
    let table = open_sheet.net.table in
    let i = c.args.id - 1 in
    ((length-set table.rows i c.args.row ∙ table.full, (set_allowed table.rows i c.args.row c.requires.allowed table.ranged, tt)), (set_upheld _ table.rows i c.args.row (rw c.reopen.ensures.same c.requires.known) open_sheet.upheld, (rw c.reopen.ensures.plan tt, tt)))
