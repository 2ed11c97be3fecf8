use Rattle.std.proofs.Common.{ℕ, ◌+◌, List, take, Option, sym, subst, arith}
use Rattle.std.proofs.lemmas.List.{take_all}
use Rattle.wires.specs.declared.terminal.Terminal.{Terminal}
use Rattle.audit.specs.Audit.{unmet}
use Rattle.audit.specs.Search.{Looked}
use Rattle.audit.proofs.Touched.{looked_empty, looked_seat, found_lowest}
use Rattle.audit.proofs.table.audit.Filing.unmet_site.Goals as goal
use Rattle.audit.proofs.table.audit.Filing.unmet_site.Goals.{in-Some, in_default}

pub loop-row-init : goal.loop-row-init
loop-row-init c = c.unmet_end-found.ensures

pub loop-row-preserved : goal.loop-row-preserved
loop-row-preserved c =
    let rows = c.args.self.now.table.now.rows in
    let ws = c.args.self.now.wires.now in
    let bad = unmet rows ws in
    let P : Option ℕ → Type 0 = λ found. Looked bad found ws (take (c.loop-row.row-index + 1) rows) in
    elim c.match-row.branch [
      | in-Some w ↦ subst P (sym w.found-is) (looked_seat bad c.loop-row.found ws rows c.loop-row.row-index (omega arith) c.loop-row.invariant w.in-Some.terminal _ w.in-Some.is w.lower_unmet-found.ensures.lower w.lower_unmet-found.ensures.site)
      | in_default w ↦ subst P (sym w.found-is) (looked_empty bad c.loop-row.found ws rows c.loop-row.row-index (omega arith) c.loop-row.invariant w.in_default.is)
    ]

pub returns : goal.returns
returns c =
    let rows = c.args.self.now.table.now.rows in
    let P : List (Option Terminal) → Type 0 = λ seen. Looked (unmet rows c.args.self.now.wires.now) c.loop-row.found c.args.self.now.wires.now seen in
    found_lowest rows c.args.self.now.wires.now c.loop-row.found (subst P (take_all c.loop-row.row-index rows (omega arith)) c.loop-row.invariant)
