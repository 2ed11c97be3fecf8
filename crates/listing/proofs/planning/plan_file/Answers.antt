use Rattle.std.proofs.Common.{◌≡◌, ℕ, Ok, Err, rules, sym, ◌∙◌, subst, arith}
use Rattle.ruler.specs.Map.{mapped}
use Rattle.sheet.specs.Law.{Lawful}
use Rattle.sheet.specs.Answers.{ledger_of}
use Rattle.sheet.specs.Ledger.{asked}
use Rattle.sheet.specs.declared.call.Call.TheVariants.{Plan}
use Rattle.dimacs.specs.Loads.{LoadsMap}
use Rattle.listing.specs.Files.{Planned, Refused}
use Rattle.listing.proofs.Filing.{never_refused, plan_done, plan_refused, told}
use Rattle.listing.proofs.planning.plan_file.Goals as goal

pub returns-in_err-load_sheet : goal.returns-in_err-load_sheet
returns-in_err-load_sheet c =
    let bs = c.args.file.now in
    let opened = c.open-sheet.ensures in
    let drawn = subst (λ m. LoadsMap bs (Ok tt) m) (sym opened.kept) c.in_ok-load_map.ensures.document in
    let never = never_refused bs c.open-sheet.result.ruler _ opened.ledger drawn _ _ c.in_err-load_sheet.ensures.document in
    let z : ◌≡◌ {A = ℕ} 0 1 = cc never in
    absurd (omega arith)

pub returns-in_err-map_err : goal.returns-in_err-map_err
returns-in_err-map_err c =
    let bs = c.args.file.now in
    let opened = c.open-sheet.ensures in
    let map = c.open-sheet.result.ruler in
    let e = c.in_err-map_err.field-0.0 in
    let drawn = subst (λ m. LoadsMap bs (Ok tt) m) (sym opened.kept) c.in_ok-load_map.ensures.document in
    let answer : Err e ≡ told (asked (mapped map) (ledger_of c.load_sheet.new.sheet.net) Plan) = search rules in
    let why : Refused bs e = plan_refused bs map _ opened.ledger drawn _ _ c.in_ok-load_sheet.ensures.document e answer in
    search rules

pub returns : goal.returns
returns c =
    let bs = c.args.file.now in
    let opened = c.open-sheet.ensures in
    let map = c.open-sheet.result.ruler in
    let loaded = c.in_ok-load_sheet.ensures in
    let planned = c.plan.ensures in
    let last = c.plan.new.self in
    let drawn = subst (λ m. LoadsMap bs (Ok tt) m) (sym opened.kept) c.in_ok-load_map.ensures.document in
    let same : last.ruler ≡ map = planned.same ∙ loaded.same in
    let answer : Ok tt ≡ told (asked (mapped map) (ledger_of c.load_sheet.new.sheet.net) Plan) = search rules in
    subst (λ m. Planned bs m last.net) (sym same) (plan_done bs map _ opened.ledger drawn _ _ loaded.document last.net answer planned.after (subst (λ m. Lawful (mapped m) last.net) same planned.law))
