use Rattle.std.proofs.Common.{◌≡◌, true, ℤ, pos, ◌-ℤ◌, ◌*ℤ◌, neg_ℤ, sym, ap, ◌∙◌, arith, w32, w64, SFits, to_z, of_z, rules}
use borrow.Author.Differences.{ints}
use Rattle.wires.specs.declared.terminal.Terminal.{Terminal}
use Rattle.wires.specs.Marks.{worth}
use Rattle.wires.specs.Wiring.{row_adds}
use Rattle.audit.specs.Questions.{allowed, row_allowed}
use Rattle.audit.proofs.Worth.{worth_bounds, worth_fits}
use Rattle.audit.proofs.table.audit.worth_of.Goals as goal

-- the two factors as the machine has them
abbrev taken : goal.After-from-in-Some → ℤ
taken c = to_z w64 (of_z w64 (pos 0 -ℤ to_z w64 (of_z w64 c.from.result)))

abbrev weight : goal.After-from-in-Some → ℤ
weight c = to_z w64 (of_z w64 c.from-in-Some.result)

current_allowed : (c : goal.After-from-in-Some) → allowed c.in-Some.terminal.current ≡ true
current_allowed c = ap row_allowed (sym c.in-Some.is) ∙ c.requires

product : (c : goal.After-from-in-Some) → SFits w64 (taken c *ℤ weight c) × (to_z w64 (of_z w64 (taken c *ℤ weight c)) ≡ neg_ℤ c.in-Some.terminal.current *ℤ pos c.args.mark)
product c =
    let current = c.in-Some.terminal.current in
    let fits : SFits w32 current = search rules in
    worth_fits (taken c) (weight c) current c.args.mark (omega (arith, ints)) (omega (arith, ints)) (current_allowed c) (omega arith)

pub overflow_mul-result : goal.overflow_mul-result
overflow_mul-result c = (product c).0

pub returns-in-Some : goal.returns-in-Some
returns-in-Some c =
    let bounds = worth_bounds c.in-Some.terminal.current c.args.mark (current_allowed c) (omega arith) in
    let row = ap (row_adds (λ (t : Terminal). worth (record { terminal = t; mark = c.args.mark }))) c.in-Some.is in
    record { worth = (product c).1 ∙ sym row; low = rw (product c).1 bounds.0; high = rw (product c).1 bounds.1 }
