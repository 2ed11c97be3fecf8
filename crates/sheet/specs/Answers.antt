-- What calls answer on a sheet: as the ledger has them, and of its plan, which the ledger leaves undecided, what it holds.
use Rattle.std.specs.Prelude.{ℕ, is_some, Some, None, Ok, Err, Option, Result, slice_get}
use Rattle.std.specs.Option.{option_map}
use Rattle.ruler.specs.Meaning.{Meaning}
use Rattle.wires.specs.Wiring.{area}
use Rattle.audit.specs.declared.refusal.Refusal.{Refusal}
use Rattle.audit.specs.declared.refusal.Refusal.TheVariants.{NotPlanned}
use Rattle.planner.specs.declared.plan.Plan as stored
use Rattle.planner.specs.Planned.{links_of, mark_of}
use Rattle.sheet.specs.declared.call.Answer.{Answer}
use Rattle.sheet.specs.declared.call.Answer.TheVariants as answers
use Rattle.sheet.specs.declared.call.Call.{Call}
use Rattle.sheet.specs.declared.call.Call.TheVariants.{Seat, Move, Alter, Lift, Plan, Audit, Area, Wire, Mark}
use Rattle.sheet.specs.declared.net.Net.{Net}
use Rattle.sheet.specs.Ledger.{Ledger, asked}

-- a net as its ledger has it
abbrev pub ledger_of : Net → Ledger
ledger_of net = record { rows = net.table.rows; planned = is_some net.plan }

-- the plan, or the no of the question that asks for it
abbrev pub given : Option stored.Plan → Result stored.Plan Refusal
given (Some p) = Ok p
given None = Err NotPlanned

-- the area of a plan, its wire by number, and its mark of an id
abbrev pub told_area : Option stored.Plan → ℕ
told_area (Some p) = p.area
told_area None = 0

abbrev pub told_wire : Option stored.Plan → ℕ → Option (ℕ × ℕ × ℕ)
told_wire (Some p) n = option_map (λ l. (l.from, l.to, l.current)) (slice_get (links_of p) n)
told_wire None n = None

abbrev pub told_mark : Option stored.Plan → ℕ → ℕ
told_mark (Some p) id = mark_of p.marks id
told_mark None id = 0

-- what an accepted call answers
abbrev pub granted : Meaning → Net → Call → Answer
granted m net (Seat id site current) = answers.Done
granted m net (Move id site) = answers.Done
granted m net (Alter id current) = answers.Done
granted m net (Lift id) = answers.Done
granted m net Plan = answers.Done
granted m net (Audit wires marks) = answers.Area (area m wires.now)
granted m net Area = answers.Area (told_area net.plan)
granted m net (Wire number) = answers.Wire (told_wire net.plan number)
granted m net (Mark id) = answers.Mark (told_mark net.plan id)

abbrev pub refused_or : Option Refusal → Answer → Answer
refused_or (Some r) answer = answers.Refused r
refused_or None answer = answer

-- what a call answers
abbrev pub answered : Meaning → Net → Call → Answer
answered m net call = refused_or (asked m (ledger_of net) call) (granted m net call)
