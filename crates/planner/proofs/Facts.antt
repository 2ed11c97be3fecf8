-- What is known of rows and of a plan is a fact: there is one way at most to know it, so that a type may keep it.
use Rattle.std.proofs.Common.{List, [], ◌∷◌, Some, None, Option}
use Rattle.std.specs.List.{AllByRecursion-prop}
use Rattle.std.specs.Coded.{coded_option}
use base.Stored.{Coded-set}
use denote.Struct.Props.{props}
use mathlib.Core.HLevel.{×_prop, Unit-prop}
use Rattle.ruler.specs.Meaning.{Meaning}
use Rattle.wires.specs.declared.terminal.Terminal.{Terminal}
use Rattle.audit.specs.Law.{Upheld}
use Rattle.audit.specs.declared.refusal.Refusal.{Refusal}
use Rattle.audit.specs.contracts.refusal.Refusal as row
use Rattle.planner.specs.declared.plan.Link.{Link}
use Rattle.planner.specs.declared.plan.Plan.{Plan}
use Rattle.planner.specs.Planned.{IfPlanned, Planned, Runs, Ascending}

pub Upheld-prop : (m : Meaning) (rows : List (Option Terminal)) → IsProp (Upheld m rows)
Upheld-prop m rows = hlevel (props, AllByRecursion-prop)

Asked-set : IsSet (Option Refusal)
Asked-set = Coded-set (coded_option row.the_row.coded)

Runs-prop : (rows : List (Option Terminal)) (l : Link) → IsProp (Runs rows l)
Runs-prop rows l = hlevel props

Ascending-prop : (ls : List Link) → IsProp (Ascending ls)
Ascending-prop [] = Unit-prop
Ascending-prop (a ∷ []) = Unit-prop
Ascending-prop (a ∷ b ∷ ls) = ×_prop (hlevel props) (Ascending-prop (b ∷ ls))

Planned-prop : (m : Meaning) (rows : List (Option Terminal)) (p : Plan) → IsProp (Planned m rows p)
Planned-prop m rows p = hlevel (props, Asked-set, Ascending-prop, Runs-prop, AllByRecursion-prop)

pub IfPlanned-prop : (m : Meaning) (rows : List (Option Terminal)) (plan : Option Plan) → IsProp (IfPlanned plan (Planned m rows))
IfPlanned-prop m rows (Some p) = Planned-prop m rows p
IfPlanned-prop m rows None = Unit-prop
