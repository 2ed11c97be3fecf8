-- Upheld rows with a plan, or with none, are under the law.
use Rattle.std.proofs.Common.{◌≡◌, ℕ, ◌≤◌, Bool, true, false, cond, not, List, ℤ, pos, Some, None, Option, refl, ap, arith}
use Rattle.ruler.specs.Meaning.{Meaning, Metric}
use Rattle.wires.specs.declared.terminal.Terminal.{Terminal}
use Rattle.wires.specs.Sums.{sum}
use Rattle.wires.specs.Wiring.{Met, seated}
use Rattle.wires.proofs.Star.{settled}
use Rattle.audit.specs.declared.refusal.Refusal.TheVariants.{Unbalanced}
use Rattle.audit.specs.Audit.{differ}
use Rattle.audit.specs.Law.{Upheld}
use Rattle.audit.proofs.Auditing.{law_holds}
use Rattle.audit.proofs.Meeting.{differ_from_same, same_from_differ}
use Rattle.planner.specs.declared.plan.Plan.{Plan}
use Rattle.planner.specs.Planned.{IfPlanned, Planned}
use Rattle.planner.proofs.Leastness.{planned_least, planned_marks}
use Rattle.sheet.specs.declared.net.Net.{Net}
use Rattle.sheet.specs.Law.{Lawful, PlanLeast, PlanRefused}
use Rattle.sheet.specs.Questions.{currents_balance}

module _ (m : Meaning) (rows : List (Option Terminal)) (up : Upheld m rows) where
  abbrev balance : ℤ
  balance = sum (λ (t : Terminal). t.current) (seated rows)

  -- a balance that is refused is not 0
  unlevel : currents_balance rows ≡ Some Unbalanced → balance ≡ pos 0 → ⊥
  unlevel e level =
      let same = differ_from_same balance (pos 0) level in
      let passed : currents_balance rows ≡ None = ap (λ b. cond (not b) None (Some Unbalanced)) same in
      let z : ◌≡◌ {A = ℕ} 0 1 = cc in
      omega arith

  -- where a list for one k is out of reach, the balance is refused
  refused_from : (k : ℕ) → 1 ≤ k → (Met m (seated rows) k → ⊥) → currents_balance rows ≡ Some Unbalanced
  refused_from k some none = go (differ balance (pos 0)) refl
    where
      go : (b : Bool) → differ balance (pos 0) ≡ b → cond (not b) None (Some Unbalanced) ≡ Some Unbalanced
      go true e = refl
      go false e = absurd (none ((settled (seated rows) m up.known k some).0 (same_from_differ balance (pos 0) e)))

  refuses : PlanRefused m rows
  refuses = record { whole = (λ e met. unlevel e ((settled (seated rows) m up.known 1 (omega arith)).1 met), refused_from 1 (omega arith)); k_ths = (λ e k some met. unlevel e ((settled (seated rows) m up.known k some).1 met), λ none. refused_from 1 (omega arith) (none 1 (omega arith))) }

  least_plan : Metric m → (plan : Option Plan) → IfPlanned plan (Planned m rows) → IfPlanned plan (PlanLeast m rows)
  least_plan metric (Some p) planned = record { plan = planned; least = planned_least m metric rows up p planned p.full; marks = planned_marks m metric rows up p planned p.full }
  least_plan metric None planned = tt

pub lawful : (m : Meaning) → Metric m → (net : Net) → Upheld m net.table.rows → IfPlanned net.plan (Planned m net.table.rows) → Lawful m net
lawful m metric net up planned =
    let rows = net.table.rows in
    record { upheld = up; audit = law_holds m metric rows up; refusal = refuses m rows up; planned = least_plan m rows up metric net.plan planned }
