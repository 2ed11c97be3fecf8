-- The law of a sheet, over any ruler and after any run of calls.
use Rattle.std.specs.Prelude.{◌≡◌, ℕ, ◌≤◌, ◌↔◌, List, Some, None, Option}
use Rattle.ruler.specs.Meaning.{Meaning}
use Rattle.wires.specs.declared.terminal.Terminal.{Terminal}
use Rattle.wires.specs.declared.wire.Wire.{Wire}
use Rattle.wires.specs.Wiring.{Least, Met, seated}
use Rattle.audit.specs.declared.refusal.Refusal.TheVariants.{Unbalanced}
use Rattle.audit.specs.Audit.{audit_asked}
use Rattle.audit.specs.Law.{Law, Readable, Upheld}
use Rattle.planner.specs.declared.plan.Plan.{Plan}
use Rattle.planner.specs.Planned.{IfPlanned, Planned, links_of, wires_of}
use Rattle.sheet.specs.declared.net.Net.{Net}
use Rattle.sheet.specs.Questions.{currents_balance}

-- Plan, called next, is refused exactly when no list meets the terminals: none in whole currents, and none in k-ths for any k.
pub record PlanRefused (m : Meaning) (rows : List (Option Terminal)) : Type 0 where
  pub whole : (currents_balance rows ≡ Some Unbalanced) ↔ (Met m (seated rows) 1 → ⊥)
  pub k_ths : (currents_balance rows ≡ Some Unbalanced) ↔ ((k : ℕ) → 1 ≤ k → Met m (seated rows) k → ⊥)

-- The wires of a plan have their form and order, meet the terminals and have the area that area answers; no list that meets
-- them, through any known sites, in whole currents or in k-ths, has less; and the plan's own marks make audit accept every
-- list that is as good.
pub record PlanLeast (m : Meaning) (rows : List (Option Terminal)) (p : Plan) : Type 0 where
  pub plan : Planned m rows p
  pub least : Least m (seated rows) (wires_of rows (links_of p))
  pub marks : (ws : List Wire) → Readable m ws → Least m (seated rows) ws → audit_asked m rows ws p.marks ≡ None

-- What stands at the opening and after every call.
pub record Lawful (m : Meaning) (net : Net) : Type 0 where
  pub upheld : Upheld m net.table.rows
  -- audit, called next, accepts with some marks exactly the least lists
  pub audit : Law m net.table.rows
  pub refusal : PlanRefused m net.table.rows
  pub planned : IfPlanned net.plan (PlanLeast m net.table.rows)
