-- What the loads make of a file's contents.
use Rattle.std.specs.Prelude.{◌≡◌, ℕ, Bool, true, cond, List, [], ◌∷◌, map, None, Ok, Err, Option, Result}
use Rattle.ruler.specs.Chart.{Shows, blank, course}
use Rattle.ruler.specs.Map as the_map
use Rattle.ruler.specs.Meaning.{Meaning}
use Rattle.ruler.specs.declared.map.Map.{Map}
use Rattle.ruler.specs.declared.map.table.run.Step.{Step}
use Rattle.ruler.specs.declared.map.table.run.Step.TheVariants.{Begin, Leg}
use Rattle.wires.specs.declared.terminal.Terminal.{Terminal}
use Rattle.planner.specs.declared.plan.Plan.{Plan}
use Rattle.sheet.specs.Answers.{ledger_of}
use Rattle.sheet.specs.Ledger as the_ledger
use Rattle.sheet.specs.Questions.{bare}
use Rattle.sheet.specs.declared.call.Call.{Call}
use Rattle.sheet.specs.declared.call.Call.TheVariants.{Seat}
use Rattle.sheet.specs.declared.net.Net.{Net}
use Rattle.dimacs.specs.declared.document.Arc.{Arc}
use Rattle.dimacs.specs.declared.document.Node.{Node}
use Rattle.reader.specs.declared.refusal.Fault.TheVariants.{SheetInUse}
use Rattle.reader.specs.declared.refusal.Refusal.{Refusal}
use Rattle.dimacs.specs.Layout.{ArcLine, Document, LawfulFile, nodes_of}
use Rattle.reader.specs.Refusals.{refused}
use Rattle.dimacs.specs.Scan.{Draft, scanned, sites_of}

-- what a load answers
abbrev pub done : Result Draft Refusal → Result (Unit {0}) Refusal
done (Ok d) = Ok tt
done (Err e) = Err e

-- Every site will do for a file that only a map is loaded from.
abbrev pub anywhere : ℕ → Bool
anywhere site = true

-- a leg of length COST for each arc
abbrev pub leg_step : Arc → Step
leg_step a = Leg a.from a.to a.cost

abbrev pub legs_of : List Arc → List Step
legs_of as' = map leg_step as'

-- the map is begun with N sites and a ring of 4,000,000, and each arc is a leg
abbrev pub steps_of : Draft → List Step
steps_of d = Begin (sites_of d.problem) 4000000 ∷ legs_of d.arcs

-- the map after a load: what those steps chart, or what it was
abbrev pub MapAfter : Result Draft Refusal → Map → Map → Type 0
MapAfter (Ok d) before after = Shows after (course blank (steps_of d))
MapAfter (Err e) before after = after ≡ before

-- a seat call for each node, with its id as its site
abbrev pub seat_call : Node → Call
seat_call n = Seat n.id n.id n.flow

abbrev pub seats_of : List Node → List Call
seats_of ns = map seat_call ns

-- a sheet is loaded only where it is without terminals
abbrev pub sheet_scanned : Meaning → List (Option Terminal) → List ℕ → Result Draft Refusal
sheet_scanned m rows bs = cond (bare rows) (scanned m.known bs) (Err (refused SheetInUse 0 0))

-- the plan that a run of edits leaves: an accepted one takes it away
abbrev pub plan_left : Meaning → the_ledger.Ledger → Option Plan → List Call → Option Plan
plan_left m l p [] = p
plan_left m l p (c ∷ cs) = plan_left m (the_ledger.fed m l c) (the_ledger.unless (the_ledger.asked m l c) p None) cs

-- what a run of seats leaves of a net: the rows and the state that the ledger has, and of its plan what they leave
pub record Seated (m : Meaning) (before after : Net) (calls : List Call) : Type 0 where
  pub ledger : ledger_of after ≡ the_ledger.course m (ledger_of before) calls
  pub plan : after.plan ≡ plan_left m (ledger_of before) before.plan calls

-- the net after a load: what the seats of its nodes leave, or what it was
abbrev pub NetAfter : Meaning → Result Draft Refusal → Net → Net → Type 0
NetAfter m (Ok d) before after = Seated m before after (seats_of d.nodes)
NetAfter m (Err e) before after = after ≡ before

-- the legs of a document's arcs, the last one first
abbrev pub laid_on : List the_map.Leg → List ArcLine → List the_map.Leg
laid_on legs [] = legs
laid_on legs (a ∷ as') = laid_on (the_map.leg_of a.from a.to a.cost ∷ legs) as'

-- the map of a document: its sites, a ring of 4,000,000, and its arcs as legs
abbrev pub Draws : Map → Document → Type 0
Draws m doc = the_map.Stands m doc.sites 4000000 (laid_on [] doc.arcs)

-- A map is loaded exactly from the files that say a document within the limits, and is then the map of that document.
pub record LoadsMap (bs : List ℕ) (r : Result (Unit {0}) Refusal) (after : Map) : Type 0 where
  pub accepted : r ≡ Ok tt → (doc : Document) × LawfulFile anywhere bs doc × Draws after doc
  pub accepts : (doc : Document) → LawfulFile anywhere bs doc → (r ≡ Ok tt) × Draws after doc

-- A sheet without terminals is loaded exactly from such files, and is then as the seat calls of the document leave it.
pub record LoadsSheet (m : Meaning) (bs : List ℕ) (r : Result (Unit {0}) Refusal) (before after : Net) : Type 0 where
  pub accepted : r ≡ Ok tt → (doc : Document) × LawfulFile m.known bs doc × Seated m before after (seats_of (nodes_of doc))
  pub accepts : bare before.table.rows ≡ true → (doc : Document) → LawfulFile m.known bs doc → (r ≡ Ok tt) × Seated m before after (seats_of (nodes_of doc))
