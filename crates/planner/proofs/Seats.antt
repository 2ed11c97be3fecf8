-- A solved case of a net, read by the rows of its sources and sinks.
use Rattle.std.proofs.Common.{◌≡◌, ℕ, ◌+◌, ◌<◌, ◌≤◌, true, List, pos, neg_ℤ, Some, Option, refl, ap, ◌∙◌, arith}
use Rattle.ruler.specs.Meaning.{Meaning, Metric}
use Rattle.wires.specs.declared.terminal.Terminal.{Terminal}
use Rattle.audit.specs.Audit.{row_at}
use Rattle.audit.specs.Law.{Upheld}
use Rattle.audit.specs.Questions.{row_allowed}
use Rattle.audit.proofs.Pins.{row_from_seated}
use Rattle.transport.specs.declared.case.Case.{Case}
use Rattle.transport.specs.declared.plan.Plan.{Plan}
use Rattle.transport.specs.Transport.{at, cell, cost_of, sum_to, within, Optimal}
use Rattle.planner.specs.Costs.{CaseOf}
use Rattle.planner.specs.declared.side.Side.TheVariants.{Source, Sink}
use Rattle.planner.specs.Ends.{amount_at}
use Rattle.planner.specs.Listing.{Solved}
use Rattle.planner.specs.Planned.{site_of_row}
use Rattle.transport.proofs.Sums.{sum_some}
use Rattle.planner.proofs.Gathering.{Gathered, gathered_placed}
use Rattle.planner.proofs.Standing.{source_in, sink_in, cost_is_span}

-- what is known of the net, and of the case that was made of it
pub record Posed (m : Meaning) (rows : List (Option Terminal)) (sources sinks : List ℕ) (case : Case) (plan : Plan) : Type 0 where
  pub metric : Metric m
  pub upheld : Upheld m rows
  pub ranged : (k : ℕ) → row_allowed (row_at rows k) ≡ true
  pub gives : Gathered rows Source 64 sources
  pub takes : Gathered rows Sink 64 sinks
  pub case_of : CaseOf m rows sources sinks case
  pub solved : Solved case sources sinks plan

-- what solves the case of gathered rows is solved by their numbers
pub solved_case : (m : Meaning) (rows : List (Option Terminal)) (sources sinks : List ℕ) (case : Case) (plan : Plan) → Gathered rows Source 64 sources → Gathered rows Sink 64 sinks → CaseOf m rows sources sinks case → within case ≡ true → Optimal case plan → Solved case sources sinks plan
solved_case m rows sources sinks case plan gives takes is fits optimal = record { sources_are = is.sources_are; sinks_are = is.sinks_are; from = gathered_placed rows Source 64 sources gives refl; to = gathered_placed rows Sink 64 sinks takes refl; fits = fits; cost_size = is.costs.size; optimal = optimal }

-- the site in a row
abbrev pub spot : List (Option Terminal) → ℕ → ℕ
spot rows k = site_of_row (row_at rows k)

module _ (m : Meaning) (rows : List (Option Terminal)) (sources sinks : List ℕ) (case : Case) (plan : Plan) (posed : Posed m rows sources sinks case plan) where
  pub spot_known : (k : ℕ) (t : Terminal) → row_at rows k ≡ Some t → m.known (spot rows k) ≡ true
  spot_known k t e = ap (λ o. m.known (site_of_row o)) e ∙ row_from_seated (λ t. m.known t.site ≡ true) rows k t e posed.upheld.known

  pub source_at : (i : ℕ) → i < case.sources → (t : Terminal) × (row_at rows (at sources i) ≡ Some t) × (t.current ≡ pos (amount_at rows Source (at sources i)))
  source_at i h = let is = posed.solved.sources_are in source_in (row_at rows (at sources i)) (posed.gives.filled i (omega arith))

  pub sink_at : (j : ℕ) → j < case.sinks → (t : Terminal) × (row_at rows (at sinks j) ≡ Some t) × (neg_ℤ t.current ≡ pos (amount_at rows Sink (at sinks j)))
  sink_at j h = let is = posed.solved.sinks_are in sink_in (row_at rows (at sinks j)) (posed.takes.filled j (omega arith))

  pub source_known : (i : ℕ) → i < case.sources → m.known (spot rows (at sources i)) ≡ true
  source_known i h = let seat = source_at i h in spot_known (at sources i) seat.0 seat.1

  pub sink_known : (j : ℕ) → j < case.sinks → m.known (spot rows (at sinks j)) ≡ true
  sink_known j h = let seat = sink_at j h in spot_known (at sinks j) seat.0 seat.1

  pub cost_at : (i j : ℕ) → i < case.sources → j < case.sinks → cost_of case i j ≡ m.span (spot rows (at sources i)) (spot rows (at sinks j))
  cost_at i j h k =
      let sources_are = posed.solved.sources_are in
      let sinks_are = posed.solved.sinks_are in
      let source = source_at i h in
      let sink = sink_at j k in
      posed.case_of.costs.each i j (omega arith) (omega arith) ∙ cost_is_span m (row_at rows (at sources i)) (row_at rows (at sinks j)) source.0 sink.0 source.1 sink.1 (source_known i h) (sink_known j k)

  -- a source sends what its row gives, and a sink receives what its row takes
  pub sent_is : (i : ℕ) → i < case.sources → sum_to (λ j. cell plan.flow i j) case.sinks ≡ amount_at rows Source (at sources i)
  sent_is i h = let is = posed.solved.sources_are in posed.solved.optimal.sent i h ∙ posed.case_of.supply.each i (omega arith)

  pub received_is : (j : ℕ) → j < case.sinks → sum_to (λ i. cell plan.flow i j) case.sources ≡ amount_at rows Sink (at sinks j)
  received_is j h = let is = posed.solved.sinks_are in posed.solved.optimal.received j h ∙ posed.case_of.demand.each j (omega arith)

  -- so each has a wire
  pub sends_some : (i : ℕ) → i < case.sources → (j : ℕ) × (j < case.sinks) × (0 < cell plan.flow i j)
  sends_some i h =
      let are = posed.solved.sources_are in
      let is = sent_is i h in
      let some = posed.gives.filled i (omega arith) in
      sum_some (λ j. cell plan.flow i j) case.sinks (omega arith)

  pub receives_some : (j : ℕ) → j < case.sinks → (i : ℕ) × (i < case.sources) × (0 < cell plan.flow i j)
  receives_some j h =
      let are = posed.solved.sinks_are in
      let is = received_is j h in
      let some = posed.takes.filled j (omega arith) in
      sum_some (λ i. cell plan.flow i j) case.sources (omega arith)

  -- the marks in lengths
  pub fair_at : (i j : ℕ) → i < case.sources → j < case.sinks → at plan.sink_mark j ≤ at plan.source_mark i + m.span (spot rows (at sources i)) (spot rows (at sinks j))
  fair_at i j h k = let fair = posed.solved.optimal.fair i j h k in let cost = cost_at i j h k in omega arith

  pub tight_at : (i j : ℕ) → i < case.sources → j < case.sinks → 0 < cell plan.flow i j → at plan.sink_mark j ≡ at plan.source_mark i + m.span (spot rows (at sources i)) (spot rows (at sinks j))
  tight_at i j h k some = let tight = posed.solved.optimal.tight i j h k some in let cost = cost_at i j h k in omega arith
