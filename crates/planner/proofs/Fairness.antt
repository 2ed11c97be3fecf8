-- The marks by row pass the questions of the audit.
use Rattle.std.proofs.Common.{◌≡◌, ℕ, ◌+◌, ◌<◌, ◌≤◌, true, false, not, ◌⊎◌, List, replicate, Some, None, Option, sym, refl, ap, ◌∙◌, subst, inl, inr, arith, length}
use Rattle.std.proofs.lemmas.List.{get_or-replicate}
use Rattle.std.proofs.lemmas.Bool.{le-leb, eq-eqb, not_from_true}
use Rattle.ruler.specs.Meaning.{Meaning}
use Rattle.wires.specs.declared.terminal.Terminal.{Terminal}
use Rattle.audit.specs.declared.refusal.Refusal.TheVariants.{MarkOutOfRange}
use Rattle.audit.specs.Audit.{row_at, mark_at, mark_fits, too_far, marks_fit, marks_reach}
use Rattle.audit.specs.Questions.{row_allowed}
use Rattle.audit.proofs.Auditing.{reach_from_near}
use Rattle.audit.proofs.Passing.{clear_passes}
use Rattle.audit.proofs.Pins.{near_from_reaches}
use Rattle.transport.specs.declared.case.Case.{Case}
use Rattle.transport.specs.declared.plan.Plan.{Plan}
use Rattle.transport.specs.Transport.{at, cell}
use Rattle.planner.specs.declared.side.Side.TheVariants.{Source, Sink}
use Rattle.planner.specs.Ends.{amount, amount_at}
use Rattle.planner.specs.Listing.{Marked}
use Rattle.planner.specs.Planned.{site_of_row}
use Rattle.planner.proofs.Reaching.{Under, Reached, source_under, source_reached, reached_under}
use Rattle.planner.proofs.Seats.{Posed, spot, spot_known, source_known, sink_known, sends_some, receives_some, fair_at, tight_at}
use Rattle.planner.proofs.Standing.{not_both, either_way}
use Rattle.planner.proofs.Weighed.{row_below}

-- a seated row is a source's or a sink's
abbrev Seat : List ℕ → List ℕ → ℕ → Type 0
Seat sources sinks a = ((k : ℕ) × (k < length sources) × (at sources k ≡ a)) ⊎ ((k : ℕ) × (k < length sinks) × (at sinks k ≡ a))

-- a mark at a site, held to every source's mark
abbrev Stands : Meaning → List (Option Terminal) → List ℕ → ℕ → Plan → ℕ → ℕ → Type 0
Stands m rows sources n plan s x = Reached m n (λ i. spot rows (at sources i)) (at plan.source_mark) s x × Under m n (λ i. spot rows (at sources i)) (at plan.source_mark) s x

module _ (m : Meaning) (rows : List (Option Terminal)) (sources sinks : List ℕ) (case : Case) (plan : Plan) (posed : Posed m rows sources sinks case plan) where
  seat : (a : ℕ) (t : Terminal) → row_at rows a ≡ Some t → Seat sources sinks a
  seat a t e = go (either_way t (sym (ap row_allowed e) ∙ posed.ranged a))
    where
      below : a < 64
      below = let h = row_below rows a t e in let full = posed.upheld.full in omega arith

      go : (0 < amount Source (Some t)) ⊎ (0 < amount Sink (Some t)) → Seat sources sinks a
      go (inl h) = inl (posed.gives.complete a below (let is = ap (amount Source) e in omega arith))
      go (inr h) = inr (posed.takes.complete a below (let is = ap (amount Sink) e in omega arith))

  source_stands : (k : ℕ) → k < case.sources → Stands m rows sources case.sources plan (spot rows (at sources k)) (at plan.source_mark k)
  source_stands k h = (source_reached m case.sources (λ i. spot rows (at sources i)) (at plan.source_mark) posed.metric known k h, source_under m case.sources (λ i. spot rows (at sources i)) (at plan.source_mark) posed.metric known k (spot rows (at sinks wire.0)) (at plan.sink_mark wire.0) h (sink_known m rows sources sinks case plan posed wire.0 wire.1) (tight_at m rows sources sinks case plan posed k wire.0 h wire.1 wire.2) (λ i g. fair_at m rows sources sinks case plan posed i wire.0 g wire.1))
    where
      known : (i : ℕ) → i < case.sources → m.known (spot rows (at sources i)) ≡ true
      known = source_known m rows sources sinks case plan posed

      wire : (j : ℕ) × (j < case.sinks) × (0 < cell plan.flow k j)
      wire = sends_some m rows sources sinks case plan posed k h

  sink_stands : (k : ℕ) → k < case.sinks → Stands m rows sources case.sources plan (spot rows (at sinks k)) (at plan.sink_mark k)
  sink_stands k h =
      let wire = receives_some m rows sources sinks case plan posed k h in
      ((wire.0, wire.1, tight_at m rows sources sinks case plan posed wire.0 k wire.1 h wire.2), λ i g. fair_at m rows sources sinks case plan posed i k g h)

  module _ (mid marks : List ℕ) (first : Marked sources plan.source_mark (length sources) (replicate 64 0) mid) (second : Marked sinks plan.sink_mark (length sinks) mid marks) where
    pub mark_of_source : (k : ℕ) → k < length sources → mark_at marks (at sources k) ≡ at plan.source_mark k
    mark_of_source k h = second.rest (at sources k) apart ∙ first.here k h
      where
        apart : (l : ℕ) → l < length sinks → at sinks l ≡ at sources k → ⊥
        apart l g e = not_both (row_at rows (at sources k)) (posed.gives.filled k h) (let is = ap (amount_at rows Sink) e in let some = posed.takes.filled l g in omega arith)

    pub mark_of_sink : (k : ℕ) → k < length sinks → mark_at marks (at sinks k) ≡ at plan.sink_mark k
    mark_of_sink k h = second.here k h

    no_mark : (a : ℕ) → a < 64 → row_at rows a ≡ None → mark_at marks a ≡ 0
    no_mark a h e = second.rest a (λ k g s. let some = posed.takes.filled k g in let is = ap (amount_at rows Sink) s ∙ ap (amount Sink) e in omega arith) ∙ first.rest a (λ k g s. let some = posed.gives.filled k g in let is = ap (amount_at rows Source) s ∙ ap (amount Source) e in omega arith) ∙ get_or-replicate 64 a 0 0 h

    pub fit : marks_fit rows marks ≡ None
    fit = clear_passes (λ i. MarkOutOfRange (i + 1)) (λ i. not (mark_fits (row_at rows i) (mark_at marks i))) 64 (λ i h. not_from_true (mark_fits (row_at rows i) (mark_at marks i)) (go i h (row_at rows i) refl))
      where
        small : (a : ℕ) → Seat sources sinks a → mark_at marks a ≤ 4000000
        small a (inl s) =
            let g = s.1 in
            let are = posed.solved.sources_are in
            let is = sym (ap (mark_at marks) s.2) ∙ mark_of_source s.0 g in
            let low = posed.solved.optimal.source_marks s.0 (omega arith) in
            omega arith
        small a (inr s) =
            let g = s.1 in
            let are = posed.solved.sinks_are in
            let is = sym (ap (mark_at marks) s.2) ∙ mark_of_sink s.0 g in
            let low = posed.solved.optimal.sink_marks s.0 (omega arith) in
            omega arith

        go : (i : ℕ) → i < 64 → (o : Option Terminal) → row_at rows i ≡ o → mark_fits o (mark_at marks i) ≡ true
        go i h (Some t) e = le-leb (mark_at marks i) 4000000 (small i (seat i t e))
        go i h None e = eq-eqb (mark_at marks i) 0 (no_mark i h e)

    stands : (a : ℕ) (t : Terminal) → row_at rows a ≡ Some t → Stands m rows sources case.sources plan (spot rows a) (mark_at marks a)
    stands a t e = go (seat a t e)
      where
        go : Seat sources sinks a → Stands m rows sources case.sources plan (spot rows a) (mark_at marks a)
        go (inl s) = let are = posed.solved.sources_are in let g = s.1 in subst (λ b. Stands m rows sources case.sources plan (spot rows b) (mark_at marks b)) s.2 (subst (Stands m rows sources case.sources plan (spot rows (at sources s.0))) (sym (mark_of_source s.0 g)) (source_stands s.0 (omega arith)))
        go (inr s) = let are = posed.solved.sinks_are in let g = s.1 in subst (λ b. Stands m rows sources case.sources plan (spot rows b) (mark_at marks b)) s.2 (subst (Stands m rows sources case.sources plan (spot rows (at sinks s.0))) (sym (mark_of_sink s.0 g)) (sink_stands s.0 (omega arith)))

    pub reach : marks_reach m rows marks ≡ None
    reach = reach_from_near m rows marks posed.upheld.full (λ a b h k. go a b (row_at rows a) (row_at rows b) refl refl)
      where
        go : (a b : ℕ) (o p : Option Terminal) → row_at rows a ≡ o → row_at rows b ≡ p → too_far m o (mark_at marks a) p (mark_at marks b) ≡ false
        go a b None p r s = refl
        go a b (Some t) None r s = refl
        go a b (Some t) (Some u) r s =
            let near = reached_under m case.sources (λ i. spot rows (at sources i)) (at plan.source_mark) posed.metric (source_known m rows sources sinks case plan posed) (spot rows a) (spot rows b) (mark_at marks a) (mark_at marks b) (spot_known m rows sources sinks case plan posed a t r) (spot_known m rows sources sinks case plan posed b u s) (stands a t r).0 (stands b u s).1 in
            let same = ap (λ o. m.span (site_of_row o) (spot rows b)) r ∙ ap (λ o. m.span t.site (site_of_row o)) s in
            near_from_reaches m t u (mark_at marks a) (mark_at marks b) (sym (ap (λ o. m.known (site_of_row o)) r) ∙ spot_known m rows sources sinks case plan posed a t r) (sym (ap (λ o. m.known (site_of_row o)) s) ∙ spot_known m rows sources sinks case plan posed b u s) (omega arith)
