-- A solved case, written down by rows, is a plan.
use Rattle.std.proofs.Common.{◌≡◌, ℕ, ◌+◌, ◌<◌, List, [], ◌++◌, replicate, pos, neg_ℤ, ◌<ℤ◌, Some, Option, sym, ap, ◌∙◌, subst, arith, length}
use borrow.Author.Differences.{ints}
use Rattle.std.specs.List.{AllByRecursion}
use Rattle.std.proofs.lemmas.List.{append-nil}
use Rattle.ruler.specs.Meaning.{Meaning}
use Rattle.wires.specs.declared.terminal.Terminal.{Terminal}
use Rattle.wires.specs.Wiring.{area}
use Rattle.audit.specs.Audit.{row_at, mark_at}
use Rattle.transport.specs.declared.case.Case.{Case}
use Rattle.transport.specs.declared.plan.Plan.{Plan as Flow}
use Rattle.transport.specs.Transport.{at, cell}
use Rattle.planner.specs.declared.plan.Link.{Link}
use Rattle.planner.specs.declared.plan.Plan.{Plan}
use Rattle.planner.specs.declared.side.Side.TheVariants.{Source, Sink}
use Rattle.planner.specs.Ends.{amount, amount_at}
use Rattle.planner.specs.Listing.{Marked, link_at, all_links, all_cost}
use Rattle.planner.specs.Planned.{Planned, Runs, Ascending, links_of, site_of, mark_of, wires_of, sent, received}
use Rattle.planner.proofs.Listed.{links_all, links_ascending}
use Rattle.planner.proofs.Fairness.{mark_of_source, mark_of_sink, fit, reach}
use Rattle.planner.proofs.Seats.{Posed, spot, source_at, sink_at, tight_at}
use Rattle.planner.proofs.Dues.{id_row, sent_by, received_by, area_is_cost}
use Rattle.planner.proofs.Standing.{is_sink_from, is_source_from, source_gives, sink_takes}
use Rattle.planner.proofs.Weighed.{row_below}

module _ (m : Meaning) (rows : List (Option Terminal)) (sources sinks : List ℕ) (case : Case) (flow : Flow) (posed : Posed m rows sources sinks case flow) where
  runs : (i j : ℕ) → i < case.sources → j < case.sinks → 0 < cell flow.flow i j → Runs rows (link_at sources sinks flow.flow i j)
  runs i j h k some =
      let are = posed.solved.sources_are in
      let were = posed.solved.sinks_are in
      let source = source_at m rows sources sinks case flow posed i h in
      let sink = sink_at m rows sources sinks case flow posed j k in
      let gives = source.2 in
      let takes = sink.2 in
      let more = posed.gives.filled i (omega arith) in
      let less = posed.takes.filled j (omega arith) in
      record { from_source = is_source_from _ source.0 (ap (row_at rows) (id_row (at sources i)) ∙ source.1) (omega (arith, ints)); to_sink = is_sink_from _ sink.0 (ap (row_at rows) (id_row (at sinks j)) ∙ sink.1) (omega (arith, ints)); from_1 = omega arith; to_1 = omega arith; carries = omega arith }

  sends : (i : ℕ) (t : Terminal) → row_at rows i ≡ Some t → pos 0 <ℤ t.current → pos (sent (all_links sources sinks flow.flow case.sinks case.sources) (i + 1)) ≡ t.current
  sends i t e h =
      let gives = source_gives t h in
      let some = gives.0 in
      let is = ap (amount Source) e in
      let below = row_below rows i t e in
      let full = posed.upheld.full in
      let are = posed.solved.sources_are in
      let end = posed.gives.complete i (omega arith) (omega arith) in
      let inside = end.1 in
      ap (λ k. pos (sent (all_links sources sinks flow.flow case.sinks case.sources) (k + 1))) (sym end.2) ∙ ap pos (sent_by m rows sources sinks case flow posed end.0 (omega arith)) ∙ ap (λ k. pos (amount_at rows Source k)) end.2 ∙ ap pos is ∙ gives.1

  receives : (i : ℕ) (t : Terminal) → row_at rows i ≡ Some t → t.current <ℤ pos 0 → pos (received (all_links sources sinks flow.flow case.sinks case.sources) (i + 1)) ≡ neg_ℤ t.current
  receives i t e h =
      let takes = sink_takes t h in
      let some = takes.0 in
      let is = ap (amount Sink) e in
      let below = row_below rows i t e in
      let full = posed.upheld.full in
      let are = posed.solved.sinks_are in
      let end = posed.takes.complete i (omega arith) (omega arith) in
      let inside = end.1 in
      ap (λ k. pos (received (all_links sources sinks flow.flow case.sinks case.sources) (k + 1))) (sym end.2) ∙ ap pos (received_by m rows sources sinks case flow posed end.0 (omega arith)) ∙ ap (λ k. pos (amount_at rows Sink k)) end.2 ∙ ap pos is ∙ takes.1

  module _ (mid : List ℕ) (p : Plan) (first : Marked sources flow.source_mark (length sources) (replicate 64 0) mid) (second : Marked sinks flow.sink_mark (length sinks) mid p.marks) where
    tight : (i j : ℕ) → i < case.sources → j < case.sinks → 0 < cell flow.flow i j → mark_of p.marks (at sinks j + 1) ≡ mark_of p.marks (at sources i + 1) + m.span (site_of rows (at sources i + 1)) (site_of rows (at sinks j + 1))
    tight i j h k some =
        let are = posed.solved.sources_are in
        let were = posed.solved.sinks_are in
        let start = ap (mark_at p.marks) (id_row (at sources i)) ∙ mark_of_source m rows sources sinks case flow posed mid p.marks first second i (omega arith) in
        let stop = ap (mark_at p.marks) (id_row (at sinks j)) ∙ mark_of_sink m rows sources sinks case flow posed mid p.marks first second j (omega arith) in
        let along = ap (λ k. m.span (spot rows k) (site_of rows (at sinks j + 1))) (id_row (at sources i)) ∙ ap (λ k. m.span (spot rows (at sources i)) (spot rows k)) (id_row (at sinks j)) in
        let rise = tight_at m rows sources sinks case flow posed i j h k some in
        omega arith

    pub planned : links_of p ≡ all_links sources sinks flow.flow case.sinks case.sources ++ [] → p.area ≡ all_cost case flow.flow case.sources → Planned m rows p
    planned drafted costs = record { runs = on (Runs rows) runs; order = subst Ascending (sym lists) (links_ascending sources sinks flow.flow posed.solved.from posed.solved.to case.sinks case.sources (omega arith) (omega arith)); sends = λ i t e h. ap (λ ls. pos (sent ls (i + 1))) lists ∙ sends i t e h; receives = λ i t e h. ap (λ ls. pos (received ls (i + 1))) lists ∙ receives i t e h; fit = fit m rows sources sinks case flow posed mid p.marks first second; reach = reach m rows sources sinks case flow posed mid p.marks first second; tight = on (λ l. mark_of p.marks l.to ≡ mark_of p.marks l.from + m.span (site_of rows l.from) (site_of rows l.to)) tight; area_is = costs ∙ sym (area_is_cost m rows sources sinks case flow posed) ∙ sym (ap (λ ls. area m (wires_of rows ls)) lists) }
      where
        lists : links_of p ≡ all_links sources sinks flow.flow case.sinks case.sources
        lists = drafted ∙ append-nil (all_links sources sinks flow.flow case.sinks case.sources)

        on : (P : Link → Type 0) → ((i j : ℕ) → i < case.sources → j < case.sinks → 0 < cell flow.flow i j → P (link_at sources sinks flow.flow i j)) → AllByRecursion P (links_of p)
        on P h = subst (AllByRecursion P) (sym lists) (links_all sources sinks flow.flow P case.sinks case.sources h)
