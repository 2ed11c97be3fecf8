-- Audit accepts a readable list with some marks exactly when the list is least.
use Rattle.std.proofs.Common.{◌≡◌, ℕ, ◌+◌, ◌<◌, not, eqb, List, length, pos, Some, None, Option, sym, ap, ◌∙◌, subst, arith}
use Rattle.std.proofs.ByRecursion.{All-from_get_or}
use Rattle.std.proofs.lemmas.Bool.{not-false, not-true, not_from_true, not_from_false, eqb-true, eq-eqb, and_parts, cond-true}
use Rattle.ruler.specs.Meaning.{Meaning, Metric}
use Rattle.wires.specs.declared.terminal.Terminal.{Terminal}
use Rattle.wires.specs.declared.wire.Wire.{Wire}
use Rattle.wires.specs.Marks.{terminals, value}
use Rattle.wires.specs.Duality.{Certificate}
use Rattle.wires.specs.Wiring.{area, lies, Meets, Lies, Over, Seated, Least, seated}
use Rattle.wires.proofs.WeakDuality.{certified}
use Rattle.wires.proofs.Completeness.{complete}
use Rattle.audit.specs.declared.refusal.Refusal.TheVariants.{MarkCount, WireSite, MarkOutOfRange, MarksApart, AreaDiffers}
use Rattle.audit.specs.Audit.{no_wire, wire_at, row_at, mark_at, mark_fits, differ, too_far, strained, pins, marks_are_64, sites_are_known, marks_fit, marks_reach, area_is_value, audit_questions, audit_asked}
use Rattle.audit.specs.Law.{Upheld, Readable, Accepted, Law}
use Rattle.audit.proofs.Meeting.{same_from_differ, differ_from_same, met_from_meets, meets_from_met}
use Rattle.audit.proofs.Passing.{Passed, ask_passed, chain_passes, chain_passed, clear_passes, clear_passed, clear_absent, absent_clear}
use Rattle.audit.proofs.Pins.{Near, spread, terminals_pins, feasible_from_near, length_spread, pins_spread, spread_fits, spread_near}

over_from_known : (m : Meaning) (ws : List Wire) → sites_are_known m ws ≡ None → Over m ws
over_from_known m ws e = All-from_get_or (Lies m) ws no_wire lie
  where
    lie : (i : ℕ) → i < length ws → Lies m (wire_at ws i)
    lie i h =
        let both = not-false (lies m (wire_at ws i)) (clear_passed WireSite (λ i. not (lies m (wire_at ws i))) (length ws) e i h) in
        let ends = and_parts (m.known (wire_at ws i).start) (m.known (wire_at ws i).end) both in
        record { leaves = ends.0; arrives = ends.1 }

-- of no row is another marked too far above, asked row by row
pub reach_from_near : (m : Meaning) (rows : List (Option Terminal)) (marks : List ℕ) → length rows ≡ 64 → Near m rows marks → marks_reach m rows marks ≡ None
reach_from_near m rows marks full near = clear_passes (λ a. MarksApart (a + 1)) (strained m rows marks) 64 (λ a h. clear_absent (λ b. too_far m (row_at rows a) (mark_at marks a) (row_at rows b) (mark_at marks b)) 64 (λ b k. near a b (omega arith) (omega arith)))

pub near_from_reach : (m : Meaning) (rows : List (Option Terminal)) (marks : List ℕ) → length rows ≡ 64 → marks_reach m rows marks ≡ None → Near m rows marks
near_from_reach m rows marks full e a b h k = absent_clear (λ b. too_far m (row_at rows a) (mark_at marks a) (row_at rows b) (mark_at marks b)) 64 (clear_passed (λ a. MarksApart (a + 1)) (strained m rows marks) 64 e a (omega arith)) b (omega arith)

-- the marks of a least list, laid out by row, pass every question
accepted : (m : Meaning) → Metric m → (rows : List (Option Terminal)) → Upheld m rows → (ws : List Wire) → Readable m ws → Least m (seated rows) ws → Accepted m rows ws
accepted m metric rows up ws readable best = record { marks = marks; passes = chain_passes (audit_questions m rows ws marks) (count, (readable.few, (readable.carry, (readable.lie, (fit, (met_from_meets rows ws best.meets, (reach, (same, tt)))))))) }
  where
    shown : Certificate m (seated rows) (area m ws)
    shown = complete m metric ws (seated rows) up.known best

    marks : List ℕ
    marks = spread rows shown.pins

    count : marks_are_64 marks ≡ None
    count = cond-true (eqb (length marks) 64) None (Some MarkCount) (eq-eqb (length marks) 64 (length_spread rows shown.pins ∙ up.full))

    fit : marks_fit rows marks ≡ None
    fit = clear_passes (λ i. MarkOutOfRange (i + 1)) (λ i. not (mark_fits (row_at rows i) (mark_at marks i))) 64 (λ i h. not_from_true (mark_fits (row_at rows i) (mark_at marks i)) (spread_fits rows shown.pins shown.within i))

    reach : marks_reach m rows marks ≡ None
    reach = reach_from_near m rows marks up.full (spread_near m rows shown.pins shown.marked up.known shown.feasible)

    same : area_is_value m rows ws marks ≡ None
    same = let e = differ_from_same (pos (area m ws)) (value (pins rows marks)) (sym (ap value (pins_spread rows shown.pins shown.marked) ∙ shown.tight)) in cond-true (not (differ (pos (area m ws)) (value (pins rows marks)))) None (Some AreaDiffers) (not_from_false (differ (pos (area m ws)) (value (pins rows marks))) e)

-- marks that pass every question certify the list
least : (m : Meaning) → Metric m → (rows : List (Option Terminal)) → Upheld m rows → (ws : List Wire) (marks : List ℕ) → audit_asked m rows ws marks ≡ None → Least m (seated rows) ws
least m metric rows up ws marks e =
    let known = subst (Seated m) (sym seats) up.known in
    let meet = subst (λ ts. Meets 1 ts ws) (sym seats) (meets_from_met m metric rows ws up.known over passed.1.1.1.1.1.0) in
    let near = near_from_reach m rows marks up.full passed.1.1.1.1.1.1.0 in
    subst (λ ts. Least m ts ws) seats (certified m metric ws (pins rows marks) known (feasible_from_near m rows marks near) over meet tight)
  where
    passed : Passed (audit_questions m rows ws marks)
    passed = chain_passed (audit_questions m rows ws marks) e

    seats : terminals (pins rows marks) ≡ seated rows
    seats = terminals_pins rows marks (eqb-true (length marks) 64 (ask_passed (eqb (length marks) 64) MarkCount passed.0) ∙ sym up.full)

    over : Over m ws
    over = over_from_known m ws passed.1.1.1.0

    tight : value (pins rows marks) ≡ pos (area m ws)
    tight =
        let far = differ (pos (area m ws)) (value (pins rows marks)) in
        sym (same_from_differ (pos (area m ws)) (value (pins rows marks)) (not-true far (ask_passed (not far) AreaDiffers passed.1.1.1.1.1.1.1.0)))

pub law_holds : (m : Meaning) → Metric m → (rows : List (Option Terminal)) → Upheld m rows → Law m rows
law_holds m metric rows up ws readable = (accepted m metric rows up ws readable, λ a. least m metric rows up ws a.marks a.passes)
