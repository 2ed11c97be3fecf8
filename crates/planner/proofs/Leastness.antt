-- A plan's wires are least, and its marks make audit accept every least list.
use Rattle.std.proofs.Common.{◌≡◌, ℕ, ◌+◌, ◌-◌, true, not, eqb, List, [], ◌∷◌, length, ℤ, pos, ◌-ℤ◌, ◌*ℤ◌, neg_ℤ, Some, None, Option, sym, refl, ap, ◌∙◌, subst, arith}
use borrow.Author.Differences.{ints}
use lib.IntN.{*ℤ_comm, pos-*ℤ-pos}
use Rattle.std.specs.List.{AllByRecursion}
use Rattle.std.proofs.ByRecursion.{All-map, All-weaker}
use Rattle.std.proofs.lemmas.Bool.{eq-eqb, not_from_false, cond-true}
use Rattle.ruler.specs.Meaning.{Meaning, Metric}
use Rattle.wires.specs.declared.terminal.Terminal.{Terminal}
use Rattle.wires.specs.declared.wire.Wire.{Wire}
use Rattle.wires.specs.Sums.{sum}
use Rattle.wires.specs.Marks.{terminals, worth, value}
use Rattle.wires.specs.Wiring.{share, net, due, area, Meets, Lies, Over, Seated, Least, seated, row_adds}
use Rattle.wires.proofs.Integers.{one_mul, mul_neg, neg_mul, mul_sub}
use Rattle.wires.proofs.Shares.{share_mul}
use Rattle.wires.proofs.WeakDuality.{certified}
use Rattle.audit.specs.declared.refusal.Refusal.TheVariants.{MarkCount, AreaDiffers}
use Rattle.audit.specs.Audit.{row_at, mark_at, pins, differ, marks_are_64, area_is_value, audit_questions, audit_asked}
use Rattle.audit.specs.Law.{Upheld, Readable}
use Rattle.audit.proofs.Auditing.{near_from_reach}
use Rattle.audit.proofs.Meeting.{differ_from_same, met_from_meets}
use Rattle.audit.proofs.Passing.{chain_passes}
use Rattle.audit.proofs.Pins.{terminals_pins, row_from_seated, feasible_from_near}
use Rattle.planner.specs.declared.plan.Link.{Link}
use Rattle.planner.specs.declared.plan.Plan.{Plan}
use Rattle.planner.specs.Planned.{Planned, Runs, links_of, site_of_row, site_of, mark_of, laid, wires_of}
use Rattle.planner.proofs.Carried.{sum_to, sum_to_same, seated_sum, value_sum}
use Rattle.planner.proofs.Standing.{source_from, sink_from}
use Rattle.planner.proofs.Weighed.{weighed}

-- a share of an amount is the amount times a share of 1
share_one : (a s : ℕ) (z : ℤ) → share a s z ≡ z *ℤ share a s (pos 1)
share_one a s z = ap (share a s) (sym (*ℤ_comm z (pos 1) ∙ one_mul z)) ∙ share_mul a s z (pos 1)

-- what counts at the site s of 1 that stands in a row
abbrev stands : List (Option Terminal) → ℕ → ℕ → ℤ
stands rows s i = share (site_of_row (row_at rows i)) s (pos 1)

net_laid : (rows : List (Option Terminal)) (ls : List Link) (s : ℕ) → net (wires_of rows ls) s ≡ sum (λ l. pos l.current *ℤ (stands rows s (l.from - 1) -ℤ stands rows s (l.to - 1))) ls
net_laid rows [] s = refl
net_laid rows (l ∷ ls) s =
    let ih = net_laid rows ls s in
    let a = share_one (site_of rows l.from) s (pos l.current) in
    let b = share_one (site_of rows l.to) s (pos l.current) in
    let e = mul_sub (pos l.current) (stands rows s (l.from - 1)) (stands rows s (l.to - 1)) in
    omega (arith, ints)

due_laid : (rows : List (Option Terminal)) (s : ℕ) → due (seated rows) s ≡ sum_to (λ i. row_adds (λ t. t.current *ℤ stands rows s i) (row_at rows i)) (length rows)
due_laid rows s = seated_sum (λ t. share t.site s t.current) rows ∙ sum_to_same (λ i. row_adds (λ t. share t.site s t.current) (row_at rows i)) (λ i. row_adds (λ t. t.current *ℤ stands rows s i) (row_at rows i)) (length rows) (λ i h. at (row_at rows i))
  where
    at : (o : Option Terminal) → row_adds (λ t. share t.site s t.current) o ≡ row_adds (λ t. t.current *ℤ share (site_of_row o) s (pos 1)) o
    at (Some t) = share_one t.site s t.current
    at None = refl

-- the area, where marks rise by just the length along every wire
area_laid : (m : Meaning) (rows : List (Option Terminal)) (marks : List ℕ) (ls : List Link) → AllByRecursion (λ l. mark_of marks l.to ≡ mark_of marks l.from + m.span (site_of rows l.from) (site_of rows l.to)) ls → sum (λ l. pos l.current *ℤ (neg_ℤ (pos (mark_at marks (l.from - 1))) -ℤ neg_ℤ (pos (mark_at marks (l.to - 1))))) ls ≡ pos (area m (wires_of rows ls))
area_laid m rows marks [] tight = refl
area_laid m rows marks (l ∷ ls) tight =
    let ih = area_laid m rows marks ls tight.1 in
    let d = m.span (site_of rows l.from) (site_of rows l.to) in
    let rise = tight.0 in
    let e : neg_ℤ (pos (mark_at marks (l.from - 1))) -ℤ neg_ℤ (pos (mark_at marks (l.to - 1))) ≡ pos d = omega (arith, ints) in
    let f = ap (λ z. pos l.current *ℤ z) e ∙ pos-*ℤ-pos l.current d in
    omega (arith, ints)

value_laid : (rows : List (Option Terminal)) (marks : List ℕ) → length marks ≡ length rows → value (pins rows marks) ≡ sum_to (λ i. row_adds (λ t. t.current *ℤ neg_ℤ (pos (mark_at marks i))) (row_at rows i)) (length rows)
value_laid rows marks same = value_sum rows marks same ∙ sum_to_same (λ i. row_adds (λ t. worth (record { terminal = t; mark = mark_at marks i })) (row_at rows i)) (λ i. row_adds (λ t. t.current *ℤ neg_ℤ (pos (mark_at marks i))) (row_at rows i)) (length rows) (λ i h. at (mark_at marks i) (row_at rows i))
  where
    at : (mark : ℕ) (o : Option Terminal) → row_adds (λ t. worth (record { terminal = t; mark = mark })) o ≡ row_adds (λ t. t.current *ℤ neg_ℤ (pos mark)) o
    at mark (Some t) = neg_mul t.current (pos mark) ∙ sym (mul_neg t.current (pos mark))
    at mark None = refl

module _ (m : Meaning) (metric : Metric m) (rows : List (Option Terminal)) (up : Upheld m rows) (p : Plan) (plan : Planned m rows p) (full : length p.marks ≡ 64) where
  meets : Meets 1 (seated rows) (wires_of rows (links_of p))
  meets s = net_laid rows (links_of p) s ∙ weighed m rows p plan (stands rows s) ∙ sym (due_laid rows s) ∙ sym (one_mul (due (seated rows) s))

  over : Over m (wires_of rows (links_of p))
  over = All-map (Lies m) (laid rows) (links_of p) (All-weaker (Runs rows) (λ l. Lies m (laid rows l)) lie (links_of p) plan.runs)
    where
      known : (i : ℕ) (t : Terminal) → row_at rows i ≡ Some t → m.known (site_of_row (row_at rows i)) ≡ true
      known i t e = ap (λ o. m.known (site_of_row o)) e ∙ row_from_seated (λ t. m.known t.site ≡ true) rows i t e up.known

      lie : (l : Link) → Runs rows l → Lies m (laid rows l)
      lie l r =
          let source = source_from (row_at rows (l.from - 1)) r.from_source in
          let sink = sink_from (row_at rows (l.to - 1)) r.to_sink in
          record { leaves = known (l.from - 1) source.0 source.1; arrives = known (l.to - 1) sink.0 sink.1 }

  same : length p.marks ≡ length rows
  same = full ∙ sym up.full

  tight : value (pins rows p.marks) ≡ pos (area m (wires_of rows (links_of p)))
  tight = value_laid rows p.marks same ∙ sym (weighed m rows p plan (λ i. neg_ℤ (pos (mark_at p.marks i)))) ∙ area_laid m rows p.marks (links_of p) plan.tight

  pub planned_value : value (pins rows p.marks) ≡ pos p.area
  planned_value = tight ∙ ap pos (sym plan.area_is)

  pub planned_least : Least m (seated rows) (wires_of rows (links_of p))
  planned_least =
      let known = subst (Seated m) (sym seats) up.known in
      let meet = subst (λ ts. Meets 1 ts (wires_of rows (links_of p))) (sym seats) meets in
      let near = near_from_reach m rows p.marks up.full plan.reach in
      subst (λ ts. Least m ts (wires_of rows (links_of p))) seats (certified m metric (wires_of rows (links_of p)) (pins rows p.marks) known (feasible_from_near m rows p.marks near) over meet tight)
    where
      seats : terminals (pins rows p.marks) ≡ seated rows
      seats = terminals_pins rows p.marks same

  -- all least lists have the plan's area, so its marks do for each
  pub planned_marks : (ws : List Wire) → Readable m ws → Least m (seated rows) ws → audit_asked m rows ws p.marks ≡ None
  planned_marks ws readable best = chain_passes (audit_questions m rows ws p.marks) (count, (readable.few, (readable.carry, (readable.lie, (plan.fit, (met_from_meets rows ws best.meets, (plan.reach, (is_value, tt))))))))
    where
      count : marks_are_64 p.marks ≡ None
      count = cond-true (eqb (length p.marks) 64) None (Some MarkCount) (eq-eqb (length p.marks) 64 full)

      same_area : area m ws ≡ area m (wires_of rows (links_of p))
      same_area =
          let a = best.least 1 (omega arith) (wires_of rows (links_of p)) over meets in
          let b = planned_least.least 1 (omega arith) ws best.over best.meets in
          omega arith

      is_value : area_is_value m rows ws p.marks ≡ None
      is_value =
          let far = differ (pos (area m ws)) (value (pins rows p.marks)) in
          cond-true (not far) None (Some AreaDiffers) (not_from_false far (differ_from_same (pos (area m ws)) (value (pins rows p.marks)) (ap pos same_area ∙ sym tight)))
