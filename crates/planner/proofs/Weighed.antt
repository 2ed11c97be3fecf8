-- In a plan every row sends its current, so what the wires carry can be weighed row by row.
use Rattle.std.proofs.Common.{◌≡◌, ℕ, zero, suc, ◌+◌, ◌-◌, ◌<◌, ◌≤◌, ◌⊎◌, List, [], ◌∷◌, length, ℤ, pos, negsuc, ◌-ℤ◌, ◌*ℤ◌, ◌<ℤ◌, Some, None, Option, sym, refl, ap, ◌∙◌, inl, inr, arith}
use borrow.Author.Differences.{ints}
use lib.IntN.{zero-*ℤ}
use Rattle.std.proofs.ByRecursion.{All-weaker}
use Rattle.std.proofs.lemmas.List.{get_or_past}
use Rattle.std.proofs.lemmas.Bool.{cases_lt}
use Rattle.ruler.specs.Meaning.{Meaning}
use Rattle.wires.specs.declared.terminal.Terminal.{Terminal}
use Rattle.wires.specs.Sums.{sum}
use Rattle.wires.specs.Wiring.{row_adds}
use Rattle.wires.proofs.Integers.{mul_sub, sub_mul}
use Rattle.audit.specs.Audit.{row_at}
use Rattle.planner.specs.declared.plan.Link.{Link}
use Rattle.planner.specs.declared.plan.Plan.{Plan}
use Rattle.planner.specs.Planned.{Planned, Runs, links_of, sent, received}
use Rattle.planner.proofs.Standing.{source_from, sink_from}
use Rattle.planner.proofs.Carried.{sum_to, sum_to_same, sum_to_sub, carried_sum, carried_none}

pub row_below : (rows : List (Option Terminal)) (i : ℕ) (t : Terminal) → row_at rows i ≡ Some t → i < length rows
row_below rows i t e = go (cases_lt i (length rows))
  where
    go : (i < length rows) ⊎ (length rows ≤ i) → i < length rows
    go (inl h) = h
    go (inr h) = let past = get_or_past rows i None h in let z : ◌≡◌ {A = ℕ} 0 1 = cc in absurd (omega arith)

-- no wire leaves a row that is no source, and none arrives at a row that is no sink
module _ (rows : List (Option Terminal)) (i : ℕ) where
  not_from : ((t : Terminal) → row_at rows i ≡ Some t → pos 0 <ℤ t.current → ⊥) → (l : Link) → Runs rows l → l.from ≡ i + 1 → ⊥
  not_from none l r e =
      let here : l.from - 1 ≡ i = omega arith in
      let source = source_from (row_at rows (l.from - 1)) r.from_source in
      none source.0 (sym (ap (row_at rows) here) ∙ source.1) source.2

  not_to : ((t : Terminal) → row_at rows i ≡ Some t → t.current <ℤ pos 0 → ⊥) → (l : Link) → Runs rows l → l.to ≡ i + 1 → ⊥
  not_to none l r e =
      let here : l.to - 1 ≡ i = omega arith in
      let sink = sink_from (row_at rows (l.to - 1)) r.to_sink in
      none sink.0 (sym (ap (row_at rows) here) ∙ sink.1) sink.2

module _ (m : Meaning) (rows : List (Option Terminal)) (p : Plan) (plan : Planned m rows p) where
  sent_none : (i : ℕ) → ((t : Terminal) → row_at rows i ≡ Some t → pos 0 <ℤ t.current → ⊥) → sent (links_of p) (i + 1) ≡ 0
  sent_none i none = carried_none (λ l. l.from) (i + 1) (links_of p) (All-weaker (Runs rows) (λ l. l.from ≡ i + 1 → ⊥) (not_from rows i none) (links_of p) plan.runs)

  received_none : (i : ℕ) → ((t : Terminal) → row_at rows i ≡ Some t → t.current <ℤ pos 0 → ⊥) → received (links_of p) (i + 1) ≡ 0
  received_none i none = carried_none (λ l. l.to) (i + 1) (links_of p) (All-weaker (Runs rows) (λ l. l.to ≡ i + 1 → ⊥) (not_to rows i none) (links_of p) plan.runs)

  -- what a row sends less what it receives is its current
  balanced : (i : ℕ) → pos (sent (links_of p) (i + 1)) -ℤ pos (received (links_of p) (i + 1)) ≡ row_adds (λ t. t.current) (row_at rows i)
  balanced i = go (row_at rows i) refl
    where
      is : (t u : Terminal) → row_at rows i ≡ Some t → row_at rows i ≡ Some u → t.current ≡ u.current
      is t u e f = let s : t ≡ u = cc in ap (λ (v : Terminal). v.current) s

      seat : (t : Terminal) → row_at rows i ≡ Some t → (z : ℤ) → t.current ≡ z → pos (sent (links_of p) (i + 1)) -ℤ pos (received (links_of p) (i + 1)) ≡ z
      seat t e (pos zero) c =
          let s = sent_none i (λ u f h. let same = is t u e f in omega (arith, ints)) in
          let r = received_none i (λ u f h. let same = is t u e f in omega (arith, ints)) in
          omega (arith, ints)
      seat t e (pos (suc n)) c =
          let s = plan.sends i t e (omega (arith, ints)) in
          let r = received_none i (λ u f h. let same = is t u e f in omega (arith, ints)) in
          omega (arith, ints)
      seat t e (negsuc n) c =
          let s = sent_none i (λ u f h. let same = is t u e f in omega (arith, ints)) in
          let r = plan.receives i t e (omega (arith, ints)) in
          omega (arith, ints)

      go : (o : Option Terminal) → row_at rows i ≡ o → pos (sent (links_of p) (i + 1)) -ℤ pos (received (links_of p) (i + 1)) ≡ row_adds (λ t. t.current) o
      go (Some t) e = seat t e t.current refl
      go None e =
          let s = sent_none i (λ u f h. let z : ◌≡◌ {A = ℕ} 0 1 = cc in omega arith) in
          let r = received_none i (λ u f h. let z : ◌≡◌ {A = ℕ} 0 1 = cc in omega arith) in
          omega (arith, ints)

  -- currents weighed by how much w falls along each wire are the rows' currents weighed by w
  pub weighed : (w : ℕ → ℤ) → sum (λ l. pos l.current *ℤ (w (l.from - 1) -ℤ w (l.to - 1))) (links_of p) ≡ sum_to (λ i. row_adds (λ t. t.current *ℤ w i) (row_at rows i)) (length rows)
  weighed w =
      let leave = carried_sum (λ l. l.from) w (length rows) (links_of p) (All-weaker (Runs rows) (λ l. (1 ≤ l.from) × (l.from ≤ length rows)) (λ l r. let source = source_from (row_at rows (l.from - 1)) r.from_source in let h = row_below rows (l.from - 1) source.0 source.1 in (r.from_1, omega arith)) (links_of p) plan.runs) in
      let arrive = carried_sum (λ l. l.to) w (length rows) (links_of p) (All-weaker (Runs rows) (λ l. (1 ≤ l.to) × (l.to ≤ length rows)) (λ l r. let sink = sink_from (row_at rows (l.to - 1)) r.to_sink in let h = row_below rows (l.to - 1) sink.0 sink.1 in (r.to_1, omega arith)) (links_of p) plan.runs) in
      let split = falls (links_of p) in
      let apart = sum_to_sub (λ i. pos (sent (links_of p) (i + 1)) *ℤ w i) (λ i. pos (received (links_of p) (i + 1)) *ℤ w i) (length rows) in
      let rows_are = sum_to_same (λ i. pos (sent (links_of p) (i + 1)) *ℤ w i -ℤ pos (received (links_of p) (i + 1)) *ℤ w i) (λ i. row_adds (λ t. t.current *ℤ w i) (row_at rows i)) (length rows) (λ i h. at i) in
      omega (arith, ints)
    where
      falls : (ls : List Link) → sum (λ l. pos l.current *ℤ (w (l.from - 1) -ℤ w (l.to - 1))) ls ≡ sum (λ l. pos l.current *ℤ w (l.from - 1)) ls -ℤ sum (λ l. pos l.current *ℤ w (l.to - 1)) ls
      falls [] = refl
      falls (l ∷ ls) =
          let ih = falls ls in
          let e = mul_sub (pos l.current) (w (l.from - 1)) (w (l.to - 1)) in
          omega (arith, ints)

      adds : (x : ℤ) (o : Option Terminal) → row_adds (λ t. t.current) o *ℤ x ≡ row_adds (λ t. t.current *ℤ x) o
      adds x (Some t) = refl
      adds x None = zero-*ℤ x

      at : (i : ℕ) → pos (sent (links_of p) (i + 1)) *ℤ w i -ℤ pos (received (links_of p) (i + 1)) *ℤ w i ≡ row_adds (λ t. t.current *ℤ w i) (row_at rows i)
      at i = sym (sub_mul (pos (sent (links_of p) (i + 1))) (pos (received (links_of p) (i + 1))) (w i)) ∙ ap (λ z. z *ℤ w i) (balanced i) ∙ adds (w i) (row_at rows i)
