-- What the listed wires carry and weigh, by the rows of sources and sinks.
use Rattle.std.proofs.Common.{◌≡◌, ℕ, ◌+◌, ◌-◌, ◌*◌, ◌<◌, Bool, true, false, cond, eqb, ◌⊎◌, List, [], ◌∷◌, map, Option, sym, refl, ap, ◌∙◌, inl, inr, zero-mul, arith, length}
use Rattle.std.proofs.lemmas.Bool.{eq-eqb, ne_eqb, cases_order}
use Rattle.ruler.specs.Meaning.{Meaning}
use Rattle.wires.specs.declared.terminal.Terminal.{Terminal}
use Rattle.wires.specs.Sums.{total}
use Rattle.wires.specs.Wiring.{metal, area}
use Rattle.transport.specs.declared.case.Case.{Case}
use Rattle.transport.specs.declared.plan.Plan.{Plan}
use Rattle.transport.specs.Transport.{at, cell, cost_of, sum_to}
use Rattle.planner.specs.declared.plan.Link.{Link}
use Rattle.planner.specs.declared.side.Side.TheVariants.{Source, Sink}
use Rattle.planner.specs.Ends.{amount_at}
use Rattle.planner.specs.Listing.{Placed, all_links, row_cost, all_cost}
use Rattle.planner.specs.Planned.{site_of, laid, wires_of, sent, received}
use Rattle.planner.proofs.Counting.{sum_to_same, sum_to_none, sum_to_one}
use Rattle.planner.proofs.Listed.{links_total}
use Rattle.planner.proofs.Seats.{Posed, spot, cost_at, sent_is, received_is}

-- the row of an id
pub id_row : (k : ℕ) → k + 1 - 1 ≡ k
id_row k = omega arith

-- two ends never share a row
apart : (ends : List ℕ) → Placed ends → (i k : ℕ) → i < length ends → k < length ends → (i ≡ k → ⊥) → at ends i + 1 ≡ at ends k + 1 → ⊥
apart ends placed i k h g d e = go (cases_order i k)
  where
    go : (i ≡ k) ⊎ ((i < k) ⊎ (k < i)) → ⊥
    go (inl s) = d s
    go (inr (inl l)) = let less = placed.ascending i k l g in omega arith
    go (inr (inr l)) = let less = placed.ascending k i l h in omega arith

cond_none : (b : Bool) (x : ℕ) → x ≡ 0 → cond b x 0 ≡ 0
cond_none true x e = e
cond_none false x e = refl

total_map : {A B : Type 0} (f : B → ℕ) (g : A → B) (xs : List A) → total f (map g xs) ≡ total (λ x. f (g x)) xs
total_map f g [] = refl
total_map f g (x ∷ xs) = let rest = total_map f g xs in omega arith

module _ (m : Meaning) (rows : List (Option Terminal)) (sources sinks : List ℕ) (case : Case) (plan : Plan) (posed : Posed m rows sources sinks case plan) where
  -- all that leaves one source's id is in its row of the flow
  pub sent_by : (k : ℕ) → k < case.sources → sent (all_links sources sinks plan.flow case.sinks case.sources) (at sources k + 1) ≡ amount_at rows Source (at sources k)
  sent_by k h = links_total sources sinks plan.flow part (λ i j e. cond_none (eqb (at sources i + 1) (at sources k + 1)) (cell plan.flow i j) e) case.sinks case.sources ∙ sum_to_one (λ i. sum_to (λ j. cond (eqb (at sources i + 1) (at sources k + 1)) (cell plan.flow i j) 0) case.sinks) case.sources k h other ∙ sum_to_same (λ j. cond (eqb (at sources k + 1) (at sources k + 1)) (cell plan.flow k j) 0) (λ j. cell plan.flow k j) case.sinks (λ j g. ap (λ b. cond b (cell plan.flow k j) 0) (eq-eqb (at sources k + 1) (at sources k + 1) refl)) ∙ sent_is m rows sources sinks case plan posed k h
    where
      part : Link → ℕ
      part l = cond (eqb l.from (at sources k + 1)) l.current 0

      other : (i : ℕ) → i < case.sources → (i ≡ k → ⊥) → sum_to (λ j. cond (eqb (at sources i + 1) (at sources k + 1)) (cell plan.flow i j) 0) case.sinks ≡ 0
      other i g d = let are = posed.solved.sources_are in sum_to_same (λ j. cond (eqb (at sources i + 1) (at sources k + 1)) (cell plan.flow i j) 0) (λ j. 0) case.sinks (λ j l. ap (λ b. cond b (cell plan.flow i j) 0) (ne_eqb (at sources i + 1) (at sources k + 1) (apart sources posed.solved.from i k (omega arith) (omega arith) d))) ∙ sum_to_none case.sinks

  -- all that arrives at one sink's id is in its column
  pub received_by : (k : ℕ) → k < case.sinks → received (all_links sources sinks plan.flow case.sinks case.sources) (at sinks k + 1) ≡ amount_at rows Sink (at sinks k)
  received_by k h = links_total sources sinks plan.flow (λ l. cond (eqb l.to (at sinks k + 1)) l.current 0) (λ i j e. cond_none (eqb (at sinks j + 1) (at sinks k + 1)) (cell plan.flow i j) e) case.sinks case.sources ∙ sum_to_same (λ i. sum_to (λ j. cond (eqb (at sinks j + 1) (at sinks k + 1)) (cell plan.flow i j) 0) case.sinks) (λ i. cell plan.flow i k) case.sources (λ i g. one i) ∙ received_is m rows sources sinks case plan posed k h
    where
      one : (i : ℕ) → sum_to (λ j. cond (eqb (at sinks j + 1) (at sinks k + 1)) (cell plan.flow i j) 0) case.sinks ≡ cell plan.flow i k
      one i = let are = posed.solved.sinks_are in sum_to_one (λ j. cond (eqb (at sinks j + 1) (at sinks k + 1)) (cell plan.flow i j) 0) case.sinks k h (λ j g d. ap (λ b. cond b (cell plan.flow i j) 0) (ne_eqb (at sinks j + 1) (at sinks k + 1) (apart sinks posed.solved.to j k (omega arith) (omega arith) d))) ∙ ap (λ b. cond b (cell plan.flow i k) 0) (eq-eqb (at sinks k + 1) (at sinks k + 1) refl)

  -- the area is the cost of the flow
  pub area_is_cost : area m (wires_of rows (all_links sources sinks plan.flow case.sinks case.sources)) ≡ all_cost case plan.flow case.sources
  area_is_cost = total_map (metal m) (laid rows) (all_links sources sinks plan.flow case.sinks case.sources) ∙ links_total sources sinks plan.flow (λ l. metal m (laid rows l)) (λ i j e. ap (λ c. c * length i j) e ∙ zero-mul (length i j)) case.sinks case.sources ∙ sum_to_same (λ i. sum_to (λ j. cell plan.flow i j * length i j) case.sinks) (λ i. row_cost case plan.flow i case.sinks) case.sources (λ i h. sum_to_same (λ j. cell plan.flow i j * length i j) (λ j. cell plan.flow i j * cost_of case i j) case.sinks (λ j g. ap (λ c. cell plan.flow i j * c) (length_is i j h g)))
    where
      length : ℕ → ℕ → ℕ
      length i j = m.span (site_of rows (at sources i + 1)) (site_of rows (at sinks j + 1))

      length_is : (i j : ℕ) → i < case.sources → j < case.sinks → m.span (site_of rows (at sources i + 1)) (site_of rows (at sinks j + 1)) ≡ cost_of case i j
      length_is i j h g = ap (λ k. m.span (spot rows k) (site_of rows (at sinks j + 1))) (id_row (at sources i)) ∙ ap (λ k. m.span (spot rows (at sources i)) (spot rows k)) (id_row (at sinks j)) ∙ sym (cost_at m rows sources sinks case plan posed i j h g)
