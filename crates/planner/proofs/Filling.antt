-- Amounts and costs, written one after another.
use Rattle.std.proofs.Common.{◌≡◌, ℕ, ◌+◌, ◌*◌, ◌<◌, ◌≤◌, ◌⊎◌, List, length, set, Option, sym, ap, ◌∙◌, inl, inr, arith}
use Rattle.std.proofs.lemmas.List.{length-set, get_or-set_same, get_or-set_other}
use Rattle.std.proofs.lemmas.Bool.{cases_eq}
use Rattle.ruler.specs.Meaning.{Meaning}
use Rattle.wires.specs.declared.terminal.Terminal.{Terminal}
use Rattle.audit.specs.Audit.{row_at}
use Rattle.transport.specs.Transport.{at, cell}
use Rattle.planner.specs.Costs.{Amounts, CostRow, Costs, cost_between}
use Rattle.planner.specs.declared.side.Side.{Side}
use Rattle.planner.specs.Ends.{amount_at}

pub amounts_more : (rows : List (Option Terminal)) (ends : List ℕ) (side : Side) (n x : ℕ) (xs : List ℕ) → Amounts rows ends side n xs → n < 64 → x ≡ amount_at rows side (at ends n) → Amounts rows ends side (n + 1) (set xs n x)
amounts_more rows ends side n x xs a room is = record { size = length-set xs n x ∙ a.size; each = each }
  where
    each : (k : ℕ) → k < n + 1 → at (set xs n x) k ≡ amount_at rows side (at ends k)
    each k h = go (cases_eq k n)
      where
        go : (k ≡ n) ⊎ (k ≡ n → ⊥) → at (set xs n x) k ≡ amount_at rows side (at ends k)
        go (inl s) = let size = a.size in ap (at (set xs n x)) s ∙ get_or-set_same xs n x 0 (omega arith) ∙ is ∙ ap (λ i. amount_at rows side (at ends i)) (sym s)
        go (inr d) = get_or-set_other xs n k x 0 d ∙ a.each k (omega arith)

module _ (m : Meaning) (rows : List (Option Terminal)) (sources sinks : List ℕ) where
  -- the cost that is due from source i to sink j
  abbrev fee : ℕ → ℕ → ℕ
  fee i j = cost_between m (row_at rows (at sources i)) (row_at rows (at sinks j))

  pub row_more : (i n x : ℕ) (old new : List ℕ) → CostRow m rows sources sinks i n old new → i < 64 → n < 64 → x ≡ fee i n → CostRow m rows sources sinks i (n + 1) old (set new (64 * i + n) x)
  row_more i n x old new r in_row room is = record { size = length-set new (64 * i + n) x ∙ r.size; here = here; rest = λ k j h l. get_or-set_other new (64 * i + n) (64 * k + j) x 0 (λ s. omega arith) ∙ r.rest k j h l }
    where
      here : (j : ℕ) → j < n + 1 → cell (set new (64 * i + n) x) i j ≡ fee i j
      here j h = go (cases_eq j n)
        where
          go : (j ≡ n) ⊎ (j ≡ n → ⊥) → cell (set new (64 * i + n) x) i j ≡ fee i j
          go (inl s) = let size = r.size in ap (cell (set new (64 * i + n) x) i) s ∙ get_or-set_same new (64 * i + n) x 0 (omega arith) ∙ is ∙ ap (fee i) (sym s)
          go (inr d) = get_or-set_other new (64 * i + n) (64 * i + j) x 0 (λ s. d (omega arith)) ∙ r.here j (omega arith)

  pub costs_more : (i : ℕ) (old new : List ℕ) → (length sinks) ≤ 64 → Costs m rows sources sinks i old → CostRow m rows sources sinks i (length sinks) old new → Costs m rows sources sinks (i + 1) new
  costs_more i old new few c r = record { size = r.size; each = each }
    where
      each : (k j : ℕ) → k < i + 1 → j < length sinks → cell new k j ≡ fee k j
      each k j h l = go (cases_eq k i)
        where
          go : (k ≡ i) ⊎ (k ≡ i → ⊥) → cell new k j ≡ fee k j
          go (inl s) = ap (λ n. cell new n j) s ∙ r.here j l ∙ ap (λ n. fee n j) (sym s)
          go (inr d) = r.rest k j (omega arith) (omega arith) ∙ c.each k j (omega arith) l
