-- Least-cost transport: what a case asks, and when a plan answers it at least cost.
use Rattle.std.specs.Prelude.{◌≡◌, ℕ, zero, suc, ◌+◌, ◌*◌, ◌<◌, ◌≤◌, Bool, true, ◌&&◌, leb, List, length, ◌==◌, nat_le, slice_index}
use Rattle.transport.specs.declared.case.Case.{Case}
use Rattle.transport.specs.declared.plan.Plan.{Plan}

-- the number at a place
abbrev pub at : List ℕ → ℕ → ℕ
at xs i = slice_index xs i

-- the number of source i and sink j in a table
abbrev pub cell : List ℕ → ℕ → ℕ → ℕ
cell table i j = slice_index table (64 * i + j)

abbrev pub cost_of : Case → ℕ → ℕ → ℕ
cost_of case i j = cell case.cost i j

-- g 0 + g 1 + .. over the numbers below n
abbrev pub sum_to : (ℕ → ℕ) → ℕ → ℕ
sum_to g zero = 0
sum_to g (suc n) = sum_to g n + g n

-- the test is true at every number below n
abbrev pub each : (ℕ → Bool) → ℕ → Bool
each p zero = true
each p (suc n) = p n && each p n

-- the amounts below n are at most 1,000,000
abbrev pub amounts_fit : List ℕ → ℕ → Bool
amounts_fit amounts n = each (λ i. leb (at amounts i) 1000000) n

-- the costs are at most 4,000,000
abbrev pub costs_fit : Case → Bool
costs_fit case = each (λ i. each (λ j. leb (cost_of case i j) 4000000) case.sinks) case.sources

-- the sources have as much as the sinks want
abbrev pub balanced : Case → Bool
balanced case = sum_to (at case.supply) case.sources == sum_to (at case.demand) case.sinks

-- the limits of a case
abbrev pub within : Case → Bool
within case = nat_le (case.sources + case.sinks) 64 && (amounts_fit case.supply case.sources && (amounts_fit case.demand case.sinks && (costs_fit case && balanced case)))

-- A plan that sends every supply out and brings every demand in, with marks that show that no plan costs less: a sink's
-- mark never exceeds a source's mark by more than the cost between them, and equals it where anything flows.
pub record Optimal (case : Case) (plan : Plan) : Type 0 where
  pub sent : (i : ℕ) → i < case.sources → sum_to (λ j. cell plan.flow i j) case.sinks ≡ at case.supply i
  pub received : (j : ℕ) → j < case.sinks → sum_to (λ i. cell plan.flow i j) case.sources ≡ at case.demand j
  pub fair : (i j : ℕ) → i < case.sources → j < case.sinks → at plan.sink_mark j ≤ at plan.source_mark i + cost_of case i j
  pub tight : (i j : ℕ) → i < case.sources → j < case.sinks → 0 < cell plan.flow i j → at plan.sink_mark j ≡ at plan.source_mark i + cost_of case i j
  pub source_marks : (i : ℕ) → i < case.sources → at plan.source_mark i ≤ 4000000
  pub sink_marks : (j : ℕ) → j < case.sinks → at plan.sink_mark j ≤ 4000000
  pub flow_size : length plan.flow ≡ 4096
  pub source_size : length plan.source_mark ≡ 64
  pub sink_size : length plan.sink_mark ≡ 64
