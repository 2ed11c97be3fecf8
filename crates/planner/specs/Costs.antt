-- The transport case of a net: its sources, its sinks, and the lengths between them as costs.
use Rattle.std.specs.Prelude.{◌≡◌, ℕ, ◌<◌, List, length, Some, None, Option}
use Rattle.ruler.specs.Meaning.{Meaning, measured}
use Rattle.wires.specs.declared.terminal.Terminal.{Terminal}
use Rattle.audit.specs.Audit.{row_at}
use Rattle.transport.specs.declared.case.Case.{Case}
use Rattle.transport.specs.Transport.{at, cell}
use Rattle.planner.specs.declared.side.Side.{Side}
use Rattle.planner.specs.declared.side.Side.TheVariants.{Source, Sink}
use Rattle.planner.specs.Ends.{amount_at}

-- the length, 0 where it is absent
abbrev pub or_none : Option ℕ → ℕ
or_none (Some n) = n
or_none None = 0

-- what a unit of current costs from one row to another
abbrev pub cost_between : Meaning → Option Terminal → Option Terminal → ℕ
cost_between m (Some a) (Some b) = or_none (measured m a.site b.site)
cost_between m (Some a) None = 0
cost_between m None b = 0

-- the amounts of the gathered rows
pub record Amounts (rows : List (Option Terminal)) (ends : List ℕ) (side : Side) (n : ℕ) (amounts : List ℕ) : Type 0 where
  pub size : length amounts ≡ 64
  pub each : (k : ℕ) → k < n → at amounts k ≡ amount_at rows side (at ends k)

-- the costs from the first n sources
pub record Costs (m : Meaning) (rows : List (Option Terminal)) (sources sinks : List ℕ) (n : ℕ) (costs : List ℕ) : Type 0 where
  pub size : length costs ≡ 4096
  pub each : (i j : ℕ) → i < n → j < length sinks → cell costs i j ≡ cost_between m (row_at rows (at sources i)) (row_at rows (at sinks j))

-- the costs from one more source to the first n sinks
pub record CostRow (m : Meaning) (rows : List (Option Terminal)) (sources sinks : List ℕ) (i n : ℕ) (old new : List ℕ) : Type 0 where
  pub size : length new ≡ 4096
  pub here : (j : ℕ) → j < n → cell new i j ≡ cost_between m (row_at rows (at sources i)) (row_at rows (at sinks j))
  pub rest : (k j : ℕ) → k < i → j < 64 → cell new k j ≡ cell old k j

pub record CaseOf (m : Meaning) (rows : List (Option Terminal)) (sources sinks : List ℕ) (case : Case) : Type 0 where
  pub sources_are : case.sources ≡ length sources
  pub sinks_are : case.sinks ≡ length sinks
  pub supply : Amounts rows sources Source (length sources) case.supply
  pub demand : Amounts rows sinks Sink (length sinks) case.demand
  pub costs : Costs m rows sources sinks (length sources) case.cost
