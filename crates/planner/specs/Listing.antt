-- The list of planned wires that a solved case gives: by source, then by sink, where anything flows.
use Rattle.std.specs.Prelude.{◌≡◌, ℕ, zero, suc, ◌+◌, ◌*◌, ◌<◌, ◌≤◌, true, cond, List, [], ◌∷◌, ◌++◌, length, ◌≢◌, nat_lt}
use Rattle.transport.specs.declared.case.Case.{Case}
use Rattle.transport.specs.declared.plan.Plan.{Plan}
use Rattle.transport.specs.Transport.{at, cell, cost_of, sum_to, within, Optimal}
use Rattle.bounded.specs.Items.{items}
use Rattle.planner.specs.declared.ends.costs.listing.Draft.{Draft}
use Rattle.planner.specs.declared.plan.Link.{Link}

-- ends that stand in ascending rows of the 64
pub record Placed (ends : List ℕ) : Type 0 where
  pub few : (length ends) ≤ 64
  pub inside : (k : ℕ) → k < length ends → at ends k < 64
  pub ascending : (k l : ℕ) → k < l → l < length ends → at ends k < at ends l

-- a case within its limits, and what solves it
pub record Solved (case : Case) (sources sinks : List ℕ) (plan : Plan) : Type 0 where
  pub sources_are : case.sources ≡ length sources
  pub sinks_are : case.sinks ≡ length sinks
  pub from : Placed sources
  pub to : Placed sinks
  pub fits : within case ≡ true
  pub cost_size : length case.cost ≡ 4096
  pub optimal : Optimal case plan

-- the wire from source i to sink j
abbrev pub link_at : List ℕ → List ℕ → List ℕ → ℕ → ℕ → Link
link_at sources sinks flow i j = record { from = at sources i + 1; to = at sinks j + 1; current = cell flow i j }

-- the wires from source i to the first n sinks
abbrev pub row_links : List ℕ → List ℕ → List ℕ → ℕ → ℕ → List Link
row_links sources sinks flow i zero = []
row_links sources sinks flow i (suc n) = row_links sources sinks flow i n ++ cond (nat_lt 0 (cell flow i n)) (link_at sources sinks flow i n ∷ []) []

-- the wires from the first n sources to the first w sinks
abbrev pub all_links : List ℕ → List ℕ → List ℕ → ℕ → ℕ → List Link
all_links sources sinks flow w zero = []
all_links sources sinks flow w (suc n) = all_links sources sinks flow w n ++ row_links sources sinks flow n w

-- what the flow costs from source i to the first n sinks, and from the first n sources
abbrev pub row_cost : Case → List ℕ → ℕ → ℕ → ℕ
row_cost case flow i n = sum_to (λ j. cell flow i j * cost_of case i j) n

abbrev pub all_cost : Case → List ℕ → ℕ → ℕ
all_cost case flow n = sum_to (λ i. row_cost case flow i case.sinks) n

-- the wires of the first i sources, and of the next one to the first j sinks
pub record Drafted (case : Case) (sources sinks : List ℕ) (flow : List ℕ) (i j : ℕ) (draft : Draft) : Type 0 where
  pub lists : items draft.links ≡ all_links sources sinks flow case.sinks i ++ row_links sources sinks flow i j
  pub few : length (items draft.links) ≤ case.sinks * i + j
  pub costs : draft.area ≡ all_cost case flow i + row_cost case flow i j
  pub small : draft.area ≤ 4000000000000 * length (items draft.links)

-- the marks of the first n ends in their rows, and every other as it was
pub record Marked (ends : List ℕ) (marks : List ℕ) (n : ℕ) (old new : List ℕ) : Type 0 where
  pub size : length new ≡ 64
  pub here : (k : ℕ) → k < n → at new (at ends k) ≡ at marks k
  pub rest : (i : ℕ) → ((k : ℕ) → k < n → at ends k ≢ i) → at new i ≡ at old i
