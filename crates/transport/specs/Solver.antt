-- What the solver keeps: between phases, and while a tree grows.
use Rattle.std.specs.Prelude.{◌≡◌, ℕ, ◌+◌, ◌<◌, ◌≤◌, Bool, max, cond, ◌⊎◌, List, length, Some, None, Option, ◌==◌, ◌≢◌, slice_index_or}
use Rattle.transport.specs.declared.case.Case.{Case}
use Rattle.transport.specs.declared.load.Marks.{Marks}
use Rattle.transport.specs.declared.load.Load.{Load}
use Rattle.transport.specs.declared.load.tree.Reached.{Reached}
use Rattle.transport.specs.declared.load.tree.Tree.{Tree}
use Rattle.transport.specs.Transport.{at, cell, cost_of, sum_to}

-- the amount, where two numbers agree
abbrev pub part : ℕ → ℕ → ℕ → ℕ
part k i amount = cond (k == i) amount 0

-- how a sink was reached
abbrev pub reached_at : List (Option Reached) → ℕ → Option Reached
reached_at reached j = slice_index_or reached j None

abbrev pub round_of : Option Reached → ℕ
round_of (Some r) = r.round + 1
round_of None = 0

abbrev pub parent_of : Option Reached → ℕ
parent_of (Some r) = r.parent
parent_of None = 0

abbrev pub room_of : Option Reached → ℕ
room_of (Some r) = r.room
room_of None = 0

-- the round of a sink, from 1 on, or 0 where it was not reached, its parent, and its room
abbrev pub round_at : List (Option Reached) → ℕ → ℕ
round_at reached j = round_of (reached_at reached j)

abbrev pub parent_at : List (Option Reached) → ℕ → ℕ
parent_at reached j = parent_of (reached_at reached j)

abbrev pub room_at : List (Option Reached) → ℕ → ℕ
room_at reached j = room_of (reached_at reached j)

-- the limits of a case, each as a fact
pub record Limited (case : Case) : Type 0 where
  pub few : case.sources + case.sinks ≤ 64
  pub supplies : (i : ℕ) → i < case.sources → at case.supply i ≤ 1000000
  pub costs : (i j : ℕ) → i < case.sources → j < case.sinks → cost_of case i j ≤ 4000000
  pub even : sum_to (at case.supply) case.sources ≡ sum_to (at case.demand) case.sinks

-- marks that are fair and in range
pub record Marked (case : Case) (marks : Marks) : Type 0 where
  pub fair : (i j : ℕ) → i < case.sources → j < case.sinks → at marks.sink j ≤ at marks.source i + cost_of case i j
  pub source_marks : (i : ℕ) → i < case.sources → at marks.source i ≤ 4000000
  pub sink_marks : (j : ℕ) → j < case.sinks → at marks.sink j ≤ 4000000
  pub sources : length marks.source ≡ 64
  pub sinks : length marks.sink ≡ 64

-- marks that agree with the load: tight where anything flows, and 0 at a source that still has something
pub record Tied (case : Case) (marks : Marks) (load : Load) : Type 0 where
  pub tight : (i j : ℕ) → i < case.sources → j < case.sinks → 0 < cell load.flow i j → at marks.sink j ≡ at marks.source i + cost_of case i j
  pub unraised : (i : ℕ) → i < case.sources → 0 < at load.stock i → at marks.source i ≡ 0

-- what flows and what is left come to the supplies and the demands
pub record Summed (case : Case) (load : Load) : Type 0 where
  pub sent : (i : ℕ) → i < case.sources → sum_to (λ j. cell load.flow i j) case.sinks + at load.stock i ≡ at case.supply i
  pub received : (j : ℕ) → j < case.sinks → sum_to (λ i. cell load.flow i j) case.sources + at load.want j ≡ at case.demand j
  pub even : sum_to (at load.stock) case.sources ≡ sum_to (at load.want) case.sinks
  pub flows : length load.flow ≡ 4096
  pub stocks : length load.stock ≡ 64
  pub wants : length load.want ≡ 64

-- the sink that wants most
abbrev pub Neediest : List ℕ → Option ℕ → Type 0
Neediest want (Some j) = (j < length want) × (0 < at want j) × ((k : ℕ) → k < length want → at want k ≤ at want j)
Neediest want None = (k : ℕ) → k < length want → at want k ≡ 0

-- a source after a sink was taken into its slack: as it was, or nearer, toward that sink
abbrev pub Nearer : Case → Marks → ℕ → List ℕ → List ℕ → List ℕ → List ℕ → ℕ → Type 0
Nearer case marks sink slack toward slack' toward' i =
    ((at slack' i ≡ at slack i) × (at toward' i ≡ at toward i) × (at marks.sink sink + at slack i ≤ at marks.source i + cost_of case i sink))
    ⊎ ((at toward' i ≡ sink) × (at marks.sink sink + at slack' i ≡ at marks.source i + cost_of case i sink) × (at slack' i < at slack i))

pub record Relaxed (case : Case) (marks : Marks) (sink : ℕ) (slack toward slack' toward' : List ℕ) : Type 0 where
  pub near : (i : ℕ) → i < case.sources → Nearer case marks sink slack toward slack' toward' i
  pub slacks : length slack' ≡ 64
  pub towards : length toward' ≡ 64

-- a source whose slack, or closing, is least
pub record Nearest (slack closed : List ℕ) (source : ℕ) : Type 0 where
  pub inside : source < length slack
  pub least : (k : ℕ) → k < length slack → max (at slack source) (at closed source) ≤ max (at slack k) (at closed k)

-- marks after those were raised that are in the tree; of each, `inside` tells whether it is
pub record Raised (inside : ℕ → Bool → Type 0) (by : ℕ) (mark mark' : List ℕ) : Type 0 where
  pub raised : (k : ℕ) → k < length mark → (b : Bool) × inside k b × (at mark' k ≡ at mark k + cond b by 0)
  pub size : length mark' ≡ length mark

-- slacks after those were lowered that are not closed
pub record Lowered (closed : List ℕ) (by : ℕ) (slack slack' : List ℕ) : Type 0 where
  pub lowered : (k : ℕ) → k < length closed → at closed k ≡ 0 → at slack' k + by ≡ at slack k
  pub still : (k : ℕ) → k < length closed → 0 < at closed k → at slack' k ≡ at slack k
  pub size : length slack' ≡ 64

-- one item of a row was written; past the row stands d
pub record Put {A : Type 0} (d : A) (old new : List A) (k : ℕ) (x : A) : Type 0 where
  pub size : length new ≡ length old
  pub here : slice_index_or new k d ≡ x
  pub rest : (i : ℕ) → (i ≢ k) → slice_index_or new i d ≡ slice_index_or old i d

-- the way back from a reached sink: through its parent, toward the sink that this is tight with
pub record Back (case : Case) (flow : List ℕ) (tree : Tree) (j : ℕ) : Type 0 where
  pub inside : parent_at tree.reached j < case.sources
  pub slack : at tree.slack (parent_at tree.reached j) ≡ 0
  pub served : room_at tree.reached j ≤ cell flow (parent_at tree.reached j) j
  pub room : room_at tree.reached j ≤ room_at tree.reached (at tree.toward (parent_at tree.reached j))
  pub round : round_at tree.reached (at tree.toward (parent_at tree.reached j)) < round_at tree.reached j

-- A tree as it grows. Each source knows its slack to the reached sink nearest to it. A closed source has no slack and
-- nothing left, and whom it serves is reached. A reached sink but the root has a parent without slack that serves it
-- at least its room, and on the way to the root rounds fall and rooms do not.
pub record Grown (case : Case) (marks : Marks) (load : Load) (tree : Tree) : Type 0 where
  pub inside : (i : ℕ) → i < case.sources → at tree.toward i < case.sinks
  pub met : (i : ℕ) → i < case.sources → 0 < round_at tree.reached (at tree.toward i)
  pub gap : (i : ℕ) → i < case.sources → at marks.sink (at tree.toward i) + at tree.slack i ≡ at marks.source i + cost_of case i (at tree.toward i)
  pub least : (i j : ℕ) → i < case.sources → j < case.sinks → 0 < round_at tree.reached j → at marks.sink j + at tree.slack i ≤ at marks.source i + cost_of case i j
  pub flag : (i : ℕ) → i < case.sources → (at tree.closed i ≡ 0) ⊎ (at tree.closed i ≡ 4294967295)
  pub shut_slack : (i : ℕ) → i < case.sources → 0 < at tree.closed i → at tree.slack i ≡ 0
  pub shut_stock : (i : ℕ) → i < case.sources → 0 < at tree.closed i → at load.stock i ≡ 0
  pub shut_served : (i j : ℕ) → i < case.sources → j < case.sinks → 0 < at tree.closed i → 0 < cell load.flow i j → 0 < round_at tree.reached j
  pub roomy : (j : ℕ) → j < case.sinks → 0 < round_at tree.reached j → 0 < room_at tree.reached j
  pub back : (j : ℕ) → j < case.sinks → 0 < round_at tree.reached j → (j ≢ tree.root) → Back case load.flow tree j
  pub root_inside : tree.root < case.sinks
  pub root_met : 0 < round_at tree.reached tree.root
  pub root_room : room_at tree.reached tree.root ≡ at load.want tree.root
  pub slacks : length tree.slack ≡ 64
  pub towards : length tree.toward ≡ 64
  pub closeds : length tree.closed ≡ 64
  pub reacheds : length tree.reached ≡ 64

-- a tree after a sink joined it
pub record Joined (case : Case) (marks : Marks) (load : Load) (source sink round : ℕ) (tree tree' : Tree) : Type 0 where
  pub grown : Grown case marks load tree'
  pub reached : round_at tree'.reached sink ≡ round
  pub others : (j : ℕ) → (j ≢ sink) → round_at tree'.reached j ≡ round_at tree.reached j
  pub closed : tree'.closed ≡ tree.closed
  pub root : tree'.root ≡ tree.root
  pub slack : at tree'.slack source ≡ 0
  pub toward : at tree'.toward source ≡ at tree.toward source

-- a tree after a source without stock was taken in with all that it serves
pub record Absorbed (case : Case) (marks : Marks) (load : Load) (round : ℕ) (tree tree' : Tree) : Type 0 where
  pub grown : Grown case marks load tree'
  pub early : (j : ℕ) → j < case.sinks → round_at tree'.reached j ≤ round
  pub closed : sum_to (at tree'.closed) case.sources ≡ sum_to (at tree.closed) case.sources + 4294967295
  pub root : tree'.root ≡ tree.root

-- how far the marks can rise: by the slack of a source that is not closed, the least of those
pub record Rising (case : Case) (marks : Marks) (tree : Tree) (source : ℕ) : Type 0 where
  pub inside : source < case.sources
  pub still : at tree.closed source ≡ 0
  pub low : (i : ℕ) → i < case.sources → at tree.closed i ≡ 0 → at tree.slack source ≤ at tree.slack i
  pub sources : (i : ℕ) → i < case.sources → 0 < at tree.closed i → at marks.source i + at tree.slack source ≤ 4000000
  pub sinks : (j : ℕ) → j < case.sinks → 0 < round_at tree.reached j → at marks.sink j + at tree.slack source ≤ 4000000

-- marks and tree after they rose until a source was tight
pub record Tightened (case : Case) (load : Load) (source : ℕ) (tree : Tree) (marks' : Marks) (tree' : Tree) : Type 0 where
  pub grown : Grown case marks' load tree'
  pub inside : source < case.sources
  pub slack : at tree'.slack source ≡ 0
  pub still : at tree'.closed source ≡ 0
  pub closed : tree'.closed ≡ tree.closed
  pub reached : tree'.reached ≡ tree.reached
  pub root : tree'.root ≡ tree.root

-- the source at which a tree ends
pub record Found (case : Case) (marks : Marks) (load : Load) (root : ℕ) (tree : Tree) (source : ℕ) : Type 0 where
  pub grown : Grown case marks load tree
  pub rooted : tree.root ≡ root
  pub inside : source < case.sources
  pub stocked : 0 < at load.stock source
  pub slack : at tree.slack source ≡ 0

-- what a reached sink's way back to the root stands on
pub record Way (case : Case) (flow : List ℕ) (tree : Tree) : Type 0 where
  pub few : case.sources + case.sinks ≤ 64
  pub inside : (i : ℕ) → i < case.sources → at tree.toward i < case.sinks
  pub met : (i : ℕ) → i < case.sources → 0 < round_at tree.reached (at tree.toward i)
  pub back : (j : ℕ) → j < case.sinks → 0 < round_at tree.reached j → (j ≢ tree.root) → Back case flow tree j

-- the flow after an amount was sent from a source to the root: more leaves this source, more arrives at the root, and
-- nothing flows anew but from a source without slack to the sink that it is tight with
pub record Rerouted (case : Case) (tree : Tree) (start amount : ℕ) (flow flow' : List ℕ) : Type 0 where
  pub rows : (k : ℕ) → k < case.sources → sum_to (λ j. cell flow' k j) case.sinks ≡ sum_to (λ j. cell flow k j) case.sinks + part k start amount
  pub columns : (k : ℕ) → k < case.sinks → sum_to (λ i. cell flow' i k) case.sources ≡ sum_to (λ i. cell flow i k) case.sources + part k tree.root amount
  pub fresh : (i j : ℕ) → i < case.sources → j < case.sinks → 0 < cell flow' i j → (0 < cell flow i j) ⊎ ((at tree.slack i ≡ 0) × (at tree.toward i ≡ j))
  pub fits : amount ≤ room_at tree.reached tree.root
  pub size : length flow' ≡ 4096

-- the load after something was sent from a source to the root
pub record Sent (case : Case) (tree : Tree) (load load' : Load) : Type 0 where
  pub summed : Summed case load'
  pub fewer : sum_to (at load'.want) case.sinks < sum_to (at load.want) case.sinks
  pub fresh : (i j : ℕ) → i < case.sources → j < case.sinks → 0 < cell load'.flow i j → (0 < cell load.flow i j) ⊎ ((at tree.slack i ≡ 0) × (at tree.toward i ≡ j))
  pub stocks : (i : ℕ) → at load'.stock i ≤ at load.stock i
