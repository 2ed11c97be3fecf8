-- How an amount goes along a tree from a source to the root.
use Rattle.std.proofs.Common.{◌≡◌, ℕ, ◌+◌, ◌-◌, ◌*◌, ◌<◌, ◌≤◌, ◌⊎◌, List, length, refl, ap, ◌∙◌, subst, inl, inr, ⊎_elim, arith}
use Rattle.std.proofs.lemmas.Bool.{cases_eq}
use Rattle.std.proofs.lemmas.Bool.Decides.{nat_tests}
use Rattle.transport.specs.declared.case.Case.{Case}
use Rattle.transport.specs.declared.load.Marks.{Marks}
use Rattle.transport.specs.declared.load.Load.{Load}
use Rattle.transport.specs.declared.load.tree.Tree.{Tree}
use Rattle.transport.specs.Transport.{at, cell, cost_of, sum_to}
use Rattle.transport.specs.Solver.{round_at, parent_at, room_at, Limited, Tied, Summed, Put, Back, Way, Grown, Rerouted, Sent, part}
use Rattle.transport.proofs.Sums.{sum_change, sum_same, sum_at}

pub part_same : (k i a : ℕ) → k ≡ i → part k i a ≡ a
part_same k i a e = grind (arith, nat_tests)

pub part_other : (k i a : ℕ) → (k ≡ i → ⊥) → part k i a ≡ 0
part_other k i a ne = grind (arith, nat_tests)

pub part_none : (k i : ℕ) → part k i 0 ≡ 0
part_none k i = grind (arith, nat_tests)

pub part_most : (k i a : ℕ) → part k i a ≤ a
part_most k i a = grind (arith, nat_tests)

-- one cell of a table is written, with a more and b less than it was
module _ (flow flow' : List ℕ) (i j x a b : ℕ) (few : j < 64) (put : Put 0 flow flow' (64 * i + j) x) (moved : x + b ≡ cell flow i j + a) where
  pub row_moves : (n : ℕ) → j < n → n ≤ 64 → (k : ℕ) → sum_to (λ m. cell flow' k m) n + part k i b ≡ sum_to (λ m. cell flow k m) n + part k i a
  row_moves n lj ln k =
      ⊎_elim
      (λ (e : k ≡ i).
      rw e
      (let change = sum_change (λ m. cell flow i m) (λ m. cell flow' i m) n j lj (λ m lm ne. put.rest (64 * i + m) (λ z. ne (omega arith))) in
      omega (arith, put.here, part_same i i a refl, part_same i i b refl)))
      (λ (ne : k ≡ i → ⊥).
      let same = sum_same (λ m. cell flow k m) (λ m. cell flow' k m) n (λ m lm. put.rest (64 * k + m) (λ z. ne (omega arith))) in
      omega (arith, part_other k i a ne, part_other k i b ne))
      (cases_eq k i)

  pub column_moves : (n : ℕ) → i < n → (k : ℕ) → k < 64 → sum_to (λ m. cell flow' m k) n + part k j b ≡ sum_to (λ m. cell flow m k) n + part k j a
  column_moves n li k lk =
      ⊎_elim
      (λ (e : k ≡ j).
      rw e
      (let change = sum_change (λ m. cell flow m j) (λ m. cell flow' m j) n i li (λ m lm ne. put.rest (64 * m + j) (λ z. ne (omega arith))) in
      omega (arith, put.here, part_same j j a refl, part_same j j b refl)))
      (λ (ne : k ≡ j → ⊥).
      let same = sum_same (λ m. cell flow m k) (λ m. cell flow' m k) n (λ m lm. put.rest (64 * m + k) (λ z. ne (omega arith))) in
      omega (arith, part_other k j a ne, part_other k j b ne))
      (cases_eq k j)

-- at a source on the way: it sends the amount less than it should, and all else is right
pub record Rerouting (case : Case) (tree : Tree) (amount start : ℕ) (flow : List ℕ) (source : ℕ) (flow' : List ℕ) : Type 0 where
  pub inside : source < case.sources
  pub slack : at tree.slack source ≡ 0
  pub fits : amount ≤ room_at tree.reached (at tree.toward source)
  pub rows : (k : ℕ) → k < case.sources → sum_to (λ j. cell flow' k j) case.sinks + part k source amount ≡ sum_to (λ j. cell flow k j) case.sinks + part k start amount
  pub columns : (k : ℕ) → k < case.sinks → sum_to (λ i. cell flow' i k) case.sources ≡ sum_to (λ i. cell flow i k) case.sources
  pub fresh : (i j : ℕ) → i < case.sources → j < case.sinks → 0 < cell flow' i j → (0 < cell flow i j) ⊎ ((at tree.slack i ≡ 0) × (at tree.toward i ≡ j))
  pub served : (j : ℕ) → j < case.sinks → 0 < round_at tree.reached j → (j ≡ tree.root → ⊥) → round_at tree.reached j ≤ round_at tree.reached (at tree.toward source) → room_at tree.reached j ≤ cell flow' (parent_at tree.reached j) j
  pub size : length flow' ≡ 4096

module _ (case : Case) (tree : Tree) (amount start : ℕ) (flow : List ℕ) (way : Way case flow tree) where
  module _ (source sink : ℕ) (ahead : at tree.toward source ≡ sink) (flow1 flow2 : List ℕ) (r : Rerouting case tree amount start flow source flow1) (give : Put 0 flow1 flow2 (64 * source + sink) (cell flow1 source sink + amount)) where
    sink_inside : sink < case.sinks
    sink_inside = omega (arith, way.inside source r.inside)

    sink_met : 0 < round_at tree.reached sink
    sink_met = rw ahead at (way.met source r.inside)

    given_rows : (k : ℕ) → k < case.sources → sum_to (λ j. cell flow2 k j) case.sinks ≡ sum_to (λ j. cell flow k j) case.sinks + part k start amount
    given_rows k l =
        let moved : cell flow1 source sink + amount + 0 ≡ cell flow1 source sink + amount = omega arith in
        omega (arith, row_moves flow1 flow2 source sink (cell flow1 source sink + amount) amount 0 (omega (arith, sink_inside, way.few)) give moved case.sinks sink_inside (omega (arith, way.few)) k, r.rows k l, part_none k source)

    given_columns : (k : ℕ) → k < case.sinks → sum_to (λ i. cell flow2 i k) case.sources ≡ sum_to (λ i. cell flow i k) case.sources + part k sink amount
    given_columns k l =
        let moved : cell flow1 source sink + amount + 0 ≡ cell flow1 source sink + amount = omega arith in
        omega (arith, column_moves flow1 flow2 source sink (cell flow1 source sink + amount) amount 0 (omega (arith, sink_inside, way.few)) give moved case.sources r.inside k (omega (arith, way.few)), r.columns k l, part_none k sink)

    given_fresh : (i j : ℕ) → i < case.sources → j < case.sinks → 0 < cell flow2 i j → (0 < cell flow i j) ⊎ ((at tree.slack i ≡ 0) × (at tree.toward i ≡ j))
    given_fresh i j li lj f =
        ⊎_elim
        (λ (e : 64 * i + j ≡ 64 * source + sink).
        let si : i ≡ source = omega (arith, sink_inside, way.few) in
        let sj : j ≡ sink = omega (arith, sink_inside, way.few) in
        inr (rw si r.slack, rw (si, sj) ahead))
        (λ (ne : 64 * i + j ≡ 64 * source + sink → ⊥). r.fresh i j li lj (omega (arith, give.rest (64 * i + j) ne)))
        (cases_eq (64 * i + j) (64 * source + sink))

    -- no cell has less
    given_more : (p : ℕ) → at flow1 p ≤ at flow2 p
    given_more p = grind (arith, give.here, give.rest p)

    pub rerouted : sink ≡ tree.root → Rerouted case tree start amount flow flow2
    rerouted e =
        let P : ℕ → Type 0 = λ root. (k : ℕ) → k < case.sinks → sum_to (λ i. cell flow2 i k) case.sources ≡ sum_to (λ i. cell flow i k) case.sources + part k root amount in
        record { rows = given_rows; columns = subst P e given_columns; fresh = given_fresh; fits = rw (ahead, e) at r.fits; size = give.size ∙ r.size }

    -- what is to be taken from the parent
    pub parent_serves : (sink ≡ tree.root → ⊥) → amount ≤ cell flow2 (parent_at tree.reached sink) sink
    parent_serves ne =
        let room : amount ≤ room_at tree.reached sink = rw ahead at r.fits in
        let level : round_at tree.reached sink ≤ round_at tree.reached (at tree.toward source) = rw ahead (omega arith) in
        omega (arith, r.served sink sink_inside sink_met ne level, given_more (64 * parent_at tree.reached sink + sink))

    pub rerouting_more : (flow3 : List ℕ) → (sink ≡ tree.root → ⊥) → Put 0 flow2 flow3 (64 * parent_at tree.reached sink + sink) (cell flow2 (parent_at tree.reached sink) sink - amount) → Rerouting case tree amount start flow (parent_at tree.reached sink) flow3
    rerouting_more flow3 ne take =
        record { inside = b.inside; slack = b.slack; fits = omega (arith, b.room, room); rows = rows; columns = columns; fresh = fresh; served = served; size = take.size ∙ give.size ∙ r.size }
      where
        b : Back case flow tree sink
        b = way.back sink sink_inside sink_met ne

        room : amount ≤ room_at tree.reached sink
        room = rw ahead at r.fits

        few : sink < 64
        few = omega (arith, sink_inside, way.few)

        moved : cell flow2 (parent_at tree.reached sink) sink - amount + amount ≡ cell flow2 (parent_at tree.reached sink) sink + 0
        moved = omega (arith, parent_serves ne)

        rows : (k : ℕ) → k < case.sources → sum_to (λ j. cell flow3 k j) case.sinks + part k (parent_at tree.reached sink) amount ≡ sum_to (λ j. cell flow k j) case.sinks + part k start amount
        rows k l = omega (arith, row_moves flow2 flow3 (parent_at tree.reached sink) sink (cell flow2 (parent_at tree.reached sink) sink - amount) 0 amount few take moved case.sinks sink_inside (omega (arith, way.few)) k, given_rows k l, part_none k (parent_at tree.reached sink))

        columns : (k : ℕ) → k < case.sinks → sum_to (λ i. cell flow3 i k) case.sources ≡ sum_to (λ i. cell flow i k) case.sources
        columns k l = omega (arith, column_moves flow2 flow3 (parent_at tree.reached sink) sink (cell flow2 (parent_at tree.reached sink) sink - amount) 0 amount few take moved case.sources b.inside k (omega (arith, way.few)), given_columns k l, part_none k sink)

        less : (p : ℕ) → at flow3 p ≤ at flow2 p
        less p = grind (arith, take.here, take.rest p)

        fresh : (i j : ℕ) → i < case.sources → j < case.sinks → 0 < cell flow3 i j → (0 < cell flow i j) ⊎ ((at tree.slack i ≡ 0) × (at tree.toward i ≡ j))
        fresh i j li lj f = given_fresh i j li lj (omega (arith, less (64 * i + j)))

        served : (j : ℕ) → j < case.sinks → 0 < round_at tree.reached j → (j ≡ tree.root → ⊥) → round_at tree.reached j ≤ round_at tree.reached (at tree.toward (parent_at tree.reached sink)) → room_at tree.reached j ≤ cell flow3 (parent_at tree.reached j) j
        served j lj m nr le =
            let other : j ≡ sink → ⊥ = λ e. omega (arith, b.round, ap (round_at tree.reached) e) in
            let apart : 64 * parent_at tree.reached j + j ≡ 64 * parent_at tree.reached sink + sink → ⊥ = λ e. other (omega (arith, few, way.few)) in
            let level : round_at tree.reached j ≤ round_at tree.reached (at tree.toward source) = rw ahead (omega (arith, b.round)) in
            omega (arith, take.rest (64 * parent_at tree.reached j + j) apart, given_more (64 * parent_at tree.reached j + j), r.served j lj m nr level)

  -- what a cell has is small
  pub gives_little : (source : ℕ) (flow1 : List ℕ) → Rerouting case tree amount start flow source flow1 → amount ≤ 1000000 → ((i : ℕ) → i < case.sources → sum_to (λ j. cell flow i j) case.sinks ≤ 1000000) → cell flow1 source (at tree.toward source) + amount ≤ 3000000
  gives_little source flow1 r small rows =
      omega (arith, sum_at (λ j. cell flow1 source j) case.sinks (at tree.toward source) (way.inside source r.inside), r.rows source r.inside, rows source r.inside, part_most source start amount)

-- a number of a row falls
put_falls : (xs xs' : List ℕ) (i a : ℕ) → Put 0 xs xs' i (at xs i - a) → a ≤ at xs i → (k : ℕ) → at xs' k + part k i a ≡ at xs k
put_falls xs xs' i a put l k = grind (arith, nat_tests, put.here, put.rest k)

-- so does its sum
sum_falls : (xs xs' : List ℕ) (i a n : ℕ) → Put 0 xs xs' i (at xs i - a) → a ≤ at xs i → i < n → sum_to (at xs') n + a ≡ sum_to (at xs) n
sum_falls xs xs' i a n put l li = omega (arith, sum_change (at xs) (at xs') n i li (λ k lk ne. put.rest k ne), put.here)

pub way_of : (case : Case) (marks : Marks) (load : Load) (tree : Tree) → Limited case → Grown case marks load tree → Way case load.flow tree
way_of case marks load tree limited g = record { few = limited.few; inside = g.inside; met = g.met; back = g.back }

-- the load after an amount was sent from a source to the root of a tree
module _
    (case : Case) (marks : Marks) (load : Load) (tree : Tree) (source amount : ℕ) (flow' stock' want' : List ℕ)
    (g : Grown case marks load tree) (inside : source < case.sources) (fits : amount ≤ at load.stock source)
    (moved : Rerouted case tree source amount load.flow flow')
    (stock : Put 0 load.stock stock' source (at load.stock source - amount))
    (want : Put 0 load.want want' tree.root (at load.want tree.root - amount)) where
  wanted : amount ≤ at load.want tree.root
  wanted = omega (arith, moved.fits, g.root_room)

  wants_fall : sum_to (at want') case.sinks + amount ≡ sum_to (at load.want) case.sinks
  wants_fall = sum_falls load.want want' tree.root amount case.sinks want wanted g.root_inside

  pub fewer_wants : 0 < amount → sum_to (at want') case.sinks < sum_to (at load.want) case.sinks
  fewer_wants some = omega (arith, wants_fall)

  pub still_summed : Summed case load → Summed case (record { flow = flow'; stock = stock'; want = want' })
  still_summed s =
      record {
        sent = λ i l. omega (arith, moved.rows i l, s.sent i l, put_falls load.stock stock' source amount stock fits i);
        received = λ j l. omega (arith, moved.columns j l, s.received j l, put_falls load.want want' tree.root amount want wanted j);
        even = omega (arith, s.even, wants_fall, sum_falls load.stock stock' source amount case.sources stock fits inside);
        flows = moved.size;
        stocks = stock.size ∙ s.stocks;
        wants = want.size ∙ s.wants;
      }

  pub sent : 0 < amount → Summed case load → Sent case tree load (record { flow = flow'; stock = stock'; want = want' })
  sent some s =
      record {
        summed = still_summed s;
        fewer = fewer_wants some;
        fresh = moved.fresh;
        stocks = λ i. omega (arith, put_falls load.stock stock' source amount stock fits i);
      }

  -- what flows anew flows where it is tight
  pub still_tied : Tied case marks load → Tied case marks (record { flow = flow'; stock = stock'; want = want' })
  still_tied tied =
      record {
        tight = λ i j li lj f. elim (moved.fresh i j li lj f) [ inl was ↦ tied.tight i j li lj was | inr new ↦ tight i j li new ];
        unraised = λ i l f. tied.unraised i l (omega (arith, put_falls load.stock stock' source amount stock fits i));
      }
    where
      tight : (i j : ℕ) → i < case.sources → (at tree.slack i ≡ 0) × (at tree.toward i ≡ j) → at marks.sink j ≡ at marks.source i + cost_of case i j
      tight i j li new = let P : ℕ → Type 0 = λ t. at marks.sink t + at tree.slack i ≡ at marks.source i + cost_of case i t in let gap : at marks.sink j + at tree.slack i ≡ at marks.source i + cost_of case i j = subst P new.1 (g.gap i li) in omega (arith, new.0)
