-- How a tree grows: from its root, by sinks that join, by raised marks and by closed sources.
use Rattle.std.proofs.Common.{◌≡◌, ℕ, ◌+◌, ◌*◌, ◌<◌, ◌≤◌, min, max, ◌⊎◌, Option, Some, None, List, length, replicate, refl, ap, ◌∙◌, subst, inl, inr, ⊎_elim, arith, below_more, is_some, cond, nat_lt, ◌++◌, take, drop, length-drop}
use Rattle.std.proofs.lemmas.List.{get_or-take, length-take-le, length-append, get_or_append_left}
use Rattle.std.proofs.lemmas.Bool.{cases_eq}
use Rattle.transport.proofs.Writes.{blank, some_round}
use Rattle.transport.proofs.Sums.{sum_change, sum_some, sum_open}
use Rattle.transport.specs.declared.case.Case.{Case}
use Rattle.transport.specs.declared.load.Marks.{Marks}
use Rattle.transport.specs.declared.load.Load.{Load}
use Rattle.transport.specs.declared.load.tree.Reached.{Reached}
use Rattle.transport.specs.declared.load.tree.Tree.{Tree}
use Rattle.transport.specs.Transport.{at, cell, cost_of, sum_to}
use Rattle.transport.specs.Solver.{round_of, parent_of, room_of, reached_at, round_at, parent_at, room_at, Limited, Marked, Tied, Back, Grown, Joined, Absorbed, Relaxed, Nearer, Put, Raised, Lowered, Nearest, Rising, Tightened}

-- a row whose first `count` numbers gave way to as many others
abbrev pub renewed : ℕ → List ℕ → List ℕ → List ℕ
renewed count old front = front ++ drop count old

module _ (count : ℕ) (old front : List ℕ) (few : count ≤ length old) (size : length front ≡ length (take count old)) where
  pub renewed_size : length (renewed count old front) ≡ length old
  renewed_size = omega (arith, size, length-take-le count old few, length-append front (drop count old), length-drop count old)

  pub renewed_at : (k : ℕ) → k < count → at (renewed count old front) k ≡ at front k
  renewed_at k l = get_or_append_left front (drop count old) 0 k (omega (arith, size, length-take-le count old few))

-- a source without slack is left as it was
pub relaxed_none : (case : Case) (marks : Marks) (sink : ℕ) (slack toward slack' toward' : List ℕ) (i : ℕ) → Nearer case marks sink slack toward slack' toward' i → at slack i ≡ 0 → (at slack' i ≡ 0) × (at toward' i ≡ at toward i)
relaxed_none case marks sink slack toward slack' toward' i near none = grind arith

pub back_by : (case : Case) (flow : List ℕ) (tree : Tree) (j p t : ℕ) → parent_at tree.reached j ≡ p → at tree.toward p ≡ t → p < case.sources → at tree.slack p ≡ 0 → room_at tree.reached j ≤ cell flow p j → room_at tree.reached j ≤ room_at tree.reached t → round_at tree.reached t < round_at tree.reached j → Back case flow tree j
back_by case flow tree j p t parent toward inside slack served room round =
    record { inside = rw parent inside; slack = rw parent slack; served = rw parent served; room = rw (parent, toward) room; round = rw (parent, toward) round }

module _ (case : Case) (marks : Marks) (load : Load) (limited : Limited case) (marked : Marked case marks) where
  -- the root alone is reached
  pub rooted :
      (root : ℕ) (slack toward closed slack' toward' : List ℕ) (reached : List (Option Reached))
      → root < case.sinks → 0 < at load.want root
      → ((i : ℕ) → i < case.sources → at slack i ≡ 4294967295)
      → ((i : ℕ) → at closed i ≡ 0) → length closed ≡ 64
      → Put None (replicate 64 None) reached root (Some (record { round = 0; parent = 0; room = at load.want root }))
      → Relaxed case marks root slack toward slack' toward'
      → Grown case marks load (record { root = root; slack = slack'; toward = toward'; closed = closed; reached = reached })
  rooted root slack toward closed slack' toward' reached lr wants far still closeds met relaxed =
      record {
        inside = λ i l. omega (arith, (near i l).0);
        met = λ i l. rw (near i l).0 (omega (arith, one));
        gap = λ i l. rw (near i l).0 (near i l).1;
        least = λ i j li lj m. rw (only j m) (omega (arith, (near i li).1));
        flag = λ i l. inl (still i);
        shut_slack = λ i l c. absurd (let z : ⊥ = omega (arith, still i) in z);
        shut_stock = λ i l c. absurd (let z : ⊥ = omega (arith, still i) in z);
        shut_served = λ i j li lj c f. absurd (let z : ⊥ = omega (arith, still i) in z);
        roomy = λ j lj m. rw (only j m) (omega (arith, room_is));
        back = λ j lj m ne. absurd (ne (only j m));
        root_inside = lr;
        root_met = omega (arith, one);
        root_room = room_is;
        slacks = relaxed.slacks;
        towards = relaxed.towards;
        closeds = closeds;
        reacheds = met.size;
      }
    where
      near : (i : ℕ) → i < case.sources → (at toward' i ≡ root) × (at marks.sink root + at slack' i ≡ at marks.source i + cost_of case i root)
      near i l =
          elim (relaxed.near i l) [
            | inl s ↦ absurd (let z : ⊥ = omega (arith, s.2, far i l, marked.source_marks i l, limited.costs i root l lr) in z)
            | inr s ↦ (s.0, s.1)
          ]

      one : round_at reached root ≡ 1
      one = ap round_of met.here

      room_is : room_at reached root ≡ at load.want root
      room_is = ap room_of met.here

      others : (j : ℕ) → (j ≡ root → ⊥) → round_at reached j ≡ 0
      others j ne = ap round_of (met.rest j ne ∙ blank None 64 j)

      only : (j : ℕ) → 0 < round_at reached j → j ≡ root
      only j m = grind (arith, others j)

  pub joined :
      (tree : Tree) (source sink n : ℕ) (slack' toward' : List ℕ) (reached' : List (Option Reached))
      → Grown case marks load tree
      → source < case.sources → sink < case.sinks → at tree.slack source ≡ 0 → 0 < cell load.flow source sink
      → round_at tree.reached sink ≡ 0 → round_at tree.reached (at tree.toward source) ≤ n
      → Put None tree.reached reached' sink (Some (record { round = n; parent = source; room = min (room_at tree.reached (at tree.toward source)) (cell load.flow source sink) }))
      → Relaxed case marks sink tree.slack tree.toward slack' toward'
      → Joined case marks load source sink (n + 1) tree (record tree { slack = slack'; toward = toward'; reached = reached' })
  joined tree source sink n slack' toward' reached' g si sj none serves anew below met relaxed =
      record { grown = grown; reached = round_here; others = round_rest; closed = refl; root = refl; slack = (kept source si none).0; toward = (kept source si none).1 }
    where
      kept : (i : ℕ) → i < case.sources → at tree.slack i ≡ 0 → (at slack' i ≡ 0) × (at toward' i ≡ at tree.toward i)
      kept i l e = relaxed_none case marks sink tree.slack tree.toward slack' toward' i (relaxed.near i l) e

      round_here : round_at reached' sink ≡ n + 1
      round_here = ap round_of met.here

      parent_here : parent_at reached' sink ≡ source
      parent_here = ap parent_of met.here

      room_here : room_at reached' sink ≡ min (room_at tree.reached (at tree.toward source)) (cell load.flow source sink)
      room_here = ap room_of met.here

      round_rest : (j : ℕ) → (j ≡ sink → ⊥) → round_at reached' j ≡ round_at tree.reached j
      round_rest j ne = ap round_of (met.rest j ne)

      parent_rest : (j : ℕ) → (j ≡ sink → ⊥) → parent_at reached' j ≡ parent_at tree.reached j
      parent_rest j ne = ap parent_of (met.rest j ne)

      room_rest : (j : ℕ) → (j ≡ sink → ⊥) → room_at reached' j ≡ room_at tree.reached j
      room_rest j ne = ap room_of (met.rest j ne)

      -- a reached sink is another, and stays
      other : (j : ℕ) → 0 < round_at tree.reached j → j ≡ sink → ⊥
      other j m e = let P : ℕ → Type 0 = λ k. 0 < round_at tree.reached k in let z : 0 < round_at tree.reached sink = subst P e m in omega arith

      stays : (j : ℕ) → 0 < round_at tree.reached j → 0 < round_at reached' j
      stays j m = omega (arith, round_rest j (other j m))

      grown : Grown case marks load (record tree { slack = slack'; toward = toward'; reached = reached' })
      grown =
          record {
            inside = λ i l. elim (relaxed.near i l) [ inl s ↦ omega (arith, s.1, g.inside i l) | inr s ↦ omega (arith, s.0) ];
            met = λ i l. elim (relaxed.near i l) [ inl s ↦ rw s.1 (stays (at tree.toward i) (g.met i l)) | inr s ↦ rw s.0 (omega (arith, round_here)) ];
            gap = λ i l. elim (relaxed.near i l) [ inl s ↦ rw s.1 (omega (arith, s.0, g.gap i l)) | inr s ↦ rw s.0 (omega (arith, s.1)) ];
            least = least;
            flag = g.flag;
            shut_slack = λ i l c. (kept i l (g.shut_slack i l c)).0;
            shut_stock = g.shut_stock;
            shut_served = λ i j li lj c f. stays j (g.shut_served i j li lj c f);
            roomy = roomy;
            back = back;
            root_inside = g.root_inside;
            root_met = stays tree.root g.root_met;
            root_room = room_rest tree.root (other tree.root g.root_met) ∙ g.root_room;
            slacks = relaxed.slacks;
            towards = relaxed.towards;
            closeds = g.closeds;
            reacheds = met.size ∙ g.reacheds;
          }
        where
          least : (i j : ℕ) → i < case.sources → j < case.sinks → 0 < round_at reached' j → at marks.sink j + at slack' i ≤ at marks.source i + cost_of case i j
          least i j li lj m = grind (arith, relaxed.near i li, g.least i j li lj, round_rest j)

          roomy : (j : ℕ) → j < case.sinks → 0 < round_at reached' j → 0 < room_at reached' j
          roomy j lj m = grind (arith, room_here, room_rest j, round_rest j, g.roomy j, g.roomy (at tree.toward source) (g.inside source si) (g.met source si))

          back : (j : ℕ) → j < case.sinks → 0 < round_at reached' j → (j ≡ tree.root → ⊥) → Back case load.flow (record tree { slack = slack'; toward = toward'; reached = reached' }) j
          back j lj m nr =
              ⊎_elim
              (λ (e : j ≡ sink).
              let t = at tree.toward source in
              let far : t ≡ sink → ⊥ = other t (g.met source si) in
              rw e (back_by case load.flow _ sink source t parent_here (kept source si none).1 si (kept source si none).0 (omega (arith, room_here)) (omega (arith, room_here, room_rest t far)) (omega (arith, round_here, round_rest t far))))
              (λ (ne : j ≡ sink → ⊥).
              let b = g.back j lj (omega (arith, round_rest j ne)) nr in
              let p = parent_at tree.reached j in
              let t = at tree.toward p in
              let far : t ≡ sink → ⊥ = other t (g.met p b.inside) in
              back_by case load.flow _ j p t (parent_rest j ne) (kept p b.inside b.slack).1 b.inside (kept p b.inside b.slack).0
              (omega (arith, b.served, room_rest j ne)) (omega (arith, b.room, room_rest j ne, room_rest t far)) (omega (arith, b.round, round_rest j ne, round_rest t far)))
              (cases_eq j sink)

-- a tree while a source is taken in: the sinks below `upto` that it serves are reached
pub record Absorbing (case : Case) (marks : Marks) (load : Load) (source round upto : ℕ) (tree tree' : Tree) : Type 0 where
  pub grown : Grown case marks load tree'
  pub early : (j : ℕ) → j < case.sinks → round_at tree'.reached j ≤ round
  pub ahead : round_at tree'.reached (at tree'.toward source) < round
  pub slack : at tree'.slack source ≡ 0
  pub served : (j : ℕ) → j < upto → 0 < cell load.flow source j → 0 < round_at tree'.reached j
  pub closed : tree'.closed ≡ tree.closed
  pub root : tree'.root ≡ tree.root

module _ (case : Case) (marks : Marks) (load : Load) (source round : ℕ) (tree : Tree) where
  -- a sink that is not served, or was reached before
  pub absorbing_pass : (j : ℕ) (tree' : Tree) → Absorbing case marks load source round j tree tree' → (0 < cell load.flow source j → 0 < round_at tree'.reached j) → Absorbing case marks load source round (j + 1) tree tree'
  absorbing_pass j tree' a here =
      record { grown = a.grown; early = a.early; ahead = a.ahead; slack = a.slack; served = below_more _ _ a.served here; closed = a.closed; root = a.root }

  pub absorbing_join : (j : ℕ) (tree' tree'' : Tree) → source < case.sources → j < case.sinks → round_at tree'.reached j ≡ 0 → Absorbing case marks load source round j tree tree' → Joined case marks load source j round tree' tree'' → Absorbing case marks load source round (j + 1) tree tree''
  absorbing_join j tree' tree'' ls lj new a join =
      record {
        grown = join.grown;
        early = λ k lk. ⊎_elim (λ (e : k ≡ j). rw e (omega (arith, join.reached))) (λ (ne : k ≡ j → ⊥). omega (arith, join.others k ne, a.early k lk)) (cases_eq k j);
        ahead = rw join.toward (omega (arith, join.others (at tree'.toward source) other, a.ahead));
        slack = join.slack;
        served = below_more _ _ (λ k lk f. let ne : k ≡ j → ⊥ = λ e. omega arith in omega (arith, join.others k ne, a.served k lk f)) (λ f. omega (arith, join.reached, a.ahead));
        closed = join.closed ∙ a.closed;
        root = join.root ∙ a.root;
      }
    where
      other : at tree'.toward source ≡ j → ⊥
      other e = let m : 0 < round_at tree'.reached (at tree'.toward source) = a.grown.met source ls in let P : ℕ → Type 0 = λ k. 0 < round_at tree'.reached k in let z : 0 < round_at tree'.reached j = subst P e m in omega arith

  pub absorbed :
      (tree' : Tree) (closed'' : List ℕ)
      → Absorbing case marks load source round case.sinks tree tree'
      → source < case.sources → at tree.closed source ≡ 0 → at load.stock source ≡ 0
      → Put 0 tree'.closed closed'' source 4294967295
      → Absorbed case marks load round tree (record tree' { closed = closed'' })
  absorbed tree' closed'' a ls still empty put =
      record { grown = grown; early = a.early; closed = total; root = a.root }
    where
      before : Grown case marks load tree'
      before = a.grown

      total : sum_to (at closed'') case.sources ≡ sum_to (at tree.closed) case.sources + 4294967295
      total =
          let same : (k : ℕ) → at tree'.closed k ≡ at tree.closed k = λ k. ap (λ xs. at xs k) a.closed in
          let change = sum_change (at tree.closed) (at closed'') case.sources source ls (λ k lk ne. put.rest k ne ∙ same k) in
          omega (arith, put.here)

      -- the source itself, or one that was closed before
      by_closed : (i : ℕ) → 0 < at closed'' i → (i ≡ source) ⊎ (0 < at tree'.closed i)
      by_closed i c = ⊎_elim (λ (e : i ≡ source). inl e) (λ (ne : i ≡ source → ⊥). inr (omega (arith, put.rest i ne))) (cases_eq i source)

      grown : Grown case marks load (record tree' { closed = closed'' })
      grown =
          record {
            inside = before.inside;
            met = before.met;
            gap = before.gap;
            least = before.least;
            flag = λ i l. ⊎_elim (λ (e : i ≡ source). inr (rw e put.here)) (λ (ne : i ≡ source → ⊥). rw (put.rest i ne) (before.flag i l)) (cases_eq i source);
            shut_slack = λ i l c. elim (by_closed i c) [ inl e ↦ rw e a.slack | inr b ↦ before.shut_slack i l b ];
            shut_stock = λ i l c. elim (by_closed i c) [ inl e ↦ rw e empty | inr b ↦ before.shut_stock i l b ];
            shut_served = λ i j li lj c f. elim (by_closed i c) [ inl e ↦ a.served j lj (rw e at f) | inr b ↦ before.shut_served i j li lj b f ];
            roomy = before.roomy;
            back = λ j lj m ne. let b = before.back j lj m ne in record { inside = b.inside; slack = b.slack; served = b.served; room = b.room; round = b.round };
            root_inside = before.root_inside;
            root_met = before.root_met;
            root_room = before.root_room;
            slacks = before.slacks;
            towards = before.towards;
            closeds = put.size ∙ before.closeds;
            reacheds = before.reacheds;
          }

module _ (case : Case) (marks : Marks) (load : Load) (limited : Limited case) (marked : Marked case marks) (tied : Tied case marks load) where
  -- what a source that still has something says of a tree: it is not closed, and it bounds what the marks can rise
  module _ (tree : Tree) (g : Grown case marks load tree) (spare : ℕ) (inside : spare < case.sources) (stocked : 0 < at load.stock spare) where
    pub spare_still : at tree.closed spare ≡ 0
    spare_still = elim (g.flag spare inside) [ inl e ↦ e | inr e ↦ absurd (let z : ⊥ = omega (arith, g.shut_stock spare inside (omega arith)) in z) ]

    pub sink_rises : (by : ℕ) → by ≤ at tree.slack spare → (j : ℕ) → j < case.sinks → 0 < round_at tree.reached j → at marks.sink j + by ≤ 4000000
    sink_rises by l j lj m = omega (arith, g.least spare j inside lj m, tied.unraised spare inside stocked, limited.costs spare j inside lj)

    pub source_rises : (by : ℕ) → by ≤ at tree.slack spare → (i : ℕ) → i < case.sources → 0 < at tree.closed i → at marks.source i + by ≤ 4000000
    source_rises by l i li c = omega (arith, sink_rises by l (at tree.toward i) (g.inside i li) (g.met i li), g.gap i li, g.shut_slack i li c)

    pub chosen : (source : ℕ) → source < case.sources → Nearest (take case.sources tree.slack) (take case.sources tree.closed) source → (at tree.closed source ≡ 0) × ((i : ℕ) → i < case.sources → at tree.closed i ≡ 0 → at tree.slack source ≤ at tree.slack i)
    chosen source inside' near =
        let far : at tree.slack spare ≤ 4000000 = omega (arith, g.least spare tree.root inside g.root_inside g.root_met, tied.unraised spare inside stocked, limited.costs spare tree.root inside g.root_inside) in
        let most = least spare inside in (
          elim (g.flag source inside') [ inl e ↦ e | inr e ↦ absurd (let z : ⊥ = omega (arith, spare_still) in z) ],
          λ i li e. omega (arith, least i li),
        )
      where
        least : (k : ℕ) → k < case.sources → max (at tree.slack source) (at tree.closed source) ≤ max (at tree.slack k) (at tree.closed k)
        least k l =
            rw (← get_or-take case.sources tree.slack source 0 inside', ← get_or-take case.sources tree.closed source 0 inside', ← get_or-take case.sources tree.slack k 0 l, ← get_or-take case.sources tree.closed k 0 l)
            (near.least k (omega (arith, length-take-le case.sources tree.slack (omega (arith, g.slacks, limited.few)))))

    -- the marks can rise by the least slack
    pub rising : (source : ℕ) → Nearest (take case.sources tree.slack) (take case.sources tree.closed) source → Rising case marks tree source
    rising source near =
        let here : source < case.sources = omega (arith, near.inside, length-take-le case.sources tree.slack (omega (arith, g.slacks, limited.few))) in
        let picked = chosen source here near in
        let below : at tree.slack source ≤ at tree.slack spare = picked.1 spare inside spare_still in
        record { inside = here; still = picked.0; low = picked.1; sources = source_rises (at tree.slack source) below; sinks = sink_rises (at tree.slack source) below }

  -- some source still has something, so the marks can rise
  pub can_rise : (tree : Tree) (source : ℕ) → Grown case marks load tree → 0 < sum_to (at load.stock) case.sources → Nearest (take case.sources tree.slack) (take case.sources tree.closed) source → Rising case marks tree source
  can_rise tree source g stocked near =
      let spare = sum_some (at load.stock) case.sources stocked in
      rising tree g spare.0 spare.1 spare.2 source near

  -- so not every source is closed
  pub some_open : (tree : Tree) → Grown case marks load tree → 0 < sum_to (at load.stock) case.sources → sum_to (at tree.closed) case.sources ≡ 4294967295 * case.sources → ⊥
  some_open tree g stocked all =
      let spare = sum_some (at load.stock) case.sources stocked in
      let still = spare_still tree g spare.0 spare.1 spare.2 in
      omega (arith, sum_open (at tree.closed) case.sources spare.0 spare.1 still (λ k l. elim (g.flag k l) [ inl e ↦ omega (arith, e) | inr e ↦ omega (arith, e) ]))

  -- marks and slacks after the marks in the tree rose by the slack of a source
  module _
      (tree : Tree) (source : ℕ) (source_front sink_front slack' : List ℕ)
      (g : Grown case marks load tree) (rise : Rising case marks tree source)
      (sources : Raised (λ i b. b ≡ nat_lt 0 (at tree.closed i)) (at tree.slack source) (take case.sources marks.source) source_front)
      (slacks : Lowered (take case.sources tree.closed) (at tree.slack source) tree.slack slack')
      (sinks : Raised (λ j b. b ≡ is_some (reached_at tree.reached j)) (at tree.slack source) (take case.sinks marks.sink) sink_front) where
    few_sources : (row : List ℕ) → length row ≡ 64 → case.sources ≤ length row
    few_sources row e = omega (arith, limited.few)

    few_sinks : (row : List ℕ) → length row ≡ 64 → case.sinks ≤ length row
    few_sinks row e = omega (arith, limited.few)

    abbrev source' : List ℕ
    source' = renewed case.sources marks.source source_front

    abbrev sink' : List ℕ
    sink' = renewed case.sinks marks.sink sink_front

    source_at : (i : ℕ) → i < case.sources → at source' i ≡ at marks.source i + cond (nat_lt 0 (at tree.closed i)) (at tree.slack source) 0
    source_at i l =
        let few = few_sources marks.source marked.sources in
        let new = sources.raised i (omega (arith, length-take-le case.sources marks.source few)) in
        rw (renewed_at case.sources marks.source source_front few sources.size i l, ← new.1, ← get_or-take case.sources marks.source i 0 l) new.2

    sink_at : (j : ℕ) → j < case.sinks → at sink' j ≡ at marks.sink j + cond (nat_lt 0 (round_at tree.reached j)) (at tree.slack source) 0
    sink_at j l =
        let few = few_sinks marks.sink marked.sinks in
        let new = sinks.raised j (omega (arith, length-take-le case.sinks marks.sink few)) in
        rw (renewed_at case.sinks marks.sink sink_front few sinks.size j l, ← some_round (reached_at tree.reached j), ← new.1, ← get_or-take case.sinks marks.sink j 0 l) new.2

    slack_at : (i : ℕ) → i < case.sources → (at tree.closed i ≡ 0 → at slack' i + at tree.slack source ≡ at tree.slack i) × (0 < at tree.closed i → at slack' i ≡ at tree.slack i)
    slack_at i l =
        let here : i < length (take case.sources tree.closed) = omega (arith, length-take-le case.sources tree.closed (few_sources tree.closed g.closeds)) in
        rw (← get_or-take case.sources tree.closed i 0 l) (slacks.lowered i here, slacks.still i here)

    of_source : (i : ℕ) → i < case.sources → ((at tree.closed i ≡ 0) × (at source' i ≡ at marks.source i) × (at slack' i + at tree.slack source ≡ at tree.slack i)) ⊎ ((0 < at tree.closed i) × (at source' i ≡ at marks.source i + at tree.slack source) × (at slack' i ≡ at tree.slack i))
    of_source i l =
        ⊎_elim
        (λ (e : at tree.closed i ≡ 0). inl (e, grind (arith, source_at i l), (slack_at i l).0 e))
        (λ (ne : at tree.closed i ≡ 0 → ⊥). let c : 0 < at tree.closed i = omega arith in inr (c, grind (arith, source_at i l), (slack_at i l).1 c))
        (cases_eq (at tree.closed i) 0)

    of_sink : (j : ℕ) → j < case.sinks → ((round_at tree.reached j ≡ 0) × (at sink' j ≡ at marks.sink j)) ⊎ ((0 < round_at tree.reached j) × (at sink' j ≡ at marks.sink j + at tree.slack source))
    of_sink j l =
        ⊎_elim
        (λ (e : round_at tree.reached j ≡ 0). inl (e, grind (arith, sink_at j l)))
        (λ (ne : round_at tree.reached j ≡ 0 → ⊥). let m : 0 < round_at tree.reached j = omega arith in inr (m, grind (arith, sink_at j l)))
        (cases_eq (round_at tree.reached j) 0)

    lifted : (j : ℕ) → j < case.sinks → 0 < round_at tree.reached j → at sink' j ≡ at marks.sink j + at tree.slack source
    lifted j l m = grind (arith, of_sink j l)

    fair : (i j : ℕ) → i < case.sources → j < case.sinks → at sink' j ≤ at source' i + cost_of case i j
    fair i j li lj = grind (arith, of_source i li, of_sink j lj, marked.fair i j li lj, g.least i j li lj)

    tight : (i j : ℕ) → i < case.sources → j < case.sinks → 0 < cell load.flow i j → at sink' j ≡ at source' i + cost_of case i j
    tight i j li lj f = grind (arith, of_source i li, of_sink j lj, tied.tight i j li lj f, g.least i j li lj, g.shut_served i j li lj)

    raised_marked : Marked case (record { source = source'; sink = sink' })
    raised_marked =
        record {
          fair = fair;
          source_marks = λ i l. grind (arith, of_source i l, marked.source_marks i l, rise.sources i l);
          sink_marks = λ j l. grind (arith, of_sink j l, marked.sink_marks j l, rise.sinks j l);
          sources = renewed_size case.sources marks.source source_front (few_sources marks.source marked.sources) sources.size ∙ marked.sources;
          sinks = renewed_size case.sinks marks.sink sink_front (few_sinks marks.sink marked.sinks) sinks.size ∙ marked.sinks;
        }

    raised_tied : Tied case (record { source = source'; sink = sink' }) load
    raised_tied =
        record {
          tight = tight;
          unraised = λ i l f. elim (of_source i l) [ inl s ↦ omega (arith, s.1, tied.unraised i l f) | inr s ↦ absurd (let z : ⊥ = omega (arith, g.shut_stock i l s.0) in z) ];
        }

    slack_stays : (i : ℕ) → i < case.sources → at tree.slack i ≡ 0 → at slack' i ≡ 0
    slack_stays i l e = grind (arith, of_source i l)

    grown' : Grown case (record { source = source'; sink = sink' }) load (record tree { slack = slack' })
    grown' =
        record {
          inside = g.inside;
          met = g.met;
          gap =
              λ i l.
              let above = lifted (at tree.toward i) (g.inside i l) (g.met i l) in
              elim (of_source i l) [ inl s ↦ omega (arith, above, s.1, s.2, g.gap i l) | inr s ↦ omega (arith, above, s.1, s.2, g.gap i l) ];
          least =
              λ i j li lj m.
              let above = lifted j lj m in
              elim (of_source i li) [ inl s ↦ omega (arith, above, s.1, s.2, g.least i j li lj m) | inr s ↦ omega (arith, above, s.1, s.2, g.least i j li lj m) ];
          flag = g.flag;
          shut_slack = λ i l c. slack_stays i l (g.shut_slack i l c);
          shut_stock = g.shut_stock;
          shut_served = g.shut_served;
          roomy = g.roomy;
          back = λ j lj m ne. let b = g.back j lj m ne in record { inside = b.inside; slack = slack_stays (parent_at tree.reached j) b.inside b.slack; served = b.served; room = b.room; round = b.round };
          root_inside = g.root_inside;
          root_met = g.root_met;
          root_room = g.root_room;
          slacks = slacks.size;
          towards = g.towards;
          closeds = g.closeds;
          reacheds = g.reacheds;
        }

    raised : Tightened case load source tree (record { source = source'; sink = sink' }) (record tree { slack = slack' })
    raised = record { grown = grown'; inside = rise.inside; slack = omega (arith, (slack_at source rise.inside).0 rise.still); still = rise.still; closed = refl; reached = refl; root = refl }

    pub risen : Marked case (record { source = source'; sink = sink' }) × Tied case (record { source = source'; sink = sink' }) load × Tightened case load source tree (record { source = source'; sink = sink' }) (record tree { slack = slack' })
    risen = (raised_marked, raised_tied, raised)
