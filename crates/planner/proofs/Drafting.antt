-- The draft of the wires, one pair of a source and a sink after another.
use Rattle.std.proofs.Common.{◌≡◌, ℕ, suc, ◌+◌, ◌*◌, ◌<◌, ◌≤◌, cond, [], ◌∷◌, ◌++◌, length, length-append, sym, ap, ◌∙◌, mul-le-mul, mul-le-mul_left, zero-mul, mul-suc, arith, List}
use Rattle.std.proofs.lemmas.List.{append-nil, append_assoc}
use Rattle.std.proofs.lemmas.Bool.{lt-ltb, le-ltb}
use Rattle.transport.specs.declared.case.Case.{Case}
use Rattle.transport.specs.declared.plan.Plan.{Plan}
use Rattle.transport.specs.Transport.{cell, cost_of}
use Rattle.bounded.specs.Items.{items}
use Rattle.planner.specs.declared.ends.costs.listing.Draft.{Draft}
use Rattle.planner.specs.Listing.{Solved, Drafted, link_at, row_links, all_links, row_cost, all_cost}
use Rattle.transport.proofs.Sums.{sum_at}
use Rattle.planner.proofs.Limits.{few_pairs, few_ends, supply_fits, cost_fits}

module _ (case : Case) (sources sinks : List ℕ) (plan : Plan) (solved : Solved case sources sinks plan) where
  -- the cost of one wire
  cost_small : (i j : ℕ) → i < case.sources → j < case.sinks → cell plan.flow i j * cost_of case i j ≤ 4000000000000
  cost_small i j h k =
      let part = sum_at (λ j. cell plan.flow i j) case.sinks j k in
      let sent = solved.optimal.sent i h in
      let supply = supply_fits case solved.fits i h in
      let flow : cell plan.flow i j ≤ 1000000 = omega arith in
      mul-le-mul flow (cost_fits case solved.fits i j h k)

  module _ (i j : ℕ) (d : Draft) (so_far : Drafted case sources sinks plan.flow i j d) where
    pub draft_room : i < case.sources → j < case.sinks → length (items d.links) < 1024
    draft_room h k =
        let all = few_pairs case.sources case.sinks (few_ends case solved.fits) in
        let up : suc i ≤ case.sources = omega arith in
        let row : case.sinks * suc i ≤ case.sinks * case.sources = mul-le-mul_left case.sinks up in
        let next = mul-suc case.sinks i in
        let few = so_far.few in
        omega arith

    -- a pair between which nothing flows
    pub drafted_skip : cell plan.flow i j ≡ 0 → Drafted case sources sinks plan.flow i (suc j) d
    drafted_skip none = record { lists = so_far.lists ∙ ap (λ ls. all_links sources sinks plan.flow case.sinks i ++ ls) (sym same); few = let few = so_far.few in omega arith; costs = costs; small = so_far.small }
      where
        same : row_links sources sinks plan.flow i (suc j) ≡ row_links sources sinks plan.flow i j
        same = ap (λ b. row_links sources sinks plan.flow i j ++ cond b (link_at sources sinks plan.flow i j ∷ []) []) (le-ltb 0 (cell plan.flow i j) (omega arith)) ∙ append-nil (row_links sources sinks plan.flow i j)

        costs : d.area ≡ all_cost case plan.flow i + row_cost case plan.flow i (suc j)
        costs =
            let free = ap (λ f. f * cost_of case i j) none ∙ zero-mul (cost_of case i j) in
            let is = so_far.costs in
            omega arith

    -- a pair with a wire
    pub drafted_push : i < case.sources → j < case.sinks → 0 < cell plan.flow i j → (after : Draft) → items after.links ≡ items d.links ++ link_at sources sinks plan.flow i j ∷ [] → after.area ≡ d.area + cell plan.flow i j * cost_of case i j → Drafted case sources sinks plan.flow i (suc j) after
    drafted_push h k some after pushed added =
        let longer = ap length pushed ∙ length-append (items d.links) (link_at sources sinks plan.flow i j ∷ []) in
        record { lists = lists; few = let few = so_far.few in omega arith; costs = let is = so_far.costs in omega arith; small = let low = so_far.small in let next = cost_small i j h k in omega arith }
      where
        one : row_links sources sinks plan.flow i (suc j) ≡ row_links sources sinks plan.flow i j ++ link_at sources sinks plan.flow i j ∷ []
        one = ap (λ b. row_links sources sinks plan.flow i j ++ cond b (link_at sources sinks plan.flow i j ∷ []) []) (lt-ltb 0 (cell plan.flow i j) some)

        lists : items after.links ≡ all_links sources sinks plan.flow case.sinks i ++ row_links sources sinks plan.flow i (suc j)
        lists =
            let old = all_links sources sinks plan.flow case.sinks i in
            let row = row_links sources sinks plan.flow i j in
            pushed ∙ ap (λ ls. ls ++ link_at sources sinks plan.flow i j ∷ []) so_far.lists ∙ append_assoc old row (link_at sources sinks plan.flow i j ∷ []) ∙ ap (λ ls. old ++ ls) (sym one)
