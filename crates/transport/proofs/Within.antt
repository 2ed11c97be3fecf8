-- The limits of a case, as tests of lists.
use Rattle.std.proofs.Common.{◌≡◌, ℕ, ◌+◌, ◌-◌, ◌*◌, ◌≤◌, leb, List, length, get_or, slice_range, take, drop, refl, sym, ap, ◌∙◌, arith}
use Rattle.std.specs.List.{list_all, range_with_len}
use Rattle.std.proofs.lemmas.List.{get_or-drop, length-drop, take_all}
use Rattle.std.proofs.lemmas.List.FromFn.{length-range_with_len, get_or-range_with_len}
use Rattle.transport.specs.declared.case.Case.{Case}
use Rattle.transport.specs.Transport.{cell, each, amounts_fit, costs_fit}
use Rattle.transport.proofs.Every.{each_list}

pub amounts_fit_list : (xs : List ℕ) (n : ℕ) → n ≤ length xs → amounts_fit xs n ≡ list_all (λ x. leb x 1000000) (take n xs)
amounts_fit_list xs n l = each_list _ (λ x. leb x 1000000) xs 0 n l (λ k b. refl)

-- a row of costs
costs_fit_row : (case : Case) (i : ℕ) → 64 * i + case.sinks ≤ length case.cost → list_all (λ x. leb x 4000000) (slice_range case.cost (64 * i) (64 * i + case.sinks)) ≡ each (λ j. leb (cell case.cost i j) 4000000) case.sinks
costs_fit_row case i l =
    let wide : 64 * i + case.sinks - 64 * i ≡ case.sinks = omega arith in
    rw wide (sym (each_list _ (λ x. leb x 4000000) (drop (64 * i) case.cost) 0 case.sinks (omega (arith, length-drop (64 * i) case.cost)) (λ j b. ap (λ x. leb x 4000000) (get_or-drop (64 * i) case.cost j 0))))

pub costs_fit_list : (case : Case) → case.sources ≤ 64 → case.sinks ≤ 64 → length case.cost ≡ 4096 → costs_fit case ≡ list_all (λ i. list_all (λ x. leb x 4000000) (slice_range case.cost (64 * i) (64 * i + case.sinks))) (range_with_len 0 case.sources)
costs_fit_list case few slim all =
    let long = length-range_with_len 0 case.sources in
    each_list _ _ (range_with_len 0 case.sources) 0 case.sources (omega arith) (λ i b. let here : get_or (range_with_len 0 case.sources) i 0 ≡ i = omega (arith, get_or-range_with_len 0 case.sources i 0 b) in rw here (costs_fit_row case i (omega arith)))
    ∙ ap (list_all _) (take_all case.sources (range_with_len 0 case.sources) (omega arith))
