-- The limits of a case, read off its tests.
use Rattle.std.proofs.Common.{◌≡◌, ℕ, zero, suc, ◌+◌, ◌-◌, ◌*◌, ◌<◌, ◌≤◌, Bool, true, ◌&&◌, leb, refl, ap, ◌∙◌, inl, inr, mul-le-mul_right, arith}
use Rattle.std.proofs.lemmas.Bool.{and_parts, leb-true, cases_eq}
use Rattle.transport.specs.declared.case.Case.{Case}
use Rattle.transport.specs.Transport.{at, cost_of, each, amounts_fit, costs_fit, balanced, within}

each_at : (p : ℕ → Bool) (n k : ℕ) → each p n ≡ true → k < n → p k ≡ true
each_at p zero k e h = absurd (omega arith)
each_at p (suc n) k e h =
    let parts = and_parts (p n) (each p n) e in
    elim (cases_eq k n) [ inl s ↦ ap p s ∙ parts.0 | inr d ↦ each_at p n k parts.1 (omega arith) ]

-- as many pairs as 64 ends can make
pub few_pairs : (a b : ℕ) → a + b ≤ 64 → b * a ≤ 1024
few_pairs a b h =
    let most = leb-true ((64 - a) * a) 1024 (each_at (λ n. leb ((64 - n) * n) 1024) 65 a refl (omega arith)) in
    let less : b ≤ 64 - a = omega arith in
    let here : b * a ≤ (64 - a) * a = mul-le-mul_right a less in
    omega arith

module _ (case : Case) (fits : within case ≡ true) where
  few : (case.sources + case.sinks ≤ 64) × ((amounts_fit case.supply case.sources && (amounts_fit case.demand case.sinks && (costs_fit case && balanced case))) ≡ true)
  few = let both = and_parts (leb (case.sources + case.sinks) 64) (amounts_fit case.supply case.sources && (amounts_fit case.demand case.sinks && (costs_fit case && balanced case))) fits in (leb-true (case.sources + case.sinks) 64 both.0, both.1)

  pub few_ends : case.sources + case.sinks ≤ 64
  few_ends = few.0

  supplies : (amounts_fit case.supply case.sources ≡ true) × ((amounts_fit case.demand case.sinks && (costs_fit case && balanced case)) ≡ true)
  supplies = and_parts (amounts_fit case.supply case.sources) (amounts_fit case.demand case.sinks && (costs_fit case && balanced case)) few.1

  pub supply_fits : (i : ℕ) → i < case.sources → at case.supply i ≤ 1000000
  supply_fits i h = leb-true (at case.supply i) 1000000 (each_at (λ i. leb (at case.supply i) 1000000) case.sources i supplies.0 h)

  pub cost_fits : (i j : ℕ) → i < case.sources → j < case.sinks → cost_of case i j ≤ 4000000
  cost_fits i j h k =
      let rest = and_parts (amounts_fit case.demand case.sinks) (costs_fit case && balanced case) supplies.1 in
      let all = and_parts (costs_fit case) (balanced case) rest.1 in
      let row = each_at (λ i. each (λ j. leb (cost_of case i j) 4000000) case.sinks) case.sources i all.0 h in
      leb-true (cost_of case i j) 4000000 (each_at (λ j. leb (cost_of case i j) 4000000) case.sinks j row k)
