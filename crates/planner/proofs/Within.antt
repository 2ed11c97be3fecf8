-- The transport case of a net whose currents sum to 0 is within the solver's limits.
use Rattle.std.proofs.Common.{◌≡◌, ℕ, zero, suc, ◌+◌, ◌<◌, ◌≤◌, min, Bool, true, false, cond, ◌&&◌, leb, List, length, take, ℤ, pos, negsuc, ◌-ℤ◌, Some, None, Option, sym, refl, ap, ◌∙◌, add-one, arith}
use borrow.Author.Differences.{ints}
use Rattle.std.proofs.lemmas.List.{take_all}
use Rattle.std.proofs.lemmas.Bool.{and_from, and_parts, leb-true, le-leb, eq-eqb}
use Rattle.ruler.specs.Meaning.{Meaning, Metric}
use Rattle.wires.specs.declared.terminal.Terminal.{Terminal}
use Rattle.wires.specs.Sums.{sum}
use Rattle.wires.specs.Wiring.{row_adds, seated}
use Rattle.wires.proofs.Sums.{seated_more}
use Rattle.audit.specs.Audit.{row_at}
use Rattle.audit.specs.Questions.{allowed, row_allowed}
use Rattle.transport.specs.declared.case.Case.{Case}
use Rattle.transport.specs.Transport.{amounts_fit, at, balanced, cost_of, costs_fit, each, sum_to, within}
use Rattle.transport.proofs.Every.{each_all}
use Rattle.transport.proofs.Sums.{sum_same}
use Rattle.planner.specs.Costs.{Amounts, CaseOf, cost_between, or_none}
use Rattle.planner.specs.declared.side.Side.{Side}
use Rattle.planner.specs.declared.side.Side.TheVariants.{Source, Sink}
use Rattle.planner.proofs.Gathering.{Gathered}
use Rattle.planner.specs.Ends.{amount, amount_at, given, taken}

-- an allowed current gives or takes at most 1,000,000
given_le : (z : ℤ) → allowed z ≡ true → given z ≤ 1000000
given_le (pos n) ok = leb-true n 1000000 (and_parts (leb 1 n) (leb n 1000000) ok).1
given_le (negsuc n) ok = omega arith

taken_le : (z : ℤ) → allowed z ≡ true → taken z ≤ 1000000
taken_le (pos n) ok = omega arith
taken_le (negsuc n) ok = let h = leb-true n 999999 ok in omega arith

amount_le : (side : Side) (row : Option Terminal) → row_allowed row ≡ true → amount side row ≤ 1000000
amount_le Source (Some t) ok = given_le t.current ok
amount_le Sink (Some t) ok = taken_le t.current ok
amount_le Source None ok = omega arith
amount_le Sink None ok = omega arith

-- no row both gives and takes
one_side : (row : Option Terminal) → min 1 (amount Source row) + min 1 (amount Sink row) ≤ 1
one_side (Some t) = go t.current
  where
    go : (z : ℤ) → min 1 (given z) + min 1 (taken z) ≤ 1
    go (pos n) = omega arith
    go (negsuc n) = omega arith
one_side None = omega arith

sides_few : (rows : List (Option Terminal)) (n : ℕ) → sum_to (λ i. min 1 (amount_at rows Source i)) n + sum_to (λ i. min 1 (amount_at rows Sink i)) n ≤ n
sides_few rows zero = omega arith
sides_few rows (suc n) = let rest = sides_few rows n in let here = one_side (row_at rows n) in omega arith

row_current : (row : Option Terminal) → row_adds (λ t. t.current) row ≡ pos (amount Source row) -ℤ pos (amount Sink row)
row_current (Some t) = go t.current
  where
    go : (z : ℤ) → z ≡ pos (given z) -ℤ pos (taken z)
    go (pos n) = omega (arith, ints)
    go (negsuc n) = omega (arith, ints)
row_current None = refl

-- what is given less what is taken is the sum of the currents
even_sides : (rows : List (Option Terminal)) (n : ℕ) → n ≤ length rows → sum (λ t. t.current) (seated (take n rows)) ≡ pos (sum_to (amount_at rows Source) n) -ℤ pos (sum_to (amount_at rows Sink) n)
even_sides rows zero h = refl
even_sides rows (suc n) h =
    let rest = even_sides rows n (omega arith) in
    let more = seated_more (λ (t : Terminal). t.current) rows n None (omega arith) in
    let here = row_current (row_at rows n) in
    rw (← add-one) (more ∙ omega (arith, ints))

cost_le : (m : Meaning) → Metric m → (a b : Option Terminal) → cost_between m a b ≤ 4000000
cost_le m metric None b = omega arith
cost_le m metric (Some a) None = omega arith
cost_le m metric (Some a) (Some b) = go (m.known a.site) (m.known b.site) refl refl
  where
    go : (x y : Bool) → m.known a.site ≡ x → m.known b.site ≡ y → or_none (cond (x && y) (Some (m.span a.site b.site)) None) ≤ 4000000
    go true true e f = metric.ceiling a.site b.site e f
    go true false e f = omega arith
    go false y e f = omega arith

-- steps over plain numbers, since a sum up to 64 would be written out
sum_le : (a b x y n : ℕ) → a ≡ x → b ≡ y → x + y ≤ n → a + b ≤ n
sum_le a b x y n p q h = omega arith

level_sides : (a b x y : ℕ) → a ≡ x → b ≡ y → pos x -ℤ pos y ≡ pos 0 → a ≡ b
level_sides a b x y p q e = omega (arith, ints)

at_most : {n : ℕ} → n ≡ 64 → n ≤ 64
at_most e = omega arith

at_least : {n : ℕ} → n ≡ 64 → 64 ≤ n
at_least e = omega arith

module _ (m : Meaning) (metric : Metric m) (rows : List (Option Terminal)) (full : length rows ≡ 64) (ranged : (k : ℕ) → row_allowed (row_at rows k) ≡ true) (sources sinks : List ℕ) (giving : Gathered rows Source 64 sources) (taking : Gathered rows Sink 64 sinks) (case : Case) (made : CaseOf m rows sources sinks case) where
  few : leb (case.sources + case.sinks) 64 ≡ true
  few = le-leb (case.sources + case.sinks) 64 (sum_le _ _ _ _ 64 (made.sources_are ∙ giving.count) (made.sinks_are ∙ taking.count) (sides_few rows 64))

  amounts : (ends : List ℕ) (side : Side) (n : ℕ) (xs : List ℕ) → n ≡ length ends → Amounts rows ends side (length ends) xs → amounts_fit xs n ≡ true
  amounts ends side n xs is a = each_all (λ i. leb (at xs i) 1000000) n (λ k h. le-leb (at xs k) 1000000 (let e = a.each k (omega arith) in let l = amount_le side (row_at rows (at ends k)) (ranged (at ends k)) in omega arith))

  costs : costs_fit case ≡ true
  costs = each_all (λ i. each (λ j. leb (cost_of case i j) 4000000) case.sinks) case.sources (λ i h. each_all (λ j. leb (cost_of case i j) 4000000) case.sinks (λ j l. le-leb (cost_of case i j) 4000000 (cheap i j h l)))
    where
      cheap : (i j : ℕ) → i < case.sources → j < case.sinks → cost_of case i j ≤ 4000000
      cheap i j h l =
          let a = made.sources_are in
          let b = made.sinks_are in
          let is = made.costs.each i j (omega arith) (omega arith) in
          let c = cost_le m metric (row_at rows (at sources i)) (row_at rows (at sinks j)) in
          omega arith

  total : (ends : List ℕ) (side : Side) (n : ℕ) (xs : List ℕ) → n ≡ length ends → Gathered rows side 64 ends → Amounts rows ends side (length ends) xs → sum_to (at xs) n ≡ sum_to (amount_at rows side) 64
  total ends side n xs is g a = ap (sum_to (at xs)) is ∙ sum_same (λ k. amount_at rows side (at ends k)) (at xs) (length ends) a.each ∙ g.even

  pub case_within : sum (λ t. t.current) (seated rows) ≡ pos 0 → within case ≡ true
  case_within even =
      let a = total sources Source case.sources case.supply made.sources_are giving made.supply in
      let b = total sinks Sink case.sinks case.demand made.sinks_are taking made.demand in
      let all = ap (λ rs. sum (λ (t : Terminal). t.current) (seated rs)) (take_all 64 rows (at_most full)) in
      let sides = even_sides rows 64 (at_least full) in
      let same = level_sides _ _ _ _ a b (sym sides ∙ all ∙ even) in
      let level = eq-eqb (sum_to (at case.supply) case.sources) (sum_to (at case.demand) case.sinks) same in
      let rest = and_from (costs_fit case) (balanced case) costs level in
      let demands = and_from (amounts_fit case.demand case.sinks) (costs_fit case && balanced case) (amounts sinks Sink case.sinks case.demand made.sinks_are made.demand) rest in
      let supplies = and_from (amounts_fit case.supply case.sources) (amounts_fit case.demand case.sinks && (costs_fit case && balanced case)) (amounts sources Source case.sources case.supply made.sources_are made.supply) demands in
      and_from (leb (case.sources + case.sinks) 64) (amounts_fit case.supply case.sources && (amounts_fit case.demand case.sinks && (costs_fit case && balanced case))) few supplies
