-- The listed wires: what holds of each, their sums, and their order.
use Rattle.std.proofs.Common.{◌≡◌, ℕ, zero, suc, ◌<◌, ◌≤◌, Bool, true, false, cond, ◌&&◌, eqb, ltb, List, [], ◌∷◌, ◌++◌, sym, refl, arith, length}
use Rattle.std.specs.List.{AllByRecursion}
use Rattle.std.proofs.ByRecursion.{All-append}
use Rattle.std.proofs.lemmas.Bool.{ltb-true, ltb-false, lt-ltb, eq-eqb, and_from, or_left, or_right}
use Rattle.wires.specs.Sums.{total}
use Rattle.wires.proofs.Sums.{total_append}
use Rattle.transport.specs.Transport.{cell, sum_to}
use Rattle.planner.specs.declared.plan.Link.{Link}
use Rattle.planner.specs.Listing.{Placed, link_at, row_links, all_links}
use Rattle.planner.specs.Planned.{before, Ascending}

module _ (sources sinks : List ℕ) (flow : List ℕ) where
  row_all : (P : Link → Type 0) (i n : ℕ) → ((j : ℕ) → j < n → 0 < cell flow i j → P (link_at sources sinks flow i j)) → AllByRecursion P (row_links sources sinks flow i n)
  row_all P i zero h = tt
  row_all P i (suc n) h = All-append P (row_links sources sinks flow i n) (cond (ltb 0 (cell flow i n)) (link_at sources sinks flow i n ∷ []) []) (row_all P i n (λ j l. h j (omega arith))) (one (ltb 0 (cell flow i n)) refl)
    where
      one : (b : Bool) → ltb 0 (cell flow i n) ≡ b → AllByRecursion P (cond b (link_at sources sinks flow i n ∷ []) [])
      one true e = (h n (omega arith) (ltb-true 0 (cell flow i n) e), tt)
      one false e = tt

  -- what holds of each pair between which anything flows holds of each wire
  pub links_all : (P : Link → Type 0) (w n : ℕ) → ((i j : ℕ) → i < n → j < w → 0 < cell flow i j → P (link_at sources sinks flow i j)) → AllByRecursion P (all_links sources sinks flow w n)
  links_all P w zero h = tt
  links_all P w (suc n) h = All-append P (all_links sources sinks flow w n) (row_links sources sinks flow n w) (links_all P w n (λ i j l. h i j (omega arith))) (row_all P n w (λ j. h n j (omega arith)))

  -- a sum over the wires is a sum over all pairs, where a pair with no flow adds nothing
  module _ (f : Link → ℕ) (none : (i j : ℕ) → cell flow i j ≡ 0 → f (link_at sources sinks flow i j) ≡ 0) where
    row_total : (i n : ℕ) → total f (row_links sources sinks flow i n) ≡ sum_to (λ j. f (link_at sources sinks flow i j)) n
    row_total i zero = refl
    row_total i (suc n) =
        let rest = row_total i n in
        let both = total_append f (row_links sources sinks flow i n) (cond (ltb 0 (cell flow i n)) (link_at sources sinks flow i n ∷ []) []) in
        let here = one (ltb 0 (cell flow i n)) refl in
        omega arith
      where
        one : (b : Bool) → ltb 0 (cell flow i n) ≡ b → total f (cond b (link_at sources sinks flow i n ∷ []) []) ≡ f (link_at sources sinks flow i n)
        one true e = omega arith
        one false e = let low = ltb-false 0 (cell flow i n) e in sym (none i n (omega arith))

    pub links_total : (w n : ℕ) → total f (all_links sources sinks flow w n) ≡ sum_to (λ i. sum_to (λ j. f (link_at sources sinks flow i j)) w) n
    links_total w zero = refl
    links_total w (suc n) =
        let rest = links_total w n in
        let both = total_append f (all_links sources sinks flow w n) (row_links sources sinks flow n w) in
        let here = row_total n w in
        omega arith

before_by_from : (a b : Link) → a.from < b.from → before a b ≡ true
before_by_from a b h = or_left (ltb a.from b.from) (eqb a.from b.from && ltb a.to b.to) (lt-ltb a.from b.from h)

before_by_to : (a b : Link) → a.from ≡ b.from → a.to < b.to → before a b ≡ true
before_by_to a b e h = or_right (ltb a.from b.from) (eqb a.from b.from && ltb a.to b.to) (and_from (eqb a.from b.from) (ltb a.to b.to) (eq-eqb a.from b.from e) (lt-ltb a.to b.to h))

ascending_append : (xs ys : List Link) → Ascending xs → Ascending ys → AllByRecursion (λ x. AllByRecursion (λ y. before x y ≡ true) ys) xs → Ascending (xs ++ ys)
ascending_append [] ys up on across = on
ascending_append (a ∷ []) [] up on across = tt
ascending_append (a ∷ []) (b ∷ ys) up on across = (across.0.0, on)
ascending_append (a ∷ b ∷ xs) ys up on across = (up.0, ascending_append (b ∷ xs) ys up.1 on across.1)

module _ (sources sinks : List ℕ) (flow : List ℕ) (from : Placed sources) (to : Placed sinks) where
  row_ascending : (i n : ℕ) → n ≤ length sinks → Ascending (row_links sources sinks flow i n)
  row_ascending i zero h = tt
  row_ascending i (suc n) h = go (ltb 0 (cell flow i n)) (row_ascending i n (omega arith))
    where
      go : (b : Bool) → Ascending (row_links sources sinks flow i n) → Ascending (row_links sources sinks flow i n ++ cond b (link_at sources sinks flow i n ∷ []) [])
      go true up = ascending_append (row_links sources sinks flow i n) (link_at sources sinks flow i n ∷ []) up tt (row_all sources sinks flow (λ x. AllByRecursion (λ y. before x y ≡ true) (link_at sources sinks flow i n ∷ [])) i n (λ j l some. (before_by_to (link_at sources sinks flow i j) (link_at sources sinks flow i n) refl (let less = to.ascending j n l (omega arith) in omega arith), tt)))
      go false up = ascending_append (row_links sources sinks flow i n) [] up tt (row_all sources sinks flow (λ x. AllByRecursion (λ y. before x y ≡ true) []) i n (λ j l some. tt))

  pub links_ascending : (w n : ℕ) → w ≤ length sinks → n ≤ length sources → Ascending (all_links sources sinks flow w n)
  links_ascending w zero h k = tt
  links_ascending w (suc n) h k = ascending_append (all_links sources sinks flow w n) (row_links sources sinks flow n w) (links_ascending w n h (omega arith)) (row_ascending n w h) (links_all sources sinks flow (λ x. AllByRecursion (λ y. before x y ≡ true) (row_links sources sinks flow n w)) w n (λ i j l g some. row_all sources sinks flow (λ y. before (link_at sources sinks flow i j) y ≡ true) n w (λ o p more. before_by_from (link_at sources sinks flow i j) (link_at sources sinks flow n o) (let less = from.ascending i n l (omega arith) in omega arith))))
