-- The rows that give or take, gathered one after another.
use Rattle.std.proofs.Common.{◌≡◌, ℕ, zero, suc, ◌+◌, ◌<◌, ◌≤◌, min, Bool, true, false, cond, ltb, ◌⊎◌, List, [], ◌∷◌, ◌++◌, length, Option, sym, refl, ap, ◌∙◌, subst, inl, inr, add-one, arith, length-append}
use Rattle.std.proofs.Math.Seq.{get_or-append_seam}
use Rattle.std.proofs.lemmas.List.{append-nil, get_or_append_left}
use Rattle.std.proofs.lemmas.Bool.{cases_eq, ltb-true, ltb-false}
use Rattle.wires.specs.declared.terminal.Terminal.{Terminal}
use Rattle.transport.specs.Transport.{at, sum_to}
use Rattle.planner.specs.declared.side.Side.{Side}
use Rattle.planner.specs.Ends.{amount_at, gathered}
use Rattle.planner.specs.Listing.{Placed}
use Rattle.transport.proofs.Sums.{sum_same}

-- as many as there are rows, at the most
count_le : (f : ℕ → ℕ) (n : ℕ) → sum_to (λ i. min 1 (f i)) n ≤ n
count_le f zero = omega arith
count_le f (suc n) = let rest = count_le f n in omega arith

-- what is known of the gathered places: each stands on the side, and none that does is left out
pub record Gathered (rows : List (Option Terminal)) (side : Side) (n : ℕ) (ends : List ℕ) : Type 0 where
  pub count : (length ends) ≡ sum_to (λ i. min 1 (amount_at rows side i)) n
  pub inside : (k : ℕ) → k < length ends → at ends k < n
  pub ascending : (k l : ℕ) → k < l → l < length ends → at ends k < at ends l
  pub filled : (k : ℕ) → k < length ends → 0 < amount_at rows side (at ends k)
  pub complete : (i : ℕ) → i < n → 0 < amount_at rows side i → (k : ℕ) × (k < length ends) × (at ends k ≡ i)
  pub even : sum_to (λ k. amount_at rows side (at ends k)) (length ends) ≡ sum_to (amount_at rows side) n

module _ (rows : List (Option Terminal)) (side : Side) where
  gathered_none : Gathered rows side 0 []
  gathered_none = record { count = refl; inside = λ k h. absurd (omega arith); ascending = λ k l h i. absurd (omega arith); filled = λ k h. absurd (omega arith); complete = λ i h a. absurd (omega arith); even = refl }

  module _ (n : ℕ) (e : List ℕ) (g : Gathered rows side n e) where
    gathered_count : length e ≤ n
    gathered_count = let few = count_le (amount_at rows side) n in let is = g.count in omega arith

    -- they stand in ascending rows
    pub gathered_placed : n ≡ 64 → Placed e
    gathered_placed all = record { few = let few = gathered_count in omega arith; inside = λ k h. let i = g.inside k h in omega arith; ascending = g.ascending }

    -- a row that neither gives nor takes
    gathered_skip : amount_at rows side n ≡ 0 → Gathered rows side (suc n) e
    gathered_skip none = record { count = let is = g.count in omega arith; inside = λ k h. let i = g.inside k h in omega arith; ascending = g.ascending; filled = g.filled; complete = complete; even = let is = g.even in omega arith }
      where
        complete : (i : ℕ) → i < suc n → 0 < amount_at rows side i → (k : ℕ) × (k < length e) × (at e k ≡ i)
        complete i h a = elim (cases_eq i n) [ inl s ↦ absurd (let z = ap (amount_at rows side) s in omega arith) | inr d ↦ g.complete i (omega arith) a ]

    abbrev pushed : List ℕ
    pushed = e ++ n ∷ []

    module _ (some : 0 < amount_at rows side n) where
      longer : length pushed ≡ length e + 1
      longer = length-append e (n ∷ [])

      here : at pushed (length e) ≡ n
      here = get_or-append_seam e n [] 0

      there : (k : ℕ) → k < length e → at pushed k ≡ at e k
      there k h = get_or_append_left e (n ∷ []) 0 k h

      split : (k : ℕ) → k < length pushed → (k ≡ length e) ⊎ (k < length e)
      split k h = let more = longer in elim (cases_eq k (length e)) [ inl s ↦ inl s | inr d ↦ inr (omega arith) ]

      inside : (k : ℕ) → k < length pushed → at pushed k < suc n
      inside k h = go (split k h)
        where
          go : (k ≡ length e) ⊎ (k < length e) → at pushed k < suc n
          go (inl s) = let x = ap (at pushed) s in let y = here in omega arith
          go (inr l) = let x = there k l in let y = g.inside k l in omega arith

      ascending : (k l : ℕ) → k < l → l < length pushed → at pushed k < at pushed l
      ascending k l h i = go (split l i)
        where
          go : (l ≡ length e) ⊎ (l < length e) → at pushed k < at pushed l
          go (inl s) = let x = ap (at pushed) s in let y = here in let z = there k (omega arith) in let w = g.inside k (omega arith) in omega arith
          go (inr j) = let x = there l j in let z = there k (omega arith) in let w = g.ascending k l h j in omega arith

      filled : (k : ℕ) → k < length pushed → 0 < amount_at rows side (at pushed k)
      filled k h = go (split k h)
        where
          go : (k ≡ length e) ⊎ (k < length e) → 0 < amount_at rows side (at pushed k)
          go (inl s) = let x = ap (amount_at rows side) (ap (at pushed) s ∙ here) in omega arith
          go (inr l) = let x = ap (amount_at rows side) (there k l) in let y = g.filled k l in omega arith

      complete : (i : ℕ) → i < suc n → 0 < amount_at rows side i → (k : ℕ) × (k < length pushed) × (at pushed k ≡ i)
      complete i h a = elim (cases_eq i n) [ inl s ↦ (length e, let more = longer in omega arith, here ∙ sym s) | inr d ↦ old (g.complete i (omega arith) a) ]
        where
          old : (k : ℕ) × (k < length e) × (at e k ≡ i) → (k : ℕ) × (k < length pushed) × (at pushed k ≡ i)
          old f = let l = f.1 in (f.0, let more = longer in omega arith, there f.0 f.1 ∙ f.2)

      even : sum_to (λ k. amount_at rows side (at pushed k)) (length pushed) ≡ sum_to (amount_at rows side) (suc n)
      even =
          let last = ap (amount_at rows side) here in
          let rest = sum_same (λ k. amount_at rows side (at e k)) (λ k. amount_at rows side (at pushed k)) (length e) (λ k h. ap (amount_at rows side) (there k h)) in
          let is = g.even in
          rw (longer, add-one) (omega arith)

      -- a row that gives or takes
      gathered_push : Gathered rows side (suc n) pushed
      gathered_push = record { count = let is = g.count in let more = longer in omega arith; inside = inside; ascending = ascending; filled = filled; complete = complete; even = even }

  gathered_more : (n : ℕ) → Gathered rows side n (gathered rows side n) → Gathered rows side (suc n) (gathered rows side (suc n))
  unfolding gathered
  gathered_more n g = go (ltb 0 (amount_at rows side n)) refl
    where
      go : (b : Bool) → ltb 0 (amount_at rows side n) ≡ b → Gathered rows side (suc n) (gathered rows side n ++ cond b (n ∷ []) [])
      go true some = gathered_push n (gathered rows side n) g (ltb-true 0 (amount_at rows side n) some)
      go false none = rw append-nil (gathered_skip n (gathered rows side n) g (let low = ltb-false 0 (amount_at rows side n) none in omega arith))

  gathered_all : (n : ℕ) → Gathered rows side n (gathered rows side n)
  unfolding gathered
  gathered_all zero = gathered_none
  gathered_all (suc n) = gathered_more n (gathered_all n)

  -- no more are gathered than rows were walked
  pub gathered_few : (n : ℕ) → length (gathered rows side n) ≤ n
  gathered_few n = gathered_count n (gathered rows side n) (gathered_all n)

  -- the same of a list that is said to be the gathered places
  pub gathered_is : (e : List ℕ) → e ≡ gathered rows side 64 → Gathered rows side 64 e
  gathered_is e is = subst (Gathered rows side 64) (sym is) (gathered_all 64)

  pub placed_is : (e : List ℕ) → e ≡ gathered rows side 64 → Placed e
  placed_is e is = gathered_placed 64 e (gathered_is e is) refl
