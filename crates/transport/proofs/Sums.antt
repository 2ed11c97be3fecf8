-- Sums over the numbers below a limit.
use Rattle.std.proofs.Common.{◌≡◌, ℕ, zero, suc, ◌+◌, ◌*◌, ◌<◌, ◌≤◌, List, length, take, sum, refl, sym, ap, ◌∙◌, ⊎_elim, add-one, arith}
use Rattle.std.proofs.lemmas.Bool.{cases_lt}
use Rattle.std.proofs.lemmas.List.Sums.{sum_by_more}
use Rattle.transport.specs.Transport.{at, sum_to}

-- the first numbers of a row
pub sum_take : (xs : List ℕ) (n : ℕ) → n ≤ length xs → sum_to (at xs) n ≡ sum (take n xs)
sum_take xs zero l = refl
sum_take xs (suc n) l =
    let more = rw add-one at (sum_by_more (λ x. x) xs n 0 (omega arith)) in
    ap (λ s. s + at xs n) (sum_take xs n (omega arith)) ∙ sym more

pub sum_same : (g h : ℕ → ℕ) (n : ℕ) → ((k : ℕ) → k < n → h k ≡ g k) → sum_to h n ≡ sum_to g n
sum_same g h zero e = refl
sum_same g h (suc n) e = omega (arith, sum_same g h n (λ k l. e k (omega arith)), e n (omega arith))

-- one term changes
pub sum_change : (g h : ℕ → ℕ) (n k : ℕ) → k < n → ((i : ℕ) → i < n → (i ≡ k → ⊥) → h i ≡ g i) → sum_to h n + g k ≡ sum_to g n + h k
sum_change g h zero k l e = absurd (let z : ⊥ = omega arith in z)
sum_change g h (suc n) k l e = grind (arith, sum_same g h n, sum_change g h n k, e n)

pub sum_nothing : (g : ℕ → ℕ) (n : ℕ) → ((k : ℕ) → k < n → g k ≡ 0) → sum_to g n ≡ 0
sum_nothing g zero e = refl
sum_nothing g (suc n) e = omega (arith, sum_nothing g n (λ k l. e k (omega arith)), e n (omega arith))

-- no term exceeds the sum
pub sum_at : (g : ℕ → ℕ) (n k : ℕ) → k < n → g k ≤ sum_to g n
sum_at g zero k l = omega arith
sum_at g (suc n) k l = grind (arith, sum_at g n k)

-- a sum that is not 0 has a term that is not 0
pub sum_some : (g : ℕ → ℕ) (n : ℕ) → 0 < sum_to g n → (k : ℕ) × (k < n) × (0 < g k)
sum_some g zero l = absurd (let z : ⊥ = omega arith in z)
sum_some g (suc n) l =
    ⊎_elim
    (λ (here : 0 < g n). (n, omega arith, here))
    (λ (none : g n ≤ 0). let s = sum_some g n (omega arith) in (s.0, omega (arith, s.1), s.2))
    (cases_lt 0 (g n))

-- a sum of terms of at most 2 ^ 32 - 1
pub sum_shut : (g : ℕ → ℕ) (n : ℕ) → ((k : ℕ) → k < n → g k ≤ 4294967295) → sum_to g n ≤ 4294967295 * n
sum_shut g zero h = omega arith
sum_shut g (suc n) h = omega (arith, sum_shut g n (λ k l. h k (omega arith)), h n (omega arith))

-- one of them is 0
pub sum_open : (g : ℕ → ℕ) (n i : ℕ) → i < n → g i ≡ 0 → ((k : ℕ) → k < n → g k ≤ 4294967295) → sum_to g n + 4294967295 ≤ 4294967295 * n
sum_open g zero i l e h = absurd (let z : ⊥ = omega arith in z)
sum_open g (suc n) i l e h = grind (arith, sum_shut g n, sum_open g n i, h n)
