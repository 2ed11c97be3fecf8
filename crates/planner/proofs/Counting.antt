-- Sums over the numbers below n.
use Rattle.std.proofs.Common.{◌≡◌, ℕ, zero, suc, ◌<◌, ◌⊎◌, refl, ap, inl, inr, arith}
use Rattle.std.proofs.lemmas.Bool.{cases_eq}
use Rattle.transport.specs.Transport.{sum_to}
use Rattle.transport.proofs.Sums.{sum_nothing, sum_same}

pub sum_to_same : (f g : ℕ → ℕ) (n : ℕ) → ((k : ℕ) → k < n → f k ≡ g k) → sum_to f n ≡ sum_to g n
sum_to_same f g n same = sum_same g f n same

pub sum_to_none : (n : ℕ) → sum_to (λ i. 0) n ≡ 0
sum_to_none n = sum_nothing (λ i. 0) n (λ k h. refl)

-- a sum with one part
pub sum_to_one : (f : ℕ → ℕ) (n k : ℕ) → k < n → ((i : ℕ) → i < n → (i ≡ k → ⊥) → f i ≡ 0) → sum_to f n ≡ f k
sum_to_one f zero k h none = absurd (omega arith)
sum_to_one f (suc n) k h none = go (cases_eq k n) (λ l. sum_to_one f n k l (λ i g. none i (omega arith)))
  where
    go : (k ≡ n) ⊎ (k ≡ n → ⊥) → (k < n → sum_to f n ≡ f k) → sum_to f (suc n) ≡ f k
    go (inl s) one =
        let here = ap f s in
        let rest = sum_nothing f n (λ i g. none i (omega arith) (λ e. omega arith)) in
        omega arith
    go (inr d) one =
        let last = none n (omega arith) (λ e. d (omega arith)) in
        let rest = one (omega arith) in
        omega arith
