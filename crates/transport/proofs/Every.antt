-- Tests of every number below a limit.
use Rattle.std.proofs.Common.{◌≡◌, ℕ, zero, suc, ◌<◌, ◌≤◌, Bool, true, ◌&&◌, List, length, get_or, take, refl, sym, ap, ◌∙◌, add-one, ⊎_elim, arith}
use Rattle.std.specs.List.{list_all}
use Rattle.std.proofs.lemmas.List.Folds.{list_all_more}
use Rattle.std.proofs.Math.Bool.{and_comm}
use Rattle.std.proofs.lemmas.Bool.{and_from, and_parts, cases_eq}
use Rattle.transport.specs.Transport.{each}

pub each_all : (p : ℕ → Bool) (n : ℕ) → ((k : ℕ) → k < n → p k ≡ true) → each p n ≡ true
each_all p zero h = refl
each_all p (suc n) h = and_from (p n) (each p n) (h n (omega arith)) (each_all p n (λ k l. h k (omega arith)))

pub each_at : (p : ℕ → Bool) (n : ℕ) → each p n ≡ true → (k : ℕ) → k < n → p k ≡ true
each_at p zero e k l = absurd (let z : ⊥ = omega arith in z)
each_at p (suc n) e k l =
    let parts = and_parts (p n) (each p n) e in
    ⊎_elim (λ (same : k ≡ n). rw same parts.0) (λ (ne : k ≡ n → ⊥). each_at p n parts.1 k (omega arith)) (cases_eq k n)

-- a test of the first items of a list, each of which passes where its number does
pub each_list : {X : Type 0} (p : ℕ → Bool) (q : X → Bool) (xs : List X) (d : X) (n : ℕ) → n ≤ length xs → ((k : ℕ) → k < n → q (get_or xs k d) ≡ p k) → each p n ≡ list_all q (take n xs)
each_list p q xs d zero l e = refl
each_list p q xs d (suc n) l e =
    let last = rw (e n (omega arith)) at (rw add-one at (list_all_more q xs n d (omega arith))) in
    ap (λ b. p n && b) (each_list p q xs d n (omega arith) (λ k b. e k (omega arith))) ∙ and_comm (p n) _ ∙ sym last
