-- A text by the place of its first stop, and by that of its first byte that is no space.
use Rattle.std.proofs.Common.{◌≡◌, ℕ, ◌+◌, eqb, not, List, [], ◌∷◌, take, drop, refl, arith, one-add}
use Rattle.std.specs.List.{position_or_len}
use Rattle.std.proofs.lemmas.Grind.{common_steps}
use Rattle.std.proofs.lemmas.List.Sums.{take_while-cons}
use Rattle.reader.specs.Reading.{past, unspaced, upto}

pub upto_first : (stop : ℕ) (s : List ℕ) → upto stop s ≡ take (position_or_len (λ b. eqb b stop) s) s
upto_first stop [] = refl
upto_first stop (b ∷ bs) = grind (arith, common_steps, take_while-cons (λ b. not (eqb b stop)) b bs, upto_first stop bs)

pub past_first : (stop : ℕ) (s : List ℕ) → past stop s ≡ drop (position_or_len (λ b. eqb b stop) s + 1) s
past_first stop [] = refl
past_first stop (b ∷ bs) = grind (arith, common_steps, past_first stop bs)

pub unspaced_first : (s : List ℕ) → unspaced s ≡ drop (position_or_len (λ b. not (eqb b 32)) s) s
unspaced_first [] = refl
unspaced_first (b ∷ bs) =
    let n = position_or_len (λ b. not (eqb b 32)) bs in
    let later : drop (1 + n) (b ∷ bs) ≡ drop n bs = rw one-add in
    grind (arith, common_steps, unspaced_first bs)
