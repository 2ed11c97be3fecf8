-- The table of rows.
use Rattle.std.proofs.Common.{◌≡◌, ℕ, zero, suc, true, List, [], ◌∷◌, get_or, set, replicate, None, Option, refl, ap}
use Rattle.wires.specs.declared.terminal.Terminal.{Terminal}
use Rattle.audit.specs.Questions.{row_allowed}

-- every row of an empty table is empty
row_of_empty : (n k : ℕ) → get_or {A = Option Terminal} (replicate n None) k None ≡ None
row_of_empty zero k = refl
row_of_empty (suc n) zero = refl
row_of_empty (suc n) (suc k) = row_of_empty n k

pub empty_allowed : (k : ℕ) → row_allowed (get_or {A = Option Terminal} (replicate 64 None) k None) ≡ true
empty_allowed k = ap row_allowed (row_of_empty 64 k)

-- a written row is allowed, and the others stay so
pub set_allowed : (rows : List (Option Terminal)) (i : ℕ) (row : Option Terminal) → row_allowed row ≡ true → ((k : ℕ) → row_allowed (get_or rows k None) ≡ true) → (k : ℕ) → row_allowed (get_or (set rows i row) k None) ≡ true
set_allowed [] i row ok all k = refl
set_allowed (r ∷ rows) zero row ok all zero = ok
set_allowed (r ∷ rows) zero row ok all (suc k) = all (suc k)
set_allowed (r ∷ rows) (suc i) row ok all zero = all 0
set_allowed (r ∷ rows) (suc i) row ok all (suc k) = set_allowed rows i row ok (λ n. all (suc n)) k
