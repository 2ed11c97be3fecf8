-- Questions that calls are put to, of any kind of refusal. Each is passed by None; a no is the refusal.
use Rattle.std.specs.Prelude.{Bool, true, cond, ◌&&◌, List, [], ◌∷◌, ℤ, pos, negsuc, Some, None, Ok, Err, Option, Result, nat_le}
use Rattle.wires.specs.declared.terminal.Terminal.{Terminal}

-- one question: yes, or the refusal
abbrev pub ask : {E : Type 0} → Bool → E → Option E
ask ok refusal = cond ok None (Some refusal)

-- the questions in their order, down to the first no
abbrev pub first_no : {E : Type 0} → List (Option E) → Option E
first_no [] = None
first_no (Some r ∷ qs) = Some r
first_no (None ∷ qs) = first_no qs

-- what a call comes to: its answer, unless there was a no
abbrev pub outcome : {E A : Type 0} → Option E → A → Result A E
outcome (Some r) answer = Err r
outcome None answer = Ok answer

-- a current from −1,000,000 to 1,000,000 and not 0
abbrev pub allowed : ℤ → Bool
allowed (pos n) = nat_le 1 n && nat_le n 1000000
allowed (negsuc n) = nat_le n 999999

-- a row is empty, or its current is allowed
abbrev pub row_allowed : Option Terminal → Bool
row_allowed (Some t) = allowed t.current
row_allowed None = true
