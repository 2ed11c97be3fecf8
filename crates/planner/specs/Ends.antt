-- The rows that give current, and those that take it.
use Rattle.std.specs.Prelude.{ℕ, zero, suc, cond, List, [], ◌∷◌, ◌++◌, ℤ, pos, negsuc, Some, None, Option, nat_lt}
use Rattle.wires.specs.declared.terminal.Terminal.{Terminal}
use Rattle.audit.specs.Audit.{row_at}
use Rattle.planner.specs.declared.side.Side.{Side}
use Rattle.planner.specs.declared.side.Side.TheVariants.{Source, Sink}

-- what a current gives, and what it takes
abbrev pub given : ℤ → ℕ
given (pos n) = n
given (negsuc n) = 0

abbrev pub taken : ℤ → ℕ
taken (pos n) = 0
taken (negsuc n) = suc n

-- what a row gives, or takes
abbrev pub amount : Side → Option Terminal → ℕ
amount Source (Some t) = given t.current
amount Sink (Some t) = taken t.current
amount Source None = 0
amount Sink None = 0

abbrev pub amount_at : List (Option Terminal) → Side → ℕ → ℕ
amount_at rows side i = amount side (row_at rows i)

-- of the first n rows, the places of those on a side, in ascending order
unfoldable pub gathered : List (Option Terminal) → Side → ℕ → List ℕ
gathered rows side zero = []
gathered rows side (suc n) = gathered rows side n ++ cond (nat_lt 0 (amount_at rows side n)) (n ∷ []) []
