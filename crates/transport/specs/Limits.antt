-- The test of the limits, in the words of a list.
use Rattle.std.specs.Prelude.{ℕ, Bool, List, nat_le}
use Rattle.std.specs.List.{list_all}

-- each number is at most that much
abbrev pub fit : List ℕ → ℕ → Bool
fit numbers most = list_all (λ n. nat_le n most) numbers
