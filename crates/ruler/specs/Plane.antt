-- The plane: site 65,536 × y + x, all sites known, Manhattan length.
use Rattle.std.specs.Prelude.{ℕ, ◌+◌, ◌-◌, ◌/◌, ◌%◌, ◌^◌, nat_lt}
use Rattle.ruler.specs.Meaning.{Meaning}

abbrev pub column : ℕ → ℕ
column site = site % 65536

abbrev pub row : ℕ → ℕ
row site = site / 65536

-- how far two coordinates lie apart: one of the two differences is 0
abbrev pub apart : ℕ → ℕ → ℕ
apart a b = (a - b) + (b - a)

abbrev pub manhattan : ℕ → ℕ → ℕ
manhattan a b = apart (column a) (column b) + apart (row a) (row b)

abbrev pub plane : Meaning
plane = record { known = λ s. nat_lt s (2 ^ 32); span = manhattan }
