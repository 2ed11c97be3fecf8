-- The numbers of a file.
use Rattle.std.specs.Prelude.{ℕ, ◌^◌, ◌<◌, cond, ◌&&◌, List, [], ◌∷◌, length, ℤ, pos, neg_ℤ, Some, None, Option, ◌==◌, nat_le}
use Rattle.std.specs.Option.{option_map}
use Rattle.std.specs.Str.Parse.{digits_value as value}
use Rattle.std.specs.Str.{all_ascii_digits}

-- what digits write; absent where a byte is no digit
abbrev pub digits_value : List ℕ → Option ℕ
digits_value w = cond (all_ascii_digits w) (Some (value 10 w)) None

-- a number is one to ten digits
abbrev pub numeral : List ℕ → Option ℕ
numeral w = cond (nat_le 1 (length w) && nat_le (length w) 10) (digits_value w) None

-- a flow may have one minus sign, byte 45, in front
abbrev pub flow_of : List ℕ → Option ℤ
flow_of [] = None
flow_of (b ∷ w) = cond (b == 45) (option_map (λ n. neg_ℤ (pos n)) (numeral w)) (option_map pos (numeral (b ∷ w)))

-- no number has more than ten digits
abbrev pub Short : Option ℕ → Type 0
Short (Some n) = n < 10 ^ 10
Short None = Unit {0}
