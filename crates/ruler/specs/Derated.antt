-- A ruler derated by a factor: the same known sites, factor × the length below, and never more than 4,000,000.
use Rattle.std.specs.Prelude.{ℕ, ◌*◌, min, cond, ◌&&◌, Ok, Err, Result, nat_le}
use Rattle.ruler.specs.declared.factor.Factor.{Factor}
use Rattle.ruler.specs.declared.refusal.Refusal.{Refusal}
use Rattle.ruler.specs.declared.refusal.Refusal.TheVariants.{FactorOutOfRange}
use Rattle.ruler.specs.Meaning.{Meaning}

abbrev pub lengthened : ℕ → ℕ → ℕ
lengthened times length = min (times * length) 4000000

abbrev pub derated : ℕ → Meaning → Meaning
derated times m = record { known = m.known; span = λ a b. lengthened times (m.span a b) }

-- A factor is from 1 to 16.
abbrev pub checked_factor : ℕ → Result ℕ Refusal
checked_factor n = cond (nat_le 1 n && nat_le n 16) (Ok n) (Err FactorOutOfRange)

-- the factor that was made
abbrev pub factor_of : Result Factor Refusal → Result ℕ Refusal
factor_of (Ok f) = Ok f.times
factor_of (Err e) = Err e
