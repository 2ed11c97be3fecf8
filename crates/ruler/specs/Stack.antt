-- The stack: site 268,435,456 × layer + 16,384 × y + x, all sites known; Manhattan length, and the vias between layers.
use Rattle.std.specs.Prelude.{ℕ, ◌+◌, ◌*◌, ◌/◌, ◌%◌, ◌^◌, cond, ◌&&◌, Some, None, Ok, Err, Option, Result, nat_le, nat_lt}
use Rattle.ruler.specs.Meaning.{Meaning}
use Rattle.ruler.specs.Plane.{apart}
use Rattle.ruler.specs.declared.refusal.Refusal.{Refusal}
use Rattle.ruler.specs.declared.refusal.Refusal.TheVariants.{ViaOutOfRange}
use Rattle.ruler.specs.declared.stack.Stack.{Stack}

abbrev pub column : ℕ → ℕ
column site = site % 16384

abbrev pub row : ℕ → ℕ
row site = site / 16384 % 16384

abbrev pub layer : ℕ → ℕ
layer site = site / 268435456

-- the site at a point, absent off the stack
abbrev pub point : ℕ → ℕ → ℕ → Option ℕ
point l x y = cond (nat_lt l 16 && nat_lt x 16384 && nat_lt y 16384) (Some (268435456 * l + 16384 * y + x)) None

-- Manhattan length, and via for every layer that the two sites lie apart
abbrev pub climb : ℕ → ℕ → ℕ → ℕ
climb via a b = (apart (column a) (column b) + apart (row a) (row b)) + via * apart (layer a) (layer b)

abbrev pub stack : ℕ → Meaning
stack via = record { known = λ s. nat_lt s (2 ^ 32); span = climb via }

-- A via is at most 1,000 long.
abbrev pub checked_via : ℕ → Result ℕ Refusal
checked_via via = cond (nat_le via 1000) (Ok via) (Err ViaOutOfRange)

-- the via of the stack that was made
abbrev pub via_of : Result Stack Refusal → Result ℕ Refusal
via_of (Ok s) = Ok s.via
via_of (Err e) = Err e
