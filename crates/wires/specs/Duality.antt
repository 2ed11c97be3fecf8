-- What marks say about areas: the theorems that the contracts of this crate demand.
use Rattle.std.specs.Prelude.{◌≡◌, ℕ, ◌≤◌, ◌↔◌, List, ℤ, pos, ◌*ℤ◌, ◌≤ℤ◌}
use Rattle.std.specs.List.{AllByRecursion}
use Rattle.ruler.specs.Meaning.{Meaning}
use Rattle.wires.specs.declared.terminal.Terminal.{Terminal}
use Rattle.wires.specs.declared.wire.Wire.{Wire}
use Rattle.wires.specs.Marks.{Pin, terminals, Feasible, value}
use Rattle.wires.specs.Wiring.{Meets, Over, Seated, Least, Met}

-- Weak duality: a list that meets the terminals in k-ths has at least k times the value of any feasible marks on them; a is its area.
abbrev pub Bounded : Meaning → List Wire → ℕ → Type 0
Bounded m ws a = (k : ℕ) (ps : List Pin) → Seated m (terminals ps) → Feasible m ps → Over m ws → Meets k (terminals ps) ws → (pos k *ℤ value ps) ≤ℤ pos a

-- A list whose area a is the value of feasible marks is least.
abbrev pub Certified : Meaning → List Wire → ℕ → Type 0
Certified m ws a = (ps : List Pin) → Seated m (terminals ps) → Feasible m ps → Over m ws → Meets 1 (terminals ps) ws → value ps ≡ pos a → Least m (terminals ps) ws

-- Feasible marks from 0 to 4,000,000 on the terminals whose value is a.
pub record Certificate (m : Meaning) (ts : List Terminal) (a : ℕ) : Type 0 where
  pub pins : List Pin
  pub marked : terminals pins ≡ ts
  pub within : AllByRecursion (λ p. p.mark ≤ 4000000) pins
  pub feasible : Feasible m pins
  pub tight : value pins ≡ pos a

-- A least list has such marks, whose value is its area a.
abbrev pub Complete : Meaning → List Wire → ℕ → Type 0
Complete m ws a = (ts : List Terminal) → Seated m ts → Least m ts ws → Certificate m ts a

-- The terminals are met by some list in k-ths, whole currents among them, exactly when the sum z of their currents is 0.
abbrev pub Settled : List Terminal → ℤ → Type 0
Settled ts z = (m : Meaning) → Seated m ts → (k : ℕ) → 1 ≤ k → (z ≡ pos 0) ↔ Met m ts k
