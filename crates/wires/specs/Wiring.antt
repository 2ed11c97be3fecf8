-- Lists of wires: net, meeting, area, least.
use Rattle.std.specs.Prelude.{◌≡◌, ℕ, ◌*◌, ◌≤◌, Bool, true, cond, ◌&&◌, List, [], ◌∷◌, ℤ, pos, ◌-ℤ◌, ◌*ℤ◌, Some, None, Option, ◌==◌}
use Rattle.std.specs.List.{AllByRecursion}
use Rattle.ruler.specs.Meaning.{Meaning}
use Rattle.wires.specs.declared.terminal.Terminal.{Terminal}
use Rattle.wires.specs.declared.wire.Wire.{Wire}
use Rattle.wires.specs.Sums.{sum, total}

-- what counts at the site s of an amount z that stands at the site a
abbrev pub share : ℕ → ℕ → ℤ → ℤ
share a s z = cond (a == s) z (pos 0)

-- what one wire adds to the net of a site: its current where it leaves, less its current where it arrives
abbrev pub flow : ℕ → Wire → ℤ
flow s w = share w.start s (pos w.current) -ℤ share w.end s (pos w.current)

-- the net of a site: the current of the wires that leave it minus that of the wires that arrive
abbrev pub net : List Wire → ℕ → ℤ
net ws s = sum (flow s) ws

-- the sum of the currents seated at a site, 0 where none is
abbrev pub due : List Terminal → ℕ → ℤ
due ts s = sum (λ t. share t.site s t.current) ts

-- a list in k-ths meets the terminals: every net is k times what is seated there (k = 1: whole currents)
abbrev pub Meets : ℕ → List Terminal → List Wire → Type 0
Meets k ts ws = (s : ℕ) → net ws s ≡ pos k *ℤ due ts s

-- both ends of a wire are known sites
pub record Lies (m : Meaning) (w : Wire) : Type 0 where
  pub leaves : m.known w.start ≡ true
  pub arrives : m.known w.end ≡ true

-- a list of wires through known sites; its currents are any whole numbers from 0
abbrev pub Over : Meaning → List Wire → Type 0
Over m ws = AllByRecursion (Lies m) ws

-- the sites of the terminals are known
abbrev pub Seated : Meaning → List Terminal → Type 0
Seated m ts = AllByRecursion (λ t. m.known t.site ≡ true) ts

-- the metal of one wire, and of a list
abbrev pub metal : Meaning → Wire → ℕ
metal m w = w.current * m.span w.start w.end

abbrev pub area : Meaning → List Wire → ℕ
area m ws = total (metal m) ws

-- the two ends of a wire are known, and those of all wires of a list
abbrev pub lies : Meaning → Wire → Bool
lies m w = m.known w.start && m.known w.end

abbrev pub all_lie : Meaning → List Wire → Bool
all_lie m [] = true
all_lie m (w ∷ ws) = lies m w && all_lie m ws

-- a list's area, absent where one of its sites is unknown
abbrev pub measured_area : Meaning → List Wire → Option ℕ
measured_area m ws = cond (all_lie m ws) (Some (area m ws)) None

-- a list in whole currents that meets the terminals, and no list that meets them, in whole currents or in k-ths, has less area
pub record Least (m : Meaning) (ts : List Terminal) (ws : List Wire) : Type 0 where
  pub over : Over m ws
  pub meets : Meets 1 ts ws
  pub least : (k : ℕ) → 1 ≤ k → (rival : List Wire) → Over m rival → Meets k ts rival → k * area m ws ≤ area m rival

-- some list through known sites meets the terminals in k-ths
pub record Met (m : Meaning) (ts : List Terminal) (k : ℕ) : Type 0 where
  pub by : List Wire
  pub over : Over m by
  pub meets : Meets k ts by

-- the terminals of a table of rows, empty ones left out
abbrev pub seated : List (Option Terminal) → List Terminal
seated [] = []
seated (Some t ∷ rows) = t ∷ seated rows
seated (None ∷ rows) = seated rows

-- what a row adds to a sum over the seated terminals
abbrev pub row_adds : (Terminal → ℤ) → Option Terminal → ℤ
row_adds f (Some t) = f t
row_adds f None = pos 0
