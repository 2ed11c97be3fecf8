-- Marks, one a terminal: the numbers by which a reader confirms a least list.
use Rattle.std.specs.Prelude.{ℕ, ◌+◌, ◌≤◌, List, map, ℤ, pos, ◌*ℤ◌, neg_ℤ}
use Rattle.std.specs.List.{AllByRecursion}
use Rattle.ruler.specs.Meaning.{Meaning}
use Rattle.wires.specs.declared.terminal.Terminal.{Terminal}
use Rattle.wires.specs.Sums.{sum}

-- a terminal with its mark
pub record Pin : Type 0 where
  pub terminal : Terminal
  pub mark : ℕ

abbrev pub terminals : List Pin → List Terminal
terminals ps = map (λ (p : Pin). p.terminal) ps

-- from one pin to another the marks rise by no more than the length
abbrev pub Reaches : Meaning → Pin → Pin → Type 0
Reaches m a b = b.mark ≤ a.mark + m.span a.terminal.site b.terminal.site

abbrev pub Feasible : Meaning → List Pin → Type 0
Feasible m ps = AllByRecursion (λ a. AllByRecursion (Reaches m a) ps) ps

-- taken current × mark over the sinks, less given current × mark over the sources
abbrev pub worth : Pin → ℤ
worth p = neg_ℤ p.terminal.current *ℤ pos p.mark

abbrev pub value : List Pin → ℤ
value ps = sum worth ps
