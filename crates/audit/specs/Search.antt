-- How the audit looks for the smallest site that fails: among the sites that wires or terminals touch.
use Rattle.std.specs.Prelude.{◌≡◌, ℕ, ◌^◌, ◌<◌, ◌≤◌, Bool, true, false, cond, ◌&&◌, List, Some, None, Option, nat_lt}
use Rattle.std.specs.List.{AllByRecursion}
use Rattle.wires.specs.declared.terminal.Terminal.{Terminal}
use Rattle.wires.specs.declared.wire.Wire.{Wire}

-- the site found so far, or a lower one that fails
abbrev pub lowered : (ℕ → Bool) → Option ℕ → ℕ → Option ℕ
lowered bad (Some low) site = cond (nat_lt site low && bad site) (Some site) (Some low)
lowered bad None site = cond (bad site) (Some site) None

-- what was found is a site
abbrev pub IsSite : Option ℕ → Type 0
IsSite (Some low) = low < 2 ^ 32
IsSite None = Unit {0}

-- what was found fails
abbrev pub Fails : (ℕ → Bool) → Option ℕ → Type 0
Fails bad (Some low) = bad low ≡ true
Fails bad None = Unit {0}

-- a site was looked at: it does not fail, or what was found is no higher
abbrev pub Passed : (ℕ → Bool) → Option ℕ → ℕ → Type 0
Passed bad (Some low) site = bad site ≡ true → low ≤ site
Passed bad None site = bad site ≡ false

-- what holds of a row's terminal
abbrev pub OfRow : (Terminal → Type 0) → Option Terminal → Type 0
OfRow P (Some t) = P t
OfRow P None = Unit {0}

-- the ends of these wires and the sites of these rows were looked at
pub record Looked (bad : ℕ → Bool) (found : Option ℕ) (ws : List Wire) (rows : List (Option Terminal)) : Type 0 where
  pub site : IsSite found
  pub fails : Fails bad found
  pub ends : AllByRecursion (λ w. Passed bad found w.start × Passed bad found w.end) ws
  pub seats : AllByRecursion (OfRow (λ t. Passed bad found t.site)) rows
