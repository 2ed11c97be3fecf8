-- The law of the audit: it accepts, with some marks, exactly the least lists.
use Rattle.std.specs.Prelude.{◌≡◌, ℕ, ◌↔◌, List, length, None, Option}
use Rattle.ruler.specs.Meaning.{Meaning}
use Rattle.wires.specs.declared.terminal.Terminal.{Terminal}
use Rattle.wires.specs.declared.wire.Wire.{Wire}
use Rattle.wires.specs.Wiring.{Seated, Least, seated}
use Rattle.audit.specs.Audit.{audit_asked, wires_are_few, currents_carry, sites_are_known}

-- What every call keeps: 64 rows, and every terminal on a known site.
pub record Upheld (m : Meaning) (rows : List (Option Terminal)) : Type 0 where
  pub full : length rows ≡ 64
  pub known : Seated m (seated rows)

-- A list that audit can read: few enough wires, in range, over known sites.
pub record Readable (m : Meaning) (ws : List Wire) : Type 0 where
  pub few : wires_are_few ws ≡ None
  pub carry : currents_carry ws ≡ None
  pub lie : sites_are_known m ws ≡ None

-- Some table of marks makes audit accept the list.
pub record Accepted (m : Meaning) (rows : List (Option Terminal)) (ws : List Wire) : Type 0 where
  pub marks : List ℕ
  pub passes : audit_asked m rows ws marks ≡ None

-- Audit, called next, accepts with some marks exactly the lists that meet the terminals with least area.
abbrev pub Law : Meaning → List (Option Terminal) → Type 0
Law m rows = (ws : List Wire) → Readable m ws → Least m (seated rows) ws ↔ Accepted m rows ws
