-- The questions that calls are put to.
use Rattle.std.specs.Prelude.{ℕ, ◌-◌, Bool, true, not, ◌&&◌, List, ℤ, pos, is_some, Some, None, Option, nat_le, slice_index_or}
use Rattle.std.specs.List.{list_all}
use Rattle.ruler.specs.Meaning.{Meaning}
use Rattle.wires.specs.declared.terminal.Terminal.{Terminal}
use Rattle.wires.specs.Sums.{sum}
use Rattle.wires.specs.Wiring.{seated}
use Rattle.audit.specs.Audit.{differ}
use Rattle.audit.specs.declared.refusal.Refusal.{Refusal}
use Rattle.audit.specs.declared.refusal.Refusal.TheVariants.{IdOutOfRange, IdTaken, IdFree, CurrentOutOfRange, SiteUnknown, Unbalanced, NotPlanned}
use Rattle.audit.specs.Questions.{ask, allowed}

-- the row of an id
abbrev pub row_of : List (Option Terminal) → ℕ → Option Terminal
row_of rows id = slice_index_or rows (id - 1) None

-- no row has a terminal
abbrev pub bare : List (Option Terminal) → Bool
bare rows = list_all (λ row. not (is_some row)) rows

abbrev pub id_in_range : ℕ → Option Refusal
id_in_range id = ask (nat_le 1 id && nat_le id 64) (IdOutOfRange id)

abbrev pub id_is_free : List (Option Terminal) → ℕ → Option Refusal
id_is_free rows id = ask (not (is_some (row_of rows id))) (IdTaken id)

abbrev pub id_is_seated : List (Option Terminal) → ℕ → Option Refusal
id_is_seated rows id = ask (is_some (row_of rows id)) (IdFree id)

abbrev pub current_is_allowed : ℕ → ℤ → Option Refusal
current_is_allowed id current = ask (allowed current) (CurrentOutOfRange id)

abbrev pub site_is_known : Meaning → ℕ → ℕ → Option Refusal
site_is_known m id site = ask (m.known site) (SiteUnknown id)

-- a row is empty, or its site is known
abbrev pub row_known : Meaning → Option Terminal → Bool
row_known m (Some t) = m.known t.site
row_known m None = true

-- the seated currents sum to 0
abbrev pub currents_balance : List (Option Terminal) → Option Refusal
currents_balance rows = ask (not (differ (sum (λ t. t.current) (seated rows)) (pos 0))) Unbalanced

abbrev pub is_planned : Bool → Option Refusal
is_planned planned = ask planned NotPlanned
