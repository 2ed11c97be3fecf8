-- The ledger of one sheet: fed each call and the ruler's meaning, and nothing of the sheet.
use Rattle.std.specs.Prelude.{ℕ, ◌-◌, Bool, true, false, List, [], ◌∷◌, replicate, ℤ, Some, None, Option, slice_set}
use Rattle.ruler.specs.Meaning.{Meaning}
use Rattle.wires.specs.declared.terminal.Terminal.{Terminal}
use Rattle.audit.specs.declared.refusal.Refusal.{Refusal}
use Rattle.audit.specs.Audit.{audit_asked}
use Rattle.audit.specs.Questions.{first_no}
use Rattle.sheet.specs.declared.call.Call.{Call}
use Rattle.sheet.specs.declared.call.Call.TheVariants.{Seat, Move, Alter, Lift, Plan, Audit, Area, Wire, Mark}
use Rattle.sheet.specs.Questions.{id_in_range, id_is_free, id_is_seated, current_is_allowed, site_is_known, currents_balance, is_planned, row_of}

-- a row for each id from 1 to 64, empty or with a terminal, and whether the sheet is planned
pub record Ledger : Type 0 where
  pub rows : List (Option Terminal)
  pub planned : Bool

-- at first every row is empty, and the sheet is open
abbrev pub empty : List (Option Terminal)
empty = replicate 64 None

abbrev pub opened : Ledger
opened = record { rows = empty; planned = false }

-- the questions that a call is put to, with seated, free and planned read from the ledger
abbrev pub asked : Meaning → Ledger → Call → Option Refusal
asked m l (Seat id site current) =
    first_no (id_in_range id ∷ id_is_free l.rows id ∷ current_is_allowed id current ∷ site_is_known m id site ∷ [])
asked m l (Move id site) = first_no (id_in_range id ∷ id_is_seated l.rows id ∷ site_is_known m id site ∷ [])
asked m l (Alter id current) =
    first_no (id_in_range id ∷ id_is_seated l.rows id ∷ current_is_allowed id current ∷ [])
asked m l (Lift id) = first_no (id_in_range id ∷ id_is_seated l.rows id ∷ [])
asked m l Plan = first_no (currents_balance l.rows ∷ [])
asked m l (Audit wires marks) = audit_asked m l.rows wires.now marks.now
asked m l Area = first_no (is_planned l.planned ∷ [])
asked m l (Wire number) = first_no (is_planned l.planned ∷ [])
asked m l (Mark id) = first_no (id_in_range id ∷ id_is_seated l.rows id ∷ is_planned l.planned ∷ [])

abbrev pub moved : Option Terminal → ℕ → Option Terminal
moved (Some t) site = Some (record { site = site; current = t.current })
moved None site = None

abbrev pub altered : Option Terminal → ℤ → Option Terminal
altered (Some t) current = Some (record { site = t.site; current = current })
altered None current = None

-- the ledger after an accepted edit: one row is changed and no other, and the sheet is open
abbrev pub rewritten : Ledger → ℕ → Option Terminal → Ledger
rewritten l id row = record { rows = slice_set l.rows (id - 1) row; planned = false }

-- the ledger after an accepted call
abbrev pub written : Ledger → Call → Ledger
written l (Seat id site current) = rewritten l id (Some (record { site = site; current = current }))
written l (Move id site) = rewritten l id (moved (row_of l.rows id) site)
written l (Alter id current) = rewritten l id (altered (row_of l.rows id) current)
written l (Lift id) = rewritten l id None
written l Plan = record { rows = l.rows; planned = true }
written l (Audit wires marks) = l
written l Area = l
written l (Wire number) = l
written l (Mark id) = l

-- after a no everything stays the same
abbrev pub unless : {A : Type 0} → Option Refusal → A → A → A
unless (Some r) before after = before
unless None before after = after

-- the ledger after a call
abbrev pub fed : Meaning → Ledger → Call → Ledger
fed m l call = unless (asked m l call) l (written l call)

-- the ledger after a run of calls
abbrev pub course : Meaning → Ledger → List Call → Ledger
course m l [] = l
course m l (call ∷ calls) = course m (fed m l call) calls
