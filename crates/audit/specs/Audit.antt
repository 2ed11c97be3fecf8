-- The audit of a filed plan: its questions, each put to the whole list before the next.
use Rattle.std.specs.Prelude.{ℕ, zero, suc, ◌+◌, ◌^◌, Bool, true, false, cond, not, ◌&&◌, ◌||◌, List, [], ◌∷◌, ◌++◌, length, ℤ, pos, is_some, Some, None, Option, ◌==◌, int_lt, nat_le, nat_lt, slice_index, slice_index_or}
use Rattle.ruler.specs.Meaning.{Meaning, measured}
use Rattle.wires.specs.declared.terminal.Terminal.{Terminal}
use Rattle.wires.specs.declared.wire.Wire.{Wire}
use Rattle.wires.specs.Marks.{Pin, value}
use Rattle.wires.specs.Wiring.{net, due, area, lies, seated}
use Rattle.audit.specs.declared.refusal.Refusal.{Refusal}
use Rattle.audit.specs.declared.refusal.Refusal.TheVariants.{MarkCount, WireCount, WireCurrent, WireSite, MarkOutOfRange, Unmet, MarksApart, AreaDiffers}
use Rattle.audit.specs.Questions.{ask, first_no}

-- the lowest number below n at which the test is true
unfoldable pub lowest : (ℕ → Bool) → ℕ → Option ℕ
lowest bad zero = None
lowest bad (suc n) = elim (lowest bad n) [ Some i ↦ Some i | None ↦ cond (bad n) (Some n) None ]

-- a question to each of a list: yes, or the refusal at the lowest number that fails
abbrev pub fault : (ℕ → Refusal) → Option ℕ → Option Refusal
fault refusal (Some i) = Some (refusal i)
fault refusal None = None

-- a wire by its number, counted from 0
abbrev pub no_wire : Wire
no_wire = record { start = 0; end = 0; current = 0 }

abbrev pub wire_at : List Wire → ℕ → Wire
wire_at ws i = slice_index_or ws i no_wire

-- a row and its mark by their number: entry i is of id i + 1
abbrev pub row_at : List (Option Terminal) → ℕ → Option Terminal
row_at rows i = slice_index_or rows i None

abbrev pub mark_at : List ℕ → ℕ → ℕ
mark_at marks i = slice_index marks i

abbrev pub marks_are_64 : List ℕ → Option Refusal
marks_are_64 marks = ask (length marks == 64) MarkCount

abbrev pub wires_are_few : List Wire → Option Refusal
wires_are_few ws = ask (nat_le (length ws) 1024) WireCount

-- a current from 1 to 32,000,000
abbrev pub carries : Wire → Bool
carries w = nat_le 1 w.current && nat_le w.current 32000000

abbrev pub currents_carry : List Wire → Option Refusal
currents_carry ws = fault WireCurrent (lowest (λ i. not (carries (wire_at ws i))) (length ws))

abbrev pub sites_are_known : Meaning → List Wire → Option Refusal
sites_are_known m ws = fault WireSite (lowest (λ i. not (lies m (wire_at ws i))) (length ws))

-- a seated id's mark is at most 4,000,000, every other mark 0
abbrev pub mark_fits : Option Terminal → ℕ → Bool
mark_fits (Some t) mark = nat_le mark 4000000
mark_fits None mark = mark == 0

abbrev pub marks_fit : List (Option Terminal) → List ℕ → Option Refusal
marks_fit rows marks = fault (λ i. MarkOutOfRange (i + 1)) (lowest (λ i. not (mark_fits (row_at rows i) (mark_at marks i))) 64)

abbrev pub differ : ℤ → ℤ → Bool
differ a b = int_lt a b || int_lt b a

-- the net of a site is not what is seated there, terminals that share it taken together
abbrev pub unmet : List (Option Terminal) → List Wire → ℕ → Bool
unmet rows ws site = differ (net ws site) (due (seated rows) site)

abbrev pub is_met : List (Option Terminal) → List Wire → Option Refusal
is_met rows ws = fault Unmet (lowest (unmet rows ws) (2 ^ 32))

-- the second mark is above the first by more than the length
abbrev pub beyond : Option ℕ → ℕ → ℕ → Bool
beyond (Some len) x y = nat_lt (x + len) y
beyond None x y = true

abbrev pub too_far : Meaning → Option Terminal → ℕ → Option Terminal → ℕ → Bool
too_far m (Some a) x (Some b) y = beyond (measured m a.site b.site) x y
too_far m (Some a) x None y = false
too_far m None x b y = false

-- some seated b is marked too far above a seated one of that mark
abbrev pub pulls : Meaning → List (Option Terminal) → List ℕ → Option Terminal → ℕ → Bool
pulls m rows marks from mark = is_some (lowest (λ b. too_far m from mark (row_at rows b) (mark_at marks b)) 64)

-- some seated b is marked too far above the seated a
abbrev pub strained : Meaning → List (Option Terminal) → List ℕ → ℕ → Bool
strained m rows marks a = pulls m rows marks (row_at rows a) (mark_at marks a)

abbrev pub marks_reach : Meaning → List (Option Terminal) → List ℕ → Option Refusal
marks_reach m rows marks = fault (λ a. MarksApart (a + 1)) (lowest (strained m rows marks) 64)

-- the seated terminals with their marks
abbrev pub pins : List (Option Terminal) → List ℕ → List Pin
pins [] marks = []
pins (Some t ∷ rows) [] = []
pins (Some t ∷ rows) (mark ∷ marks) = record { terminal = t; mark = mark } ∷ pins rows marks
pins (None ∷ rows) [] = []
pins (None ∷ rows) (mark ∷ marks) = pins rows marks

abbrev pub area_is_value : Meaning → List (Option Terminal) → List Wire → List ℕ → Option Refusal
area_is_value m rows ws marks = ask (not (differ (pos (area m ws)) (value (pins rows marks)))) AreaDiffers

-- the questions in their order, the last apart
abbrev pub form_questions : Meaning → List (Option Terminal) → List Wire → List ℕ → List (Option Refusal)
form_questions m rows ws marks =
    marks_are_64 marks ∷ wires_are_few ws ∷ currents_carry ws ∷ sites_are_known m ws ∷ marks_fit rows marks ∷ is_met rows ws ∷ marks_reach m rows marks ∷ []

abbrev pub audit_questions : Meaning → List (Option Terminal) → List Wire → List ℕ → List (Option Refusal)
audit_questions m rows ws marks = form_questions m rows ws marks ++ (area_is_value m rows ws marks ∷ [])

abbrev pub audit_asked : Meaning → List (Option Terminal) → List Wire → List ℕ → Option Refusal
audit_asked m rows ws marks = first_no (audit_questions m rows ws marks)
