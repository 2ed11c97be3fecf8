-- The listing of a plan: its area, and then each wire in wire order, on a line of its own.
use Rattle.std.specs.Prelude.{◌≡◌, ℕ, ◌+◌, ◌^◌, ◌<◌, cond, List, [], ◌∷◌, ◌++◌, length, take, drop, Some, None, Ok, Err, decimal, Option, Result, nat_lt}
use Rattle.std.specs.List.{flat_map}
use Rattle.planner.specs.declared.plan.Link.{Link}
use Rattle.planner.specs.declared.plan.Plan.{Plan}
use Rattle.planner.specs.Planned.{links_of}
use Rattle.listing.specs.declared.refusal.Refusal.{Refusal}
use Rattle.listing.specs.declared.refusal.Refusal.TheVariants.{NotPlanned, TextTooLong}

-- words with one space, byte 32, between them
abbrev pub spaced : List (List ℕ) → List ℕ
spaced [] = []
spaced (w ∷ []) = w
spaced (w ∷ v ∷ vs) = w ++ 32 ∷ spaced (v ∷ vs)

-- a line ends with byte 10
abbrev pub line_of : List (List ℕ) → List ℕ
line_of ws = spaced ws ++ 10 ∷ []

-- s AREA
abbrev pub area_words : ℕ → List (List ℕ)
area_words a = (115 ∷ []) ∷ decimal a ∷ []

-- f FROM TO CURRENT
abbrev pub wire_words : Link → List (List ℕ)
wire_words l = (102 ∷ []) ∷ decimal l.from ∷ decimal l.to ∷ decimal l.current ∷ []

-- a wire on a line
abbrev pub wire_line : Link → List ℕ
wire_line l = line_of (wire_words l)

-- a line for each wire, in wire order
abbrev pub wire_lines : List Link → List ℕ
wire_lines ls = flat_map wire_line ls

-- the area, and then the wires
abbrev pub listing_of : ℕ → List Link → List ℕ
listing_of a ls = line_of (area_words a) ++ wire_lines ls

-- the listing of a plan
abbrev pub text_of : Plan → List ℕ
text_of p = listing_of p.area (links_of p)

-- a text in a buffer with room for so many bytes: how many it takes, unless it takes more
abbrev pub fitted : List ℕ → ℕ → Result ℕ Refusal
fitted text room = cond (nat_lt room (length text)) (Err TextTooLong) (Ok (length text))

-- what the buffer holds afterwards: the text and then what it held there before, or all that it held before
abbrev pub filled : List ℕ → List ℕ → List ℕ
filled text held = cond (nat_lt (length held) (length text)) held (text ++ drop (length text) held)

-- what a listing answers, and what it leaves in the buffer; an open sheet has none
abbrev pub listed : Option Plan → ℕ → Result ℕ Refusal
listed None room = Err NotPlanned
listed (Some p) room = fitted (text_of p) room

abbrev pub left_in : Option Plan → List ℕ → List ℕ
left_in None held = held
left_in (Some p) held = filled (text_of p) held

-- the numbers of a wire have at most 64 bits, as `decimal` asks
abbrev pub Sized : Link → Type 0
Sized l = (l.from < 2 ^ 64) × (l.to < 2 ^ 64) × (l.current < 2 ^ 64)

-- a text written over what was held at a place, and nothing else changed
abbrev pub placed : List ℕ → ℕ → List ℕ → List ℕ
placed held place text = take place held ++ (text ++ drop (place + length text) held)

-- what is left by a put of a text at a place, and the place after it
pub record Put (held : List ℕ) (place : ℕ) (text holds : List ℕ) (next : ℕ) : Type 0 where
  pub after : holds ≡ placed held place text
  pub end : next ≡ place + length text
