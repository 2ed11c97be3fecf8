-- A listing read back, by the words of its lines.
use Rattle.std.specs.Prelude.{ℕ, Bool, false, cond, List, [], ◌∷◌, Some, None, Option, ◌==◌}
use Rattle.std.specs.Option.{option_map}
use Rattle.std.specs.Str.Parse.{digits_value}
use Rattle.std.specs.Str.{all_ascii_digits}
use Rattle.planner.specs.declared.plan.Link.{Link}
use Rattle.planner.specs.declared.plan.Plan.{Plan}
use Rattle.planner.specs.Planned.{links_of}
use Rattle.reader.specs.Words.{rows}

-- a word that is one letter
abbrev pub is_letter : ℕ → List ℕ → Bool
is_letter b [] = false
is_letter b (c ∷ []) = c == b
is_letter b (c ∷ d ∷ ds) = false

-- the number that a word writes, where it is digits alone
abbrev pub numeral : List ℕ → Option ℕ
numeral w = cond (all_ascii_digits w) (Some (digits_value 10 w)) None

-- two that are both there
abbrev pub both : {A B : Type 0} → Option A → Option B → Option (A × B)
both None o = None
both (Some a) o = option_map (λ b. (a, b)) o

-- s AREA, and no other row
abbrev pub read_area : List (List ℕ) → Option ℕ
read_area [] = None
read_area (s ∷ []) = None
read_area (s ∷ a ∷ []) = cond (is_letter 115 s) (numeral a) None
read_area (s ∷ a ∷ w ∷ ws) = None

-- a wire of three numbers
abbrev pub wire_of : Option (ℕ × (ℕ × ℕ)) → Option Link
wire_of numbers = option_map (λ n. record { from = n.0; to = n.1.0; current = n.1.1 }) numbers

-- f FROM TO CURRENT, and no other row
abbrev pub read_wire : List (List ℕ) → Option Link
read_wire [] = None
read_wire (f ∷ []) = None
read_wire (f ∷ a ∷ []) = None
read_wire (f ∷ a ∷ b ∷ []) = None
read_wire (f ∷ a ∷ b ∷ c ∷ []) = cond (is_letter 102 f) (wire_of (both (numeral a) (both (numeral b) (numeral c)))) None
read_wire (f ∷ a ∷ b ∷ c ∷ w ∷ ws) = None

-- a wire in each row
abbrev pub read_wires : List (List (List ℕ)) → Option (List Link)
read_wires [] = Some []
read_wires (row ∷ rest) = option_map (λ p. p.0 ∷ p.1) (both (read_wire row) (read_wires rest))

-- the area in the first row, and a wire in each that follows
abbrev pub read_rows : List (List (List ℕ)) → Option (ℕ × List Link)
read_rows [] = None
read_rows (row ∷ rest) = both (read_area row) (read_wires rest)

-- a text read by its rows
abbrev pub read_back : List ℕ → Option (ℕ × List Link)
read_back text = read_rows (rows text)

-- the area and the wires of a plan, where there is one
abbrev pub told : Option Plan → Option (ℕ × List Link)
told plan = option_map (λ p. (p.area, links_of p)) plan
