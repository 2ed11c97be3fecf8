-- The lines of a listing, their lengths and their parts.
use Rattle.std.proofs.Common.{◌≡◌, ℕ, ◌+◌, ◌<◌, ◌≤◌, List, [], ◌∷◌, ◌++◌, length, get_or, drop, codes, decimal, ap, ◌∙◌, append_assoc, length-append}
use Rattle.std.proofs.lemmas.List.{at_drop_more, at_drop_all}
use Rattle.planner.specs.declared.plan.Link.{Link}
use Rattle.listing.specs.Files.{refusal_line}
use Rattle.listing.specs.Listing.{wire_line, wire_lines}

-- a wire's line as it is put: its letter, and three numbers, each with its stop
abbrev parts : ℕ × ℕ × ℕ → List ℕ
parts n = ((102 ∷ 32 ∷ (decimal n.0 ++ 32 ∷ [])) ++ (decimal n.1 ++ 32 ∷ [])) ++ (decimal n.2 ++ 10 ∷ [])

parts_are : (l : Link) → parts (l.from, l.to, l.current) ≡ wire_line l
parts_are l = simp append_assoc

module _ (l : Link) (n : ℕ × ℕ × ℕ) (order : n ≡ (l.from, l.to, l.current)) where
  pub wire_line_parts : parts n ≡ wire_line l
  wire_line_parts = ap parts order ∙ parts_are l

-- what a place past the last wire would hold
abbrev pub no_link : Link
no_link = record { from = 0; to = 0; current = 0 }

-- what is left of the wires and of their lines, one wire on and at the end
module _ (ls : List Link) (i : ℕ) where
  pub wire_lines_more : i < length ls → wire_lines (drop i ls) ≡ wire_line (get_or ls i no_link) ++ wire_lines (drop (i + 1) ls)
  wire_lines_more h = at_drop_more wire_lines ls i no_link h

  pub length_lines_more : i < length ls → length (wire_lines (drop i ls)) ≡ length (wire_line (get_or ls i no_link)) + length (wire_lines (drop (i + 1) ls))
  length_lines_more h = ap length (wire_lines_more h) ∙ length-append (wire_line (get_or ls i no_link)) (wire_lines (drop (i + 1) ls))

  pub wire_lines_none : length ls ≤ i → wire_lines (drop i ls) ≡ []
  wire_lines_none h = at_drop_all wire_lines ls i h

pub refusal_parts : (n l w : ℕ) → ((codes "c refused " ++ (decimal n ++ 32 ∷ [])) ++ (decimal l ++ 32 ∷ [])) ++ (decimal w ++ 10 ∷ []) ≡ refusal_line n l w
refusal_parts n l w = simp append_assoc
