-- A listing read back is what it lists.
use Rattle.std.proofs.Common.{◌≡◌, ℕ, ◌^◌, ◌<◌, true, cond, List, [], ◌∷◌, map, Some, None, decimal, refl, ap, ◌∙◌, arith, rules}
use Rattle.std.specs.List.{AllByRecursion}
use Rattle.std.specs.Option.{option_map}
use Rattle.std.specs.Str.Parse.{digits_value, digits_value_after}
use Rattle.std.specs.Str.{all_ascii_digits}
use Rattle.std.proofs.lemmas.Fmt.{digits_decimal, digits_value-decimal}
use Rattle.std.proofs.lemmas.Str.Parse.{IsNumeralModel, numerals_by_fold}
use Rattle.planner.specs.declared.plan.Link.{Link}
use Rattle.reader.specs.Words.{rows}
use Rattle.listing.specs.Listing.{Sized, area_words, wire_words, wire_lines, listing_of}
use Rattle.listing.specs.Reading.{both, numeral, read_area, read_wire, read_wires, read_rows, read_back, wire_of}
use Rattle.listing.proofs.Words.{Word, rows_line, decimal_word}

own : IsNumeralModel (λ ds. all_ascii_digits ds ≡ true) (digits_value 10)
own = numerals_by_fold _ (search rules) (digits_value_after 10) (search rules)

-- a number's decimal is its numeral
numeral_decimal : (n : ℕ) → n < 2 ^ 64 → numeral (decimal n) ≡ Some n
numeral_decimal n h =
    ap (λ b. cond b (Some (digits_value 10 (decimal n))) None) (digits_decimal own n h) ∙ ap Some (digits_value-decimal own n h)

-- a letter is a word
letter_word : (b : ℕ) → 32 < b → Word (b ∷ [])
letter_word b h = (omega arith, (h, tt))

rows_wires : (ls : List Link) → AllByRecursion Sized ls → rows (wire_lines ls) ≡ map wire_words ls
rows_wires [] all = refl
rows_wires (l ∷ ls) all =
    rows_line (wire_words l) (wire_lines ls)
    (letter_word 102 (omega arith), (decimal_word l.from all.0.0, (decimal_word l.to all.0.1, (decimal_word l.current all.0.2, tt))))
    ∙ ap (λ rest. wire_words l ∷ rest) (rows_wires ls all.1)

wire_read : (l : Link) → Sized l → read_wire (wire_words l) ≡ Some l
wire_read l sized =
    ap (λ o. wire_of (both o (both (numeral (decimal l.to)) (numeral (decimal l.current))))) (numeral_decimal l.from sized.0)
    ∙ ap (λ o. wire_of (both (Some l.from) (both o (numeral (decimal l.current))))) (numeral_decimal l.to sized.1)
    ∙ ap (λ o. wire_of (both (Some l.from) (both (Some l.to) o))) (numeral_decimal l.current sized.2)

wires_read : (ls : List Link) → AllByRecursion Sized ls → read_wires (map wire_words ls) ≡ Some ls
wires_read [] all = refl
wires_read (l ∷ ls) all =
    ap (λ o. option_map (λ p. p.0 ∷ p.1) (both o (read_wires (map wire_words ls)))) (wire_read l all.0)
    ∙ ap (λ o. option_map (λ p. p.0 ∷ p.1) (both (Some l) o)) (wires_read ls all.1)

pub listing_read : (a : ℕ) (ls : List Link) → a < 2 ^ 64 → AllByRecursion Sized ls → read_back (listing_of a ls) ≡ Some (a, ls)
listing_read a ls h all =
    ap read_rows (rows_line (area_words a) (wire_lines ls) (letter_word 115 (omega arith), (decimal_word a h, tt)))
    ∙ ap (λ rest. both (read_area (area_words a)) (read_wires rest)) (rows_wires ls all)
    ∙ ap (both (read_area (area_words a))) (wires_read ls all)
    ∙ ap (λ o. both o (Some ls)) (numeral_decimal a h)
