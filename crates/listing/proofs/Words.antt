-- A line of words has those words: a word holds no stop.
use Rattle.std.proofs.Common.{◌≡◌, ℕ, ◌^◌, ◌<◌, ◌≤◌, false, eqb, List, [], ◌∷◌, ◌++◌, map, length, decimal, refl, ap, ◌∙◌, append_assoc, arith, eq-eqb, ne_eqb}
use Rattle.std.specs.List.{AllByRecursion}
use Rattle.std.proofs.lemmas.Fmt.{decimal_by_steps, decimal_nonempty}
use Rattle.std.proofs.ByRecursion.{All-append, All-push, All-weaker}
use Rattle.reader.specs.Words.{pieces, kept, words, rows}
use Rattle.listing.specs.Listing.{spaced, line_of}

-- bytes without a stop
abbrev Without : ℕ → List ℕ → Type 0
Without stop w = AllByRecursion (λ b. eqb b stop ≡ false) w

-- a word has a byte, and all of its bytes lie past the stops
abbrev pub Word : List ℕ → Type 0
Word w = (0 < length w) × AllByRecursion (λ b. 32 < b) w

without : (stop : ℕ) (w : List ℕ) → stop ≤ 32 → Word w → Without stop w
without stop w h word = All-weaker (λ b. 32 < b) (λ b. eqb b stop ≡ false) (λ b past. ne_eqb b stop (λ e. omega arith)) w word.1

piece_more : (stop : ℕ) (w rest : List ℕ) → Without stop w → pieces stop (w ++ stop ∷ rest) ≡ w ∷ pieces stop rest
piece_more stop [] rest clean = rw (eq-eqb stop stop refl)
piece_more stop (b ∷ w) rest clean = rw (clean.0, piece_more stop w rest clean.1)

piece_last : (stop : ℕ) (w : List ℕ) → 0 < length w → Without stop w → pieces stop w ≡ w ∷ []
piece_last stop [] some clean = absurd (omega arith)
piece_last stop (b ∷ []) some clean = rw clean.0
piece_last stop (b ∷ c ∷ w) some clean = rw (clean.0, piece_last stop (c ∷ w) (omega arith) clean.1)

kept_word : (w : List ℕ) (ps : List (List ℕ)) → 0 < length w → kept (w ∷ ps) ≡ w ∷ kept ps
kept_word [] ps some = absurd (omega arith)
kept_word (b ∷ w) ps some = refl

words_spaced : (ws : List (List ℕ)) → AllByRecursion Word ws → words (spaced ws) ≡ ws
words_spaced [] all = refl
words_spaced (w ∷ []) all = ap kept (piece_last 32 w all.0.0 (without 32 w (omega arith) all.0)) ∙ kept_word w [] all.0.0
words_spaced (w ∷ v ∷ vs) all =
    ap kept (piece_more 32 w (spaced (v ∷ vs)) (without 32 w (omega arith) all.0))
    ∙ kept_word w (pieces 32 (spaced (v ∷ vs))) all.0.0
    ∙ ap (λ ps. w ∷ ps) (words_spaced (v ∷ vs) all.1)

spaced_without : (ws : List (List ℕ)) → AllByRecursion Word ws → Without 10 (spaced ws)
spaced_without [] all = tt
spaced_without (w ∷ []) all = without 10 w (omega arith) all.0
spaced_without (w ∷ v ∷ vs) all =
    All-append (λ b. eqb b 10 ≡ false) w (32 ∷ spaced (v ∷ vs)) (without 10 w (omega arith) all.0) (refl, spaced_without (v ∷ vs) all.1)

-- the first row of a text is the words of its first line
pub rows_line : (ws : List (List ℕ)) (rest : List ℕ) → AllByRecursion Word ws → rows (line_of ws ++ rest) ≡ ws ∷ rows rest
rows_line ws rest all =
    ap rows (append_assoc (spaced ws) (10 ∷ []) rest)
    ∙ ap (map words) (piece_more 10 (spaced ws) rest (spaced_without ws all))
    ∙ ap (λ row. row ∷ rows rest) (words_spaced ws all)

-- a number's decimal is a word
pub decimal_word : (n : ℕ) → n < 2 ^ 64 → Word (decimal n)
decimal_word n h = (
  decimal_nonempty n h,
  decimal_by_steps (λ _ ds. AllByRecursion (λ b. 32 < b) ds) (λ m l. (omega arith, tt)) (λ m ds l past. All-push (λ b. 32 < b) ds _ past (omega arith)) n h,
)
