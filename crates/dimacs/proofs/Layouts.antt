-- A text of well-formed lines is read as their words, and every text that ends its last line is such a text.
use Rattle.std.proofs.Common.{◌≡◌, ℕ, zero, suc, ◌-◌, ◌<◌, ◌≤◌, List, [], ◌∷◌, ◌++◌, map, length, get_or, replicate, sym, refl, ap, ◌∙◌, subst, inl, inr, arith, lit<}
use Rattle.std.proofs.lemmas.Grind.{common_steps}
use Rattle.std.specs.List.{AllByRecursion}
use Rattle.std.proofs.ByRecursion.{All-append, All-weaker}
use Rattle.std.proofs.lemmas.List.{append-nil, length-append}
use Rattle.std.proofs.lemmas.Bool.{cases_eq}
use Rattle.dimacs.specs.Layout.{Apart, Formed, IsWord, Row, Spaced, spelled, text, words_of}
use Rattle.reader.specs.Words.{kept, pieces, rows, words}

-- bytes without a stop
abbrev Without : ℕ → List ℕ → Type 0
Without stop bs = AllByRecursion (λ b. b ≡ stop → ⊥) bs

-- a word is without spaces and line's ends
unspaced : (w : List ℕ) → IsWord w → Without 32 w
unspaced w is = All-weaker (λ b. (b ≡ 32 → ⊥) × (b ≡ 10 → ⊥)) (λ b. b ≡ 32 → ⊥) (λ b both. both.0) w is.unbroken

unended : (w : List ℕ) → IsWord w → Without 10 w
unended w is = All-weaker (λ b. (b ≡ 32 → ⊥) × (b ≡ 10 → ⊥)) (λ b. b ≡ 10 → ⊥) (λ b both. both.1) w is.unbroken

-- a piece ends at the next stop
piece_stopped : (stop : ℕ) (p rest : List ℕ) → Without stop p → pieces stop (p ++ (stop ∷ rest)) ≡ p ∷ pieces stop rest
piece_stopped stop [] rest un = grind (arith, common_steps)
piece_stopped stop (b ∷ p) rest un = grind (arith, common_steps, un.0, piece_stopped stop p rest un.1)

-- or at the end
piece_last : (stop b : ℕ) (p : List ℕ) → Without stop (b ∷ p) → pieces stop (b ∷ p) ≡ (b ∷ p) ∷ []
piece_last stop b [] un = grind (arith, common_steps, un.0)
piece_last stop b (c ∷ p) un = grind (arith, common_steps, un.0, piece_last stop c p un.1)

-- spaces in front count for nothing
words_spaced : (n : ℕ) (rest : List ℕ) → words (replicate n 32 ++ rest) ≡ words rest
words_spaced zero rest = refl
words_spaced (suc n) rest = words_spaced n rest

-- what follows a word: nothing, or a space
abbrev Broken : List ℕ → Type 0
Broken [] = Unit {0}
Broken (b ∷ bs) = b ≡ 32

words_word : (w rest : List ℕ) → IsWord w → Broken rest → words (w ++ rest) ≡ w ∷ words rest
words_word [] rest is broken = let some = is.some in absurd (omega arith)
words_word (b ∷ w) [] is broken =
    ap words (append-nil (b ∷ w)) ∙ ap kept (piece_last 32 b w (unspaced (b ∷ w) is))
words_word (b ∷ w) (c ∷ rest) is broken =
    ap (λ x. words ((b ∷ w) ++ (x ∷ rest))) broken ∙ ap kept (piece_stopped 32 (b ∷ w) rest (unspaced (b ∷ w) is)) ∙ ap (λ x. (b ∷ w) ∷ words (x ∷ rest)) (sym broken)

-- words that stand apart follow a word
broken_spelled : (ss : List Spaced) (end : ℕ) → AllByRecursion (λ s. 1 ≤ s.gap) ss → Broken (spelled ss end)
broken_spelled [] zero apart = tt
broken_spelled [] (suc n) apart = refl
broken_spelled (s ∷ ss) end apart = go s.gap apart.0
  where
    go : (n : ℕ) → 1 ≤ n → Broken (replicate n 32 ++ (s.word ++ spelled ss end))
    go zero h = absurd (omega arith)
    go (suc n) h = refl

words_spelled : (ss : List Spaced) (end : ℕ) → AllByRecursion (λ s. IsWord s.word) ss → Apart ss → words (spelled ss end) ≡ map (λ (s : Spaced). s.word) ss
words_spelled [] end each apart = ap words (sym (append-nil (replicate end 32))) ∙ words_spaced end []
words_spelled (s ∷ ss) end each apart =
    words_spaced s.gap (s.word ++ spelled ss end) ∙ words_word s.word (spelled ss end) each.0 (broken_spelled ss end apart) ∙ ap (λ l. s.word ∷ l) (words_spelled ss end each.1 (later ss apart))
  where
    later : (ts : List Spaced) → AllByRecursion (λ t. 1 ≤ t.gap) ts → Apart ts
    later [] all = tt
    later (t ∷ ts) all = all.1

spaces_unended : (n : ℕ) → Without 10 (replicate n 32)
spaces_unended zero = tt
spaces_unended (suc n) = ((λ e. omega arith), spaces_unended n)

-- a line does not end before its end
spelled_unended : (ss : List Spaced) (end : ℕ) → AllByRecursion (λ s. IsWord s.word) ss → Without 10 (spelled ss end)
spelled_unended [] end each = spaces_unended end
spelled_unended (s ∷ ss) end each =
    All-append (λ b. b ≡ 10 → ⊥) (replicate s.gap 32) (s.word ++ spelled ss end) (spaces_unended s.gap) (All-append (λ b. b ≡ 10 → ⊥) s.word (spelled ss end) (unended s.word each.0) (spelled_unended ss end each.1))

-- the rows of a text of lines are their words
pub rows_text : (rs : List Row) → AllByRecursion Formed rs → rows (text rs) ≡ map words_of rs
rows_text [] all = refl
rows_text (r ∷ rs) all =
    ap (map words) (piece_stopped 10 (spelled r.words r.end) (text rs) (spelled_unended r.words r.end all.0.each)) ∙ ap (λ l. l ∷ rows (text rs)) (words_spelled r.words r.end all.0.each all.0.apart) ∙ ap (λ l. words_of r ∷ l) (rows_text rs all.1)

-- the last byte of a text is that of its last part
last_after : (xs ys : List ℕ) → 0 < length ys → get_or (xs ++ ys) (length (xs ++ ys) - 1) 0 ≡ get_or ys (length ys - 1) 0
last_after xs ys some = grind (arith, common_steps)

-- lines end with byte 10
pub text_ends : (r : Row) (rs : List Row) → get_or (text (r ∷ rs)) (length (text (r ∷ rs)) - 1) 0 ≡ 10
text_ends r [] = last_after (spelled r.words r.end) (10 ∷ []) (omega arith)
text_ends r (q ∷ rs) =
    let long = length-append (spelled q.words q.end) (10 ∷ text rs) in
    last_after (spelled r.words r.end) (10 ∷ text (q ∷ rs)) (omega arith) ∙ last_after (10 ∷ []) (text (q ∷ rs)) (omega arith) ∙ text_ends q rs

-- a line with one more byte in front
record Fronted (b : ℕ) (line : List ℕ) : Type 0 where
  row : Row
  formed : Formed row
  spells : spelled row.words row.end ≡ b ∷ line

-- a space widens the first gap, or the line's end
with_space : (ss : List Spaced) (end : ℕ) → AllByRecursion (λ s. IsWord s.word) ss → Apart ss → Fronted 32 (spelled ss end)
with_space [] end each apart = record { row = record { words = []; end = suc end }; formed = record { each = tt; apart = tt }; spells = refl }
with_space (s ∷ ss) end each apart =
    record {
      row = record { words = record { gap = suc s.gap; word = s.word } ∷ ss; end = end };
      formed = record { each = each; apart = apart };
      spells = refl;
    }

-- another byte goes onto the first word where no space parts them, and else is a word
with_byte : (b : ℕ) (ss : List Spaced) (end : ℕ) → (b ≡ 32 → ⊥) × (b ≡ 10 → ⊥) → AllByRecursion (λ s. IsWord s.word) ss → Apart ss → Fronted b (spelled ss end)
with_byte b [] end other each apart =
    record {
      row = record { words = record { gap = 0; word = b ∷ [] } ∷ []; end = end };
      formed = record { each = (record { some = lit< tt; unbroken = (other, tt) }, tt); apart = tt };
      spells = refl;
    }
with_byte b (s ∷ ss) end other each apart = go s.gap
  where
    go : (gap : ℕ) → Fronted b (replicate gap 32 ++ (s.word ++ spelled ss end))
    go zero =
        record {
          row = record { words = record { gap = 0; word = b ∷ s.word } ∷ ss; end = end };
          formed = record { each = (record { some = omega arith; unbroken = (other, each.0.unbroken) }, each.1); apart = apart };
          spells = refl;
        }
    go (suc n) =
        record {
          row = record { words = record { gap = 0; word = b ∷ [] } ∷ record { gap = suc n; word = s.word } ∷ ss; end = end };
          formed = record { each = (record { some = lit< tt; unbroken = (other, tt) }, each); apart = (omega arith, apart) };
          spells = refl;
        }

-- the lines of a text
pub record Laid (bs : List ℕ) : Type 0 where
  pub rows : List Row
  pub formed : AllByRecursion Formed rows
  pub written : text rows ≡ bs

laid_line : (bs : List ℕ) → Laid bs → Laid (10 ∷ bs)
laid_line bs l =
    record {
      rows = record { words = []; end = 0 } ∷ l.rows;
      formed = (record { each = tt; apart = tt }, l.formed);
      written = ap (λ t. 10 ∷ t) l.written;
    }

laid_front : (b : ℕ) (bs : List ℕ) → 0 < length bs → (b ≡ 10 → ⊥) → Laid bs → Laid (b ∷ bs)
laid_front b bs some other l = go l.rows l.formed l.written
  where
    go : (rs : List Row) → AllByRecursion Formed rs → text rs ≡ bs → Laid (b ∷ bs)
    go [] formed written = let same = ap length written in absurd (omega arith)
    go (r ∷ rs) formed written =
        let each = formed.0.each in
        let apart = formed.0.apart in
        put (elim (cases_eq b 32) [ inl e ↦ subst (λ x. Fronted x (spelled r.words r.end)) (sym e) (with_space r.words r.end each apart) | inr ne ↦ with_byte b r.words r.end (ne, other) each apart ])
      where
        put : Fronted b (spelled r.words r.end) → Laid (b ∷ bs)
        put f = record { rows = f.row ∷ rs; formed = (f.formed, formed.1); written = ap (λ x. x ++ (10 ∷ text rs)) f.spells ∙ ap (λ x. b ∷ x) written }

-- every text that ends with byte 10 is lines
pub laid : (b : ℕ) (bs : List ℕ) → get_or (b ∷ bs) (length (b ∷ bs) - 1) 0 ≡ 10 → Laid (b ∷ bs)
laid b [] ends = subst (λ x. Laid (x ∷ [])) (sym ends) (laid_line [] (record { rows = []; formed = tt; written = refl }))
laid b (c ∷ cs) ends =
    let more = laid c cs (sym (last_after (b ∷ []) (c ∷ cs) (omega arith)) ∙ ends) in
    elim (cases_eq b 10) [ inl e ↦ subst (λ x. Laid (x ∷ c ∷ cs)) (sym e) (laid_line (c ∷ cs) more) | inr ne ↦ laid_front b (c ∷ cs) (omega arith) ne more ]
