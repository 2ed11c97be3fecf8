-- The first piece of a text and the first word of a line, and what follows them.
use Rattle.std.proofs.Common.{◌≡◌, ℕ, cond, eqb, List, [], ◌∷◌, map, length, Some, None, Option, refl, ap, arith}
use Rattle.std.proofs.lemmas.Grind.{common_steps}
use Rattle.std.specs.Option.{option_map}
use Rattle.reader.specs.declared.reader.Word as lent
use Rattle.reader.specs.Reading.{Place, next_word, past, unspaced, upto, word_of, worded}
use Rattle.reader.specs.Words.{kept, pieces, rows, words}

pieces_next : (stop b : ℕ) (bs : List ℕ) → pieces stop (b ∷ bs) ≡ upto stop (b ∷ bs) ∷ pieces stop (past stop (b ∷ bs))
pieces_next stop b [] = grind (arith, common_steps)
pieces_next stop b (x ∷ xs) = grind (arith, common_steps, pieces_next stop x xs)

-- the rows of a text are its first line's words and the rows after it
pub rows_next : (s : List ℕ) → rows s ≡ cond (eqb (length s) 0) [] (words (upto 10 s) ∷ rows (past 10 s))
rows_next [] = refl
rows_next (b ∷ bs) = grind (arith, common_steps, ap (map words) (pieces_next 10 b bs))

-- the words of a line are the word after the spaces in front and the words after it
pub words_next : (s : List ℕ) → words s ≡ cond (eqb (length (unspaced s)) 0) [] (upto 32 (unspaced s) ∷ words (past 32 (unspaced s)))
words_next [] = refl
words_next (b ∷ bs) = grind (arith, common_steps, ap kept (pieces_next 32 b bs), words_next bs)

-- from a place past the next word
pub word_taken : (p q : Place) (o : Option lent.Word) → option_map word_of o ≡ next_word p → q ≡ worded p → words p.left ≡ elim o [ Some w ↦ w.text.now ∷ words q.left | None ↦ [] ]
word_taken p q (Some w) answer place = grind (arith, common_steps, words_next p.left)
word_taken p q None answer place = grind (arith, common_steps, words_next p.left)
