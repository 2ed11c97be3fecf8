-- Where a reader stands in a file, and how it goes on.
use Rattle.std.specs.Prelude.{◌≡◌, ℕ, ◌+◌, cond, List, [], ◌∷◌, length, Some, None, Option, ◌==◌}
use Rattle.reader.specs.declared.reader.Reader.{Reader}
use Rattle.reader.specs.declared.reader.Word as lent

-- what stands before the first stop, and what stands after it
abbrev pub upto : ℕ → List ℕ → List ℕ
upto stop [] = []
upto stop (b ∷ bs) = cond (b == stop) [] (b ∷ upto stop bs)

abbrev pub past : ℕ → List ℕ → List ℕ
past stop [] = []
past stop (b ∷ bs) = cond (b == stop) bs (past stop bs)

-- without the spaces in front
abbrev pub unspaced : List ℕ → List ℕ
unspaced [] = []
unspaced (b ∷ bs) = cond (b == 32) (unspaced bs) (b ∷ bs)

-- what is left of a line, the lines after it, the number of the line, and how many of its words were read
pub record Place : Type 0 where
  pub left : List ℕ
  pub after : List ℕ
  pub line : ℕ
  pub word : ℕ

abbrev pub place_of : Reader → Place
place_of r = record { left = r.left.now; after = r.after.now; line = r.line; word = r.word }

-- before the first line
abbrev pub begun : List ℕ → Place
begun file = record { left = []; after = file; line = 0; word = 0 }

-- at the next line
abbrev pub lined : Place → Place
lined p = record { left = upto 10 p.after; after = past 10 p.after; line = p.line + 1; word = 0 }

-- a word with its line and its number in the line, both counted from 1
pub record Word : Type 0 where
  pub text : List ℕ
  pub line : ℕ
  pub number : ℕ

abbrev pub word_of : lent.Word → Word
word_of w = record { text = w.text.now; line = w.line; number = w.number }

-- past the next word
abbrev pub worded : Place → Place
worded p =
    record {
      left = past 32 (unspaced p.left);
      after = p.after;
      line = p.line;
      word = cond (length (unspaced p.left) == 0) p.word (p.word + 1);
    }

-- the next word of the line, absent at its end
abbrev pub next_word : Place → Option Word
next_word p =
    cond (length (unspaced p.left) == 0) None (Some (record { text = upto 32 (unspaced p.left); line = p.line; number = p.word + 1 }))

-- words of one line, one after another from the n-th
abbrev pub Follow : ℕ → ℕ → List Word → Type 0
Follow line n [] = Unit {0}
Follow line n (w ∷ ws) = (w.line ≡ line) × (w.number ≡ n) × Follow line (n + 1) ws
