-- A text is lines, and a line is words: the pieces between stops.
use Rattle.std.specs.Prelude.{ℕ, cond, List, [], ◌∷◌, map, ◌==◌}

-- a byte in front of the first piece
abbrev pub onto : ℕ → List (List ℕ) → List (List ℕ)
onto b [] = (b ∷ []) ∷ []
onto b (p ∷ ps) = (b ∷ p) ∷ ps

-- the pieces of a text, each up to the next stop or the end
abbrev pub pieces : ℕ → List ℕ → List (List ℕ)
pieces stop [] = []
pieces stop (b ∷ bs) = cond (b == stop) ([] ∷ pieces stop bs) (onto b (pieces stop bs))

-- those that are not empty
abbrev pub kept : List (List ℕ) → List (List ℕ)
kept [] = []
kept ([] ∷ ps) = kept ps
kept ((b ∷ p) ∷ ps) = (b ∷ p) ∷ kept ps

-- A line's words stand between spaces, byte 32.
abbrev pub words : List ℕ → List (List ℕ)
words line = kept (pieces 32 line)

-- A text's lines end with byte 10; each is read as its words.
abbrev pub rows : List ℕ → List (List (List ℕ))
rows bs = map words (pieces 10 bs)
