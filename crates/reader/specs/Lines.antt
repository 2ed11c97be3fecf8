-- What a line says, by its words.
use Rattle.std.specs.Prelude.{ℕ, ◌+◌, Bool, cond, List, [], ◌∷◌, length, Some, None, Ok, Err, Option, Result, codes, ◌==◌, slice_index_or}
use Rattle.std.specs.Str.{bytes_eq}
use Rattle.reader.specs.declared.line.Line.{Line}
use Rattle.reader.specs.declared.line.Line.TheVariants.{Blank, Comment, Problem, Node, Arc}
use Rattle.reader.specs.declared.refusal.Fault.TheVariants.{LineKind, LineWords}
use Rattle.reader.specs.declared.refusal.Refusal.{Refusal}
use Rattle.reader.specs.Numbers.{numeral, flow_of}
use Rattle.reader.specs.Refusals.{refused}

-- the k-th word of a line, counted from 1 as its kind is the first
abbrev pub second : List (List ℕ) → List ℕ
second ws = slice_index_or ws 1 []

abbrev pub third : List (List ℕ) → List ℕ
third ws = slice_index_or ws 2 []

abbrev pub fourth : List (List ℕ) → List ℕ
fourth ws = slice_index_or ws 3 []

abbrev pub fifth : List (List ℕ) → List ℕ
fifth ws = slice_index_or ws 4 []

abbrev pub sixth : List (List ℕ) → List ℕ
sixth ws = slice_index_or ws 5 []

-- a number of a line, or the refusal of that word
abbrev pub read : {A : Type 0} → ℕ → ℕ → Option A → (A → Result Line Refusal) → Result Line Refusal
read line word (Some x) go = go x
read line word None go = Err (refused LineWords line word)

-- a line has just as many words as its kind asks for
abbrev pub counted : ℕ → ℕ → List (List ℕ) → Result Line Refusal → Result Line Refusal
counted line n ws said = cond (length ws == n) said (Err (refused LineWords line 0))

-- the word `min`
abbrev pub says_min : List ℕ → Bool
says_min w = bytes_eq w (codes "min")

-- p min N ARCS
abbrev pub problem_said : ℕ → List (List ℕ) → Result Line Refusal
problem_said line ws =
    counted line 4 ws (read line 3 (numeral (third ws)) (λ sites. read line 4 (numeral (fourth ws)) (λ arcs. Ok (Problem (record { is_min = says_min (second ws); sites = sites; arcs = arcs })))))

-- n ID FLOW
abbrev pub node_said : ℕ → List (List ℕ) → Result Line Refusal
node_said line ws =
    counted line 3 ws (read line 2 (numeral (second ws)) (λ id. read line 3 (flow_of (third ws)) (λ flow. Ok (Node (record { id = id; flow = flow })))))

-- a SRC DST LOW CAP COST
abbrev pub arc_said : ℕ → List (List ℕ) → Result Line Refusal
arc_said line ws =
    counted line 6 ws (read line 2 (numeral (second ws)) (λ from. read line 3 (numeral (third ws)) (λ to. read line 4 (numeral (fourth ws)) (λ low. read line 5 (numeral (fifth ws)) (λ cap. read line 6 (numeral (sixth ws)) (λ cost. Ok (Arc (record { from = from; to = to; low = low; cap = cap; cost = cost }))))))))

-- what a line says by its first word: c, p, n or a; a line without words is skipped
abbrev pub said : ℕ → List (List ℕ) → Result Line Refusal
said line [] = Ok Blank
said line (w ∷ ws) =
    cond (bytes_eq w (codes "c")) (Ok Comment) (cond (bytes_eq w (codes "p")) (problem_said line (w ∷ ws)) (cond (bytes_eq w (codes "n")) (node_said line (w ∷ ws)) (cond (bytes_eq w (codes "a")) (arc_said line (w ∷ ws)) (Err (refused LineKind line 1)))))

-- what the line after line n says, absent at the end
abbrev pub next_said : ℕ → List (List (List ℕ)) → Option (Result Line Refusal)
next_said n [] = None
next_said n (ws ∷ rest) = Some (said (n + 1) ws)

-- the lines after the first
abbrev pub tail : List (List (List ℕ)) → List (List (List ℕ))
tail [] = []
tail (ws ∷ rest) = rest
