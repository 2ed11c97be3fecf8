-- The nodes that a file may have: distinct ids from 1 to 64.
use Rattle.std.specs.Prelude.{ℕ, Bool, true, cond, not, ◌&&◌, List, [], ◌∷◌, ◌++◌, nat_le}
use Rattle.dimacs.specs.declared.document.Node.{Node}
use Rattle.dimacs.specs.Scan.{taken}

-- an id that may still be given to a node
abbrev pub vacant : List Node → ℕ → Bool
vacant ns id = (nat_le 1 id && nat_le id 64) && not (taken ns id)

-- every id is from 1 to 64, and comes once
abbrev pub distinct : List Node → Bool
distinct [] = true
distinct (n ∷ ns) = vacant ns n.id && distinct ns

-- one node more, unless its id is not vacant
abbrev pub with_more : List Node → Node → List Node
with_more ns n = cond (vacant ns n.id) (ns ++ (n ∷ [])) ns
