-- Rows stay upheld: 64 of them, every terminal on a known site.
use Rattle.std.proofs.Common.{◌≡◌, ℕ, zero, suc, true, List, [], ◌∷◌, get_or, set, Some, None, Option, refl, ◌∙◌, length-set}
use Rattle.ruler.specs.Meaning.{Meaning}
use Rattle.wires.specs.declared.terminal.Terminal.{Terminal}
use Rattle.wires.specs.Wiring.{Seated, seated}
use Rattle.audit.specs.Law.{Upheld}
use Rattle.sheet.specs.Questions.{row_known}

pub kept_row : (m : Meaning) (rows : List (Option Terminal)) (i : ℕ) → Seated m (seated rows) → row_known m (get_or rows i None) ≡ true
kept_row m [] i known = refl
kept_row m (Some t ∷ rows) zero known = known.0
kept_row m (Some t ∷ rows) (suc i) known = kept_row m rows i known.1
kept_row m (None ∷ rows) zero known = refl
kept_row m (None ∷ rows) (suc i) known = kept_row m rows i known

seated_first : (m : Meaning) (row : Option Terminal) (rows : List (Option Terminal)) → row_known m row ≡ true → Seated m (seated rows) → Seated m (seated (row ∷ rows))
seated_first m (Some t) rows kept known = (kept, known)
seated_first m None rows kept known = known

seated_set : (m : Meaning) (rows : List (Option Terminal)) (i : ℕ) (row : Option Terminal) → row_known m row ≡ true → Seated m (seated rows) → Seated m (seated (set rows i row))
seated_set m [] i row kept known = tt
seated_set m (Some t ∷ rows) zero row kept known = seated_first m row rows kept known.1
seated_set m (Some t ∷ rows) (suc i) row kept known = (known.0, seated_set m rows i row kept known.1)
seated_set m (None ∷ rows) zero row kept known = seated_first m row rows kept known
seated_set m (None ∷ rows) (suc i) row kept known = seated_set m rows i row kept known

pub set_upheld : (m : Meaning) (rows : List (Option Terminal)) (i : ℕ) (row : Option Terminal) → row_known m row ≡ true → Upheld m rows → Upheld m (set rows i row)
set_upheld m rows i row kept up = record { full = length-set rows i row ∙ up.full; known = seated_set m rows i row kept up.known }
