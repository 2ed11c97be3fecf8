-- A run of calls, one call more.
use Rattle.std.proofs.Common.{◌≡◌, ℕ, ◌+◌, ◌<◌, List, [], ◌∷◌, ◌++◌, length, get_or, take, refl, ap, ◌∙◌}
use Rattle.std.proofs.lemmas.List.{take_more}
use Rattle.ruler.specs.Meaning.{Meaning}
use Rattle.sheet.specs.declared.call.Call.{Call}
use Rattle.sheet.specs.Ledger.{Ledger, course, fed}

pub course_push : (m : Meaning) (l : Ledger) (calls : List Call) (call : Call) → course m l (calls ++ call ∷ []) ≡ fed m (course m l calls) call
course_push m l [] call = refl
course_push m l (first ∷ calls) call = course_push m (fed m l first) calls call

pub course_more : (m : Meaning) (l : Ledger) (calls : List Call) (i : ℕ) (d : Call) → i < length calls → course m l (take (i + 1) calls) ≡ fed m (course m l (take i calls)) (get_or calls i d)
course_more m l calls i d h = ap (course m l) (take_more calls i d h) ∙ course_push m l (take i calls) (get_or calls i d)
