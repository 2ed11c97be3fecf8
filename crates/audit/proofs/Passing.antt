-- Questions that are passed: one, a chain of them, and one put to every number below n.
use Rattle.std.proofs.Common.{◌≡◌, ℕ, Bool, true, false, List, [], ◌∷◌, is_some, Some, None, Option, refl, ap, arith}
use Rattle.std.specs.List.{AllByRecursion}
use Rattle.std.proofs.lemmas.Bool.{true≢false}
use Rattle.audit.specs.declared.refusal.Refusal.{Refusal}
use Rattle.audit.specs.Audit.{lowest, fault}
use Rattle.audit.specs.Questions.{ask, first_no}
use Rattle.audit.proofs.Lowest.{Clear, lowest_none, lowest_clear}

pub ask_passed : (ok : Bool) (r : Refusal) → ask ok r ≡ None → ok ≡ true
ask_passed true r e = refl
ask_passed false r e = absurd (let z : ◌≡◌ {A = ℕ} 0 1 = cc in omega arith)

-- a chain is passed exactly when each of its questions is
abbrev pub Passed : List (Option Refusal) → Type 0
Passed qs = AllByRecursion (λ q. q ≡ None) qs

pub chain_passes : (qs : List (Option Refusal)) → Passed qs → first_no qs ≡ None
chain_passes [] all = refl
chain_passes (Some r ∷ qs) all = all.0
chain_passes (None ∷ qs) all = chain_passes qs all.1

pub chain_passed : (qs : List (Option Refusal)) → first_no qs ≡ None → Passed qs
chain_passed [] e = tt
chain_passed (Some r ∷ qs) e = absurd (let z : ◌≡◌ {A = ℕ} 0 1 = cc in omega arith)
chain_passed (None ∷ qs) e = (refl, chain_passed qs e)

-- a question to each number below n is passed exactly when nothing fails
pub clear_passes : (refusal : ℕ → Refusal) (bad : ℕ → Bool) (n : ℕ) → Clear bad n → fault refusal (lowest bad n) ≡ None
clear_passes refusal bad n clear = ap (fault refusal) (lowest_none bad n clear)

pub clear_passed : (refusal : ℕ → Refusal) (bad : ℕ → Bool) (n : ℕ) → fault refusal (lowest bad n) ≡ None → Clear bad n
clear_passed refusal bad n e = lowest_clear bad n (go (lowest bad n) e)
  where
    go : (found : Option ℕ) → fault refusal found ≡ None → found ≡ None
    go (Some i) e = absurd (let z : ◌≡◌ {A = ℕ} 0 1 = cc in omega arith)
    go None e = refl

-- the same of a test whether anything fails
pub clear_absent : (bad : ℕ → Bool) (n : ℕ) → Clear bad n → is_some (lowest bad n) ≡ false
clear_absent bad n clear = ap is_some (lowest_none bad n clear)

pub absent_clear : (bad : ℕ → Bool) (n : ℕ) → is_some (lowest bad n) ≡ false → Clear bad n
absent_clear bad n e = lowest_clear bad n (go (lowest bad n) e)
  where
    go : (found : Option ℕ) → is_some found ≡ false → found ≡ None
    go (Some i) e = absurd (true≢false e)
    go None e = refl
