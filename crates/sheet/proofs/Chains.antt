-- Chains of questions.
use Rattle.std.proofs.Common.{◌≡◌, ℕ, Some, None, Ok, Err, Option, arith}
use Rattle.audit.specs.declared.refusal.Refusal.{Refusal}
use Rattle.audit.specs.Questions.{outcome}

-- what a refusal says of the questions
pub no_from : {A : Type 0} (asked : Option Refusal) (answer : A) (r : Refusal) → Err r ≡ outcome asked answer → asked ≡ Some r
no_from (Some x) answer r e = cc
no_from None answer r e = let z : ◌≡◌ {A = ℕ} 0 1 = cc in absurd (omega arith)

-- and what an answer says
pub answer_from : {A : Type 0} (asked : Option Refusal) (answer a : A) → Ok a ≡ outcome asked answer → a ≡ answer
answer_from (Some x) answer a e = let z : ◌≡◌ {A = ℕ} 0 1 = cc in absurd (omega arith)
answer_from None answer a e = cc
