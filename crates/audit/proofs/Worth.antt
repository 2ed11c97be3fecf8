-- The worth of a marked row, and of the rows so far.
use Rattle.std.proofs.Common.{◌≡◌, ℕ, suc, ◌*◌, ◌^◌, ◌<◌, ◌≤◌, true, leb, List, ◌∷◌, ℤ, pos, negsuc, ◌+ℤ◌, ◌*ℤ◌, neg_ℤ, ◌≤ℤ◌, Some, None, Option, ap, ◌∙◌, mul-le-mul, arith, w64, SFits, to_z, of_z}
use borrow.Author.Differences.{ints}
use lib.IntN.{pos-*ℤ-pos}
use Rattle.std.proofs.lemmas.Bool.{and_parts, leb-true}
use Rattle.wires.specs.declared.terminal.Terminal.{Terminal}
use Rattle.wires.specs.Marks.{value, worth}
use Rattle.wires.specs.Wiring.{row_adds}
use Rattle.wires.proofs.Integers.{neg_mul}
use Rattle.audit.specs.Audit.{pins}
use Rattle.audit.specs.Questions.{allowed}

-- an allowed current times a mark of 32 bits
pub worth_bounds : (z : ℤ) (mark : ℕ) → allowed z ≡ true → mark < 2 ^ 32 → (neg_ℤ (pos 4294967296000000) ≤ℤ (neg_ℤ z *ℤ pos mark)) × ((neg_ℤ z *ℤ pos mark) ≤ℤ pos 4294967296000000)
worth_bounds (pos n) mark ok short =
    let l = leb-true n 1000000 (and_parts (leb 1 n) (leb n 1000000) ok).1 in
    let p : n * mark ≤ 1000000 * 4294967296 = mul-le-mul {n₂ = 1000000} {m₂ = 4294967296} l (omega arith) in
    let e = neg_mul (pos n) (pos mark) ∙ ap neg_ℤ (pos-*ℤ-pos n mark) in
    omega (arith, ints)
worth_bounds (negsuc n) mark ok short =
    let l = leb-true n 999999 ok in
    let p : suc n * mark ≤ 1000000 * 4294967296 = mul-le-mul {n₂ = 1000000} {m₂ = 4294967296} (omega arith) (omega arith) in
    let e = pos-*ℤ-pos (suc n) mark in
    omega (arith, ints)

-- so it fits 64 bits
pub worth_fits : (a b z : ℤ) (mark : ℕ) → a ≡ neg_ℤ z → b ≡ pos mark → allowed z ≡ true → mark < 2 ^ 32 → SFits w64 (a *ℤ b) × (to_z w64 (of_z w64 (a *ℤ b)) ≡ neg_ℤ z *ℤ pos mark)
worth_fits a b z mark e f ok short =
    let bounds = worth_bounds z mark ok short in
    let is : a *ℤ b ≡ neg_ℤ z *ℤ pos mark = ap (λ x. x *ℤ b) e ∙ ap (λ y. neg_ℤ z *ℤ y) f in
    go (a *ℤ b) (neg_ℤ z *ℤ pos mark) is bounds.0 bounds.1
  where
    go : (p q : ℤ) → p ≡ q → neg_ℤ (pos 4294967296000000) ≤ℤ q → q ≤ℤ pos 4294967296000000 → SFits w64 p × (to_z w64 (of_z w64 p) ≡ q)
    go p q is low high = (omega (arith, ints), omega (arith, ints))

-- the first row and its mark, and the rest
pub value_front : (row : Option Terminal) (mark : ℕ) (rows : List (Option Terminal)) (marks : List ℕ) → value (pins (row ∷ rows) (mark ∷ marks)) ≡ row_adds (λ t. worth (record { terminal = t; mark = mark })) row +ℤ value (pins rows marks)
value_front (Some t) mark rows marks = omega (arith, ints)
value_front None mark rows marks = omega (arith, ints)
