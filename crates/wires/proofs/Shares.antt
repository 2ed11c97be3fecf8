-- What counts at a site of a sum, a negative, a multiple, and of nothing.
use Rattle.std.proofs.Common.{◌≡◌, ℕ, Bool, true, false, cond, eqb, ℤ, pos, ◌+ℤ◌, ◌*ℤ◌, neg_ℤ, sym, refl, ◌∙◌, arith}
use borrow.Author.Differences.{ints}
use lib.IntN.{zero-*ℤ, *ℤ_comm}
use Rattle.wires.specs.Wiring.{share}

pub share_none : (a s : ℕ) → share a s (pos 0) ≡ pos 0
share_none a s = go (eqb a s)
  where
    go : (b : Bool) → cond b (pos 0) (pos 0) ≡ pos 0
    go true = refl
    go false = refl

pub share_add : (a s : ℕ) (x y : ℤ) → share a s (x +ℤ y) ≡ share a s x +ℤ share a s y
share_add a s x y = go (eqb a s)
  where
    go : (b : Bool) → cond b (x +ℤ y) (pos 0) ≡ cond b x (pos 0) +ℤ cond b y (pos 0)
    go true = refl
    go false = refl

pub share_neg : (a s : ℕ) (z : ℤ) → share a s (neg_ℤ z) ≡ neg_ℤ (share a s z)
share_neg a s z = go (eqb a s)
  where
    go : (b : Bool) → cond b (neg_ℤ z) (pos 0) ≡ neg_ℤ (cond b z (pos 0))
    go true = refl
    go false = omega (arith, ints)

pub share_mul : (a s : ℕ) (k z : ℤ) → share a s (k *ℤ z) ≡ k *ℤ share a s z
share_mul a s k z = go (eqb a s)
  where
    go : (b : Bool) → cond b (k *ℤ z) (pos 0) ≡ k *ℤ cond b z (pos 0)
    go true = refl
    go false = sym (*ℤ_comm k (pos 0) ∙ zero-*ℤ k)
