-- Products of whole numbers, which `omega` takes as unknowns.
use Rattle.std.proofs.Common.{◌≡◌, ℕ, suc, ◌*◌, ◌≤◌, ℤ, pos, negsuc, ◌+ℤ◌, ◌-ℤ◌, ◌*ℤ◌, neg_ℤ, ◌≤ℤ◌, sym, refl, ap, ◌∙◌, mul-le-mul_right, arith}
use borrow.Author.Differences.{ints}
use lib.IntN.{ℤ_ind, suc_ℤ-*ℤ, pred_ℤ-*ℤ, zero-*ℤ, *ℤ_comm, +ℤ_one, -ℤ_one, pos-*ℤ-pos}

next_mul : (a b : ℤ) → (a +ℤ pos 1) *ℤ b ≡ a *ℤ b +ℤ b
next_mul a b = ap (λ z. z *ℤ b) (+ℤ_one a) ∙ suc_ℤ-*ℤ a b

last_mul : (a b : ℤ) → (a +ℤ neg_ℤ (pos 1)) *ℤ b ≡ a *ℤ b -ℤ b
last_mul a b = ap (λ z. z *ℤ b) (-ℤ_one a) ∙ pred_ℤ-*ℤ a b

pub add_mul : (a b c : ℤ) → (a +ℤ b) *ℤ c ≡ a *ℤ c +ℤ b *ℤ c
add_mul a b c = ℤ_ind (λ z. (z +ℤ b) *ℤ c ≡ z *ℤ c +ℤ b *ℤ c) none more less a
  where
    none : (pos 0 +ℤ b) *ℤ c ≡ pos 0 *ℤ c +ℤ b *ℤ c
    none =
        let e : pos 0 +ℤ b ≡ b = omega (arith, ints) in
        let f = ap (λ z. z *ℤ c) e in
        let g = zero-*ℤ c in
        omega (arith, ints)

    more : (n : ℕ) → (pos n +ℤ b) *ℤ c ≡ pos n *ℤ c +ℤ b *ℤ c → ((pos n +ℤ pos 1) +ℤ b) *ℤ c ≡ (pos n +ℤ pos 1) *ℤ c +ℤ b *ℤ c
    more n h =
        let e : (pos n +ℤ pos 1) +ℤ b ≡ (pos n +ℤ b) +ℤ pos 1 = omega (arith, ints) in
        let f = ap (λ z. z *ℤ c) e in
        let g = next_mul (pos n +ℤ b) c in
        let k = next_mul (pos n) c in
        f ∙ g ∙ ap (λ z. z +ℤ c) h ∙ omega (arith, ints)

    less : (n : ℕ) → (neg_ℤ (pos n) +ℤ b) *ℤ c ≡ neg_ℤ (pos n) *ℤ c +ℤ b *ℤ c → ((neg_ℤ (pos n) +ℤ neg_ℤ (pos 1)) +ℤ b) *ℤ c ≡ (neg_ℤ (pos n) +ℤ neg_ℤ (pos 1)) *ℤ c +ℤ b *ℤ c
    less n h =
        let e : (neg_ℤ (pos n) +ℤ neg_ℤ (pos 1)) +ℤ b ≡ (neg_ℤ (pos n) +ℤ b) +ℤ neg_ℤ (pos 1) = omega (arith, ints) in
        let f = ap (λ z. z *ℤ c) e in
        let g = last_mul (neg_ℤ (pos n) +ℤ b) c in
        let k = last_mul (neg_ℤ (pos n)) c in
        f ∙ g ∙ ap (λ z. z -ℤ c) h ∙ omega (arith, ints)

pub mul_add : (a b c : ℤ) → a *ℤ (b +ℤ c) ≡ a *ℤ b +ℤ a *ℤ c
mul_add a b c = *ℤ_comm a (b +ℤ c) ∙ add_mul b c a ∙ ap (λ z. z +ℤ c *ℤ a) (*ℤ_comm b a) ∙ ap (λ z. a *ℤ b +ℤ z) (*ℤ_comm c a)

pub neg_mul : (a b : ℤ) → neg_ℤ a *ℤ b ≡ neg_ℤ (a *ℤ b)
neg_mul a b =
    let e = add_mul (neg_ℤ a) a b in
    let f : neg_ℤ a +ℤ a ≡ pos 0 = omega (arith, ints) in
    let g = ap (λ z. z *ℤ b) f ∙ zero-*ℤ b in
    let h : neg_ℤ a *ℤ b +ℤ a *ℤ b ≡ pos 0 = sym e ∙ g in
    omega (arith, ints)

pub mul_neg : (a b : ℤ) → a *ℤ neg_ℤ b ≡ neg_ℤ (a *ℤ b)
mul_neg a b = *ℤ_comm a (neg_ℤ b) ∙ neg_mul b a ∙ ap neg_ℤ (*ℤ_comm b a)

pub sub_mul : (a b c : ℤ) → (a -ℤ b) *ℤ c ≡ a *ℤ c -ℤ b *ℤ c
sub_mul a b c = add_mul a (neg_ℤ b) c ∙ ap (λ z. a *ℤ c +ℤ z) (neg_mul b c)

pub mul_sub : (a b c : ℤ) → a *ℤ (b -ℤ c) ≡ a *ℤ b -ℤ a *ℤ c
mul_sub a b c = mul_add a b (neg_ℤ c) ∙ ap (λ z. a *ℤ b +ℤ z) (mul_neg a c)

pub mul_assoc : (a b c : ℤ) → (a *ℤ b) *ℤ c ≡ a *ℤ (b *ℤ c)
mul_assoc a b c = ℤ_ind (λ z. (z *ℤ b) *ℤ c ≡ z *ℤ (b *ℤ c)) none more less a
  where
    none : (pos 0 *ℤ b) *ℤ c ≡ pos 0 *ℤ (b *ℤ c)
    none = ap (λ z. z *ℤ c) (zero-*ℤ b) ∙ zero-*ℤ c ∙ sym (zero-*ℤ (b *ℤ c))

    more : (n : ℕ) → (pos n *ℤ b) *ℤ c ≡ pos n *ℤ (b *ℤ c) → ((pos n +ℤ pos 1) *ℤ b) *ℤ c ≡ (pos n +ℤ pos 1) *ℤ (b *ℤ c)
    more n h = ap (λ z. z *ℤ c) (next_mul (pos n) b) ∙ add_mul (pos n *ℤ b) b c ∙ ap (λ z. z +ℤ b *ℤ c) h ∙ sym (next_mul (pos n) (b *ℤ c))

    less : (n : ℕ) → (neg_ℤ (pos n) *ℤ b) *ℤ c ≡ neg_ℤ (pos n) *ℤ (b *ℤ c) → ((neg_ℤ (pos n) +ℤ neg_ℤ (pos 1)) *ℤ b) *ℤ c ≡ (neg_ℤ (pos n) +ℤ neg_ℤ (pos 1)) *ℤ (b *ℤ c)
    less n h = ap (λ z. z *ℤ c) (last_mul (neg_ℤ (pos n)) b) ∙ sub_mul (neg_ℤ (pos n) *ℤ b) b c ∙ ap (λ z. z -ℤ b *ℤ c) h ∙ sym (last_mul (neg_ℤ (pos n)) (b *ℤ c))

pub one_mul : (a : ℤ) → pos 1 *ℤ a ≡ a
one_mul a =
    let e = next_mul (pos 0) a in
    let f = zero-*ℤ a in
    omega (arith, ints)

-- a product with a number from 0 on keeps the order
pub mul_mono : (k : ℕ) (a b : ℤ) → a ≤ℤ b → (pos k *ℤ a) ≤ℤ (pos k *ℤ b)
mul_mono k a b h = go (b -ℤ a) refl
  where
    go : (d : ℤ) → b -ℤ a ≡ d → (pos k *ℤ a) ≤ℤ (pos k *ℤ b)
    go (pos n) e =
        let s : b ≡ a +ℤ pos n = omega (arith, ints) in
        let t = ap (λ z. pos k *ℤ z) s ∙ mul_add (pos k) a (pos n) in
        let u = pos-*ℤ-pos k n in
        let q : pos k *ℤ b ≡ pos k *ℤ a +ℤ pos (k * n) = t ∙ ap (λ z. pos k *ℤ a +ℤ z) u in
        omega (arith, ints)
    go (negsuc n) e = absurd (omega (arith, ints))

-- a factor from 1 on can be taken away again
pub mul_cancel : (k : ℕ) (a : ℤ) → 1 ≤ k → pos k *ℤ a ≡ pos 0 → a ≡ pos 0
mul_cancel k a h e = go a e
  where
    grown : (n : ℕ) → 1 * n ≤ k * n
    grown n = mul-le-mul_right n h

    go : (z : ℤ) → pos k *ℤ z ≡ pos 0 → z ≡ pos 0
    go (pos n) e = omega (arith, ints, grown n)
    go (negsuc n) e = omega (arith, ints, grown (suc n))
