-- Any numbers g on the sites: the currents weighed by how much g falls along each wire are the seated currents weighed by g.
use Rattle.std.proofs.Common.{◌≡◌, ℕ, zero, suc, ◌≤◌, Bool, true, false, cond, eqb, List, [], ◌∷◌, length, ℤ, pos, ◌+ℤ◌, ◌-ℤ◌, ◌*ℤ◌, neg_ℤ, sym, refl, ap, ◌∙◌, ⊎_elim, arith}
use borrow.Author.Differences.{ints}
use lib.IntN.{zero-*ℤ, *ℤ_comm}
use Rattle.std.proofs.lemmas.Bool.{eqb-true, eq-eqb, ne_eqb, cases_eq}
use Rattle.wires.specs.declared.terminal.Terminal.{Terminal}
use Rattle.wires.specs.declared.wire.Wire.{Wire}
use Rattle.wires.specs.Sums.{sum}
use Rattle.wires.specs.Wiring.{share, net, due, Meets}
use Rattle.wires.proofs.Shares.{share_mul, share_neg}
use Rattle.wires.proofs.Integers.{add_mul, mul_add, mul_sub, neg_mul, mul_assoc}

-- an amount that stands at a site
record Entry : Type 0 where
  place : ℕ
  amount : ℤ

-- what stands at the site s
abbrev level : List Entry → ℕ → ℤ
level es s = sum (λ (e : Entry). share e.place s e.amount) es

abbrev weight : (ℕ → ℤ) → List Entry → ℤ
weight g es = sum (λ (e : Entry). e.amount *ℤ g e.place) es

-- the entries away from the site s
abbrev away : ℕ → List Entry → List Entry
away s [] = []
away s (e ∷ es) = cond (eqb e.place s) (away s es) (e ∷ away s es)

weight_away : (g : ℕ → ℤ) (s : ℕ) (es : List Entry) → weight g es ≡ weight g (away s es) +ℤ level es s *ℤ g s
weight_away g s [] =
    let z = zero-*ℤ (g s) in
    omega (arith, ints)
weight_away g s (e ∷ es) = go (eqb e.place s) refl (weight_away g s es)
  where
    go : (b : Bool) → eqb e.place s ≡ b → weight g es ≡ weight g (away s es) +ℤ level es s *ℤ g s → (e.amount *ℤ g e.place) +ℤ weight g es ≡ weight g (cond b (away s es) (e ∷ away s es)) +ℤ (cond b e.amount (pos 0) +ℤ level es s) *ℤ g s
    go true t ih =
        let f = ap (λ n. e.amount *ℤ g n) (eqb-true e.place s t) in
        let d = add_mul e.amount (level es s) (g s) in
        omega (arith, ints)
    go false t ih =
        let d = add_mul (pos 0) (level es s) (g s) in
        let z = zero-*ℤ (g s) in
        omega (arith, ints)

level_away_here : (s : ℕ) (es : List Entry) → level (away s es) s ≡ pos 0
level_away_here s [] = refl
level_away_here s (e ∷ es) = go (eqb e.place s) refl (level_away_here s es)
  where
    go : (b : Bool) → eqb e.place s ≡ b → level (away s es) s ≡ pos 0 → level (cond b (away s es) (e ∷ away s es)) s ≡ pos 0
    go true t ih = ih
    go false t ih =
        let f = ap (λ b. cond b e.amount (pos 0)) t in
        omega (arith, ints)

level_away_there : (s r : ℕ) (es : List Entry) → (s ≡ r → ⊥) → level (away s es) r ≡ level es r
level_away_there s r [] apart = refl
level_away_there s r (e ∷ es) apart = go (eqb e.place s) refl (level_away_there s r es apart)
  where
    go : (b : Bool) → eqb e.place s ≡ b → level (away s es) r ≡ level es r → level (cond b (away s es) (e ∷ away s es)) r ≡ share e.place r e.amount +ℤ level es r
    go true t ih =
        let f = ap (λ b. cond b e.amount (pos 0)) (ne_eqb e.place r (λ q. apart (sym (eqb-true e.place s t) ∙ q))) in
        omega (arith, ints)
    go false t ih = ap (λ z. share e.place r e.amount +ℤ z) ih

length_away : (s : ℕ) (es : List Entry) → length (away s es) ≤ length es
length_away s [] = omega arith
length_away s (e ∷ es) = go (eqb e.place s) (length_away s es)
  where
    go : (b : Bool) → length (away s es) ≤ length es → length (cond b (away s es) (e ∷ away s es)) ≤ suc (length es)
    go true ih = omega arith
    go false ih = omega arith

-- where every level is 0, so is the weight; n bounds the number of entries
weightless : (g : ℕ → ℤ) (n : ℕ) (es : List Entry) → length es ≤ n → ((s : ℕ) → level es s ≡ pos 0) → weight g es ≡ pos 0
weightless g zero [] short flat = refl
weightless g zero (e ∷ es) short flat = absurd (omega arith)
weightless g (suc n) [] short flat = refl
weightless g (suc n) (e ∷ es) short flat = go (weightless g n (away here (e ∷ es)) shorter even)
  where
    here : ℕ
    here = e.place

    shorter : length (away here (e ∷ es)) ≤ n
    shorter =
        let f = ap (λ b. length (cond b (away here es) (e ∷ away here es))) (eq-eqb here here refl) in
        let l = length_away here es in
        omega arith

    even : (s : ℕ) → level (away here (e ∷ es)) s ≡ pos 0
    even s = ⊎_elim (λ q. ap (level (away here (e ∷ es))) (sym q) ∙ level_away_here here (e ∷ es)) (λ q. level_away_there here s (e ∷ es) q ∙ flat s) (cases_eq here s)

    go : weight g (away here (e ∷ es)) ≡ pos 0 → weight g (e ∷ es) ≡ pos 0
    go ih =
        let f = ap (λ z. z *ℤ g here) (flat here) ∙ zero-*ℤ (g here) in
        let d = weight_away g here (e ∷ es) in
        omega (arith, ints)

-- the terminals' currents k times, taken away
abbrev seats : ℕ → List Terminal → List Entry
seats k [] = []
seats k (t ∷ ts) = record { place = t.site; amount = neg_ℤ (pos k *ℤ t.current) } ∷ seats k ts

-- the two ends of every wire, and then the terminals
abbrev entries : ℕ → List Terminal → List Wire → List Entry
entries k ts [] = seats k ts
entries k ts (w ∷ ws) = record { place = w.start; amount = pos w.current } ∷ record { place = w.end; amount = neg_ℤ (pos w.current) } ∷ entries k ts ws

level_seats : (k : ℕ) (ts : List Terminal) (s : ℕ) → level (seats k ts) s ≡ neg_ℤ (pos k *ℤ due ts s)
level_seats k [] s =
    let z = *ℤ_comm (pos k) (pos 0) ∙ zero-*ℤ (pos k) in
    omega (arith, ints)
level_seats k (t ∷ ts) s =
    let ih = level_seats k ts s in
    let n = share_neg t.site s (pos k *ℤ t.current) in
    let c = share_mul t.site s (pos k) t.current in
    let d = mul_add (pos k) (share t.site s t.current) (due ts s) in
    omega (arith, ints)

level_entries : (k : ℕ) (ts : List Terminal) (ws : List Wire) (s : ℕ) → level (entries k ts ws) s ≡ net ws s -ℤ pos k *ℤ due ts s
level_entries k ts [] s =
    let d = level_seats k ts s in
    omega (arith, ints)
level_entries k ts (w ∷ ws) s =
    let ih = level_entries k ts ws s in
    let n = share_neg w.end s (pos w.current) in
    omega (arith, ints)

weight_seats : (g : ℕ → ℤ) (k : ℕ) (ts : List Terminal) → weight g (seats k ts) ≡ neg_ℤ (pos k *ℤ sum (λ t. t.current *ℤ g t.site) ts)
weight_seats g k [] =
    let z = *ℤ_comm (pos k) (pos 0) ∙ zero-*ℤ (pos k) in
    omega (arith, ints)
weight_seats g k (t ∷ ts) =
    let ih = weight_seats g k ts in
    let n = neg_mul (pos k *ℤ t.current) (g t.site) in
    let c = mul_assoc (pos k) t.current (g t.site) in
    let d = mul_add (pos k) (t.current *ℤ g t.site) (sum (λ t. t.current *ℤ g t.site) ts) in
    omega (arith, ints)

weight_entries : (g : ℕ → ℤ) (k : ℕ) (ts : List Terminal) (ws : List Wire) → weight g (entries k ts ws) ≡ sum (λ w. pos w.current *ℤ (g w.start -ℤ g w.end)) ws -ℤ pos k *ℤ sum (λ t. t.current *ℤ g t.site) ts
weight_entries g k ts [] =
    let d = weight_seats g k ts in
    omega (arith, ints)
weight_entries g k ts (w ∷ ws) =
    let ih = weight_entries g k ts ws in
    let n = neg_mul (pos w.current) (g w.end) in
    let d = mul_sub (pos w.current) (g w.start) (g w.end) in
    omega (arith, ints)

pub pairing : (g : ℕ → ℤ) (k : ℕ) (ts : List Terminal) (ws : List Wire) → Meets k ts ws → sum (λ w. pos w.current *ℤ (g w.start -ℤ g w.end)) ws ≡ pos k *ℤ sum (λ t. t.current *ℤ g t.site) ts
pairing g k ts ws meets =
    let none = weightless g (length (entries k ts ws)) (entries k ts ws) (omega arith) flat in
    let d = weight_entries g k ts ws in
    omega (arith, ints)
  where
    flat : (s : ℕ) → level (entries k ts ws) s ≡ pos 0
    flat s =
        let d = level_entries k ts ws s in
        let h = meets s in
        omega (arith, ints)
