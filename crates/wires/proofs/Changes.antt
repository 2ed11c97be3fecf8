-- Changes of a list: rivals that also carry one unit from a site to another, and what that costs.
use Rattle.std.proofs.Common.{◌≡◌, ℕ, ◌+◌, ◌-◌, ◌*◌, ◌<◌, Bool, true, false, cond, ◌&&◌, ◌||◌, eqb, ltb, ◌⊎◌, List, [], ◌∷◌, ◌++◌, ℤ, pos, ◌+ℤ◌, ◌-ℤ◌, ◌*ℤ◌, neg_ℤ, refl, ap, ◌∙◌, inl, inr, add-mul, arith}
use borrow.Author.Differences.{ints}
use lib.IntN.{zero-*ℤ}
use Rattle.std.proofs.ByRecursion.{All-append}
use Rattle.std.proofs.lemmas.Bool.{false≢true, and_parts, and_from, or_cases, or_left, or_right, eqb-true, eq-eqb, ltb-true, lt-ltb, cond_both}
use Rattle.ruler.specs.Meaning.{Meaning}
use Rattle.wires.specs.declared.wire.Wire.{Wire}
use Rattle.wires.specs.Wiring.{share, flow, net, Lies, Over, metal, area}
use Rattle.wires.proofs.Integers.{add_mul as add_mulℤ, one_mul}
use Rattle.wires.proofs.Shares.{share_add}
use Rattle.wires.proofs.Sums.{sum_append, total_append}

-- some folds of the list, and one unit more from u to v, at some folds of the area and z more
pub record Change (m : Meaning) (ws : List Wire) (u v : ℕ) (z : ℤ) : Type 0 where
  pub folds : ℕ
  pub rival : List Wire
  pub over : Over m rival
  pub moves : (s : ℕ) → net rival s ≡ pos folds *ℤ net ws s +ℤ (share u s (pos 1) -ℤ share v s (pos 1))
  pub costs : pos (area m rival) ≡ pos folds *ℤ pos (area m ws) +ℤ z

pub join : (m : Meaning) (ws : List Wire) (u v w : ℕ) (y z : ℤ) → Change m ws u v y → Change m ws v w z → Change m ws u w (y +ℤ z)
join m ws u v w y z a b = record { folds = a.folds + b.folds; rival = a.rival ++ b.rival; over = All-append (Lies m) a.rival b.rival a.over b.over; moves = moves; costs = costs }
  where
    moves : (s : ℕ) → net (a.rival ++ b.rival) s ≡ pos (a.folds + b.folds) *ℤ net ws s +ℤ (share u s (pos 1) -ℤ share w s (pos 1))
    moves s =
        let e = sum_append (flow s) a.rival b.rival in
        let f = add_mulℤ (pos a.folds) (pos b.folds) (net ws s) in
        let g = a.moves s in
        let h = b.moves s in
        omega (arith, ints)

    costs : pos (area m (a.rival ++ b.rival)) ≡ pos (a.folds + b.folds) *ℤ pos (area m ws) +ℤ (y +ℤ z)
    costs =
        let e = total_append (metal m) a.rival b.rival in
        let f = add_mulℤ (pos a.folds) (pos b.folds) (pos (area m ws)) in
        let g = a.costs in
        let h = b.costs in
        omega (arith, ints)

-- a new wire of current 1
added : (m : Meaning) (ws : List Wire) (u v : ℕ) → m.known u ≡ true → m.known v ≡ true → Change m ws u v (pos (m.span u v))
added m ws u v i j = record { folds = 0; rival = wire ∷ []; over = (record { leaves = i; arrives = j }, tt); moves = moves; costs = costs }
  where
    wire : Wire
    wire = record { start = u; end = v; current = 1 }

    moves : (s : ℕ) → net (wire ∷ []) s ≡ pos 0 *ℤ net ws s +ℤ (share u s (pos 1) -ℤ share v s (pos 1))
    moves s = let e = zero-*ℤ (net ws s) in omega (arith, ints)

    costs : pos (area m (wire ∷ [])) ≡ pos 0 *ℤ pos (area m ws) +ℤ pos (m.span u v)
    costs = let e = zero-*ℤ (pos (area m ws)) in omega (arith, ints)

-- whether a wire with some current runs from a to b
abbrev runs : Wire → ℕ → ℕ → Bool
runs w a b = (eqb w.start a && eqb w.end b) && ltb 0 w.current

abbrev pub live : List Wire → ℕ → ℕ → Bool
live [] a b = false
live (w ∷ ws) a b = runs w a b || live ws a b

pub live_first : (w : Wire) (ws : List Wire) → 0 < w.current → live (w ∷ ws) w.start w.end ≡ true
live_first w ws some =
    let ends = and_from (eqb w.start w.start) (eqb w.end w.end) (eq-eqb w.start w.start refl) (eq-eqb w.end w.end refl) in
    let here = and_from (eqb w.start w.start && eqb w.end w.end) (ltb 0 w.current) ends (lt-ltb 0 w.current some) in
    or_left (runs w w.start w.end) (live ws w.start w.end) here

pub live_later : (w : Wire) (ws : List Wire) (a b : ℕ) → live ws a b ≡ true → live (w ∷ ws) a b ≡ true
live_later w ws a b t = or_right (runs w a b) (live ws a b) t

-- the list with one unit less from a to b
record Lessened (m : Meaning) (ws : List Wire) (a b : ℕ) : Type 0 where
  rival : List Wire
  over : Over m rival
  moves : (s : ℕ) → net rival s ≡ net ws s -ℤ (share a s (pos 1) -ℤ share b s (pos 1))
  costs : area m rival + m.span a b ≡ area m ws

-- one unit less in the first wire
thinner : (m : Meaning) (w : Wire) (ws : List Wire) (a b : ℕ) → Over m (w ∷ ws) → w.start ≡ a → w.end ≡ b → 0 < w.current → Lessened m (w ∷ ws) a b
thinner m w ws a b over from to some = record { rival = thin ∷ ws; over = (record { leaves = over.0.leaves; arrives = over.0.arrives }, over.1); moves = moves; costs = costs }
  where
    thin : Wire
    thin = record { start = w.start; end = w.end; current = w.current - 1 }

    one : (x s : ℕ) → share x s (pos w.current) ≡ share x s (pos (w.current - 1)) +ℤ share x s (pos 1)
    one x s =
        let e : pos w.current ≡ pos (w.current - 1) +ℤ pos 1 = omega (arith, ints) in
        ap (share x s) e ∙ share_add x s (pos (w.current - 1)) (pos 1)

    moves : (s : ℕ) → net (thin ∷ ws) s ≡ net (w ∷ ws) s -ℤ (share a s (pos 1) -ℤ share b s (pos 1))
    moves s =
        let e = one w.start s in
        let f = one w.end s in
        let g = ap (λ x. share x s (pos 1)) from in
        let h = ap (λ x. share x s (pos 1)) to in
        omega (arith, ints)

    costs : area m (thin ∷ ws) + m.span a b ≡ area m (w ∷ ws)
    costs =
        let d = m.span w.start w.end in
        let e : w.current ≡ (w.current - 1) + 1 = omega arith in
        let f = ap (λ n. n * d) e ∙ add-mul (w.current - 1) 1 d in
        let g = ap (λ x. m.span x w.end) from in
        let h = ap (λ x. m.span a x) to in
        omega arith

lessened : (m : Meaning) (ws : List Wire) (a b : ℕ) → Over m ws → live ws a b ≡ true → Lessened m ws a b
lessened m [] a b over h = absurd (false≢true h)
lessened m (w ∷ ws) a b over h = go (or_cases (runs w a b) (live ws a b) h) (lessened m ws a b over.1)
  where
    later : Lessened m ws a b → Lessened m (w ∷ ws) a b
    later r = record { rival = w ∷ r.rival; over = (over.0, r.over); moves = λ s. let e = r.moves s in omega (arith, ints); costs = let e = r.costs in omega arith }

    go : (runs w a b ≡ true) ⊎ (live ws a b ≡ true) → (live ws a b ≡ true → Lessened m ws a b) → Lessened m (w ∷ ws) a b
    go (inl t) rest =
        let p = and_parts (eqb w.start a && eqb w.end b) (ltb 0 w.current) t in
        let q = and_parts (eqb w.start a) (eqb w.end b) p.0 in
        thinner m w ws a b over (eqb-true w.start a q.0) (eqb-true w.end b q.1) (ltb-true 0 w.current p.1)
    go (inr t) rest = later (rest t)

-- a unit less from v to u is one more from u to v
returned : (m : Meaning) (ws : List Wire) (u v : ℕ) → Over m ws → live ws v u ≡ true → Change m ws u v (neg_ℤ (pos (m.span v u)))
returned m ws u v over h = go (lessened m ws v u over h)
  where
    go : Lessened m ws v u → Change m ws u v (neg_ℤ (pos (m.span v u)))
    go r = record { folds = 1; rival = r.rival; over = r.over; moves = moves; costs = costs }
      where
        moves : (s : ℕ) → net r.rival s ≡ pos 1 *ℤ net ws s +ℤ (share u s (pos 1) -ℤ share v s (pos 1))
        moves s = let e = r.moves s in let f = one_mul (net ws s) in omega (arith, ints)

        costs : pos (area m r.rival) ≡ pos 1 *ℤ pos (area m ws) +ℤ neg_ℤ (pos (m.span v u))
        costs = let e = r.costs in let f = one_mul (pos (area m ws)) in omega (arith, ints)

-- what a unit from u to v costs: less where the list runs the other way, and else a new wire
abbrev pub cost : Meaning → List Wire → ℕ → ℕ → ℤ
cost m ws u v = cond (live ws v u) (neg_ℤ (pos (m.span v u))) (pos (m.span u v))

pub change : (m : Meaning) (ws : List Wire) (u v : ℕ) → Over m ws → m.known u ≡ true → m.known v ≡ true → Change m ws u v (cost m ws u v)
change m ws u v over i j = cond_both (live ws v u) (neg_ℤ (pos (m.span v u))) (pos (m.span u v)) (Change m ws u v) (returned m ws u v over) (λ e. added m ws u v i j)
