-- Feasible marks bound every area: they extend to all sites, and then no wire is shorter than the marks rise along it.
use Rattle.std.proofs.Common.{◌≡◌, ℕ, ◌+◌, ◌-◌, ◌*◌, ◌≤◌, max, true, List, [], ◌∷◌, pos, ◌-ℤ◌, ◌*ℤ◌, neg_ℤ, ◌≤ℤ◌, ap, ◌∙◌, arith}
use borrow.Author.Differences.{ints}
use lib.IntN.{pos-*ℤ-pos}
use Rattle.std.specs.List.{AllByRecursion}
use Rattle.std.proofs.ByRecursion.{All-weaker}
use Rattle.ruler.specs.Meaning.{Meaning, Metric}
use Rattle.wires.specs.declared.wire.Wire.{Wire}
use Rattle.wires.specs.Sums.{sum}
use Rattle.wires.specs.Wiring.{Meets, Over, Seated, area}
use Rattle.wires.specs.Marks.{Pin, terminals, Reaches, value}
use Rattle.wires.specs.Duality.{Bounded, Certified}
use Rattle.wires.proofs.Integers.{mul_neg, neg_mul, mul_mono}
use Rattle.wires.proofs.Pairing.{pairing}

-- the most that a pin asks of the site v, its mark less the length from v to it
abbrev height : Meaning → List Pin → ℕ → ℕ
height m [] v = 0
height m (p ∷ ps) v = max (p.mark - m.span v p.terminal.site) (height m ps v)

-- heights rise by no more than the length
steep : (m : Meaning) → Metric m → (ps : List Pin) → Seated m (terminals ps) → (u v : ℕ) → m.known u ≡ true → m.known v ≡ true → height m ps v ≤ height m ps u + m.span u v
steep m law [] seats u v ku kv = omega arith
steep m law (p ∷ ps) seats u v ku kv =
    let ih = steep m law ps seats.1 u v ku kv in
    let d = law.detour u v p.terminal.site ku kv seats.0 in
    omega arith

height_most : (m : Meaning) (ps : List Pin) (v x : ℕ) → AllByRecursion (λ p. p.mark ≤ x + m.span v p.terminal.site) ps → height m ps v ≤ x
height_most m [] v x h = omega arith
height_most m (p ∷ ps) v x h =
    let ih = height_most m ps v x h.1 in
    let a = h.0 in
    omega arith

height_least : (m : Meaning) (f : ℕ → ℕ) (ps : List Pin) → ((v : ℕ) → height m ps v ≤ f v) → AllByRecursion (λ p. (v : ℕ) → p.mark ≤ f v + m.span v p.terminal.site) ps
height_least m f [] h = tt
height_least m f (p ∷ ps) h = (λ v. omega (arith, h v), height_least m f ps (λ v. omega (arith, h v)))

-- pins whose marks are the heights at their sites: weighed by the heights, the currents give the value
weighed : (m : Meaning) → Metric m → (f : ℕ → ℕ) (qs : List Pin) → Seated m (terminals qs) → AllByRecursion (λ q. (f q.terminal.site) ≤ q.mark) qs → AllByRecursion (λ q. (v : ℕ) → q.mark ≤ f v + m.span v q.terminal.site) qs → sum (λ t. t.current *ℤ pos (f t.site)) (terminals qs) ≡ neg_ℤ (value qs)
weighed m law f [] seats most least = omega (arith, ints)
weighed m law f (q ∷ qs) seats most least =
    let ih = weighed m law f qs seats.1 most.1 least.1 in
    let a = most.0 in
    let b = least.0 q.terminal.site in
    let s = law.still q.terminal.site seats.0 in
    let e : f q.terminal.site ≡ q.mark = omega arith in
    let p = ap (λ n. q.terminal.current *ℤ pos n) e in
    let n = neg_mul q.terminal.current (pos q.mark) in
    omega (arith, ints)

-- the area is at least what the currents gain along the wires
gained : (m : Meaning) (f : ℕ → ℕ) → ((u v : ℕ) → m.known u ≡ true → m.known v ≡ true → f v ≤ f u + m.span u v) → (ws : List Wire) → Over m ws → neg_ℤ (sum (λ w. pos w.current *ℤ (pos (f w.start) -ℤ pos (f w.end))) ws) ≤ℤ pos (area m ws)
gained m f rise [] over = omega (arith, ints)
gained m f rise (w ∷ ws) over =
    let ih = gained m f rise ws over.1 in
    let h = rise w.start w.end over.0.leaves over.0.arrives in
    let d = mul_neg (pos w.current) (pos (f w.start) -ℤ pos (f w.end)) in
    let o = mul_mono w.current (neg_ℤ (pos (f w.start) -ℤ pos (f w.end))) (pos (m.span w.start w.end)) (omega (arith, ints)) in
    let p = pos-*ℤ-pos w.current (m.span w.start w.end) in
    omega (arith, ints)

pub bounded : (m : Meaning) → Metric m → (ws : List Wire) → Bounded m ws (area m ws)
bounded m law ws k ps seats fair over meets =
    let f = height m ps in
    let low = height_least m f ps (λ v. omega arith) in
    let high = All-weaker (λ a. AllByRecursion (Reaches m a) ps) (λ a. f a.terminal.site ≤ a.mark) (λ a h. height_most m ps a.terminal.site a.mark h) ps fair in
    let t = weighed m law f ps seats high low in
    let g = gained m f (steep m law ps seats) ws over in
    let e = pairing (λ v. pos (f v)) k (terminals ps) ws meets in
    let q = ap (λ z. pos k *ℤ z) t ∙ mul_neg (pos k) (value ps) in
    omega (arith, ints)

pub certified : (m : Meaning) → Metric m → (ws : List Wire) → Certified m ws (area m ws)
certified m law ws ps seats fair over meets tight = record { over = over; meets = meets; least = least }
  where
    least : (k : ℕ) → 1 ≤ k → (rival : List Wire) → Over m rival → Meets k (terminals ps) rival → k * area m ws ≤ area m rival
    least k from rival lies meet =
        let b = bounded m law rival k ps seats fair lies meet in
        let e = ap (λ z. pos k *ℤ z) tight ∙ pos-*ℤ-pos k (area m ws) in
        omega (arith, ints)
