-- Every least list has marks whose value is its area: heights, shifted so that the lowest terminal stands at 0.
use Rattle.std.proofs.Common.{◌≡◌, ℕ, ◌+◌, ◌≤◌, List, [], ◌∷◌, map, ℤ, pos, negsuc, ◌-ℤ◌, ◌*ℤ◌, neg_ℤ, nat_abs, ◌≤ℤ◌, refl, ap, arith}
use borrow.Author.Differences.{ints}
use Rattle.std.specs.List.{AllByRecursion}
use Rattle.std.proofs.ByRecursion.{All-map, All-weaker}
use Rattle.ruler.specs.Meaning.{Meaning, Metric}
use Rattle.wires.specs.declared.terminal.Terminal.{Terminal}
use Rattle.wires.specs.declared.wire.Wire.{Wire}
use Rattle.wires.specs.Sums.{sum}
use Rattle.wires.specs.Wiring.{Meets, area}
use Rattle.wires.specs.Marks.{Pin, terminals, Reaches, Feasible, value}
use Rattle.wires.specs.Duality.{Certificate, Complete}
use Rattle.wires.proofs.Integers.{one_mul, neg_mul}
use Rattle.wires.proofs.Pairing.{pairing}
use Rattle.wires.proofs.Sites.{In, seats, ends, sites, in_left, in_right, known_sites, seats_in}
use Rattle.wires.proofs.Heights.{Lowest, lowest, Heights}
use Rattle.wires.proofs.Changes.{cost}
use Rattle.wires.proofs.Potentials.{potentials, gap, falls}

pos_nat_abs : (z : ℤ) → pos 0 ≤ℤ z → pos (nat_abs z) ≡ z
pos_nat_abs (pos n) h = refl
pos_nat_abs (negsuc n) h = absurd (omega (arith, ints))

-- every terminal with a mark
abbrev pinned : (Terminal → ℕ) → List Terminal → List Pin
pinned mark ts = map (λ (t : Terminal). record { terminal = t; mark = mark t }) ts

terminals_pinned : (mark : Terminal → ℕ) (ts : List Terminal) → terminals (pinned mark ts) ≡ ts
terminals_pinned mark [] = refl
terminals_pinned mark (t ∷ ts) = ap (λ xs. t ∷ xs) (terminals_pinned mark ts)

value_pinned : (mark : Terminal → ℕ) (g : ℕ → ℤ) (ts : List Terminal) → AllByRecursion (λ t. pos (mark t) ≡ g t.site) ts → value (pinned mark ts) ≡ neg_ℤ (sum (λ t. t.current *ℤ g t.site) ts)
value_pinned mark g [] all = refl
value_pinned mark g (t ∷ ts) all =
    let e = neg_mul t.current (pos (mark t)) in
    let f = ap (λ z. t.current *ℤ z) all.0 in
    let h = value_pinned mark g ts all.1 in
    omega (arith, ints)

-- heights that are from 0 to 4,000,000 on the terminals are marks
certified : (m : Meaning) (ts : List Terminal) (ws : List Wire) → Meets 1 ts ws → (h : Heights (sites ts ws) (cost m ws)) → ((u : ℕ) → In u (seats ts) → pos 0 ≤ℤ h.height u) → ((u : ℕ) → In u (seats ts) → h.height u ≤ℤ pos 4000000) → Certificate m ts (area m ws)
certified m ts ws meets h from_0 up_to = record { pins = pinned mark ts; marked = terminals_pinned mark ts; within = each (λ p. p.mark ≤ 4000000) low; feasible = feasible; tight = tight }
  where
    mark : Terminal → ℕ
    mark t = nat_abs (h.height t.site)

    here : AllByRecursion (λ t. In t.site (seats ts)) ts
    here = seats_in ts ts (λ u i. i)

    mark_is : (t : Terminal) → In t.site (seats ts) → pos (mark t) ≡ h.height t.site
    mark_is t i = pos_nat_abs (h.height t.site) (from_0 t.site i)

    each : (P : Pin → Type 0) → ((t : Terminal) → In t.site (seats ts) → P (record { terminal = t; mark = mark t })) → AllByRecursion P (pinned mark ts)
    each P holds =
        let pin : Terminal → Pin = λ t. record { terminal = t; mark = mark t } in
        All-map P pin ts (All-weaker (λ t. In t.site (seats ts)) (λ t. P (pin t)) holds ts here)

    low : (t : Terminal) → In t.site (seats ts) → mark t ≤ 4000000
    low t i = let d = mark_is t i in let e = up_to t.site i in omega (arith, ints)

    reaches : (a b : Terminal) → In a.site (seats ts) → In b.site (seats ts) → mark b ≤ mark a + m.span a.site b.site
    reaches a b i j =
        let d = gap m ts ws h a.site b.site (in_left a.site (seats ts) (ends ws) i) (in_left b.site (seats ts) (ends ws) j) in
        let e = mark_is a i in
        let f = mark_is b j in
        omega (arith, ints)

    feasible : Feasible m (pinned mark ts)
    feasible = each (λ a. AllByRecursion (Reaches m a) (pinned mark ts)) (λ a i. each (Reaches m (record { terminal = a; mark = mark a })) (λ b j. reaches a b i j))

    tight : value (pinned mark ts) ≡ pos (area m ws)
    tight =
        let d = value_pinned mark h.height ts (All-weaker (λ t. In t.site (seats ts)) (λ t. pos (mark t) ≡ h.height t.site) mark_is ts here) in
        let e = pairing h.height 1 ts ws meets in
        let f = one_mul (sum (λ (t : Terminal). t.current *ℤ h.height t.site) ts) in
        let g = falls m ts ws h ws (λ a b t. t) (λ u i. in_right u (seats ts) (ends ws) i) in
        omega (arith, ints)

pub complete : (m : Meaning) → Metric m → (ws : List Wire) → Complete m ws (area m ws)
complete m metric ws ts seated best = certified m ts ws best.meets lowered from_0 up_to
  where
    free : Heights (sites ts ws) (cost m ws)
    free = potentials m ts ws seated best

    bottom : Lowest free.height (seats ts)
    bottom = lowest free.height (seats ts)

    lowered : Heights (sites ts ws) (cost m ws)
    lowered = record { height = λ u. free.height u -ℤ bottom.low; rise = λ u v i j. let d = free.rise u v i j in omega (arith, ints) }

    from_0 : (u : ℕ) → In u (seats ts) → pos 0 ≤ℤ lowered.height u
    from_0 u i = let d = bottom.below u i in omega (arith, ints)

    -- the lowest terminal is at most the longest length away
    up_to : (u : ℕ) → In u (seats ts) → lowered.height u ≤ℤ pos 4000000
    up_to v j =
        let r = bottom.reached v j in
        let u = r.0 in
        let i = in_left u (seats ts) (ends ws) r.1 in
        let k = in_left v (seats ts) (ends ws) j in
        let known = known_sites m ts ws seated best.over in
        let d = gap m ts ws free u v i k in
        let e = r.2 in
        let f = metric.ceiling u v (known u i) (known v k) in
        omega (arith, ints)
