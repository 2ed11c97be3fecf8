-- When all sites of a list are known, and what its measured area is then.
use Rattle.std.proofs.Common.{◌≡◌, ℕ, zero, suc, ◌+◌, ◌*◌, ◌<◌, ◌≤◌, Bool, true, false, cond, ◌&&◌, List, [], ◌∷◌, ◌++◌, length, get_or, take, Some, None, sym, refl, ap, ◌∙◌, arith}
use Rattle.std.proofs.lemmas.List.{take_more, take_all}
use Rattle.std.proofs.lemmas.Bool.{and_from, and_left, and_right, and_parts, cond-true, cond-false}
use Rattle.ruler.specs.Meaning.{Meaning, measured}
use Rattle.wires.specs.declared.wire.Wire.{Wire}
use Rattle.wires.specs.Wiring.{lies, all_lie, metal, area, measured_area}
use Rattle.wires.proofs.Sums.{total_more}

all_lie_push : (m : Meaning) (ws : List Wire) (w : Wire) → all_lie m ws ≡ true → lies m w ≡ true → all_lie m (ws ++ w ∷ []) ≡ true
all_lie_push m [] w h k = and_from (lies m w) true k refl
all_lie_push m (v ∷ ws) w h k =
    let p = and_parts (lies m v) (all_lie m ws) h in
    and_from (lies m v) (all_lie m (ws ++ w ∷ [])) p.0 (all_lie_push m ws w p.1 k)

all_lie_not : (m : Meaning) (ws : List Wire) (i : ℕ) (d : Wire) → i < length ws → lies m (get_or ws i d) ≡ false → all_lie m ws ≡ false
all_lie_not m [] i d h k = absurd (omega arith)
all_lie_not m (w ∷ ws) zero d h k = and_left (lies m w) (all_lie m ws) k
all_lie_not m (w ∷ ws) (suc i) d h k = and_right (lies m w) (all_lie m ws) (all_lie_not m ws i d (omega arith) k)

-- what a length says, where it is there and where it is absent
measured_some : (m : Meaning) (a b n : ℕ) → Some n ≡ measured m a b → ((m.known a && m.known b) ≡ true) × (n ≡ m.span a b)
measured_some m a b n = go (m.known a && m.known b)
  where
    go : (t : Bool) → Some n ≡ cond t (Some (m.span a b)) None → (t ≡ true) × (n ≡ m.span a b)
    go true e = (refl, cc)
    go false e = absurd (let z : ◌≡◌ {A = ℕ} 0 1 = cc in omega arith)

measured_none : (m : Meaning) (a b : ℕ) → None ≡ measured m a b → (m.known a && m.known b) ≡ false
measured_none m a b = go (m.known a && m.known b)
  where
    go : (t : Bool) → None ≡ cond t (Some (m.span a b)) None → t ≡ false
    go true e = absurd (let z : ◌≡◌ {A = ℕ} 0 1 = cc in omega arith)
    go false e = refl

pub all_lie_more : (m : Meaning) (ws : List Wire) (i n : ℕ) (d : Wire) → i < length ws → Some n ≡ measured m (get_or ws i d).start (get_or ws i d).end → all_lie m (take i ws) ≡ true → all_lie m (take (i + 1) ws) ≡ true
all_lie_more m ws i n d h e a =
    let k = measured_some m (get_or ws i d).start (get_or ws i d).end n e in
    ap (all_lie m) (take_more ws i d h) ∙ all_lie_push m (take i ws) (get_or ws i d) a k.0

pub area_more : (m : Meaning) (ws : List Wire) (i n : ℕ) (d : Wire) → i < length ws → Some n ≡ measured m (get_or ws i d).start (get_or ws i d).end → area m (take (i + 1) ws) ≡ area m (take i ws) + (get_or ws i d).current * n
area_more m ws i n d h e =
    let k = measured_some m (get_or ws i d).start (get_or ws i d).end n e in
    total_more (metal m) ws i d h ∙ ap (λ s. area m (take i ws) + (get_or ws i d).current * s) (sym k.1)

pub area_absent : (m : Meaning) (ws : List Wire) (i : ℕ) (d : Wire) → i < length ws → None ≡ measured m (get_or ws i d).start (get_or ws i d).end → None ≡ measured_area m ws
area_absent m ws i d h e = sym (cond-false (all_lie m ws) (Some (area m ws)) None (all_lie_not m ws i d h (measured_none m (get_or ws i d).start (get_or ws i d).end e)))

pub area_there : (m : Meaning) (ws : List Wire) (i a : ℕ) → length ws ≤ i → all_lie m (take i ws) ≡ true → a ≡ area m (take i ws) → Some a ≡ measured_area m ws
area_there m ws i a h l e =
    let q = take_all i ws h in
    ap Some (e ∙ ap (area m) q) ∙ sym (cond-true (all_lie m ws) (Some (area m ws)) None (sym (ap (all_lie m) q) ∙ l))

pub area_is : (m : Meaning) (ws : List Wire) (a : ℕ) → measured_area m ws ≡ Some a → area m ws ≡ a
area_is m ws a = go (all_lie m ws)
  where
    go : (t : Bool) → cond t (Some (area m ws)) None ≡ Some a → area m ws ≡ a
    go true e = cc
    go false e = absurd (let z : ◌≡◌ {A = ℕ} 0 1 = cc in omega arith)
