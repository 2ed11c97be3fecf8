-- Terminals whose currents sum to 0 are met by a star: everything goes through the first one's site.
use Rattle.std.proofs.Common.{◌≡◌, ℕ, suc, ◌*◌, ◌≤◌, true, List, [], ◌∷◌, ℤ, pos, negsuc, ◌+ℤ◌, ◌-ℤ◌, ◌*ℤ◌, refl, ap, ◌∙◌, arith}
use borrow.Author.Differences.{ints}
use lib.IntN.{zero-*ℤ, *ℤ_comm, pos-*ℤ-pos}
use Rattle.ruler.specs.Meaning.{Meaning}
use Rattle.wires.specs.declared.terminal.Terminal.{Terminal}
use Rattle.wires.specs.declared.wire.Wire.{Wire}
use Rattle.wires.specs.Sums.{sum}
use Rattle.wires.specs.Wiring.{share, flow, net, due, Meets, Lies, Over, Seated, Met}
use Rattle.wires.specs.Duality.{Settled}
use Rattle.wires.proofs.Integers.{mul_add, mul_sub, mul_neg, one_mul, mul_cancel}
use Rattle.wires.proofs.Pairing.{pairing}
use Rattle.wires.proofs.Shares.{share_add, share_mul, share_neg, share_none}

still_wires : (ws : List Wire) → sum (λ w. pos w.current *ℤ (pos 1 -ℤ pos 1)) ws ≡ pos 0
still_wires [] = refl
still_wires (w ∷ ws) =
    let ih = still_wires ws in
    let d = mul_sub (pos w.current) (pos 1) (pos 1) in
    omega (arith, ints)

currents : (ts : List Terminal) → sum (λ t. t.current *ℤ pos 1) ts ≡ sum (λ t. t.current) ts
currents [] = refl
currents (t ∷ ts) =
    let ih = currents ts in
    let d = *ℤ_comm t.current (pos 1) ∙ one_mul t.current in
    omega (arith, ints)

balanced : (m : Meaning) (ts : List Terminal) (k : ℕ) → 1 ≤ k → Met m ts k → sum (λ t. t.current) ts ≡ pos 0
balanced m ts k some met =
    let e = pairing (λ _. pos 1) k ts met.by met.meets in
    let w = still_wires met.by in
    let c = ap (λ z. pos k *ℤ z) (currents ts) in
    mul_cancel k (sum (λ t. t.current) ts) some (omega (arith, ints))

-- the wire that brings k times a terminal's current from its site to the hub
abbrev spoke : ℕ → ℕ → ℕ → ℤ → Wire
spoke k hub site (pos n) = record { start = site; end = hub; current = k * n }
spoke k hub site (negsuc n) = record { start = hub; end = site; current = k * suc n }

abbrev star : ℕ → ℕ → List Terminal → List Wire
star k hub [] = []
star k hub (t ∷ ts) = spoke k hub t.site t.current ∷ star k hub ts

flow_spoke : (k hub site s : ℕ) (z : ℤ) → flow s (spoke k hub site z) ≡ pos k *ℤ (share site s z -ℤ share hub s z)
flow_spoke k hub site s (pos n) =
    let e = pos-*ℤ-pos k n in
    let a = ap (share site s) e in
    let b = ap (share hub s) e in
    let c = share_mul site s (pos k) (pos n) in
    let d = share_mul hub s (pos k) (pos n) in
    let f = mul_sub (pos k) (share site s (pos n)) (share hub s (pos n)) in
    omega (arith, ints)
flow_spoke k hub site s (negsuc n) =
    let e = pos-*ℤ-pos k (suc n) in
    let a = ap (share site s) e in
    let b = ap (share hub s) e in
    let c = share_mul site s (pos k) (pos (suc n)) in
    let d = share_mul hub s (pos k) (pos (suc n)) in
    let p = ap (λ z. pos k *ℤ z) (share_neg site s (pos (suc n))) ∙ mul_neg (pos k) (share site s (pos (suc n))) in
    let q = ap (λ z. pos k *ℤ z) (share_neg hub s (pos (suc n))) ∙ mul_neg (pos k) (share hub s (pos (suc n))) in
    let f = mul_sub (pos k) (share site s (negsuc n)) (share hub s (negsuc n)) in
    omega (arith, ints)

net_star : (k hub : ℕ) (ts : List Terminal) (s : ℕ) → net (star k hub ts) s ≡ pos k *ℤ (due ts s -ℤ share hub s (sum (λ t. t.current) ts))
net_star k hub [] s =
    let e = ap (λ z. pos k *ℤ (pos 0 -ℤ z)) (share_none hub s) in
    let z = *ℤ_comm (pos k) (pos 0) ∙ zero-*ℤ (pos k) in
    omega (arith, ints)
net_star k hub (t ∷ ts) s =
    let rest = sum (λ (t : Terminal). t.current) ts in
    let here = share t.site s t.current in
    let ih = net_star k hub ts s in
    let f = flow_spoke k hub t.site s t.current in
    let e : (here +ℤ due ts s) -ℤ share hub s (t.current +ℤ rest) ≡ (here -ℤ share hub s t.current) +ℤ (due ts s -ℤ share hub s rest) =
    let a = share_add hub s t.current rest in
    omega (arith, ints) in
    let d = ap (λ z. pos k *ℤ z) e ∙ mul_add (pos k) (here -ℤ share hub s t.current) (due ts s -ℤ share hub s rest) in
    omega (arith, ints)

lies_spoke : (m : Meaning) (k hub site : ℕ) → m.known hub ≡ true → m.known site ≡ true → (z : ℤ) → Lies m (spoke k hub site z)
lies_spoke m k hub site kh ks (pos n) = record { leaves = ks; arrives = kh }
lies_spoke m k hub site kh ks (negsuc n) = record { leaves = kh; arrives = ks }

over_star : (m : Meaning) (k hub : ℕ) → m.known hub ≡ true → (ts : List Terminal) → Seated m ts → Over m (star k hub ts)
over_star m k hub kh [] seats = tt
over_star m k hub kh (t ∷ ts) seats = (lies_spoke m k hub t.site kh seats.0 t.current, over_star m k hub kh ts seats.1)

meets_star : (k hub : ℕ) (ts : List Terminal) → sum (λ t. t.current) ts ≡ pos 0 → Meets k ts (star k hub ts)
meets_star k hub ts even s =
    let a = ap (share hub s) even ∙ share_none hub s in
    let e : due ts s -ℤ share hub s (sum (λ t. t.current) ts) ≡ due ts s = omega (arith, ints) in
    net_star k hub ts s ∙ ap (λ z. pos k *ℤ z) e

met : (m : Meaning) (ts : List Terminal) (k : ℕ) → Seated m ts → sum (λ t. t.current) ts ≡ pos 0 → Met m ts k
met m [] k seats even = record { by = []; over = tt; meets = meets_star k 0 [] even }
met m (t ∷ ts) k seats even =
    record {
      by = star k t.site (t ∷ ts);
      over = over_star m k t.site seats.0 (t ∷ ts) seats;
      meets = meets_star k t.site (t ∷ ts) even;
    }

pub settled : (ts : List Terminal) → Settled ts (sum (λ t. t.current) ts)
settled ts m seats k some = (met m ts k seats, balanced m ts k some)
