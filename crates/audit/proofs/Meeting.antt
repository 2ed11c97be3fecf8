-- A list meets the terminals exactly when every site of 32 bits is met: past them nothing stands.
use Rattle.std.proofs.Common.{◌≡◌, ℕ, ◌^◌, ◌<◌, ◌≤◌, false, eqb, ◌⊎◌, List, [], ◌∷◌, ℤ, pos, None, Option, sym, refl, ◌∙◌, inl, inr, arith}
use borrow.Author.Differences.{ints}
use lib.Signed.{lt_z}
use Rattle.std.proofs.lemmas.Bool.{ne_eqb, cases_lt, or_parts, or_from, cond-false}
use Rattle.ruler.specs.Meaning.{Meaning, Metric}
use Rattle.wires.specs.declared.terminal.Terminal.{Terminal}
use Rattle.wires.specs.declared.wire.Wire.{Wire}
use Rattle.wires.specs.Wiring.{share, net, due, Meets, Over, Seated, seated}
use Rattle.wires.proofs.Integers.{one_mul}
use Rattle.audit.specs.declared.refusal.Refusal.TheVariants.{Unmet}
use Rattle.audit.specs.Audit.{differ, unmet, is_met}
use Rattle.audit.proofs.Passing.{clear_passes, clear_passed}

pub same_from_differ : (a b : ℤ) → differ a b ≡ false → a ≡ b
same_from_differ a b e =
    let p = or_parts (lt_z a b) (lt_z b a) e in
    let x = p.0 in
    let y = p.1 in
    omega (arith, ints)

pub differ_from_same : (a b : ℤ) → a ≡ b → differ a b ≡ false
differ_from_same a b e =
    let x : false ≡ lt_z a b = omega (arith, ints) in
    let y : false ≡ lt_z b a = omega (arith, ints) in
    or_from (lt_z a b) (lt_z b a) (sym x) (sym y)

share_past : (a s : ℕ) (z : ℤ) → a < s → share a s z ≡ pos 0
share_past a s z h = cond-false (eqb a s) z (pos 0) (ne_eqb a s (λ e. omega arith))

net_past : (m : Meaning) → Metric m → (ws : List Wire) (s : ℕ) → 2 ^ 32 ≤ s → Over m ws → net ws s ≡ pos 0
net_past m metric [] s h over = refl
net_past m metric (w ∷ ws) s h over =
    let a = metric.sites w.start over.0.leaves in
    let b = metric.sites w.end over.0.arrives in
    let c = share_past w.start s (pos w.current) (omega arith) in
    let d = share_past w.end s (pos w.current) (omega arith) in
    let e = net_past m metric ws s h over.1 in
    omega (arith, ints)

due_past : (m : Meaning) → Metric m → (ts : List Terminal) (s : ℕ) → 2 ^ 32 ≤ s → Seated m ts → due ts s ≡ pos 0
due_past m metric [] s h known = refl
due_past m metric (t ∷ ts) s h known =
    let a = metric.sites t.site known.0 in
    let b = share_past t.site s t.current (omega arith) in
    let c = due_past m metric ts s h known.1 in
    omega (arith, ints)

pub met_from_meets : (rows : List (Option Terminal)) (ws : List Wire) → Meets 1 (seated rows) ws → is_met rows ws ≡ None
met_from_meets rows ws meets = clear_passes Unmet (unmet rows ws) (2 ^ 32) (λ s h. differ_from_same (net ws s) (due (seated rows) s) (meets s ∙ one_mul (due (seated rows) s)))

pub meets_from_met : (m : Meaning) → Metric m → (rows : List (Option Terminal)) (ws : List Wire) → Seated m (seated rows) → Over m ws → is_met rows ws ≡ None → Meets 1 (seated rows) ws
meets_from_met m metric rows ws known over e s = at (cases_lt s (2 ^ 32)) ∙ sym (one_mul (due (seated rows) s))
  where
    at : (s < 2 ^ 32) ⊎ (2 ^ 32 ≤ s) → net ws s ≡ due (seated rows) s
    at (inl h) = same_from_differ (net ws s) (due (seated rows) s) (clear_passed Unmet (unmet rows ws) (2 ^ 32) e s h)
    at (inr h) = net_past m metric ws s h over ∙ sym (due_past m metric (seated rows) s h known)
