-- What a list that audit can read is: known sites, bounded area.
use Rattle.std.proofs.Common.{◌≡◌, ℕ, ◌*◌, ◌≤◌, Bool, true, not, leb, List, [], ◌∷◌, length, None, refl, mul-le-mul, arith}
use Rattle.std.specs.List.{AllByRecursion}
use Rattle.std.proofs.ByRecursion.{All-from_get_or}
use Rattle.std.proofs.lemmas.Bool.{and_from, and_parts, leb-true, not-false}
use Rattle.ruler.specs.Meaning.{Meaning, Metric}
use Rattle.wires.specs.declared.wire.Wire.{Wire}
use Rattle.wires.specs.Wiring.{all_lie, area, lies}
use Rattle.audit.specs.declared.refusal.Refusal.{Refusal}
use Rattle.audit.specs.declared.refusal.Refusal.TheVariants.{WireCount, WireCurrent, WireSite}
use Rattle.audit.specs.Audit.{carries, fault, lowest, no_wire, wire_at}
use Rattle.audit.specs.Law.{Readable}
use Rattle.audit.proofs.Passing.{ask_passed, clear_passed}

-- every wire passes a test that none fails
all_pass : (refusal : ℕ → Refusal) (test : Wire → Bool) (ws : List Wire) → fault refusal (lowest (λ i. not (test (wire_at ws i))) (length ws)) ≡ None → AllByRecursion (λ w. test w ≡ true) ws
all_pass refusal test ws e = All-from_get_or (λ w. test w ≡ true) ws no_wire (λ i h. not-false (test (wire_at ws i)) (clear_passed refusal (λ i. not (test (wire_at ws i))) (length ws) e i h))

all_lie_from : (m : Meaning) (ws : List Wire) → AllByRecursion (λ w. lies m w ≡ true) ws → all_lie m ws ≡ true
all_lie_from m [] all = refl
all_lie_from m (w ∷ ws) all = and_from (lies m w) (all_lie m ws) all.0 (all_lie_from m ws all.1)

area_bound : (m : Meaning) → Metric m → (ws : List Wire) → AllByRecursion (λ w. carries w ≡ true) ws → AllByRecursion (λ w. lies m w ≡ true) ws → area m ws ≤ 128000000000000 * length ws
area_bound m metric [] carry lie = omega arith
area_bound m metric (w ∷ ws) carry lie =
    let rest = area_bound m metric ws carry.1 lie.1 in
    let current = leb-true w.current 32000000 (and_parts (leb 1 w.current) (leb w.current 32000000) carry.0).1 in
    let known = and_parts (m.known w.start) (m.known w.end) lie.0 in
    let span = metric.ceiling w.start w.end known.0 known.1 in
    let here : w.current * m.span w.start w.end ≤ 32000000 * 4000000 = mul-le-mul current span in
    omega arith

module _ (m : Meaning) (ws : List Wire) (r : Readable m ws) where
  readable_carries : AllByRecursion (λ w. carries w ≡ true) ws
  readable_carries = all_pass WireCurrent carries ws r.carry

  readable_lies : AllByRecursion (λ w. lies m w ≡ true) ws
  readable_lies = all_pass WireSite (lies m) ws r.lie

  pub readable_known : all_lie m ws ≡ true
  readable_known = all_lie_from m ws readable_lies

  pub readable_bound : Metric m → area m ws ≤ 131072000000000000
  readable_bound metric =
      let few = leb-true (length ws) 1024 (ask_passed (leb (length ws) 1024) WireCount r.few) in
      let bound = area_bound m metric ws readable_carries readable_lies in
      omega arith
