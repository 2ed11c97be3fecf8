use Rattle.std.proofs.Common.{◌≡◌, ℕ, ◌*◌, ◌^◌, ◌≤◌, List, Some, Option, sym, ◌∙◌, subst, mul-le-mul, arith}
use Rattle.ruler.specs.Meaning.{Meaning}
use Rattle.wires.specs.declared.wire.Wire.{Wire}
use Rattle.wires.specs.Duality.{Bounded, Certified, Complete}
use Rattle.wires.specs.Wiring.{measured_area, area}
use Rattle.wires.proofs.Known.{all_lie_more, area_more, area_absent, area_there, area_is}
use Rattle.wires.proofs.WeakDuality.{bounded, certified}
use Rattle.wires.proofs.Completeness.{complete}
use Rattle.wires.proofs.area.area_of.Goals as goal

-- whatever holds of the list's area holds of the answer
of_answer : (m : Meaning) (ws : List Wire) (r : Option ℕ) (P : ℕ → Type 0) → P (area m ws) → r ≡ measured_area m ws → (a : ℕ) → r ≡ Some a → P a
of_answer m ws r P holds answer a e = subst P (area_is m ws a (sym answer ∙ e)) holds

pub returns-in_err-length : goal.returns-in_err-length
returns-in_err-length g c =
    let m = g.R.Ruler.meaning c.args.ruler.now in
    let ws = c.args.wires.now in
    let law = g.met.R.Ruler.metric c.args.ruler.now in
    let e = c.from_residual.ensures ∙ area_absent m ws c.loop-wire.wire-index _ c.loop-wire-test.true c.in_err-length.ensures in
    record { answer = e; bounded = of_answer m ws _ (Bounded m ws) (bounded m law ws) e; certified = of_answer m ws _ (Certified m ws) (certified m law ws) e; complete = of_answer m ws _ (Complete m ws) (complete m law ws) e }

pub loop-wire-preserved : goal.loop-wire-preserved
loop-wire-preserved g c =
    let m = g.R.Ruler.meaning c.args.ruler.now in
    let ws = c.args.wires.now in
    let i = c.loop-wire.wire-index in
    let e = c.in_ok-length.ensures in
    let p : c.from.result * c.from-in-loop-wire.result ≤ 2 ^ 32 * 2 ^ 32 = mul-le-mul {n₂ = 2 ^ 32} {m₂ = 2 ^ 32} (omega arith) (omega arith) in
    let s = area_more m ws i _ _ c.loop-wire-test.true e in
    (all_lie_more m ws i _ _ c.loop-wire-test.true e c.loop-wire.invariant.0, cc, omega arith)

pub returns : goal.returns
returns g c =
    let m = g.R.Ruler.meaning c.args.ruler.now in
    let ws = c.args.wires.now in
    let law = g.met.R.Ruler.metric c.args.ruler.now in
    let e = area_there m ws c.loop-wire.wire-index c.loop-wire.area (omega arith) c.loop-wire.invariant.0 c.loop-wire.invariant.1 in
    record { answer = e; bounded = of_answer m ws _ (Bounded m ws) (bounded m law ws) e; certified = of_answer m ws _ (Certified m ws) (certified m law ws) e; complete = of_answer m ws _ (Complete m ws) (complete m law ws) e }
