use Rattle.std.proofs.Common.{◌≡◌, ℕ, Some, None, arith}
use Rattle.std.proofs.lemmas.Bool.{cond-true}
use Rattle.wires.specs.Wiring.{all_lie, area, measured_area}
use Rattle.audit.proofs.Reading.{readable_known, readable_bound}
use Rattle.audit.proofs.table.audit.readable_area.Goals as goal

pub unreachable-requires : goal.unreachable-requires
unreachable-requires g c =
    let m = g.R.Ruler.meaning c.args.ruler.now in
    let ws = c.args.wires.now in
    let there = cond-true (all_lie m ws) (Some (area m ws)) None (readable_known m ws c.requires) in
    let absent : None ≡ measured_area m ws = c.in-None.ensures.answer in
    let z : ◌≡◌ {A = ℕ} 0 1 = cc in
    omega arith

measured : (g : Rattle.audit.proofs.table.audit.readable_area.Given.Over) (c : goal.In-Some g) → c.in-Some.area ≡ area (g.R.Ruler.meaning c.args.ruler.now) c.args.wires.now
measured g c =
    let m = g.R.Ruler.meaning c.args.ruler.now in
    let ws = c.args.wires.now in
    let there = cond-true (all_lie m ws) (Some (area m ws)) None (readable_known m ws c.requires) in
    let answer : Some c.in-Some.area ≡ measured_area m ws = c.in-Some.ensures.answer in
    cc

pub overflow_cast-result : goal.overflow_cast-result
overflow_cast-result g c =
    let is = measured g c in
    let bound = readable_bound _ _ c.requires (g.met.R.Ruler.metric c.args.ruler.now) in
    omega arith

pub returns : goal.returns
returns g c =
    let is = measured g c in
    let bound = readable_bound _ _ c.requires (g.met.R.Ruler.metric c.args.ruler.now) in
    record { area = is; high = omega arith }
