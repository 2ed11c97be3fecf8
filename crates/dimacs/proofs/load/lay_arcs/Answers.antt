use Rattle.std.proofs.Common.{take, sym, ap, ◌∙◌, subst, arith}
use Rattle.std.proofs.lemmas.Grind.{common_steps}
use Rattle.std.proofs.lemmas.List.{map_more}
use Rattle.ruler.specs.Chart.{Shows, course}
use Rattle.ruler.proofs.Charts.{course_push}
use Rattle.dimacs.specs.Loads.{leg_step, legs_of}
use Rattle.dimacs.proofs.load.lay_arcs.Goals as goal

pub loop-arc-preserved : goal.loop-arc-preserved
loop-arc-preserved c = λ chart shown.
    let arcs = c.args.arcs.now in
    let so = legs_of (take c.loop-arc.arc-index arcs) in
    let more = ap (course chart) (map_more leg_step arcs c.loop-arc.arc-index _ c.loop-arc-test.true) ∙ course_push chart so _ in
    subst (Shows _) (sym more) (c.make.ensures.shown (course chart so) (c.loop-arc.invariant chart shown))

pub returns : goal.returns
returns c = λ chart shown. grind (arith, common_steps, c.loop-arc.invariant chart shown)
