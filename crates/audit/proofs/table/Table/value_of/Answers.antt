use Rattle.std.proofs.Common.{[], ◌∷◌, length, length-append, ap, ap₂, ◌∙◌, arith}
use borrow.Author.Differences.{ints}
use Rattle.wires.specs.Marks.{value}
use Rattle.audit.specs.Audit.{pins}
use Rattle.audit.proofs.Worth.{value_front}
use Rattle.audit.proofs.table.Table.value_of.Goals as goal

pub loop-row-preserved : goal.loop-row-preserved
loop-row-preserved c =
    let next = c.in-Some.ensures.steps in
    let front = ap₂ (λ rows marks. value (pins rows marks)) next.0 next.1 ∙ value_front c.in-Some.row.now c.in-Some.mark.now _ _ in
    let rows = ap length next.0 in
    let marks = ap length next.1 in
    let seen = length-append c.loop-row.yielded ((c.in-Some.row, c.in-Some.mark) ∷ []) in
    record {
      whole = omega (arith, ints);
      count = omega arith;
      same = omega arith;
      low = omega (arith, ints);
      high = omega (arith, ints);
    }
