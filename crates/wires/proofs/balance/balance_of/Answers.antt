use Rattle.std.proofs.Common.{None, sym, ap, ◌∙◌, subst, arith, w32, SFits, rules}
use borrow.Author.Differences.{ints}
use Rattle.std.proofs.lemmas.List.{take_all}
use Rattle.wires.specs.Duality.{Settled}
use Rattle.wires.specs.declared.terminal.Terminal.{Terminal}
use Rattle.wires.specs.Sums.{sum}
use Rattle.wires.specs.Wiring.{seated, row_adds}
use Rattle.wires.proofs.Star.{settled}
use Rattle.wires.proofs.Sums.{seated_more}
use Rattle.wires.proofs.balance.balance_of.Goals as goal
use Rattle.wires.proofs.balance.balance_of.Goals.{in-Some, in_default}

pub loop-row-preserved : goal.loop-row-preserved
loop-row-preserved c =
    let s = seated_more (λ (t : Terminal). t.current) c.args.rows.now c.loop-row.row-index None (omega arith) in
    elim c.match-row.branch [
      | in-Some w ↦
          let r = ap (row_adds (λ (t : Terminal). t.current)) w.in-Some.is in
          let f : SFits w32 w.in-Some.terminal.current = search rules in
          omega (arith, ints)
      | in_default w ↦
          let r = ap (row_adds (λ (t : Terminal). t.current)) w.in_default.is in
          omega (arith, ints)
    ]

pub returns : goal.returns
returns c =
    let q = take_all c.loop-row.row-index c.args.rows.now (omega arith) in
    let e = c.loop-row.invariant.0 ∙ ap (λ rs. sum (λ (t : Terminal). t.current) (seated rs)) q in
    record { answer = e; settled = subst (Settled (seated c.args.rows.now)) (sym e) (settled (seated c.args.rows.now)) }
