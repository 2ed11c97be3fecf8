use Rattle.std.proofs.Common.{◌≡◌, ⊎_elim, arith}
use Rattle.std.proofs.lemmas.Bool.{cases_eq}
use Rattle.std.proofs.lemmas.Grind.{common_steps}
use Rattle.transport.proofs.load.tree.raise_marks.Goals as goal

pub loop-k-preserved : goal.loop-k-preserved
loop-k-preserved g c = (
  λ k l.
      ⊎_elim
      (λ (e : k ≡ c.loop-k.k). (c.is_inside.result, rw e c.is_inside.ensures, grind (arith, common_steps, c.loop-k.invariant.1 k)))
      (λ (ne : k ≡ c.loop-k.k → ⊥). let before = c.loop-k.invariant.0 k (omega arith) in (before.0, before.1, grind (arith, common_steps)))
      (cases_eq k c.loop-k.k),
  λ k l. grind (arith, common_steps),
)

pub returns : goal.returns
returns g c = record { raised = λ k l. c.loop-k.invariant.0 k (omega (arith, c.loop-k.auto.k-end, c.loop-k-test.false)); size = c.loop-k.auto.marks }
