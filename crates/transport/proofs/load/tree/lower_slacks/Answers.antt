use Rattle.std.proofs.Common.{arith}
use Rattle.std.proofs.lemmas.Grind.{common_steps}
use Rattle.transport.proofs.load.tree.lower_slacks.Goals as goal

pub loop-i-preserved : goal.loop-i-preserved
loop-i-preserved c = (λ k l f. grind (arith, common_steps), λ k l f. grind (arith, common_steps), λ k l. grind (arith, common_steps))
