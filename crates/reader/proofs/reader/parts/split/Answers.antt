use Rattle.std.proofs.Common.{◌≡◌, eqb, arith, rules, tests}
use Rattle.std.specs.List.{position}
use Rattle.std.proofs.lemmas.Grind.{common_steps}
use Rattle.std.proofs.lemmas.Iterator.Search.{position_from_yields_List}
use Rattle.std.proofs.lemmas.Iterator.{YieldsList-from_slice}
use Rattle.reader.proofs.Splitting.{past_first, upto_first}
use Rattle.reader.proofs.reader.parts.split.Goals as goal

pub returns-in-Some : goal.returns-in-Some
returns-in-Some c =
    let s = c.args.text.now in
    let stop = c.args.stop in
    let found : c.position.result ≡ position (λ b. eqb b stop) s = position_from_yields_List (λ b. eqb b stop) _ _ c.position.result c.position.ensures.ran (YieldsList-from_slice s cc) (λ x b q k. search (rules, tests)) in
    record {
      before = grind (arith, common_steps, upto_first stop s);
      after = grind (arith, common_steps, past_first stop s);
      bound = grind (arith, common_steps);
      falls = grind (arith, common_steps);
    }

pub returns-in-None : goal.returns-in-None
returns-in-None c =
    let s = c.args.text.now in
    let stop = c.args.stop in
    let found : c.position.result ≡ position (λ b. eqb b stop) s = position_from_yields_List (λ b. eqb b stop) _ _ c.position.result c.position.ensures.ran (YieldsList-from_slice s cc) (λ x b q k. search (rules, tests)) in
    record {
      before = grind (arith, common_steps, upto_first stop s);
      after = grind (arith, common_steps, past_first stop s);
      bound = grind (arith, common_steps);
      falls = grind (arith, common_steps);
    }
