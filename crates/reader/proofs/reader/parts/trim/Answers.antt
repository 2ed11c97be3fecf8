use Rattle.std.proofs.Common.{◌≡◌, eqb, not, arith, rules, tests}
use Rattle.std.specs.List.{position}
use Rattle.std.proofs.lemmas.Grind.{common_steps}
use Rattle.std.proofs.lemmas.Iterator.Search.{position_from_yields_List}
use Rattle.std.proofs.lemmas.Iterator.{YieldsList-from_slice}
use Rattle.reader.proofs.Splitting.{unspaced_first}
use Rattle.reader.proofs.reader.parts.trim.Goals as goal

pub returns-in-Some-clause-value : goal.returns-in-Some-clause-value
returns-in-Some-clause-value c =
    let s = c.args.text.now in
    let found : c.position.result ≡ position (λ b. not (eqb b 32)) s = position_from_yields_List (λ b. not (eqb b 32)) _ _ c.position.result c.position.ensures.ran (YieldsList-from_slice s cc) (λ x b q k. search (rules, tests)) in
    grind (arith, common_steps, unspaced_first s)

pub returns-in-None-clause-value : goal.returns-in-None-clause-value
returns-in-None-clause-value c =
    let s = c.args.text.now in
    let found : c.position.result ≡ position (λ b. not (eqb b 32)) s = position_from_yields_List (λ b. not (eqb b 32)) _ _ c.position.result c.position.ensures.ran (YieldsList-from_slice s cc) (λ x b q k. search (rules, tests)) in
    grind (arith, common_steps, unspaced_first s)
