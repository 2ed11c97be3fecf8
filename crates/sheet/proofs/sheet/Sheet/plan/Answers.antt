use Rattle.std.proofs.Common.{◌≡◌, ℕ, true, cond, not, [], ◌∷◌, pos, is_some, Some, None, sym, ap, ◌∙◌, arith, rules}
use Rattle.std.proofs.lemmas.Bool.{both_ways}
use Rattle.wires.specs.declared.terminal.Terminal.{Terminal}
use Rattle.wires.specs.Sums.{sum}
use Rattle.wires.specs.Wiring.{seated}
use Rattle.audit.specs.declared.refusal.Refusal.{Refusal}
use Rattle.audit.specs.declared.refusal.Refusal.TheVariants.{Unbalanced}
use Rattle.audit.specs.Questions.{first_no}
use Rattle.audit.proofs.Meeting.{differ_from_same}
use Rattle.sheet.specs.Questions.{currents_balance}
use Rattle.sheet.proofs.Lawfulness.{lawful}
use Rattle.sheet.proofs.sheet.Sheet.plan.Goals as goal

some_is_not_none : (r : Refusal) → Some r ≡ None → ⊥
some_is_not_none r e = let z : ◌≡◌ {A = ℕ} 0 1 = cc in omega arith

pub returns-then-is_none : goal.returns-then-is_none
returns-then-is_none g c =
    let sheet = c.args.self.now in
    let rows = sheet.net.table.rows in
    let m = g.R.Ruler.meaning sheet.ruler in
    let even : sum (λ (t : Terminal). t.current) (seated rows) ≡ pos 0 = search rules in
    let level = differ_from_same (sum (λ (t : Terminal). t.current) (seated rows)) (pos 0) even in
    let passed : currents_balance rows ≡ None = ap (λ b. cond (not b) None (Some Unbalanced)) level in
    let made : is_some c.plan_of-self.result ≡ true = c.plan_of-self.ensures.absent ∙ ap not level in
    record {
      answer = search rules;
      after = search rules;
      refused = λ no' e. absurd (some_is_not_none no' (sym e ∙ ap (λ q. first_no (q ∷ [])) passed));
      again = λ t. absurd (both_ways (is_some sheet.net.plan) c.if-is_none.ensures t);
      same = search rules;
      law = lawful m (g.met.R.Ruler.metric sheet.ruler) _ sheet.upheld (c.plan_of-self.ensures.planned sheet.upheld);
    }

pub returns-then-balance_of-ne0-clause-law : goal.returns-then-balance_of-ne0-clause-law
returns-then-balance_of-ne0-clause-law g c = let s = c.args.self.now in lawful _ (g.met.R.Ruler.metric s.ruler) s.net s.upheld s.planned

pub returns-else-is_none-clause-law : goal.returns-else-is_none-clause-law
returns-else-is_none-clause-law g c = let s = c.args.self.now in lawful _ (g.met.R.Ruler.metric s.ruler) s.net s.upheld s.planned
