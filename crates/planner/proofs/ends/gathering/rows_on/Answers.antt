use Rattle.std.proofs.Common.{◌≡◌, ℕ, ◌+◌, [], ◌∷◌, ◌++◌, length, cond, sym, subst, ap, ◌∙◌, add-one, arith, rules}
use Rattle.std.proofs.lemmas.Bool.{lt-ltb, le-ltb}
use Rattle.std.proofs.lemmas.List.{append-nil}
use Rattle.bounded.specs.declared.bounded.Bounded.{Bounded}
use Rattle.bounded.specs.Items.{items}
use Rattle.planner.specs.Ends.{amount_at, gathered}
use Rattle.planner.proofs.Gathering.{gathered_few}
use Rattle.planner.proofs.ends.gathering.rows_on.Goals as goal
use Rattle.planner.proofs.ends.gathering.rows_on.Goals.{then-amount-gt0, else-amount-gt0}

pub loop-i-init : goal.loop-i-init
unfolding gathered
loop-i-init c = search rules

pub loop-i-preserved : goal.loop-i-preserved
unfolding gathered
loop-i-preserved c =
    let rows = c.args.table.now.rows in
    let side = c.args.side in
    let i = c.loop-i.i in
    let few = gathered_few rows side i in
    let so_far = ap length c.loop-i.invariant in
    let P : Bounded ℕ 64 → Type 0 = λ b. items b ≡ gathered rows side (i + 1) in
    elim c.if-amount-gt0.branch [
      | then-amount-gt0 w ↦ subst P (sym w.rows-is) (rw add-one (w.push.ensures.room (omega arith) ∙ ap (λ ks. ks ++ i ∷ []) c.loop-i.invariant ∙ ap (λ b. gathered rows side i ++ cond b (i ∷ []) []) (sym (lt-ltb 0 (amount_at rows side i) (omega arith)))))
      | else-amount-gt0 w ↦ subst P (sym w.rows-is) (rw add-one (c.loop-i.invariant ∙ sym (append-nil (gathered rows side i)) ∙ ap (λ b. gathered rows side i ++ cond b (i ∷ []) []) (sym (le-ltb 0 (amount_at rows side i) (omega arith)))))
    ]
