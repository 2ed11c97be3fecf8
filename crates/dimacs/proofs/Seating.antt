-- A run of seats, one seat more.
use Rattle.std.proofs.Common.{◌≡◌, ℕ, ◌+◌, ◌<◌, List, [], ◌∷◌, ◌++◌, length, get_or, take, None, Option, sym, refl, ap, ◌∙◌}
use Rattle.std.proofs.lemmas.List.{map_more}
use Rattle.ruler.specs.Meaning.{Meaning}
use Rattle.planner.specs.declared.plan.Plan.{Plan}
use Rattle.sheet.specs.Answers.{ledger_of}
use Rattle.sheet.specs.Ledger.{Ledger, asked, course, fed, unless}
use Rattle.sheet.specs.declared.call.Call.{Call}
use Rattle.sheet.specs.declared.net.Net.{Net}
use Rattle.sheet.proofs.Courses.{course_push}
use Rattle.dimacs.specs.declared.document.Node.{Node}
use Rattle.dimacs.specs.Loads.{Seated, plan_left, seat_call, seats_of}

plan_push : (m : Meaning) (l : Ledger) (p : Option Plan) (calls : List Call) (call : Call) → plan_left m l p (calls ++ call ∷ []) ≡ unless (asked m (course m l calls) call) (plan_left m l p calls) None
plan_push m l p [] call = refl
plan_push m l p (first ∷ calls) call = plan_push m (fed m l first) (unless (asked m l first) p None) calls call

-- over a ruler that stays the same
pub seated_more : {R : Type 0} (meaning : R → Meaning) (first kept : R) (before mid after : Net) (nodes : List Node) (i : ℕ) (d : Node) → i < length nodes → kept ≡ first → Seated (meaning first) before mid (seats_of (take i nodes)) → ledger_of after ≡ fed (meaning kept) (ledger_of mid) (seat_call (get_or nodes i d)) → after.plan ≡ unless (asked (meaning kept) (ledger_of mid) (seat_call (get_or nodes i d))) mid.plan None → Seated (meaning first) before after (seats_of (take (i + 1) nodes))
seated_more meaning first kept before mid after nodes i d h same so ledger plan =
    let m = meaning first in
    let call = seat_call (get_or nodes i d) in
    let calls = seats_of (take i nodes) in
    let more = sym (map_more seat_call nodes i d h) in
    record {
      ledger =
          ledger ∙ ap (λ r. fed (meaning r) (ledger_of mid) call) same ∙ ap (λ l. fed m l call) so.ledger ∙ sym (course_push m (ledger_of before) calls call) ∙ ap (course m (ledger_of before)) more;
      plan =
          plan ∙ ap (λ r. unless (asked (meaning r) (ledger_of mid) call) mid.plan None) same ∙ ap (λ l. unless (asked m l call) mid.plan None) so.ledger ∙ ap (λ p. unless (asked m (course m (ledger_of before) calls) call) p None) so.plan ∙ sym (plan_push m (ledger_of before) before.plan calls call) ∙ ap (plan_left m (ledger_of before) before.plan) more;
    }
