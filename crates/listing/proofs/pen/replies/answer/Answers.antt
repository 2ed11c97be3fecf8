use Rattle.std.proofs.Common.{length, refl, ap, ◌∙◌, inl, inr}
use Rattle.listing.specs.Files.{refusal_text}
use Rattle.listing.specs.Listing.{left_in, listed, text_of}
use Rattle.listing.proofs.pen.replies.answer.Goals as goal

pub returns-in-Ok-clause-reply : goal.returns-in-Ok-clause-reply
returns-in-Ok-clause-reply c =
    let held = c.args.buffer.now in
    let planned = c.in-Ok.ensures in
    record {
      text = text_of planned.plan;
      answers = inl (_, _, planned, refl);
      count = c.list.ensures.answer ∙ ap (λ p. listed p (length held)) planned.planned;
      holds = c.list.ensures.after ∙ ap (λ p. left_in p held) planned.planned;
    }

pub returns-in-Err-clause-reply : goal.returns-in-Err-clause-reply
returns-in-Err-clause-reply c =
    let refusal = c.in-Err.refusal in
    let put = c.list_refusal.ensures in
    record { text = refusal_text refusal; answers = inr (refusal, c.in-Err.ensures, refl); count = put.count; holds = put.holds }
