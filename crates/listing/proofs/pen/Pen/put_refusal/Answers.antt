use Rattle.std.proofs.Common.{ap, ◌∙◌, subst, arith}
use Rattle.listing.specs.Files.{refusal_line}
use Rattle.listing.specs.Pens.{Writes}
use Rattle.listing.proofs.Placing.{writes_then}
use Rattle.listing.proofs.Texts.{refusal_parts}
use Rattle.listing.proofs.pen.Pen.put_refusal.Goals as goal

pub returns : goal.returns
returns c =
    let e = c.args.refusal.now in
    subst (Writes _ _) (refusal_parts c.from.result e.line e.word ∙ ap (λ n. refusal_line n e.line e.word) (c.from.ensures ∙ c.number.ensures))
    (writes_then (omega arith) (writes_then (omega arith) (writes_then (omega arith) c.put.ensures c.put_word.ensures) c.put_word-2.ensures) c.put_last.ensures)
