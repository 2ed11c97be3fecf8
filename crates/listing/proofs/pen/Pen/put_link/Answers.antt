use Rattle.std.proofs.Common.{subst, arith}
use Rattle.listing.specs.Pens.{Writes}
use Rattle.listing.proofs.Placing.{writes_then}
use Rattle.listing.proofs.Texts.{wire_line_parts}
use Rattle.listing.proofs.pen.Pen.put_link.Goals as goal

pub returns : goal.returns
returns c =
    subst (Writes _ _) (wire_line_parts c.args.link.now _ c.numbers_of-from.ensures.order)
    (writes_then (omega arith)
    (writes_then (omega arith) (writes_then (omega arith) c.put.ensures c.put_word.ensures) c.put_word-2.ensures)
    c.put_last.ensures)
