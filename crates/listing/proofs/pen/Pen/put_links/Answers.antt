use Rattle.std.proofs.Common.{sym, ◌∙◌, subst, arith}
use Rattle.listing.specs.Pens.{Writes}
use Rattle.listing.proofs.Placing.{writes_none, writes_then}
use Rattle.listing.proofs.Texts.{length_lines_more, wire_lines_more, wire_lines_none}
use Rattle.listing.proofs.pen.Pen.put_links.Goals as goal

pub put_link-requires : goal.put_link-requires
put_link-requires c =
    let more = length_lines_more c.args.links.now c.loop-link.link-index c.loop-link-test.true in
    let so = c.loop-link.invariant in
    omega arith

pub loop-link-preserved : goal.loop-link-preserved
loop-link-preserved c =
    let links = c.args.links.now in
    let i = c.loop-link.link-index in
    let more = length_lines_more links i c.loop-link-test.true in
    let so = c.loop-link.invariant in
    let put = c.put_link.ensures.put.end in
    record {
      room = omega arith;
      size = c.put_link.ensures.size ∙ so.size;
      whole = λ pen rest. so.whole pen (subst (Writes _ pen) (sym (wire_lines_more links i c.loop-link-test.true)) (writes_then (omega arith) c.put_link.ensures rest));
    }

pub returns : goal.returns
returns c = c.loop-link.invariant.whole _ (subst (Writes _ _) (sym (wire_lines_none c.args.links.now c.loop-link.link-index c.loop-link-test.false)) (writes_none _))
