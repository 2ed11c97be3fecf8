use Rattle.std.proofs.Common.{length, ap, subst, arith}
use Rattle.std.specs.List.{AllByRecursion}
use Rattle.listing.specs.Listing.{Put, Sized, listing_of}
use Rattle.listing.proofs.Listed.{list_after, list_reads}
use Rattle.listing.proofs.pen.lines.list.Goals as goal

pub returns-clause-after : goal.returns-clause-after
returns-clause-after g c =
    let plan = c.in-Some.plan.now in
    let links = c.as_slice-links.ensures.value in
    let size = ap (λ ls. length (listing_of plan.area ls)) links in
    let put = subst (λ ls. Put c.args.buffer.now 0 (listing_of plan.area ls) c.write_lines.new.buffer c.write_lines.result) links c.write_lines.ensures in
    list_after c.args.sheet.now.net.plan plan c.args.buffer.now _ _ c.in-Some.ensures (omega arith) put

pub returns-clause-reads_back : goal.returns-clause-reads_back
returns-clause-reads_back g c =
    let plan = c.in-Some.plan.now in
    let links = c.as_slice-links.ensures.value in
    let size = ap (λ ls. length (listing_of plan.area ls)) links in
    let put = subst (λ ls. Put c.args.buffer.now 0 (listing_of plan.area ls) c.write_lines.new.buffer c.write_lines.result) links c.write_lines.ensures in
    list_reads c.args.sheet.now.net.plan plan c.args.buffer.now _ _ c.in-Some.ensures (omega arith) put (omega arith) (subst (AllByRecursion Sized) links c.text_length-length.ensures.sized)
