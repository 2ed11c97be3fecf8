use Rattle.std.proofs.Common.{arith}
use Rattle.listing.proofs.Placing.{writes_then}
use Rattle.listing.proofs.pen.Pen.put_listing.Goals as goal

pub returns : goal.returns
returns c = writes_then (omega arith) c.put_area.ensures c.put_links.ensures
