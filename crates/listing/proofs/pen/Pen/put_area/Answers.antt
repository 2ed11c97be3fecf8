use Rattle.std.proofs.Common.{arith}
use Rattle.listing.proofs.Placing.{writes_then}
use Rattle.listing.proofs.pen.Pen.put_area.Goals as goal

pub returns : goal.returns
returns c = writes_then (omega arith) c.put.ensures c.put_last.ensures
