use Rattle.std.proofs.Common.{arith}
use Rattle.listing.proofs.Listed.{put_filled}
use Rattle.listing.proofs.pen.replies.list_refusal.Goals as goal

pub returns-clause-holds : goal.returns-clause-holds
returns-clause-holds c = put_filled _ c.args.buffer.now _ _ (omega arith) c.write_refusal.ensures
