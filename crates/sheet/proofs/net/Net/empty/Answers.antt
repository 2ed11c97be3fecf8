use Rattle.std.proofs.Common.{refl}
use Rattle.sheet.proofs.Rows.{empty_allowed}
use Rattle.sheet.proofs.net.Net.empty.Goals as goal

pub invariant_of-result : goal.invariant_of-result
invariant_of-result c = record { full = refl; ranged = empty_allowed }
