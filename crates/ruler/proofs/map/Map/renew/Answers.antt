use Rattle.std.proofs.Common.{refl}
use Rattle.ruler.proofs.Ways.{stands_bare}
use Rattle.ruler.proofs.map.Map.renew.Goals as goal

pub returns : goal.returns
returns c = stands_bare _ _ _ refl refl c.clear.ensures
