use Rattle.std.proofs.Common.{sym, rules}
use Rattle.audit.proofs.Lowest.{lowest_none, lowest_found}
use Rattle.audit.proofs.table.audit.bad_site.Goals as goal

pub returns : goal.returns
returns g c = sym (lowest_none _ _ (search rules))

pub returns-in_default : goal.returns-in_default
returns-in_default g c = sym (lowest_found _ _ _ c.loop-i.invariant (search rules) (search rules))
