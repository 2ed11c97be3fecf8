use Rattle.std.proofs.Common.{arith}
use Rattle.transport.proofs.Sums.{sum_take}
use Rattle.transport.proofs.Within.{amounts_fit_list, costs_fit_list}
use Rattle.transport.proofs.case.Case.is_within.Goals as goal

pub returns-then-costs_fit : goal.returns-then-costs_fit
returns-then-costs_fit c = grind (arith, amounts_fit_list, costs_fit_list, sum_take)

pub returns-else-costs_fit : goal.returns-else-costs_fit
returns-else-costs_fit c = grind (arith, amounts_fit_list, costs_fit_list)
