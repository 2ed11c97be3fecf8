-- The map charts the steps so far.
use Rattle.std.proofs.Common.{take}
use Rattle.ruler.proofs.Charts.{Charts}
use Rattle.ruler.proofs.map.table.run.charted.Given as goal

abbrev pub invariant-loop-step : goal.invariant-loop-step
invariant-loop-step l = Charts l.map (take l.step-index l.steps)
