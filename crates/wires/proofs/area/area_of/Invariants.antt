-- The wires so far lie on known sites, the sum is their area, and each adds less than 2 ^ 64.
use Rattle.std.proofs.Common.{◌≡◌, ◌*◌, ◌^◌, ◌≤◌, true, take}
use Rattle.wires.specs.Wiring.{all_lie, area}
use Rattle.wires.proofs.area.area_of.Given as goal

abbrev pub invariant-loop-wire : goal.invariant-loop-wire
invariant-loop-wire g l = (all_lie (g.R.Ruler.meaning l.ruler) (take l.wire-index l.wires) ≡ true) × (l.area ≡ area (g.R.Ruler.meaning l.ruler) (take l.wire-index l.wires)) × (l.area ≤ 2 ^ 64 * l.wire-index)
