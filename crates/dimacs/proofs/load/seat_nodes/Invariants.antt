-- The seats so far; the ruler is kept.
use Rattle.std.proofs.Common.{◌≡◌, take}
use Rattle.dimacs.specs.Loads.{Seated, seats_of}
use Rattle.dimacs.proofs.load.seat_nodes.Given as goal

abbrev pub invariant-loop-node : goal.invariant-loop-node
invariant-loop-node g l =
    (l.sheet.ruler ≡ l.initial.sheet.ruler)
    × Seated (g.R.Ruler.meaning l.initial.sheet.ruler) l.initial.sheet.net l.sheet.net (seats_of (take l.node-index l.nodes))
