-- The legs so far.
use Rattle.std.proofs.Common.{take}
use Rattle.ruler.specs.Chart.{Chart, Shows, course}
use Rattle.dimacs.specs.Loads.{legs_of}
use Rattle.dimacs.proofs.load.lay_arcs.Given as goal

abbrev pub invariant-loop-arc : goal.invariant-loop-arc
invariant-loop-arc l = (c : Chart) → Shows l.initial.map c → Shows l.map (course c (legs_of (take l.arc-index l.arcs)))
