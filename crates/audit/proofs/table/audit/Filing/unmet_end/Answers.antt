use Rattle.std.proofs.Common.{List, [], subst}
use Rattle.std.proofs.lemmas.List.{take_all}
use Rattle.wires.specs.declared.wire.Wire.{Wire}
use Rattle.audit.specs.Audit.{no_wire, unmet}
use Rattle.audit.specs.Search.{Looked}
use Rattle.audit.proofs.Touched.{looked_none, looked_wire}
use Rattle.audit.proofs.table.audit.Filing.unmet_end.Goals as goal

pub loop-wire-init : goal.loop-wire-init
loop-wire-init c = looked_none _

pub loop-wire-preserved : goal.loop-wire-preserved
loop-wire-preserved c =
    let first = c.lower_unmet-found.ensures in
    let second = c.lower_unmet-found-in-loop-wire.ensures in
    looked_wire _ _ _ _ c.args.self.now.wires.now c.loop-wire.wire-index no_wire c.loop-wire-test.true c.loop-wire.invariant first.lower second.lower second.site

pub returns : goal.returns
returns c =
    let P : List Wire → Type 0 = λ ws. Looked (unmet c.args.self.now.table.now.rows c.args.self.now.wires.now) c.loop-wire.found ws [] in
    subst P (take_all c.loop-wire.wire-index c.args.self.now.wires.now c.loop-wire-test.false) c.loop-wire.invariant
