use Rattle.std.proofs.Common.{ap, ◌∙◌}
use Rattle.dimacs.specs.Contents.{nodes_in}
use Rattle.dimacs.specs.Nodes.{distinct}
use Rattle.dimacs.proofs.Ids.{vacant_room, pushed_apart, pushed_more}
use Rattle.dimacs.proofs.draft.nodes.Nodes.add.Goals as goal

pub invariant_of-self : goal.invariant_of-self
invariant_of-self c =
    let old = c.args.self.now in
    let room = vacant_room (nodes_in old) c.args.node old.apart c.if-node-ge1.true c.if-node-le64.true c.if-not-has.ensures in
    record { apart = ap distinct (c.push.ensures.room room) ∙ pushed_apart (nodes_in old) c.args.node old.apart c.if-node-ge1.true c.if-node-le64.true c.if-not-has.ensures }

pub returns-then-not-has : goal.returns-then-not-has
returns-then-not-has c =
    let old = c.args.self.now in
    let room = vacant_room (nodes_in old) c.args.node old.apart c.if-node-ge1.true c.if-node-le64.true c.if-not-has.ensures in
    c.push.ensures.room room ∙ pushed_more (nodes_in old) c.args.node old.apart c.if-node-ge1.true c.if-node-le64.true c.if-not-has.ensures
