use Rattle.std.proofs.Common.{◌≡◌, ℕ, ◌+◌, sym, subst, arith, rules}
use Rattle.std.proofs.lemmas.Grind.{common_steps}
use Rattle.transport.specs.declared.load.tree.Tree.{Tree}
use Rattle.transport.proofs.Growing.{Absorbing, absorbing_pass, absorbing_join, absorbed}
use Rattle.transport.proofs.Writes.{put_set, round_none, round_some}
use Rattle.transport.proofs.load.tree.Tree.absorb.Goals as goal
use Rattle.transport.proofs.load.tree.Tree.absorb.Goals.{then-flow-gt0+then-is_none, else-flow-gt0, else-flow-gt0-via-then-flow-gt0+else-is_none, else-flow-gt0-via-else-flow-gt0}

pub loop-j-preserved : goal.loop-j-preserved
loop-j-preserved c =
    let case = c.args.market.now.case.now in
    let marks = c.args.market.now.marks in
    let load = c.args.market.now.load in
    let j = c.loop-j.j in
    let P : Tree → Type 0 = λ tree. Absorbing case marks load c.args.source (c.args.round + 1) (j + 1) c.args.self.now tree in
    elim c.if-flow-gt0.branch [
      | then-flow-gt0+then-is_none w ↦ subst P (sym w.self-is) (absorbing_join case marks load c.args.source (c.args.round + 1) c.args.self.now j c.loop-j.self _ c.requires.inside (omega arith) (round_none _ (search rules)) c.loop-j.invariant w.join.ensures)
      | else-flow-gt0 w ↦ subst P (sym w.self-is) (absorbing_pass case marks load c.args.source (c.args.round + 1) c.args.self.now j c.loop-j.self c.loop-j.invariant (λ serves. elim w.else-flow-gt0.branch [ else-flow-gt0-via-then-flow-gt0+else-is_none v ↦ round_some _ (search rules) | else-flow-gt0-via-else-flow-gt0 v ↦ absurd (let z : ⊥ = grind (arith, common_steps) in z) ]))
    ]

pub returns : goal.returns
returns c =
    let case = c.args.market.now.case.now in
    let all : c.loop-j.j ≡ case.sinks = omega arith in
    let P : ℕ → Type 0 = λ n. Absorbing case c.args.market.now.marks c.args.market.now.load c.args.source (c.args.round + 1) n c.args.self.now c.loop-j.self in
    absorbed case c.args.market.now.marks c.args.market.now.load c.args.source (c.args.round + 1) c.args.self.now c.loop-j.self _
    (subst P all c.loop-j.invariant) c.requires.inside c.requires.still.0 c.requires.still.1.1 (put_set 0 c.loop-j.self.closed c.args.source 4294967295 (omega arith))
