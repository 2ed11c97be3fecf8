use Rattle.std.proofs.Common.{ℕ, ◌+◌, ◌*◌, ◌<◌, [], ◌∷◌, ◌++◌, List, sym, subst, ap, ap₂, ◌∙◌, add-one, arith}
use Rattle.bounded.specs.Items.{items}
use Rattle.transport.specs.Transport.{at, cell}
use Rattle.planner.specs.declared.ends.costs.listing.Draft.{Draft}
use Rattle.planner.specs.declared.plan.Link.{Link}
use Rattle.planner.specs.Listing.{Drafted}
use Rattle.planner.proofs.Drafting.{draft_room, drafted_skip, drafted_push}
use Rattle.planner.proofs.ends.costs.listing.Solution.lay_row.Goals as goal
use Rattle.planner.proofs.ends.costs.listing.Solution.lay_row.Goals.{then-current-gt0, else-current-gt0}

pub loop-j-preserved : goal.loop-j-preserved
loop-j-preserved c =
    let self = c.args.self.now in
    let sinks = self.ends.sinks.now in
    let flow = self.plan.now.flow in
    let d = c.loop-j.draft in
    let j = c.loop-j.j in
    let are = self.solved.sinks_are in
    let below : j < self.case.now.sinks = omega arith in
    let P : Draft → Type 0 = λ d. Drafted self.case.now self.ends.sources.now sinks flow c.args.i (j + 1) d in
    let wires : ℕ → List Link = λ from. items d.links ++ record { from = from + 1; to = at sinks j + 1; current = cell flow c.args.i j } ∷ [] in
    elim c.if-current-gt0.branch [
      | then-current-gt0 w ↦ subst P (sym w.draft-is) (rw add-one (drafted_push _ _ _ _ self.solved c.args.i j d c.loop-j.invariant c.requires.inside below w.if-current-gt0.true _ (w.push.ensures.room (draft_room _ _ _ _ self.solved c.args.i j d c.loop-j.invariant c.requires.inside below) ∙ ap wires c.requires.row) (ap₂ (λ x y. d.area + x * y) w.from.ensures w.from-then-current-gt0.ensures)))
      | else-current-gt0 w ↦ subst P (sym w.draft-is) (rw add-one (drafted_skip _ _ _ _ self.solved c.args.i j d c.loop-j.invariant (omega arith)))
    ]
