-- What the questions of each kind of line ask, in the layout's words.
use Rattle.std.proofs.Common.{◌≡◌, ℕ, ◌≤◌, Bool, true, false, List, Some, None, Err, Option, Result, ap, arith}
use Rattle.std.proofs.lemmas.Grind.{common_steps}
use Rattle.audit.specs.Questions.{outcome}
use Rattle.dimacs.specs.declared.document.Problem as the_problem
use Rattle.dimacs.specs.declared.document.Node as the_node
use Rattle.dimacs.specs.declared.document.Arc as the_arc
use Rattle.reader.specs.declared.refusal.Refusal.{Refusal}
use Rattle.dimacs.specs.Layout.{ArcLine, ArcWithin, Document, NodeLine, NodeWithin, nodes_of}
use Rattle.dimacs.specs.Scan.{Draft, arc_asked, node_asked, nothing, problem_asked, supply, taken}
use Rattle.dimacs.specs.Contents.{left_by}
use Rattle.dimacs.proofs.Drafts.{draft}
use Rattle.dimacs.proofs.Sayings.{never}

-- the limits of a problem
pub record Sized (sites arcs : ℕ) : Type 0 where
  pub some : 1 ≤ sites
  pub few : sites ≤ 64
  pub short : arcs ≤ 2000

module _ (line : ℕ) (is_min : Bool) (sites arcs : ℕ) where
  pub problem_passed : problem_asked line nothing is_min sites arcs ≡ None → (is_min ≡ true) × Sized sites arcs
  problem_passed e = (
    grind (arith, common_steps),
    record { some = grind (arith, common_steps); few = grind (arith, common_steps); short = grind (arith, common_steps) },
  )

  pub problem_passes : is_min ≡ true → Sized sites arcs → problem_asked line nothing is_min sites arcs ≡ None
  problem_passes min s = grind (arith, common_steps)

-- a draft of the document's sites
module _ (doc : Document) (p : the_problem.Problem) (sites : doc.sites ≡ p.sites) (ns : List the_node.Node) (xs : List the_arc.Arc) where
  module _ (known : ℕ → Bool) (line : ℕ) (n : NodeLine) where
    pub node_passed : node_asked known line (draft p ns xs 0) n.id n.flow ≡ None → NodeWithin known doc n × (taken ns n.id ≡ false)
    node_passed e = (
      record { site = record { low = grind (arith, common_steps); high = grind (arith, common_steps) }; flow = grind (arith, common_steps); knows = grind (arith, common_steps) },
      grind (arith, common_steps),
    )

    pub node_passes : NodeWithin known doc n → taken ns n.id ≡ false → node_asked known line (draft p ns xs 0) n.id n.flow ≡ None
    node_passes w free = grind (arith, common_steps)

  module _ (all : nodes_of doc ≡ ns) (line k : ℕ) (a : ArcLine) where
    pub arc_passed : arc_asked line (draft p ns xs k) a.from a.to a.low a.cap a.cost ≡ None → ArcWithin doc a
    arc_passed e =
        let same = ap supply all in
        record {
          from = record { low = grind (arith, common_steps); high = grind (arith, common_steps) };
          to = record { low = grind (arith, common_steps); high = grind (arith, common_steps) };
          low = grind (arith, common_steps);
          cap = grind (arith, common_steps);
          cost = grind (arith, common_steps);
        }

    pub arc_passes : ArcWithin doc a → arc_asked line (draft p ns xs k) a.from a.to a.low a.cap a.cost ≡ None
    arc_passes w =
        let same = ap supply all in
        grind (arith, common_steps)

-- a question that refuses leaves the refusal alone
pub still_refused : {A : Type 0} (q : Option Refusal) (r : Result A Refusal) (e : Refusal) (before after : Draft) {B : Type 0} (x : B) → r ≡ Err e → Err e ≡ outcome q x → left_by r before ≡ outcome q after
still_refused (Some f) r e before after x is asked = grind (arith, common_steps)
still_refused None r e before after x is asked = absurd (never asked)
