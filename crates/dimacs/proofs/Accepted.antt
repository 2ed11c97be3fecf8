-- A scan that ends well heard a document within the limits.
use Rattle.std.proofs.Common.{◌≡◌, ℕ, suc, ◌+◌, ◌<◌, ◌≤◌, Bool, false, cond, ltb, List, [], ◌∷◌, ◌++◌, map, length, Some, None, Ok, Err, Result, sym, refl, ap, ◌∙◌, subst, inl, inr, arith}
use Rattle.std.specs.List.{AllByRecursion}
use Rattle.std.proofs.ByRecursion.{All-weaker}
use Rattle.std.proofs.lemmas.Grind.{common_steps}
use Rattle.std.proofs.lemmas.List.{append-nil, append_assoc}
use Rattle.dimacs.specs.declared.document.Problem as the_problem
use Rattle.dimacs.specs.declared.document.Node as the_node
use Rattle.dimacs.specs.declared.document.Arc as the_arc
use Rattle.reader.specs.declared.line.Line.{Line}
use Rattle.reader.specs.declared.line.Line.TheVariants.{Blank, Comment, Problem, Node, Arc}
use Rattle.reader.specs.declared.refusal.Refusal.{Refusal}
use Rattle.dimacs.specs.Layout.{ArcLine, ArcWithin, Distinct, Document, NodeLine, NodeWithin, Reads, Say, SayArcs, SayNodes, SaysArc, SaysNode, SaysProblem, Silent, Within, arc_of, node_of, nodes_of}
use Rattle.reader.specs.Lines.{said}
use Rattle.dimacs.specs.Scan.{Draft, arc_asked, entered, node_asked, nothing, problem_asked, scanned_from, taken, then, with_arc, with_node, with_problem}
use Rattle.dimacs.proofs.Drafts.{Rows, draft, draft_arc, draft_end, finished_is, taken_push, went}
use Rattle.dimacs.proofs.Questions.{Sized, arc_passed, node_passed, problem_passed}
use Rattle.dimacs.proofs.Sayings.{never, says}

-- what is said after a line that says nothing
silent_arcs : (ws : List (List ℕ)) (rest : Rows) (arcs : List ArcLine) → Silent ws → SayArcs rest arcs → SayArcs (ws ∷ rest) arcs
silent_arcs ws rest [] quiet say = (quiet, say)
silent_arcs ws rest (a ∷ arcs) quiet say = inl (quiet, say)

-- The lines after an arc say arcs within the limits, and the scan adds them to its draft.
-- The limits are those of every document of these sites and nodes, as the arcs to come are not known yet.
record ArcsHeard (p : the_problem.Problem) (ns : List the_node.Node) (xs : List the_arc.Arc) (k : ℕ) (rows : Rows) (e : Draft) : Type 0 where
  arcs : List ArcLine
  say : SayArcs rows arcs
  count : p.arcs ≡ k + length arcs
  is : e ≡ draft p ns (xs ++ map arc_of arcs) (k + length arcs)
  within : (doc : Document) → doc.sites ≡ p.sites → nodes_of doc ≡ ns → AllByRecursion (ArcWithin doc) arcs

module _ (known : ℕ → Bool) (p : the_problem.Problem) (short : p.arcs ≤ 2000) (e : Draft) where
  arcs_heard : (rows : Rows) (n : ℕ) (ns : List the_node.Node) (xs : List the_arc.Arc) (k : ℕ) → 0 < k → scanned_from known n (draft p ns xs k) rows ≡ Ok e → ArcsHeard p ns xs k rows e
  arcs_heard [] n ns xs k some h =
      let f = finished_is p ns (n + 1) xs k e h in
      record { arcs = []; say = tt; count = let c = f.0 in omega arith; is = f.1 ∙ draft_end p ns xs k; within = λ doc sites nodes. tt }
  arcs_heard (ws ∷ rest) n ns xs k some h = go (said (n + 1) ws) refl h (arcs_heard rest (n + 1) ns)
    where
      quiet : Silent ws → ArcsHeard p ns xs k rest e → ArcsHeard p ns xs k (ws ∷ rest) e
      quiet s later = record { arcs = later.arcs; say = silent_arcs ws rest later.arcs s later.say; count = later.count; is = later.is; within = later.within }

      one_more : (a : ArcLine) → SaysArc ws a → arc_asked (n + 1) (draft p ns xs k) a.from a.to a.low a.cap a.cost ≡ None → ArcsHeard p ns (cond (ltb k 2000) (xs ++ (arc_of a ∷ [])) xs) (k + 1) rest e → ArcsHeard p ns xs k (ws ∷ rest) e
      one_more a s passed later =
          let c = later.count in
          let room : k < 2000 = omega arith in
          record {
            arcs = a ∷ later.arcs;
            say = inr (s, later.say);
            count = omega arith;
            is = later.is ∙ draft_arc p ns xs (map arc_of later.arcs) (arc_of a) k (length later.arcs) room;
            within = λ doc sites nodes. (arc_passed doc p sites ns xs nodes (n + 1) k a passed, later.within doc sites nodes);
          }

      go : (r : Result Line Refusal) → said (n + 1) ws ≡ r → then (then r (entered known (n + 1) (draft p ns xs k))) (λ d. scanned_from known (n + 1) d rest) ≡ Ok e → ((xs : List the_arc.Arc) (k : ℕ) → 0 < k → scanned_from known (n + 1) (draft p ns xs k) rest ≡ Ok e → ArcsHeard p ns xs k rest e) → ArcsHeard p ns xs k (ws ∷ rest) e
      go (Ok Blank) is h more = quiet (says (n + 1) ws Blank is) (more xs k some h)
      go (Ok Comment) is h more = quiet (says (n + 1) ws Comment is) (more xs k some h)
      go (Ok (Problem q)) is h more = absurd (never h)
      go (Ok (Node m)) is h more =
          let w = went (node_asked known (n + 1) (draft p ns xs k) m.id m.flow) (with_node (draft p ns xs k) m.id m.flow) e (λ d. scanned_from known (n + 1) d rest) h in
          let none : k ≡ 0 = let asked = w.0 in grind (arith, common_steps) in
          absurd (omega arith)
      go (Ok (Arc a)) is h more =
          let w = went (arc_asked (n + 1) (draft p ns xs k) a.from a.to a.low a.cap a.cost) (with_arc (draft p ns xs k) a.from a.to a.cost) e (λ d. scanned_from known (n + 1) d rest) h in
          one_more (record { from = a.from; to = a.to; low = a.low; cap = a.cap; cost = a.cost }) (says (n + 1) ws (Arc a) is) w.0 (more _ (k + 1) (omega arith) w.1)
      go (Err r) is h more = absurd (never h)

-- a node that is not among these and one more is not among these, and is not that one
fresh_from : (ns : List the_node.Node) (m : NodeLine) (id : ℕ) → taken (ns ++ (node_of m ∷ [])) id ≡ false → (taken ns id ≡ false) × (m.id ≡ id → ⊥)
fresh_from ns m id e = (grind (arith, common_steps, taken_push ns (node_of m) id), λ same. grind (arith, common_steps, taken_push ns (node_of m) id))

silent_nodes : (ws : List (List ℕ)) (rest : Rows) (nodes : List NodeLine) (arcs : List ArcLine) → Silent ws → SayNodes rest nodes arcs → SayNodes (ws ∷ rest) nodes arcs
silent_nodes ws [] [] arcs quiet say = silent_arcs ws [] arcs quiet say
silent_nodes ws (vs ∷ rest) [] arcs quiet say = silent_arcs ws (vs ∷ rest) arcs quiet say
silent_nodes ws rest (n ∷ nodes) arcs quiet say = inl (quiet, say)

-- The lines after the problem say nodes and then arcs, none of the nodes twice.
record NodesHeard (known : ℕ → Bool) (p : the_problem.Problem) (ns : List the_node.Node) (rows : Rows) (e : Draft) : Type 0 where
  nodes : List NodeLine
  arcs : List ArcLine
  say : SayNodes rows nodes arcs
  count : p.arcs ≡ length arcs
  is : e ≡ draft p (ns ++ map node_of nodes) (map arc_of arcs) (length arcs)
  fresh : AllByRecursion (λ n. taken ns n.id ≡ false) nodes
  distinct : Distinct nodes
  within : (doc : Document) → doc.sites ≡ p.sites → AllByRecursion (NodeWithin known doc) nodes
  arcs_within : (doc : Document) → doc.sites ≡ p.sites → nodes_of doc ≡ ns ++ map node_of nodes → AllByRecursion (ArcWithin doc) arcs

module _ (known : ℕ → Bool) (p : the_problem.Problem) (short : p.arcs ≤ 2000) (e : Draft) where
  nodes_heard : (rows : Rows) (n : ℕ) (ns : List the_node.Node) → scanned_from known n (draft p ns [] 0) rows ≡ Ok e → NodesHeard known p ns rows e
  nodes_heard [] n ns h =
      let f = finished_is p ns (n + 1) [] 0 e h in
      record {
        nodes = [];
        arcs = [];
        say = tt;
        count = f.0;
        is = f.1 ∙ ap (λ l. draft p l [] 0) (sym (append-nil ns));
        fresh = tt;
        distinct = tt;
        within = λ doc sites. tt;
        arcs_within = λ doc sites nodes. tt;
      }
  nodes_heard (ws ∷ rest) n ns h = go (said (n + 1) ws) refl h (nodes_heard rest (n + 1))
    where
      quiet : Silent ws → NodesHeard known p ns rest e → NodesHeard known p ns (ws ∷ rest) e
      quiet s later =
          record {
            nodes = later.nodes;
            arcs = later.arcs;
            say = silent_nodes ws rest later.nodes later.arcs s later.say;
            count = later.count;
            is = later.is;
            fresh = later.fresh;
            distinct = later.distinct;
            within = later.within;
            arcs_within = later.arcs_within;
          }

      one_more : (m : NodeLine) → SaysNode ws m → node_asked known (n + 1) (draft p ns [] 0) m.id m.flow ≡ None → NodesHeard known p (ns ++ (node_of m ∷ [])) rest e → NodesHeard known p ns (ws ∷ rest) e
      one_more m s passed later =
          let alone : Document = record { sites = p.sites; nodes = []; arcs = [] } in
          let joined = append_assoc ns (node_of m ∷ []) (map node_of later.nodes) in
          record {
            nodes = m ∷ later.nodes;
            arcs = later.arcs;
            say = inr (s, later.say);
            count = later.count;
            is = later.is ∙ ap (λ l. draft p l (map arc_of later.arcs) (length later.arcs)) joined;
            fresh = ((node_passed alone p refl ns [] known (n + 1) m passed).1, All-weaker (λ l. taken (ns ++ (node_of m ∷ [])) l.id ≡ false) (λ l. taken ns l.id ≡ false) (λ l t. (fresh_from ns m l.id t).0) later.nodes later.fresh);
            distinct = (All-weaker (λ l. taken (ns ++ (node_of m ∷ [])) l.id ≡ false) (λ l. m.id ≡ l.id → ⊥) (λ l t. (fresh_from ns m l.id t).1) later.nodes later.fresh, later.distinct);
            within = λ doc sites. ((node_passed doc p sites ns [] known (n + 1) m passed).0, later.within doc sites);
            arcs_within = λ doc sites nodes. later.arcs_within doc sites (nodes ∙ sym joined);
          }

      first_arc : (a : ArcLine) → SaysArc ws a → arc_asked (n + 1) (draft p ns [] 0) a.from a.to a.low a.cap a.cost ≡ None → ArcsHeard p ns (arc_of a ∷ []) 1 rest e → NodesHeard known p ns (ws ∷ rest) e
      first_arc a s passed later =
          let c = later.count in
          let one : 1 + length later.arcs ≡ suc (length later.arcs) = omega arith in
          record {
            nodes = [];
            arcs = a ∷ later.arcs;
            say = inr (s, later.say);
            count = c ∙ one;
            is = later.is ∙ ap (draft p ns (arc_of a ∷ map arc_of later.arcs)) one ∙ ap (λ l. draft p l (arc_of a ∷ map arc_of later.arcs) (suc (length later.arcs))) (sym (append-nil ns));
            fresh = tt;
            distinct = tt;
            within = λ doc sites. tt;
            arcs_within = λ doc sites nodes. let all = nodes ∙ append-nil ns in (arc_passed doc p sites ns [] all (n + 1) 0 a passed, later.within doc sites all);
          }

      go : (r : Result Line Refusal) → said (n + 1) ws ≡ r → then (then r (entered known (n + 1) (draft p ns [] 0))) (λ d. scanned_from known (n + 1) d rest) ≡ Ok e → ((ns : List the_node.Node) → scanned_from known (n + 1) (draft p ns [] 0) rest ≡ Ok e → NodesHeard known p ns rest e) → NodesHeard known p ns (ws ∷ rest) e
      go (Ok Blank) is h more = quiet (says (n + 1) ws Blank is) (more ns h)
      go (Ok Comment) is h more = quiet (says (n + 1) ws Comment is) (more ns h)
      go (Ok (Problem q)) is h more = absurd (never h)
      go (Ok (Node m)) is h more =
          let w = went (node_asked known (n + 1) (draft p ns [] 0) m.id m.flow) (with_node (draft p ns [] 0) m.id m.flow) e (λ d. scanned_from known (n + 1) d rest) h in
          one_more (record { id = m.id; flow = m.flow }) (says (n + 1) ws (Node m) is) w.0 (more _ w.1)
      go (Ok (Arc a)) is h more =
          let w = went (arc_asked (n + 1) (draft p ns [] 0) a.from a.to a.low a.cap a.cost) (with_arc (draft p ns [] 0) a.from a.to a.cost) e (λ d. scanned_from known (n + 1) d rest) h in
          first_arc (record { from = a.from; to = a.to; low = a.low; cap = a.cap; cost = a.cost }) (says (n + 1) ws (Arc a) is) w.0 (arcs_heard known p short e rest (n + 1) ns _ 1 (omega arith) w.1)
      go (Err r) is h more = absurd (never h)

-- The lines of a whole file say a document.
pub record Heard (known : ℕ → Bool) (rows : Rows) (e : Draft) : Type 0 where
  pub doc : Document
  pub say : Say rows doc
  pub within : Within known doc
  pub reads : Reads e doc

pub heard : (known : ℕ → Bool) (e : Draft) (rows : Rows) (n : ℕ) → scanned_from known n nothing rows ≡ Ok e → Heard known rows e
heard known e [] n h = absurd (never h)
heard known e (ws ∷ rest) n h = go (said (n + 1) ws) refl h (heard known e rest (n + 1))
  where
    quiet : Silent ws → Heard known rest e → Heard known (ws ∷ rest) e
    quiet s later = record { doc = later.doc; say = inl (s, later.say); within = later.within; reads = later.reads }

    begun : (sites arcs : ℕ) → SaysProblem ws sites arcs → Sized sites arcs → NodesHeard known (record { sites = sites; arcs = arcs }) [] rest e → Heard known (ws ∷ rest) e
    begun sites arcs s size later =
        let whole : Document = record { sites = sites; nodes = later.nodes; arcs = later.arcs } in
        let all = later.is in
        let c = later.count in
        let most = size.short in
        record {
          doc = whole;
          say = inr (subst (SaysProblem ws sites) c s, later.say);
          within = record { some = size.some; few = size.few; short = omega arith; nodes = later.within whole refl; distinct = later.distinct; arcs = later.arcs_within whole refl refl };
          reads = record {
            problem = ap (λ d. d.problem) all ∙ ap (λ k. Some (record { sites = sites; arcs = k })) c;
            nodes = ap (λ d. d.nodes) all;
            arcs = ap (λ d. d.arcs) all;
            lines = ap (λ d. d.lines) all;
          };
        }

    go : (r : Result Line Refusal) → said (n + 1) ws ≡ r → then (then r (entered known (n + 1) nothing)) (λ d. scanned_from known (n + 1) d rest) ≡ Ok e → (scanned_from known (n + 1) nothing rest ≡ Ok e → Heard known rest e) → Heard known (ws ∷ rest) e
    go (Ok Blank) is h more = quiet (says (n + 1) ws Blank is) (more h)
    go (Ok Comment) is h more = quiet (says (n + 1) ws Comment is) (more h)
    go (Ok (Problem p)) is h more =
        let w = went (problem_asked (n + 1) nothing p.is_min p.sites p.arcs) (with_problem nothing p.sites p.arcs) e (λ d. scanned_from known (n + 1) d rest) h in
        let passed = problem_passed (n + 1) p.is_min p.sites p.arcs w.0 in
        begun p.sites p.arcs (says (n + 1) ws (Problem p) is passed.0) passed.1 (nodes_heard known (record { sites = p.sites; arcs = p.arcs }) passed.1.short e rest (n + 1) [] w.1)
    go (Ok (Node m)) is h more = absurd (never h)
    go (Ok (Arc a)) is h more = absurd (never h)
    go (Err r) is h more = absurd (never h)
