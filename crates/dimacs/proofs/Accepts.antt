-- A document within the limits is taken, line by line.
use Rattle.std.proofs.Common.{◌≡◌, ℕ, ◌+◌, ◌<◌, Bool, true, false, cond, ltb, List, [], ◌∷◌, ◌++◌, map, length, None, Ok, sym, refl, ap, ◌∙◌, inl, inr, arith}
use Rattle.std.proofs.lemmas.Grind.{common_steps}
use Rattle.std.specs.List.{AllByRecursion}
use Rattle.std.proofs.lemmas.List.{append-nil, append_assoc}
use Rattle.audit.specs.Questions.{outcome}
use Rattle.dimacs.specs.declared.document.Problem as the_problem
use Rattle.dimacs.specs.declared.document.Node as the_node
use Rattle.dimacs.specs.declared.document.Arc as the_arc
use Rattle.dimacs.specs.Layout.{ArcLine, ArcWithin, Distinct, Document, NodeLine, NodeWithin, Say, SayArcs, SayNodes, SaysArc, SaysNode, SaysProblem, Within, arc_of, node_of, nodes_of}
use Rattle.dimacs.specs.Scan.{Draft, arc_asked, entered, node_asked, nothing, problem_asked, row_entered, scanned_from, taken, then, with_arc, with_node, with_problem}
use Rattle.dimacs.proofs.Drafts.{Rows, draft, draft_arc, draft_end, finishes, silent_entered, taken_push}
use Rattle.dimacs.proofs.Questions.{arc_passes, node_passes, problem_passes}
use Rattle.dimacs.proofs.Sayings.{arc_is_said, node_is_said, problem_is_said}

-- nodes that are not among these, nor one more
all_fresh : (ns : List the_node.Node) (m : NodeLine) (ls : List NodeLine) → AllByRecursion (λ l. taken ns l.id ≡ false) ls → AllByRecursion (λ l. m.id ≡ l.id → ⊥) ls → AllByRecursion (λ l. taken (ns ++ (node_of m ∷ [])) l.id ≡ false) ls
all_fresh ns m [] free other = tt
all_fresh ns m (l ∷ ls) free other =
    (grind (arith, common_steps, taken_push ns (node_of m) l.id, free.0, other.0), all_fresh ns m ls free.1 other.1)

none_taken : (ls : List NodeLine) → AllByRecursion (λ l. taken [] l.id ≡ false) ls
none_taken [] = tt
none_taken (l ∷ ls) = (refl, none_taken ls)

module _ (known : ℕ → Bool) where
  -- one line on
  next : (n : ℕ) (d e : Draft) (ws : List (List ℕ)) (rest : Rows) → row_entered known (n + 1) d ws ≡ Ok e → scanned_from known n d (ws ∷ rest) ≡ scanned_from known (n + 1) e rest
  next n d e ws rest is = ap (λ r. then r (λ f. scanned_from known (n + 1) f rest)) is

  -- what a line that says something makes of the draft
  module _ (line : ℕ) (d : Draft) (ws : List (List ℕ)) where
    problem_entered : (sites arcs : ℕ) → SaysProblem ws sites arcs → problem_asked line d true sites arcs ≡ None → row_entered known line d ws ≡ Ok (with_problem d sites arcs)
    problem_entered sites arcs s passed = ap (λ r. then r (entered known line d)) (problem_is_said line ws sites arcs s) ∙ ap (λ q. outcome q (with_problem d sites arcs)) passed

    node_entered : (m : NodeLine) → SaysNode ws m → node_asked known line d m.id m.flow ≡ None → row_entered known line d ws ≡ Ok (with_node d m.id m.flow)
    node_entered m s passed = ap (λ r. then r (entered known line d)) (node_is_said line ws m s) ∙ ap (λ q. outcome q (with_node d m.id m.flow)) passed

    arc_entered : (a : ArcLine) → SaysArc ws a → arc_asked line d a.from a.to a.low a.cap a.cost ≡ None → row_entered known line d ws ≡ Ok (with_arc d a.from a.to a.cost)
    arc_entered a s passed = ap (λ r. then r (entered known line d)) (arc_is_said line ws a s) ∙ ap (λ q. outcome q (with_arc d a.from a.to a.cost)) passed

  module _ (doc : Document) (fits : Within known doc) where
    abbrev p : the_problem.Problem
    p = record { sites = doc.sites; arcs = length doc.arcs }

    abbrev ns : List the_node.Node
    ns = nodes_of doc

    -- arcs after all the nodes
    arcs_taken : (rows : Rows) (n : ℕ) (xs : List the_arc.Arc) (k : ℕ) (arcs : List ArcLine) → SayArcs rows arcs → AllByRecursion (ArcWithin doc) arcs → length doc.arcs ≡ k + length arcs → scanned_from known n (draft p ns xs k) rows ≡ Ok (draft p ns (xs ++ map arc_of arcs) (k + length arcs))
    arcs_taken [] n xs k [] say within count = finishes p ns (n + 1) xs k (omega arith) ∙ ap Ok (draft_end p ns xs k)
    arcs_taken [] n xs k (a ∷ arcs) say within count = absurd say
    arcs_taken (ws ∷ rest) n xs k [] say within count =
        next n (draft p ns xs k) (draft p ns xs k) ws rest (silent_entered known (n + 1) (draft p ns xs k) ws say.0) ∙ arcs_taken rest (n + 1) xs k [] say.1 within count
    arcs_taken (ws ∷ rest) n xs k (a ∷ arcs) say within count =
        let d = draft p ns xs k in
        let short = fits.short in
        let room : k < 2000 = omega arith in
        let passes = arc_passes doc p refl ns xs refl (n + 1) k a within.0 in
        elim say [
          | inl s ↦ next n d d ws rest (silent_entered known (n + 1) d ws s.0) ∙ arcs_taken rest (n + 1) xs k (a ∷ arcs) s.1 within count
          | inr s ↦ next n d _ ws rest (arc_entered (n + 1) d ws a s.0 passes) ∙ arcs_taken rest (n + 1) (cond (ltb k 2000) (xs ++ (arc_of a ∷ [])) xs) (k + 1) arcs s.1 within.1 (omega arith) ∙ ap Ok (draft_arc p ns xs (map arc_of arcs) (arc_of a) k (length arcs) room)
        ]

    -- nodes, and then arcs
    nodes_taken : (rows : Rows) (n : ℕ) (so_far : List the_node.Node) (nodes : List NodeLine) (arcs : List ArcLine) → SayNodes rows nodes arcs → so_far ++ map node_of nodes ≡ ns → AllByRecursion (NodeWithin known doc) nodes → Distinct nodes → AllByRecursion (λ m. taken so_far m.id ≡ false) nodes → AllByRecursion (ArcWithin doc) arcs → length doc.arcs ≡ length arcs → scanned_from known n (draft p so_far [] 0) rows ≡ Ok (draft p ns (map arc_of arcs) (length arcs))
    nodes_taken rows n so_far [] arcs say all within distinct free arcs_within count =
        let same : 0 + length arcs ≡ length arcs = omega arith in
        ap (λ l. scanned_from known n (draft p l [] 0) rows) (sym (append-nil so_far) ∙ all) ∙ arcs_taken rows n [] 0 arcs (only_arcs rows say) arcs_within (omega arith) ∙ ap (λ k. Ok (draft p ns (map arc_of arcs) k)) same
      where
        only_arcs : (rows : Rows) → SayNodes rows [] arcs → SayArcs rows arcs
        only_arcs [] s = s
        only_arcs (ws ∷ rest) s = s
    nodes_taken [] n so_far (m ∷ nodes) arcs say all within distinct free arcs_within count = absurd say
    nodes_taken (ws ∷ rest) n so_far (m ∷ nodes) arcs say all within distinct free arcs_within count =
        let d = draft p so_far [] 0 in
        let passes = node_passes doc p refl so_far [] known (n + 1) m within.0 free.0 in
        elim say [
          | inl s ↦ next n d d ws rest (silent_entered known (n + 1) d ws s.0) ∙ nodes_taken rest (n + 1) so_far (m ∷ nodes) arcs s.1 all within distinct free arcs_within count
          | inr s ↦ next n d _ ws rest (node_entered (n + 1) d ws m s.0 passes) ∙ nodes_taken rest (n + 1) (so_far ++ (node_of m ∷ [])) nodes arcs s.1 (append_assoc so_far (node_of m ∷ []) (map node_of nodes) ∙ all) within.1 distinct.1 (all_fresh so_far m nodes free.1 distinct.0) arcs_within count
        ]

    -- the whole document
    pub document_taken : (rows : Rows) (n : ℕ) → Say rows doc → scanned_from known n nothing rows ≡ Ok (draft p ns (map arc_of doc.arcs) (length doc.arcs))
    document_taken [] n say = absurd say
    document_taken (ws ∷ rest) n say =
        let passes = problem_passes (n + 1) true doc.sites (length doc.arcs) refl (record { some = fits.some; few = fits.few; short = fits.short }) in
        elim say [
          | inl s ↦ next n nothing nothing ws rest (silent_entered known (n + 1) nothing ws s.0) ∙ document_taken rest (n + 1) s.1
          | inr s ↦ next n nothing _ ws rest (problem_entered (n + 1) nothing ws doc.sites (length doc.arcs) s.0 passes) ∙ nodes_taken rest (n + 1) [] doc.nodes doc.arcs s.1 refl fits.nodes fits.distinct (none_taken doc.nodes) fits.arcs refl
        ]
