-- A file tested line by line from the top: in a line the first no decides.
use Rattle.std.specs.Prelude.{ℕ, ◌+◌, ◌-◌, Bool, false, cond, not, ◌&&◌, List, [], ◌∷◌, ◌++◌, length, ℤ, pos, negsuc, is_some, Some, None, Ok, Err, Option, Result, sum_by, ◌==◌, nat_le, nat_lt, slice_index}
use Rattle.std.specs.List.{list_any}
use Rattle.ruler.specs.declared.refusal.Refusal.TheVariants.{LegTooLong}
use Rattle.audit.specs.declared.refusal.Refusal.TheVariants.{IdTaken, CurrentOutOfRange, SiteUnknown}
use Rattle.audit.specs.Questions.{allowed, ask, first_no, outcome}
use Rattle.dimacs.specs.declared.document.Problem as the_problem
use Rattle.dimacs.specs.declared.document.Node as the_node
use Rattle.dimacs.specs.declared.document.Arc as the_arc
use Rattle.reader.specs.declared.line.Line.{Line}
use Rattle.reader.specs.declared.line.Line.TheVariants.{Blank, Comment, Problem, Node, Arc}
use Rattle.reader.specs.declared.refusal.Fault.TheVariants.{FileForm, LineOrder, ProblemLine, SiteOutOfRange, ArcBounds, ArcCount, Terminal, Leg}
use Rattle.reader.specs.declared.refusal.Refusal.{Refusal}
use Rattle.reader.specs.Lines.{said}
use Rattle.reader.specs.Refusals.{refused}
use Rattle.reader.specs.Words.{rows}

-- What was read so far: the problem, the nodes, the first 2,000 arcs, and how many arcs there were.
pub record Draft : Type 0 where
  pub problem : Option the_problem.Problem
  pub nodes : List the_node.Node
  pub arcs : List the_arc.Arc
  pub lines : ℕ

abbrev pub nothing : Draft
nothing = record { problem = None; nodes = []; arcs = []; lines = 0 }

abbrev pub sites_of : Option the_problem.Problem → ℕ
sites_of (Some p) = p.sites
sites_of None = 0

-- an id is from 1 to N
abbrev pub on_site : Draft → ℕ → Bool
on_site d id = nat_le 1 id && nat_le id (sites_of d.problem)

-- a node with that id stands among these
abbrev pub taken : List the_node.Node → ℕ → Bool
taken ns id = list_any (λ n. n.id == id) ns

-- what a flow gives: a negative one nothing
abbrev pub gives : ℤ → ℕ
gives (pos n) = n
gives (negsuc n) = 0

-- the sum of the positive flows
abbrev pub supply : List the_node.Node → ℕ
supply ns = sum_by (λ n. gives n.flow) ns

-- p: no other p, then min, N from 1 to 64, at most 2,000 arcs
abbrev pub problem_asked : ℕ → Draft → Bool → ℕ → ℕ → Option Refusal
problem_asked line d is_min sites arcs =
    first_no (ask (not (is_some d.problem)) (refused LineOrder line 0) ∷ ask is_min (refused ProblemLine line 2) ∷ ask (nat_le 1 sites && nat_le sites 64) (refused ProblemLine line 3) ∷ ask (nat_le arcs 2000) (refused ProblemLine line 4) ∷ [])

-- n: a p above and no a, then its id, and what seat would ask of it
abbrev pub node_asked : (ℕ → Bool) → ℕ → Draft → ℕ → ℤ → Option Refusal
node_asked known line d id flow =
    first_no (ask (is_some d.problem && d.lines == 0) (refused LineOrder line 0) ∷ ask (on_site d id) (refused SiteOutOfRange line 2) ∷ ask (not (taken d.nodes id)) (refused (Terminal (IdTaken id)) line 0) ∷ ask (allowed flow) (refused (Terminal (CurrentOutOfRange id)) line 0) ∷ ask (known id) (refused (Terminal (SiteUnknown id)) line 0) ∷ [])

-- a: a p above, then its ends, its bounds, and what leg would ask of its length
abbrev pub arc_asked : ℕ → Draft → ℕ → ℕ → ℕ → ℕ → ℕ → Option Refusal
arc_asked line d from to low cap cost =
    first_no (ask (is_some d.problem) (refused LineOrder line 0) ∷ ask (on_site d from) (refused SiteOutOfRange line 2) ∷ ask (on_site d to) (refused SiteOutOfRange line 3) ∷ ask (low == 0) (refused ArcBounds line 4) ∷ ask (nat_le (supply d.nodes) cap) (refused ArcBounds line 5) ∷ ask (nat_le cost 4000000) (refused (Leg LegTooLong) line 0) ∷ [])

abbrev pub with_problem : Draft → ℕ → ℕ → Draft
with_problem d sites arcs =
    record { problem = Some (record { sites = sites; arcs = arcs }); nodes = d.nodes; arcs = d.arcs; lines = d.lines }

abbrev pub with_node : Draft → ℕ → ℤ → Draft
with_node d id flow =
    record { problem = d.problem; nodes = d.nodes ++ (record { id = id; flow = flow } ∷ []); arcs = d.arcs; lines = d.lines }

abbrev pub with_arc : Draft → ℕ → ℕ → ℕ → Draft
with_arc d from to cost =
    record {
      problem = d.problem;
      nodes = d.nodes;
      arcs = cond (nat_lt d.lines 2000) (d.arcs ++ (record { from = from; to = to; cost = cost } ∷ [])) d.arcs;
      lines = d.lines + 1;
    }

-- the draft after a line
abbrev pub entered : (ℕ → Bool) → ℕ → Draft → Line → Result Draft Refusal
entered known line d Blank = Ok d
entered known line d Comment = Ok d
entered known line d (Problem p) = outcome (problem_asked line d p.is_min p.sites p.arcs) (with_problem d p.sites p.arcs)
entered known line d (Node n) = outcome (node_asked known line d n.id n.flow) (with_node d n.id n.flow)
entered known line d (Arc a) = outcome (arc_asked line d a.from a.to a.low a.cap a.cost) (with_arc d a.from a.to a.cost)

-- goes on unless refused
abbrev pub then : {A B : Type 0} → Result A Refusal → (A → Result B Refusal) → Result B Refusal
then (Ok x) go = go x
then (Err e) go = Err e

-- the draft after a line of words
abbrev pub row_entered : (ℕ → Bool) → ℕ → Draft → List (List ℕ) → Result Draft Refusal
row_entered known line d ws = then (said line ws) (entered known line d)

-- At the end: there was a p, and ARCS lines of kind a.
abbrev pub complete : Option the_problem.Problem → ℕ → Bool
complete (Some p) lines = p.arcs == lines
complete None lines = false

abbrev pub finished : ℕ → Draft → Result Draft Refusal
finished line d = cond (complete d.problem d.lines) (Ok d) (Err (refused ArcCount line 0))

-- the lines after line n, down to the end
abbrev pub scanned_from : (ℕ → Bool) → ℕ → Draft → List (List (List ℕ)) → Result Draft Refusal
scanned_from known n d [] = finished (n + 1) d
scanned_from known n d (ws ∷ rest) = then (row_entered known (n + 1) d ws) (λ e. scanned_from known (n + 1) e rest)

-- A file has at most 65,536 bytes, and ends with byte 10.
abbrev pub well_formed : List ℕ → Bool
well_formed bs = nat_le (length bs) 65536 && slice_index bs (length bs - 1) == 10

-- What a file comes to: its contents, or the first refusal.
abbrev pub scanned : (ℕ → Bool) → List ℕ → Result Draft Refusal
scanned known bs = cond (well_formed bs) (scanned_from known 0 nothing (rows bs)) (Err (refused FileForm 0 0))
