-- The layout of a file in its own terms: a document is a problem, its nodes and its arcs, and its text is lines of words.
use Rattle.std.specs.Prelude.{◌≡◌, ℕ, ◌<◌, ◌≤◌, Bool, true, ◌⊎◌, List, [], ◌∷◌, ◌++◌, map, length, replicate, ℤ, Some, Ok, Result, ◌≢◌}
use Rattle.std.specs.List.{AllByRecursion}
use Rattle.audit.specs.Questions.{allowed}
use Rattle.dimacs.specs.declared.document.Node as the_node
use Rattle.dimacs.specs.declared.document.Arc as the_arc
use Rattle.reader.specs.declared.refusal.Refusal.{Refusal}
use Rattle.reader.specs.Numbers.{numeral, flow_of}
use Rattle.dimacs.specs.Scan.{Draft, supply}

-- A word has a byte or more, and neither a space nor a line's end among them.
pub record IsWord (w : List ℕ) : Type 0 where
  pub some : 0 < length w
  pub unbroken : AllByRecursion (λ b. (b ≢ 32) × (b ≢ 10)) w

-- a word, and how many spaces stand in front of it
pub record Spaced : Type 0 where
  pub gap : ℕ
  pub word : List ℕ

-- a line: its words, and how many spaces stand at its end
pub record Row : Type 0 where
  pub words : List Spaced
  pub end : ℕ

-- words after the first stand apart
abbrev pub Apart : List Spaced → Type 0
Apart [] = Unit {0}
Apart (s ∷ ss) = AllByRecursion (λ t. 1 ≤ t.gap) ss

pub record Formed (r : Row) : Type 0 where
  pub each : AllByRecursion (λ s. IsWord s.word) r.words
  pub apart : Apart r.words

abbrev pub spelled : List Spaced → ℕ → List ℕ
spelled [] end = replicate end 32
spelled (s ∷ ss) end = replicate s.gap 32 ++ (s.word ++ spelled ss end)

-- the text of lines, each ended by byte 10
abbrev pub text : List Row → List ℕ
text [] = []
text (r ∷ rs) = spelled r.words r.end ++ (10 ∷ text rs)

abbrev pub words_of : Row → List (List ℕ)
words_of r = map (λ (s : Spaced). s.word) r.words

-- n ID FLOW, and a SRC DST LOW CAP COST
pub record NodeLine : Type 0 where
  pub id : ℕ
  pub flow : ℤ

pub record ArcLine : Type 0 where
  pub from : ℕ
  pub to : ℕ
  pub low : ℕ
  pub cap : ℕ
  pub cost : ℕ

-- What a file says: N, its nodes and its arcs, in their order.
pub record Document : Type 0 where
  pub sites : ℕ
  pub nodes : List NodeLine
  pub arcs : List ArcLine

-- A line without words and a comment say nothing; c is byte 99.
abbrev pub Silent : List (List ℕ) → Type 0
Silent [] = Unit {0}
Silent (w ∷ ws) = w ≡ 99 ∷ []

-- p min N ARCS
pub record SaysProblem (ws : List (List ℕ)) (sites arcs : ℕ) : Type 0 where
  pub first : List ℕ
  pub second : List ℕ
  pub words : ws ≡ (112 ∷ []) ∷ (109 ∷ 105 ∷ 110 ∷ []) ∷ first ∷ second ∷ []
  pub says_sites : numeral first ≡ Some sites
  pub says_arcs : numeral second ≡ Some arcs

-- n ID FLOW
pub record SaysNode (ws : List (List ℕ)) (n : NodeLine) : Type 0 where
  pub first : List ℕ
  pub second : List ℕ
  pub words : ws ≡ (110 ∷ []) ∷ first ∷ second ∷ []
  pub says_id : numeral first ≡ Some n.id
  pub says_flow : flow_of second ≡ Some n.flow

-- a SRC DST LOW CAP COST
pub record SaysArc (ws : List (List ℕ)) (a : ArcLine) : Type 0 where
  pub first : List ℕ
  pub second : List ℕ
  pub third : List ℕ
  pub fourth : List ℕ
  pub fifth : List ℕ
  pub words : ws ≡ (97 ∷ []) ∷ first ∷ second ∷ third ∷ fourth ∷ fifth ∷ []
  pub says_from : numeral first ≡ Some a.from
  pub says_to : numeral second ≡ Some a.to
  pub says_low : numeral third ≡ Some a.low
  pub says_cap : numeral fourth ≡ Some a.cap
  pub says_cost : numeral fifth ≡ Some a.cost

-- the lines say these arcs, one after another, with silent lines between
abbrev pub SayArcs : List (List (List ℕ)) → List ArcLine → Type 0
SayArcs [] [] = Unit {0}
SayArcs [] (a ∷ as') = ⊥
SayArcs (ws ∷ rest) [] = Silent ws × SayArcs rest []
SayArcs (ws ∷ rest) (a ∷ as') = (Silent ws × SayArcs rest (a ∷ as')) ⊎ (SaysArc ws a × SayArcs rest as')

-- these nodes, and then these arcs
abbrev pub SayNodes : List (List (List ℕ)) → List NodeLine → List ArcLine → Type 0
SayNodes [] [] as' = SayArcs [] as'
SayNodes [] (n ∷ ns) as' = ⊥
SayNodes (ws ∷ rest) [] as' = SayArcs (ws ∷ rest) as'
SayNodes (ws ∷ rest) (n ∷ ns) as' = (Silent ws × SayNodes rest (n ∷ ns) as') ⊎ (SaysNode ws n × SayNodes rest ns as')

-- the whole document: the problem first, which counts the arcs
abbrev pub Say : List (List (List ℕ)) → Document → Type 0
Say [] doc = ⊥
Say (ws ∷ rest) doc = (Silent ws × Say rest doc) ⊎ (SaysProblem ws doc.sites (length doc.arcs) × SayNodes rest doc.nodes doc.arcs)

-- The bytes follow the layout, and say the document.
pub record Follows (bs : List ℕ) (doc : Document) : Type 0 where
  pub rows : List Row
  pub formed : AllByRecursion Formed rows
  pub written : text rows ≡ bs
  pub says : Say (map words_of rows) doc

-- a node and an arc as a load takes them
abbrev pub node_of : NodeLine → the_node.Node
node_of n = record { id = n.id; flow = n.flow }

abbrev pub arc_of : ArcLine → the_arc.Arc
arc_of a = record { from = a.from; to = a.to; cost = a.cost }

abbrev pub nodes_of : Document → List the_node.Node
nodes_of doc = map node_of doc.nodes

abbrev pub Distinct : List NodeLine → Type 0
Distinct [] = Unit {0}
Distinct (n ∷ ns) = AllByRecursion (λ m. n.id ≢ m.id) ns × Distinct ns

-- an id is a site of the document
pub record OnSite (doc : Document) (id : ℕ) : Type 0 where
  pub low : 1 ≤ id
  pub high : id ≤ doc.sites

-- What a node and an arc have to keep to.
pub record NodeWithin (known : ℕ → Bool) (doc : Document) (n : NodeLine) : Type 0 where
  pub site : OnSite doc n.id
  pub flow : allowed n.flow ≡ true
  pub knows : known n.id ≡ true

pub record ArcWithin (doc : Document) (a : ArcLine) : Type 0 where
  pub from : OnSite doc a.from
  pub to : OnSite doc a.to
  pub low : a.low ≡ 0
  pub cap : supply (nodes_of doc) ≤ a.cap
  pub cost : a.cost ≤ 4000000

-- The limits of a document.
pub record Within (known : ℕ → Bool) (doc : Document) : Type 0 where
  pub some : 1 ≤ doc.sites
  pub few : doc.sites ≤ 64
  pub short : length doc.arcs ≤ 2000
  pub nodes : AllByRecursion (NodeWithin known doc) doc.nodes
  pub distinct : Distinct doc.nodes
  pub arcs : AllByRecursion (ArcWithin doc) doc.arcs

-- what a load reads of a document
pub record Reads (d : Draft) (doc : Document) : Type 0 where
  pub problem : d.problem ≡ Some (record { sites = doc.sites; arcs = length doc.arcs })
  pub nodes : d.nodes ≡ nodes_of doc
  pub arcs : d.arcs ≡ map arc_of doc.arcs
  pub lines : d.lines ≡ length doc.arcs

-- A file of at most 65,536 bytes that says a document within the limits.
pub record LawfulFile (known : ℕ → Bool) (bs : List ℕ) (doc : Document) : Type 0 where
  pub size : length bs ≤ 65536
  pub follows : Follows bs doc
  pub within : Within known doc

-- A file is accepted exactly when it says a document within the limits, and that document is then what was read.
pub record Exact (known : ℕ → Bool) (bs : List ℕ) (r : Result Draft Refusal) : Type 0 where
  pub accepted : (d : Draft) → r ≡ Ok d → (doc : Document) × LawfulFile known bs doc × Reads d doc
  pub accepts : (doc : Document) → LawfulFile known bs doc → (d : Draft) × (r ≡ Ok d) × Reads d doc
