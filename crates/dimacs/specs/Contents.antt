-- What a draft of the code holds.
use Rattle.std.specs.Prelude.{List, Ok, Err, Result}
use Rattle.bounded.specs.Items.{items}
use Rattle.dimacs.specs.declared.document.Node.{Node}
use Rattle.dimacs.specs.declared.draft.Draft as held
use Rattle.dimacs.specs.declared.draft.nodes.Nodes.{Nodes}
use Rattle.reader.specs.declared.refusal.Refusal.{Refusal}
use Rattle.dimacs.specs.Scan.{Draft}

abbrev pub nodes_in : Nodes → List Node
nodes_in ns = items ns.list

abbrev pub draft_of : held.Draft → Draft
draft_of d = record { problem = d.problem; nodes = nodes_in d.nodes; arcs = items d.arcs; lines = d.lines }

-- a call on a draft, by what the draft holds after it
abbrev pub left_by : {A : Type 0} → Result A Refusal → Draft → Result Draft Refusal
left_by (Ok x) after = Ok after
left_by (Err e) after = Err e

-- the draft that a file gave
abbrev pub given_by : Result held.Draft Refusal → Result Draft Refusal
given_by (Ok d) = Ok (draft_of d)
given_by (Err e) = Err e
