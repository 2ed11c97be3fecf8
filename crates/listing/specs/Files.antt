-- What a file is answered: the listing of its plan, or the line that says why it was refused.
use Rattle.std.specs.Prelude.{◌≡◌, ℕ, ◌⊎◌, List, [], ◌∷◌, ◌++◌, length, Some, Err, codes, decimal, Result}
use Rattle.ruler.specs.Map.{mapped}
use Rattle.ruler.specs.declared.map.Map.{Map}
use Rattle.audit.specs.declared.refusal.Refusal.TheVariants.{Unbalanced}
use Rattle.planner.specs.declared.plan.Plan as the_plan
use Rattle.sheet.specs.Answers.{ledger_of}
use Rattle.sheet.specs.Law.{Lawful}
use Rattle.sheet.specs.Ledger.{course, opened}
use Rattle.sheet.specs.Questions.{currents_balance}
use Rattle.sheet.specs.declared.call.Call.{Call}
use Rattle.sheet.specs.declared.call.Call.TheVariants.{Plan}
use Rattle.sheet.specs.declared.net.Net.{Net}
use Rattle.dimacs.specs.Layout.{Document, LawfulFile, nodes_of}
use Rattle.dimacs.specs.Loads.{Draws, anywhere, seats_of}
use Rattle.reader.specs.Refusals.{number_of, refused}
use Rattle.dimacs.specs.Scan.{scanned}
use Rattle.reader.specs.declared.refusal.Fault.TheVariants.{Terminal}
use Rattle.reader.specs.declared.refusal.Refusal as file
use Rattle.listing.specs.Listing.{filled, fitted, line_of, text_of}
use Rattle.listing.specs.declared.refusal.Refusal.{Refusal}

-- the calls of a document: a seat for each node, and a plan
abbrev pub calls_of : Document → List Call
calls_of doc = seats_of (nodes_of doc) ++ (Plan ∷ [])

-- The file says a document; over its map, the net is what a run of the document's calls comes to, and the law holds of it.
pub record Planned (bs : List ℕ) (map : Map) (net : Net) : Type 0 where
  pub doc : Document
  pub says : LawfulFile anywhere bs doc
  pub draws : Draws map doc
  pub ledger : ledger_of net ≡ course (mapped map) opened (calls_of doc)
  pub law : Lawful (mapped map) net
  pub plan : the_plan.Plan
  pub planned : net.plan ≡ Some plan

-- The file says a document whose currents do not sum to 0.
pub record Unplanned (bs : List ℕ) : Type 0 where
  pub doc : Document
  pub says : LawfulFile anywhere bs doc
  pub map : Map
  pub draws : Draws map doc
  pub unbalanced : currents_balance (course (mapped map) opened (seats_of (nodes_of doc))).rows ≡ Some Unbalanced

-- why a file was refused: by its test, or by plan, which names no line
abbrev pub Refused : List ℕ → file.Refusal → Type 0
Refused bs e = (scanned anywhere bs ≡ Err e) ⊎ (Unplanned bs × (e ≡ refused (Terminal Unbalanced) 0 0))

-- c refused NUMBER LINE WORD
abbrev pub refusal_line : ℕ → ℕ → ℕ → List ℕ
refusal_line number line word = line_of ((99 ∷ []) ∷ codes "refused" ∷ decimal number ∷ decimal line ∷ decimal word ∷ [])

abbrev pub refusal_text : file.Refusal → List ℕ
refusal_text e = refusal_line (number_of e.fault) e.line e.word

-- the text that a file is answered; which plan of least area it lists is undecided
abbrev pub Answers : List ℕ → List ℕ → Type 0
Answers bs text = ((map : Map) × (net : Net) × (p : Planned bs map net) × (text ≡ text_of p.plan)) ⊎ ((e : file.Refusal) × Refused bs e × (text ≡ refusal_text e))

-- the answer to a file in a buffer
pub record Replied (bs held : List ℕ) (r : Result ℕ Refusal) (after : List ℕ) : Type 0 where
  pub text : List ℕ
  pub answers : Answers bs text
  pub count : r ≡ fitted text (length held)
  pub holds : after ≡ filled text held
