-- A load accepts a file exactly when it says a document within the limits.
use Rattle.std.proofs.Common.{◌≡◌, ℕ, ◌-◌, ◌≤◌, Bool, true, List, [], ◌∷◌, map, length, get_or, Ok, Err, sym, refl, ap, ◌∙◌, subst, arith}
use Rattle.std.proofs.lemmas.Grind.{common_steps}
use Rattle.std.proofs.lemmas.Bool.{cond-true}
use Rattle.reader.specs.declared.refusal.Fault.TheVariants.{FileForm}
use Rattle.dimacs.specs.Layout.{Document, Exact, LawfulFile, Reads, Row, Say, text, words_of}
use Rattle.reader.specs.Refusals.{refused}
use Rattle.dimacs.specs.Scan.{Draft, nothing, scanned, scanned_from, well_formed}
use Rattle.reader.specs.Words.{rows}
use Rattle.dimacs.proofs.Accepted.{Heard, heard}
use Rattle.dimacs.proofs.Accepts.{document_taken}
use Rattle.dimacs.proofs.Layouts.{Laid, laid, rows_text, text_ends}

module _ (known : ℕ → Bool) where
  -- what a scan heard, said by the file's bytes
  lawful : (bs : List ℕ) (d : Draft) → length bs ≤ 65536 → Laid bs → Heard known (rows bs) d → (doc : Document) × LawfulFile known bs doc × Reads d doc
  lawful bs d size l h =
      let read = ap rows (sym l.written) ∙ rows_text l.rows l.formed in
      let said = subst (λ r. Say r h.doc) read h.say in
      (h.doc, record { size = size; follows = record { rows = l.rows; formed = l.formed; written = l.written; says = said }; within = h.within }, h.reads)

  -- a file that is not refused at once is lines
  lines_of : (bs : List ℕ) → get_or bs (length bs - 1) 0 ≡ 10 → Laid bs
  lines_of [] ends = absurd (omega arith)
  lines_of (b ∷ bs) ends = laid b bs ends

  accepted_is : (bs : List ℕ) (d : Draft) → scanned known bs ≡ Ok d → (doc : Document) × LawfulFile known bs doc × Reads d doc
  accepted_is bs d e =
      let size : length bs ≤ 65536 = grind (arith, common_steps) in
      let ends : get_or bs (length bs - 1) 0 ≡ 10 = grind (arith, common_steps) in
      let says : scanned_from known 0 nothing (rows bs) ≡ Ok d = grind (arith, common_steps) in
      lawful bs d size (lines_of bs ends) (heard known d (rows bs) 0 says)

  -- lines that say something are a file that ends with byte 10
  ends_of : (rs : List Row) (doc : Document) → Say (map words_of rs) doc → get_or (text rs) (length (text rs) - 1) 0 ≡ 10
  ends_of [] doc say = absurd say
  ends_of (r ∷ rs) doc say = text_ends r rs

  accepts_it : (bs : List ℕ) (doc : Document) → LawfulFile known bs doc → (d : Draft) × (scanned known bs ≡ Ok d) × Reads d doc
  accepts_it bs doc l =
      let f = l.follows in
      let ends = ap (λ s. get_or s (length s - 1) 0) (sym f.written) ∙ ends_of f.rows doc f.says in
      let size = l.size in
      let form : well_formed bs ≡ true = grind (arith, common_steps) in
      let read = ap rows (sym f.written) ∙ rows_text f.rows f.formed in
      let taken = document_taken known doc l.within (map words_of f.rows) 0 f.says in
      (_, cond-true (well_formed bs) (scanned_from known 0 nothing (rows bs)) (Err (refused FileForm 0 0)) form ∙ ap (scanned_from known 0 nothing) read ∙ taken, record { problem = refl; nodes = refl; arcs = refl; lines = refl })

pub exact : (known : ℕ → Bool) (bs : List ℕ) → Exact known bs (scanned known bs)
exact known bs = record { accepted = accepted_is known bs; accepts = accepts_it known bs }
