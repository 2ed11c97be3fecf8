-- A file that a map was loaded from also fills a sheet over that map, and is planned unless its currents do not balance.
use Rattle.std.proofs.Common.{◌≡◌, ℕ, Bool, true, false, not, leb, List, [], ◌∷◌, pos, is_some, Some, None, Ok, Err, Option, Result, sym, refl, ap, ◌∙◌, inr, arith, le-leb}
use Rattle.std.specs.List.{AllByRecursion}
use Rattle.std.proofs.lemmas.Bool.{and_from}
use Rattle.ruler.specs.Cells.{knows}
use Rattle.ruler.specs.Map.{mapped}
use Rattle.ruler.specs.declared.map.Map.{Map}
use Rattle.wires.specs.Sums.{sum}
use Rattle.wires.specs.Wiring as wiring
use Rattle.audit.specs.Audit.{differ}
use Rattle.audit.specs.Questions.{ask, first_no}
use Rattle.audit.specs.declared.refusal.Refusal as why
use Rattle.audit.specs.declared.refusal.Refusal.TheVariants.{Unbalanced}
use Rattle.planner.specs.declared.plan.Plan as the_plan
use Rattle.sheet.specs.Answers.{ledger_of}
use Rattle.sheet.specs.Law.{Lawful}
use Rattle.sheet.specs.Ledger.{asked, course, fed, opened, unless, written}
use Rattle.sheet.specs.Questions.{bare, currents_balance}
use Rattle.sheet.specs.declared.call.Call.TheVariants.{Plan}
use Rattle.sheet.specs.declared.net.Net.{Net}
use Rattle.sheet.proofs.Courses.{course_push}
use Rattle.dimacs.specs.Layout.{Document, LawfulFile, NodeLine, NodeWithin, OnSite, nodes_of}
use Rattle.dimacs.specs.Loads.{Draws, LoadsMap, LoadsSheet, anywhere, seats_of}
use Rattle.reader.specs.Refusals.{refused}
use Rattle.reader.specs.declared.refusal.Fault.TheVariants.{Terminal}
use Rattle.reader.specs.declared.refusal.Refusal as file
use Rattle.listing.specs.Files.{Planned, Refused}

-- the map of a document knows its sites
map_knows : (map : Map) (doc : Document) (id : ℕ) → Draws map doc → OnSite doc id → knows map.sites id ≡ true
map_knows map doc id d s =
    ap (λ n. knows n id) d.count ∙ and_from (leb 1 id) (leb id doc.sites) (le-leb 1 id s.low) (le-leb id doc.sites s.high)

nodes_known : (map : Map) (doc : Document) (ns : List NodeLine) → Draws map doc → AllByRecursion (NodeWithin anywhere doc) ns → AllByRecursion (NodeWithin (mapped map).known doc) ns
nodes_known map doc [] d w = tt
nodes_known map doc (n ∷ ns) d (w, ws) =
    (record { site = w.site; flow = w.flow; knows = map_knows map doc n.id d w.site }, nodes_known map doc ns d ws)

known_file : (bs : List ℕ) (map : Map) (doc : Document) → LawfulFile anywhere bs doc → Draws map doc → LawfulFile (mapped map).known bs doc
known_file bs map doc f d =
    let w = f.within in
    record {
      size = f.size;
      follows = f.follows;
      within = record { some = w.some; few = w.few; short = w.short; nodes = nodes_known map doc doc.nodes d w.nodes; distinct = w.distinct; arcs = w.arcs };
    }

-- the plan that a planned net has
plan_of : {P : Type 0} (o : Option the_plan.Plan) → is_some o ≡ true → ((p : the_plan.Plan) → o ≡ Some p → P) → P
plan_of (Some p) e go = go p refl
plan_of None e go = absurd (clash e)
  where
    clash : false ≡ true → ⊥
    clash e = let z : ◌≡◌ {A = ℕ} 0 1 = cc in omega arith

-- what a file is answered where plan was asked: its refusal names no line
abbrev pub told : Option why.Refusal → Result (Unit {0}) file.Refusal
told None = Ok tt
told (Some r) = Err (refused (Terminal r) 0 0)

asked_none : (q : Option why.Refusal) → Ok tt ≡ told q → q ≡ None
asked_none None e = refl
asked_none (Some r) e = absurd (clash e)
  where
    clash : Ok tt ≡ told (Some r) → ⊥
    clash e = let z : ◌≡◌ {A = ℕ} 0 1 = cc in omega arith

asked_some : (q : Option why.Refusal) (e : file.Refusal) → Err e ≡ told q → (r : why.Refusal) × (q ≡ Some r) × (e ≡ refused (Terminal r) 0 0)
asked_some None e is = absurd (clash is)
  where
    clash : Err e ≡ told None → ⊥
    clash is = let z : ◌≡◌ {A = ℕ} 0 1 = cc in omega arith
asked_some (Some r) e is = let same : e ≡ refused (Terminal r) 0 0 = cc in (r, refl, same)

-- plan is refused by one question alone
one_no : (b : Bool) (r : why.Refusal) → first_no (ask b Unbalanced ∷ []) ≡ Some r → (ask b Unbalanced ≡ Some Unbalanced) × (r ≡ Unbalanced)
one_no true r e = absurd (clash e)
  where
    clash : None ≡ Some r → ⊥
    clash e = let z : ◌≡◌ {A = ℕ} 0 1 = cc in omega arith
one_no false r e = let same : Unbalanced ≡ r = cc in (refl, sym same)

module _ (bs : List ℕ) (map : Map) (before : Net) (opens : ledger_of before ≡ opened) (drawn : LoadsMap bs (Ok tt) map) where
  doc : Document
  doc = (drawn.accepted refl).0

  says : LawfulFile anywhere bs doc
  unfolding doc
  says = (drawn.accepted refl).1

  draws : Draws map doc
  unfolding doc
  draws = (drawn.accepted refl).2

  is_bare : bare before.table.rows ≡ true
  is_bare = ap (λ l. bare l.rows) opens

  module _ (r : Result (Unit {0}) file.Refusal) (after : Net) (loads : LoadsSheet (mapped map) bs r before after) where
    pub never_refused : r ≡ Ok tt
    never_refused = (loads.accepts is_bare doc (known_file bs map doc says draws)).0

    seated : ledger_of after ≡ course (mapped map) opened (seats_of (nodes_of doc))
    seated =
        (loads.accepts is_bare doc (known_file bs map doc says draws)).1.ledger ∙ ap (λ l. course (mapped map) l (seats_of (nodes_of doc))) opens

    pub plan_done : (last : Net) → Ok tt ≡ told (asked (mapped map) (ledger_of after) Plan) → ledger_of last ≡ fed (mapped map) (ledger_of after) Plan → Lawful (mapped map) last → Planned bs map last
    plan_done last answer ledger law =
        let none = asked_none (asked (mapped map) (ledger_of after) Plan) answer in
        let made = ledger ∙ ap (λ q. unless q (ledger_of after) (written (ledger_of after) Plan)) none in
        plan_of last.plan (ap (λ l. l.planned) made) (λ p is.
        record {
          doc = doc;
          says = says;
          draws = draws;
          ledger = ledger ∙ ap (λ l. fed (mapped map) l Plan) seated ∙ sym (course_push (mapped map) opened (seats_of (nodes_of doc)) Plan);
          law = law;
          plan = p;
          planned = is;
        })

    pub plan_refused : (e : file.Refusal) → Err e ≡ told (asked (mapped map) (ledger_of after) Plan) → Refused bs e
    plan_refused e answer =
        let rows = (ledger_of after).rows in
        let some = asked_some (asked (mapped map) (ledger_of after) Plan) e answer in
        let one = one_no (not (differ (sum (λ t. t.current) (wiring.seated rows)) (pos 0))) some.0 some.1 in
        inr (record { doc = doc; says = says; map = map; draws = draws; unbalanced = ap (λ l. currents_balance l.rows) (sym seated) ∙ one.0 }, some.2 ∙ ap (λ r. refused (Terminal r) 0 0) one.1)
