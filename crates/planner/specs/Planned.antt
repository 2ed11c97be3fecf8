-- What a plan is: wires from sources to sinks in their order, and marks that show its area least.
use Rattle.std.specs.Prelude.{◌≡◌, ℕ, ◌+◌, ◌-◌, ◌≤◌, Bool, true, false, cond, ◌&&◌, ◌||◌, List, [], ◌∷◌, map, pos, neg_ℤ, ◌<ℤ◌, Some, None, Option, ◌==◌, int_lt, nat_lt}
use Rattle.std.specs.List.{AllByRecursion}
use Rattle.bounded.specs.Items.{items}
use Rattle.ruler.specs.Meaning.{Meaning}
use Rattle.wires.specs.declared.terminal.Terminal.{Terminal}
use Rattle.wires.specs.declared.wire.Wire.{Wire}
use Rattle.wires.specs.Sums.{total}
use Rattle.wires.specs.Wiring.{area}
use Rattle.audit.specs.Audit.{row_at, mark_at, marks_fit, marks_reach}
use Rattle.planner.specs.declared.plan.Link.{Link}
use Rattle.planner.specs.declared.plan.Plan.{Plan}

-- the planned wires, in their order
abbrev pub links_of : Plan → List Link
links_of p = items p.links

-- the site and the mark of an id
abbrev pub site_of_row : Option Terminal → ℕ
site_of_row (Some t) = t.site
site_of_row None = 0

abbrev pub site_of : List (Option Terminal) → ℕ → ℕ
site_of rows id = site_of_row (row_at rows (id - 1))

abbrev pub mark_of : List ℕ → ℕ → ℕ
mark_of marks id = mark_at marks (id - 1)

-- a planned wire with each id standing for the site in its row
abbrev pub laid : List (Option Terminal) → Link → Wire
laid rows l = record { start = site_of rows l.from; end = site_of rows l.to; current = l.current }

abbrev pub wires_of : List (Option Terminal) → List Link → List Wire
wires_of rows ls = map (laid rows) ls

-- a row that gives current, and one that takes it
abbrev pub is_source : Option Terminal → Bool
is_source (Some t) = int_lt (pos 0) t.current
is_source None = false

abbrev pub is_sink : Option Terminal → Bool
is_sink (Some t) = int_lt t.current (pos 0)
is_sink None = false

-- it goes from a source to a sink and carries at least 1
pub record Runs (rows : List (Option Terminal)) (l : Link) : Type 0 where
  pub from_source : is_source (row_at rows (l.from - 1)) ≡ true
  pub to_sink : is_sink (row_at rows (l.to - 1)) ≡ true
  pub from_1 : 1 ≤ l.from
  pub to_1 : 1 ≤ l.to
  pub carries : 1 ≤ l.current

-- ascending by from id, and then by to id: so there is at most one wire for a pair
abbrev pub before : Link → Link → Bool
before a b = nat_lt a.from b.from || (a.from == b.from && nat_lt a.to b.to)

abbrev pub Ascending : List Link → Type 0
Ascending [] = Unit {0}
Ascending (a ∷ []) = Unit {0}
Ascending (a ∷ b ∷ ls) = (before a b ≡ true) × Ascending (b ∷ ls)

-- what an id sends, and what it receives
abbrev pub sent : List Link → ℕ → ℕ
sent ls id = total (λ l. cond (l.from == id) l.current 0) ls

abbrev pub received : List Link → ℕ → ℕ
received ls id = total (λ l. cond (l.to == id) l.current 0) ls

-- Which least list a plan picks and which marks are undecided; these are their properties.
pub record Planned (m : Meaning) (rows : List (Option Terminal)) (p : Plan) : Type 0 where
  pub runs : AllByRecursion (Runs rows) (links_of p)
  pub order : Ascending (links_of p)
  -- every source sends exactly its current, and every sink receives exactly its own
  pub sends : (i : ℕ) (t : Terminal) → row_at rows i ≡ Some t → pos 0 <ℤ t.current → pos (sent (links_of p) (i + 1)) ≡ t.current
  pub receives : (i : ℕ) (t : Terminal) → row_at rows i ≡ Some t → t.current <ℤ pos 0 → pos (received (links_of p) (i + 1)) ≡ neg_ℤ t.current
  -- marks that audit accepts, and that rise by just the length along every wire
  pub fit : marks_fit rows p.marks ≡ None
  pub reach : marks_reach m rows p.marks ≡ None
  pub tight : AllByRecursion (λ l. mark_of p.marks l.to ≡ mark_of p.marks l.from + m.span (site_of rows l.from) (site_of rows l.to)) (links_of p)
  pub area_is : p.area ≡ area m (wires_of rows (links_of p))

-- what holds of a plan, where there is one
abbrev pub IfPlanned : Option Plan → (Plan → Type 0) → Type 0
IfPlanned (Some p) P = P p
IfPlanned None P = Unit {0}
