-- The map: sites 1 to n, one-way legs between them, and a ring that joins any two. What it means, in ways along the legs.
use Rattle.std.specs.Prelude.{◌≡◌, ℕ, ◌+◌, ◌-◌, ◌≤◌, true, cond, ◌&&◌, ◌⊎◌, List, [], ◌∷◌, Ok, Err, Result, nat_le}
use Rattle.ruler.specs.declared.refusal.Refusal.{Refusal}
use Rattle.ruler.specs.declared.refusal.Refusal.TheVariants.{SiteCount, RingOutOfRange, LegSite, LegTooLong}
use Rattle.ruler.specs.declared.map.Map.{Map}
use Rattle.ruler.specs.Cells.{cell, knows}
use Rattle.ruler.specs.Meaning.{Meaning}

-- It knows the sites 1 to n; site 1 has place 0 in its table.
abbrev pub mapped : Map → Meaning
mapped m = record { known = knows m.sites; span = λ a b. cell m.rows (a - 1) (b - 1) }

-- A leg leads one way.
pub record Leg : Type 0 where
  pub from : ℕ
  pub to : ℕ
  pub size : ℕ

abbrev pub In : Leg → List Leg → Type 0
In l [] = ⊥
In l (k ∷ ks) = (l ≡ k) ⊎ In l ks

abbrev pub AllIn : List Leg → List Leg → Type 0
AllIn legs [] = Unit {0}
AllIn legs (l ∷ ls) = In l legs × AllIn legs ls

-- the legs lead from a to b, head to tail
abbrev pub Leads : ℕ → List Leg → ℕ → Type 0
Leads a [] b = a ≡ b
Leads a (l ∷ ls) b = (l.from ≡ a) × Leads l.to ls b

abbrev pub total : List Leg → ℕ
total [] = 0
total (l ∷ ls) = l.size + total ls

-- A way from a to b is a chain of the map's legs; from a site to itself the empty one is 0 long.
pub record Way (legs : List Leg) (a b : ℕ) : Type 0 where
  pub path : List Leg
  pub among : AllIn legs path
  pub leads : Leads a path b

-- The smallest sum along a way, or the ring where that is smaller or no way exists.
pub record Shortest (legs : List Leg) (ring a b len : ℕ) : Type 0 where
  pub ringed : len ≤ ring
  pub least : (w : Way legs a b) → len ≤ total w.path
  pub met : (len ≡ ring) ⊎ ((w : Way legs a b) × (len ≡ total w.path))

-- The map stands for n sites, a ring, and legs between these sites: all its lengths are shortest.
pub record Stands (m : Map) (n ring : ℕ) (legs : List Leg) : Type 0 where
  pub count : m.sites ≡ n
  pub rounds : m.ring ≡ ring
  pub inside : (l : Leg) → In l legs → (knows n l.from ≡ true) × (knows n l.to ≡ true)
  pub shortest : (a b : ℕ) → knows n a ≡ true → knows n b ≡ true → Shortest legs ring a b ((mapped m).span a b)

-- whatever the map stood for before, it stands for with one leg more
abbrev pub Lengthened : Map → Map → Leg → Type 0
Lengthened before after l = (n ring : ℕ) (legs : List Leg) → Stands before n ring legs → Stands after n ring (l ∷ legs)

abbrev pub leg_of : ℕ → ℕ → ℕ → Leg
leg_of a b len = record { from = a; to = b; size = len }

-- Begin asks for 1 to 64 sites, then for a ring of 1 to 4,000,000.
abbrev pub begin_outcome : ℕ → ℕ → Result (Unit {0}) Refusal
begin_outcome n ring = cond (nat_le 1 n && nat_le n 64) (cond (nat_le 1 ring && nat_le ring 4000000) (Ok tt) (Err RingOutOfRange)) (Err SiteCount)

-- Leg asks for two known sites, then for a length of at most 4,000,000.
abbrev pub leg_outcome : ℕ → ℕ → ℕ → ℕ → Result (Unit {0}) Refusal
leg_outcome n a b len = cond (knows n a && knows n b) (cond (nat_le len 4000000) (Ok tt) (Err LegTooLong)) (Err LegSite)
