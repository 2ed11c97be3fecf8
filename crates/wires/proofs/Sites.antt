-- Lists of sites: those of terminals, and those that wires leave and reach.
use Rattle.std.proofs.Common.{◌≡◌, ℕ, true, ◌⊎◌, List, [], ◌∷◌, ◌++◌, map, sym, refl, subst, inl, inr}
use Rattle.std.specs.List.{AllByRecursion}
use Rattle.std.proofs.ByRecursion.{All-append, All-map}
use Rattle.ruler.specs.Meaning.{Meaning}
use Rattle.wires.specs.declared.terminal.Terminal.{Terminal}
use Rattle.wires.specs.declared.wire.Wire.{Wire}
use Rattle.wires.specs.Wiring.{Over, Seated}

abbrev pub In : ℕ → List ℕ → Type 0
In x [] = ⊥
In x (y ∷ ys) = (x ≡ y) ⊎ In x ys

-- the sites of terminals, and the ends of wires
abbrev pub seats : List Terminal → List ℕ
seats ts = map (λ (t : Terminal). t.site) ts

abbrev pub ends : List Wire → List ℕ
ends [] = []
ends (w ∷ ws) = w.start ∷ w.end ∷ ends ws

abbrev pub sites : List Terminal → List Wire → List ℕ
sites ts ws = seats ts ++ ends ws

pub in_left : (u : ℕ) (xs ys : List ℕ) → In u xs → In u (xs ++ ys)
in_left u [] ys i = absurd i
in_left u (x ∷ xs) ys (inl e) = inl e
in_left u (x ∷ xs) ys (inr i) = inr (in_left u xs ys i)

pub in_right : (u : ℕ) (xs ys : List ℕ) → In u ys → In u (xs ++ ys)
in_right u [] ys i = i
in_right u (x ∷ xs) ys i = inr (in_right u xs ys i)

all_in : (P : ℕ → Type 0) (xs : List ℕ) → AllByRecursion P xs → (u : ℕ) → In u xs → P u
all_in P [] all u i = absurd i
all_in P (x ∷ xs) all u (inl e) = subst P (sym e) all.0
all_in P (x ∷ xs) all u (inr i) = all_in P xs all.1 u i

known_ends : (m : Meaning) (ws : List Wire) → Over m ws → AllByRecursion (λ s. m.known s ≡ true) (ends ws)
known_ends m [] over = tt
known_ends m (w ∷ ws) over = (over.0.leaves, (over.0.arrives, known_ends m ws over.1))

pub known_sites : (m : Meaning) (ts : List Terminal) (ws : List Wire) → Seated m ts → Over m ws → (u : ℕ) → In u (sites ts ws) → m.known u ≡ true
known_sites m ts ws seated over =
    let known : ℕ → Type 0 = λ s. m.known s ≡ true in
    all_in known (sites ts ws) (All-append known (seats ts) (ends ws) (All-map known (λ (t : Terminal). t.site) ts seated) (known_ends m ws over))

-- each terminal's site is among them
pub seats_in : (ts xs : List Terminal) → ((u : ℕ) → In u (seats xs) → In u (seats ts)) → AllByRecursion (λ t. In t.site (seats ts)) xs
seats_in ts [] h = tt
seats_in ts (x ∷ xs) h = (h x.site (inl refl), seats_in ts xs (λ u i. h u (inr i)))
