-- A table that keeps the laws and is no longer than any leg is no longer than any way; one leg more keeps it shortest.
use Rattle.std.proofs.Common.{◌≡◌, ℕ, ◌+◌, ◌-◌, ◌<◌, ◌≤◌, min, true, ◌⊎◌, List, [], ◌∷◌, ◌++◌, sym, refl, ap, ◌∙◌, subst, inl, inr, arith}
use Rattle.std.proofs.lemmas.Bool.{cases_lt, cases_eq}
use Rattle.ruler.specs.declared.map.Map.{Map}
use Rattle.ruler.specs.Cells.{cell, Still, Detours, knows, bare_at, relaxed_at, Filled}
use Rattle.ruler.specs.Map.{Leg, In, AllIn, Leads, total, Way, Shortest, Stands, Lengthened}
use Rattle.ruler.proofs.Relaxing.{placed, positive, bare_apart, bare_capped}

module _ (n : ℕ) (rows : List (List ℕ)) (few : n ≤ 64) (still : Still rows) (det : Detours rows) (legs : List Leg) (inside : (l : Leg) → In l legs → (knows n l.from ≡ true) × (knows n l.to ≡ true)) (each : (l : Leg) → In l legs → cell rows (l.from - 1) (l.to - 1) ≤ l.size) where
  along : (path : List Leg) (a b : ℕ) → knows n b ≡ true → AllIn legs path → Leads a path b → cell rows (a - 1) (b - 1) ≤ total path
  along [] a b kb i e =
      let P : ℕ → Type 0 = λ x. cell rows (x - 1) (b - 1) ≤ 0 in
      let z = still (b - 1) (placed n b few kb) in
      let s : cell rows (b - 1) (b - 1) ≤ 0 = omega arith in
      subst P (sym e) s
  along (l ∷ ls) a b kb (i, is) (e, rest) =
      let P : ℕ → Type 0 = λ x. cell rows (x - 1) (b - 1) ≤ l.size + total ls in
      let more = along ls l.to b kb is rest in
      let leg = each l i in
      let d = det (l.from - 1) (l.to - 1) (b - 1) (placed n l.from few (inside l i).0, placed n l.to few (inside l i).1, placed n b few kb) in
      let s : cell rows (l.from - 1) (b - 1) ≤ l.size + total ls = omega arith in
      subst P e s

all_more : (l : Leg) (legs path : List Leg) → AllIn legs path → AllIn (l ∷ legs) path
all_more l legs [] i = tt
all_more l legs (k ∷ ks) (i, is) = (inr i, all_more l legs ks is)

all_join : (legs p q : List Leg) → AllIn legs p → AllIn legs q → AllIn legs (p ++ q)
all_join legs [] q i j = j
all_join legs (k ∷ ks) q (i, is) j = (i, all_join legs ks q is j)

leads_join : (p q : List Leg) (a b c : ℕ) → Leads a p b → Leads b q c → Leads a (p ++ q) c
leads_join [] q a b c e k = let P : ℕ → Type 0 = λ x. Leads x q c in subst P (sym e) k
leads_join (l ∷ ls) q a b c (e, rest) k = (e, leads_join ls q l.to b c rest k)

total_join : (p q : List Leg) → total (p ++ q) ≡ total p + total q
total_join [] q = omega arith
total_join (l ∷ ls) q = let h = total_join ls q in omega arith

way_more : (l : Leg) (legs : List Leg) (a b : ℕ) → Way legs a b → Way (l ∷ legs) a b
way_more l legs a b w = record { path = w.path; among = all_more l legs w.path w.among; leads = w.leads }

-- to the leg, along it, and on
way_by : (l : Leg) (legs : List Leg) (a b : ℕ) → Way legs a l.from → Way legs l.to b → Way (l ∷ legs) a b
way_by l legs a b w v =
    record {
      path = w.path ++ (l ∷ v.path);
      among = all_join (l ∷ legs) w.path (l ∷ v.path) (all_more l legs w.path w.among) (inl refl, all_more l legs v.path v.among);
      leads = leads_join w.path (l ∷ v.path) a l.from b w.leads (refl, v.leads);
    }

one_leg : (l : Leg) (legs : List Leg) → In l legs → Way legs l.from l.to
one_leg l legs i = record { path = l ∷ []; among = (i, tt); leads = (refl, refl) }

-- the length before, or by way of the leg, is the ring or the sum of a way
met_more : (l : Leg) (legs : List Leg) (ring a b x p q len : ℕ) → Shortest legs ring a b x → Shortest legs ring a l.from p → Shortest legs ring l.to b q → len ≡ min x (p + l.size + q) → (len ≡ ring) ⊎ ((w : Way (l ∷ legs) a b) × (len ≡ total w.path))
unfolding way_by way_more
met_more l legs ring a b x p q len sx sp sq is = go (cases_lt (p + l.size + q) x) sx.met sp.met sq.met
  where
    go : ((p + l.size + q < x) ⊎ (x ≤ p + l.size + q)) → (x ≡ ring) ⊎ ((w : Way legs a b) × (x ≡ total w.path)) → (p ≡ ring) ⊎ ((w : Way legs a l.from) × (p ≡ total w.path)) → (q ≡ ring) ⊎ ((w : Way legs l.to b) × (q ≡ total w.path)) → (len ≡ ring) ⊎ ((w : Way (l ∷ legs) a b) × (len ≡ total w.path))
    go (inr h) (inl e) mp mq = inl (omega arith)
    go (inr h) (inr (w, e)) mp mq = inr (way_more l legs a b w, omega arith)
    go (inl h) mx (inl e) mq = let r = sx.ringed in inl (omega arith)
    go (inl h) mx (inr u) (inl e) = let r = sx.ringed in inl (omega arith)
    go (inl h) mx (inr (w, e)) (inr (v, d)) = let t = total_join w.path (l ∷ v.path) in inr (way_by l legs a b w v, omega arith)

module _ (m after : Map) (l : Leg) (count : after.sites ≡ m.sites) (rounds : after.ring ≡ m.ring) (from : knows m.sites l.from ≡ true) (to : knows m.sites l.to ≡ true) (filled : Filled (relaxed_at m.rows (l.from - 1) (l.to - 1) l.size) after.rows) where
  inf : l.from - 1 < 64
  inf = placed m.sites l.from m.few from

  int : l.to - 1 < 64
  int = placed m.sites l.to m.few to

  module _ (n ring : ℕ) (legs : List Leg) (s : Stands m n ring legs) where
    few : n ≤ 64
    few = let h = m.few in let e = s.count in omega arith

    known_from : knows n l.from ≡ true
    known_from = let P : ℕ → Type 0 = λ x. knows x l.from ≡ true in subst P s.count from

    known_to : knows n l.to ≡ true
    known_to = let P : ℕ → Type 0 = λ x. knows x l.to ≡ true in subst P s.count to

    inside_more : (k : Leg) → In k (l ∷ legs) → (knows n k.from ≡ true) × (knows n k.to ≡ true)
    inside_more k (inl e) = let P : Leg → Type 0 = λ x. (knows n x.from ≡ true) × (knows n x.to ≡ true) in subst P (sym e) (known_from, known_to)
    inside_more k (inr i) = s.inside k i

    each_more : (k : Leg) → In k (l ∷ legs) → cell after.rows (k.from - 1) (k.to - 1) ≤ k.size
    unfolding one_leg
    each_more k (inl e) =
        let P : Leg → Type 0 = λ x. cell after.rows (x.from - 1) (x.to - 1) ≤ x.size in
        let is = filled (l.from - 1) (l.to - 1) inf int in
        let a = m.still (l.from - 1) inf in
        let b = m.still (l.to - 1) int in
        let h : cell after.rows (l.from - 1) (l.to - 1) ≤ l.size = omega arith in
        subst P (sym e) h
    each_more k (inr i) =
        let kf = (s.inside k i).0 in
        let kt = (s.inside k i).1 in
        let is = filled (k.from - 1) (k.to - 1) (placed n k.from few kf) (placed n k.to few kt) in
        let h : cell m.rows (k.from - 1) (k.to - 1) ≤ k.size + 0 = (s.shortest k.from k.to kf kt).least (one_leg k legs i) in
        omega arith

    shortest_more : (a b : ℕ) → knows n a ≡ true → knows n b ≡ true → Shortest (l ∷ legs) ring a b (cell after.rows (a - 1) (b - 1))
    shortest_more a b ka kb =
        record {
          ringed =
              let h = after.capped (a - 1) (b - 1) (placed n a few ka) (placed n b few kb) in
              let r = s.rounds in
              omega arith;
          least = λ w. along n after.rows few after.still after.detour (l ∷ legs) inside_more each_more w.path a b kb w.among w.leads;
          met =
              met_more l legs ring a b _ _ _ _ (s.shortest a b ka kb) (s.shortest a l.from ka known_from) (s.shortest l.to b known_to kb) (filled (a - 1) (b - 1) (placed n a few ka) (placed n b few kb));
        }

  pub lengthened : Lengthened m after l
  lengthened n ring legs s =
      record {
        count = count ∙ s.count;
        rounds = rounds ∙ s.rounds;
        inside = inside_more n ring legs s;
        shortest = shortest_more n ring legs s;
      }

-- without legs the only way is the empty one
pub stands_bare : (m : Map) (n ring : ℕ) → m.sites ≡ n → m.ring ≡ ring → Filled (bare_at ring) m.rows → Stands m n ring []
stands_bare m n ring count rounds bare = record { count = count; rounds = rounds; inside = λ l i. absurd i; shortest = shortest }
  where
    few : n ≤ 64
    few = let h = m.few in omega arith

    shortest : (a b : ℕ) → knows n a ≡ true → knows n b ≡ true → Shortest [] ring a b (cell m.rows (a - 1) (b - 1))
    shortest a b ka kb =
        record {
          ringed = bare_capped ring m.rows bare (a - 1) (b - 1) (placed n a few ka) (placed n b few kb);
          least = λ w. along n m.rows few m.still m.detour [] (λ l i. absurd i) (λ l i. absurd i) w.path a b kb w.among w.leads;
          met = go (cases_eq a b);
        }
      where
        go : (a ≡ b) ⊎ (a ≡ b → ⊥) → (cell m.rows (a - 1) (b - 1) ≡ ring) ⊎ ((w : Way [] a b) × (cell m.rows (a - 1) (b - 1) ≡ total w.path))
        go (inl e) = inr (record { path = []; among = tt; leads = e }, ap (λ x. cell m.rows (a - 1) (x - 1)) (sym e) ∙ m.still (a - 1) (placed n a few ka))
        go (inr d) = inl (bare_apart ring m.rows bare (a - 1) (b - 1) (placed n a few ka) (placed n b few kb) (λ e. d (same e)))
          where
            same : a - 1 ≡ b - 1 → a ≡ b
            same e = let p = positive n a ka in let q = positive n b kb in omega arith
