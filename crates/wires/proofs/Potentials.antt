-- Heights under a least list: they rise by no more than the length, and by just the length along its wires.
use Rattle.std.proofs.Common.{◌≡◌, ℕ, ◌*◌, ◌<◌, ◌≤◌, true, ◌⊎◌, List, [], ◌∷◌, ℤ, pos, ◌+ℤ◌, ◌-ℤ◌, ◌*ℤ◌, neg_ℤ, ◌≤ℤ◌, refl, ap, ◌∙◌, inl, inr, arith}
use borrow.Author.Differences.{ints}
use lib.IntN.{zero-*ℤ, pos-*ℤ-pos}
use Rattle.std.proofs.lemmas.Bool.{cases_lt, cond-true, cond_both}
use Rattle.ruler.specs.Meaning.{Meaning}
use Rattle.wires.specs.declared.terminal.Terminal.{Terminal}
use Rattle.wires.specs.declared.wire.Wire.{Wire}
use Rattle.wires.specs.Sums.{sum}
use Rattle.wires.specs.Wiring.{due, Meets, Seated, metal, area, Least}
use Rattle.wires.proofs.Integers.{one_mul, mul_neg}
use Rattle.wires.proofs.Sites.{In, ends, sites, known_sites}
use Rattle.wires.proofs.Heights.{Heights, Round, heights}
use Rattle.wires.proofs.Changes.{Change, join, live, live_first, live_later, cost, change}

-- a way round of negative cost would be a rival with less area
no_round : (m : Meaning) (ts : List Terminal) (ws : List Wire) → Least m ts ws → Round (Change m ws) → ⊥
no_round m ts ws best r = go (cases_lt 0 folds)
  where
    folds : ℕ
    folds = r.way.folds

    meets : Meets folds ts r.way.rival
    meets s =
        let e = r.way.moves s in
        let f = ap (λ z. pos folds *ℤ z) (best.meets s ∙ one_mul (due ts s)) in
        omega (arith, ints)

    go : (0 < folds) ⊎ (folds ≤ 0) → ⊥
    go (inl h) =
        let d = best.least folds (omega arith) r.way.rival r.way.over meets in
        let e = pos-*ℤ-pos folds (area m ws) in
        let f = r.way.costs in
        let g = r.negative in
        omega (arith, ints)
    go (inr h) =
        let none : folds ≡ 0 = omega arith in
        let e = ap (λ k. pos k *ℤ pos (area m ws)) none ∙ zero-*ℤ (pos (area m ws)) in
        let f = r.way.costs in
        let g = r.negative in
        omega (arith, ints)

-- a least list has heights for its costs
pub potentials : (m : Meaning) (ts : List Terminal) (ws : List Wire) → Seated m ts → Least m ts ws → Heights (sites ts ws) (cost m ws)
potentials m ts ws seated best = go (heights (Change m ws) (join m ws) (sites ts ws) (cost m ws) step)
  where
    known : (u : ℕ) → In u (sites ts ws) → m.known u ≡ true
    known = known_sites m ts ws seated best.over

    step : (u v : ℕ) → In u (sites ts ws) → In v (sites ts ws) → Change m ws u v (cost m ws u v)
    step u v i j = change m ws u v best.over (known u i) (known v j)

    go : Heights (sites ts ws) (cost m ws) ⊎ Round (Change m ws) → Heights (sites ts ws) (cost m ws)
    go (inl h) = h
    go (inr r) = absurd (no_round m ts ws best r)

-- heights rise by no more than the length, and by just the length along a wire with current
module _ (m : Meaning) (ts : List Terminal) (ws : List Wire) (h : Heights (sites ts ws) (cost m ws)) where
  pub gap : (u v : ℕ) → In u (sites ts ws) → In v (sites ts ws) → h.height v ≤ℤ (h.height u +ℤ pos (m.span u v))
  gap u v i j =
      let d = h.rise u v i j in
      let P : ℤ → Type 0 = λ z. z ≤ℤ pos (m.span u v) in
      let e : cost m ws u v ≤ℤ pos (m.span u v) = cond_both (live ws v u) (neg_ℤ (pos (m.span v u))) (pos (m.span u v)) P (λ t. omega (arith, ints)) (λ t. omega (arith, ints)) in
      omega (arith, ints)

  just : (a b : ℕ) → In a (sites ts ws) → In b (sites ts ws) → live ws a b ≡ true → h.height a -ℤ h.height b ≡ neg_ℤ (pos (m.span a b))
  just a b i j t =
      let d = h.rise b a j i in
      let e = cond-true (live ws a b) (neg_ℤ (pos (m.span a b))) (pos (m.span b a)) t in
      let f = gap a b i j in
      omega (arith, ints)

  fall : (w : Wire) → (0 < w.current → live ws w.start w.end ≡ true) → In w.start (sites ts ws) → In w.end (sites ts ws) → pos w.current *ℤ (h.height w.start -ℤ h.height w.end) ≡ neg_ℤ (pos (metal m w))
  fall w alive i j = go (cases_lt 0 w.current)
    where
      go : (0 < w.current) ⊎ (w.current ≤ 0) → pos w.current *ℤ (h.height w.start -ℤ h.height w.end) ≡ neg_ℤ (pos (metal m w))
      go (inl some) =
          let d = m.span w.start w.end in
          ap (λ z. pos w.current *ℤ z) (just w.start w.end i j (alive some)) ∙ mul_neg (pos w.current) (pos d) ∙ ap neg_ℤ (pos-*ℤ-pos w.current d)
      go (inr few) =
          let none : w.current ≡ 0 = omega arith in
          let e = ap (λ n. pos n *ℤ (h.height w.start -ℤ h.height w.end)) none ∙ zero-*ℤ (h.height w.start -ℤ h.height w.end) in
          let f = ap (λ n. n * m.span w.start w.end) none in
          omega (arith, ints)

  pub falls : (xs : List Wire) → ((a b : ℕ) → live xs a b ≡ true → live ws a b ≡ true) → ((u : ℕ) → In u (ends xs) → In u (sites ts ws)) → sum (λ w. pos w.current *ℤ (h.height w.start -ℤ h.height w.end)) xs ≡ neg_ℤ (pos (area m xs))
  falls [] alive here = refl
  falls (w ∷ xs) alive here =
      let e = fall w (λ some. alive w.start w.end (live_first w xs some)) (here w.start (inl refl)) (here w.end (inr (inl refl))) in
      let f = falls xs (λ a b t. alive a b (live_later w xs a b t)) (λ u i. here u (inr (inr i))) in
      omega (arith, ints)
