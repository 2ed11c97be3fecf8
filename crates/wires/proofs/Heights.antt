-- Heights for the sites of a list that rise from site to site by no more than a cost, or else a way round of negative cost.
use Rattle.std.proofs.Common.{◌≡◌, ℕ, cond, eqb, ◌⊎◌, List, [], ◌∷◌, ℤ, pos, ◌+ℤ◌, ◌≤ℤ◌, ◌<ℤ◌, sym, refl, subst, inl, inr, arith}
use borrow.Author.Differences.{ints}
use lib.Signed.{lt_z}
use Rattle.std.specs.Int.{int_min}
use Rattle.std.proofs.lemmas.Int.{by_lt_z, clamps}
use Rattle.std.proofs.lemmas.Bool.{cases_eq, ne_eqb, eq-eqb, cond-true, cond-false, cond_both}
use Rattle.wires.proofs.Sites.{In}

-- the lowest value over a list of sites
pub record Lowest (f : ℕ → ℤ) (sites : List ℕ) : Type 0 where
  pub low : ℤ
  pub below : (u : ℕ) → In u sites → low ≤ℤ f u
  pub reached : (v : ℕ) → In v sites → (u : ℕ) × In u sites × (f u ≡ low)

pub lowest : (f : ℕ → ℤ) (sites : List ℕ) → Lowest f sites
lowest f [] = record { low = pos 0; below = λ u i. absurd i; reached = λ v i. absurd i }
lowest f (x ∷ []) = record { low = f x; below = below; reached = λ v i. (x, inl refl, refl) }
  where
    below : (u : ℕ) → In u (x ∷ []) → f x ≤ℤ f u
    below u (inl e) = let P : ℕ → Type 0 = λ y. f x ≤ℤ f y in subst P (sym e) (omega (arith, ints))
    below u (inr i) = absurd i
lowest f (x ∷ y ∷ sites) = from (lowest f (y ∷ sites))
  where
    from : Lowest f (y ∷ sites) → Lowest f (x ∷ y ∷ sites)
    from rest = record { low = int_min (f x) rest.low; below = below; reached = reached }
      where
        below : (u : ℕ) → In u (x ∷ y ∷ sites) → int_min (f x) rest.low ≤ℤ f u
        below u (inl e) = let P : ℕ → Type 0 = λ y. int_min (f x) rest.low ≤ℤ f y in subst P (sym e) (omega (arith, ints, clamps))
        below u (inr i) = let h = rest.below u i in omega (arith, ints, clamps)

        reached : (v : ℕ) → In v (x ∷ y ∷ sites) → (u : ℕ) × In u (x ∷ y ∷ sites) × (f u ≡ int_min (f x) rest.low)
        reached v i = by_lt_z rest.low (f x) lower higher
          where
            lower : rest.low <ℤ f x → (u : ℕ) × In u (x ∷ y ∷ sites) × (f u ≡ int_min (f x) rest.low)
            lower h = let r = rest.reached y (inl refl) in let e = r.2 in (r.0, inr r.1, omega (arith, ints, clamps))

            higher : f x ≤ℤ rest.low → (u : ℕ) × In u (x ∷ y ∷ sites) × (f u ≡ int_min (f x) rest.low)
            higher h = (x, inl refl, omega (arith, ints, clamps))

pub record Heights (sites : List ℕ) (cost : ℕ → ℕ → ℤ) : Type 0 where
  pub height : ℕ → ℤ
  pub rise : (u v : ℕ) → In u sites → In v sites → height v ≤ℤ (height u +ℤ cost u v)

-- a way round of negative cost
pub record Round (Reach : ℕ → ℕ → ℤ → Type 0) : Type 0 where
  pub site : ℕ
  pub cost : ℤ
  pub negative : cost <ℤ pos 0
  pub way : Reach site site cost

-- the costs when the way through w is open too
abbrev detoured : ℕ → (ℕ → ℕ → ℤ) → ℕ → ℕ → ℤ
detoured w cost u v = int_min (cost u v) (cost u w +ℤ cost w v)

-- a site that was taken out goes back to the lowest place that the others allow
module _ (w : ℕ) (sites : List ℕ) (cost : ℕ → ℕ → ℤ) (still : pos 0 ≤ℤ cost w w) (others : Heights sites (detoured w cost)) where
  place : Lowest (λ u. others.height u +ℤ cost u w) sites
  place = lowest (λ u. others.height u +ℤ cost u w) sites

  abbrev raised : ℕ → ℤ
  raised u = cond (eqb u w) place.low (others.height u)

  raised_w : raised w ≡ place.low
  raised_w = cond-true (eqb w w) place.low (others.height w) (eq-eqb w w refl)

  either : (u : ℕ) → In u (w ∷ sites) → (u ≡ w) ⊎ ((raised u ≡ others.height u) × In u sites)
  either u (inl e) = inl e
  either u (inr i) = elim (cases_eq u w) [ inl e ↦ inl e | inr n ↦ inr (cond-false (eqb u w) place.low (others.height u) (ne_eqb u w n), i) ]

  rise_here : raised w ≤ℤ (raised w +ℤ cost w w)
  rise_here = omega (arith, ints)

  rise_to : (u : ℕ) → raised u ≡ others.height u → In u sites → raised w ≤ℤ (raised u +ℤ cost u w)
  rise_to u e i = let h = place.below u i in let f = raised_w in omega (arith, ints)

  rise_from : (v : ℕ) → raised v ≡ others.height v → In v sites → raised v ≤ℤ (raised w +ℤ cost w v)
  rise_from v e j =
      let r = place.reached v j in
      let f = r.2 in
      let g = raised_w in
      let h = others.rise r.0 v r.1 j in
      omega (arith, ints, clamps)

  rise_between : (u v : ℕ) → raised u ≡ others.height u → In u sites → raised v ≡ others.height v → In v sites → raised v ≤ℤ (raised u +ℤ cost u v)
  rise_between u v e i f j = let h = others.rise u v i j in omega (arith, ints, clamps)

  rise_any : (u v : ℕ) → In u (w ∷ sites) → In v (w ∷ sites) → raised v ≤ℤ (raised u +ℤ cost u v)
  rise_any u v i j = go (either u i) (either v j)
    where
      go : (u ≡ w) ⊎ ((raised u ≡ others.height u) × In u sites) → (v ≡ w) ⊎ ((raised v ≡ others.height v) × In v sites) → raised v ≤ℤ (raised u +ℤ cost u v)
      go (inl e) (inl f) = rw (e, f) rise_here
      go (inl e) (inr f) = rw e (rise_from v f.0 f.1)
      go (inr e) (inl f) = rw f (rise_to u e.0 e.1)
      go (inr e) (inr f) = rise_between u v e.0 e.1 f.0 f.1

  put_back : Heights (w ∷ sites) cost
  put_back = record { height = raised; rise = rise_any }

pub heights : (Reach : ℕ → ℕ → ℤ → Type 0) → ((u v w : ℕ) (y z : ℤ) → Reach u v y → Reach v w z → Reach u w (y +ℤ z)) → (sites : List ℕ) (cost : ℕ → ℕ → ℤ) → ((u v : ℕ) → In u sites → In v sites → Reach u v (cost u v)) → Heights sites cost ⊎ Round Reach
heights Reach join [] cost step = inl (record { height = λ u. pos 0; rise = λ u v i j. absurd i })
heights Reach join (w ∷ sites) cost step = by_lt_z (cost w w) (pos 0) round (λ still. back still (heights Reach join sites (detoured w cost) onward))
  where
    round : cost w w <ℤ pos 0 → Heights (w ∷ sites) cost ⊎ Round Reach
    round h = inr (record { site = w; cost = cost w w; negative = h; way = step w w (inl refl) (inl refl) })

    onward : (u v : ℕ) → In u sites → In v sites → Reach u v (detoured w cost u v)
    onward u v i j =
        let through = join u w v (cost u w) (cost w v) (step u w (inr i) (inl refl)) (step w v (inl refl) (inr j)) in
        cond_both (lt_z (cost u w +ℤ cost w v) (cost u v)) (cost u w +ℤ cost w v) (cost u v) (Reach u v) (λ e. through) (λ e. step u v (inr i) (inr j))

    back : pos 0 ≤ℤ cost w w → Heights sites (detoured w cost) ⊎ Round Reach → Heights (w ∷ sites) cost ⊎ Round Reach
    back still (inl others) = inl (put_back w sites cost still others)
    back still (inr r) = inr r
