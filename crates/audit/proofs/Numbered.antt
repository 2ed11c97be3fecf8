-- A numbered loop over a zip of two slices, which has yielded xs: where an item's pair is, and how many there were.
use Rattle.std.proofs.Common.{◌≡◌, ℕ, ◌+◌, ◌<◌, List, [], ◌∷◌, length, map, Some, None, Option, Bor, Iter, refl, ap, ◌∙◌, subst, arith}
use Rattle.std.specs.declared.iter.Zip.{Zip}
use Rattle.std.specs.declared.iter.Enumerate.{Enumerate}
use Rattle.std.specs.Iterator.{Yields}
use Rattle.std.specs.Iterator.Adapters.{zip_first, zip_second, enumerate_source, enumerate_count, enumerate_steps}
use Rattle.std.specs.List.{slice_index_or}
use Rattle.std.specs.Slice.Iter.{iter_rest}
use Rattle.std.proofs.iter.Yields.{fronts}
use Rattle.std.proofs.lemmas.Iterator.{zips}
use Rattle.std.proofs.lemmas.Slice.Zip.{zip_turn, zip_end}

abbrev bare : {P : Type 0} → List (ℕ × P) → List P
bare {P} xs = map (λ (x : ℕ × P). x.1) xs

-- the items without their numbers are what the source yielded, and the count is how many
source_yields : {S P : Type 0} (steps : S → Option P → S → Type 0) (xs : List (ℕ × P)) (s t : Enumerate S) → Yields (enumerate_steps steps) s xs t
    → (enumerate_count t ≡ enumerate_count s + length xs) × (length (bare xs) ≡ length xs) × Yields steps (enumerate_source s) (bare xs) (enumerate_source t)
source_yields steps [] s t y = (omega (arith, ap enumerate_count y), refl, ap enumerate_source y)
source_yields steps (x ∷ xs) s t y =
    let rest = source_yields steps xs y.0 t y.2 in
    (omega (arith, rest.0, y.1.2), omega (arith, rest.1), (enumerate_source y.0, y.1.0, rest.2))

module _ {A B : Type 0} (ks : List A) (vs : List B) (xs : List (ℕ × (Bor A × Bor B))) (s t u : Enumerate (Zip (Iter A) (Iter B))) (r : Option (ℕ × (Bor A × Bor B))) (start : enumerate_count s ≡ 0) (first : iter_rest (zip_first (enumerate_source s)) ≡ ks) (second : iter_rest (zip_second (enumerate_source s)) ≡ vs) (y : Yields (enumerate_steps (zips fronts fronts)) s xs t) where
  pub numbered_turn : (p : ℕ × (Bor A × Bor B)) → r ≡ Some p → enumerate_steps (zips fronts fronts) t r u
      → (p.0 ≡ length xs) × (p.0 < length ks) × ((d : A) → p.1.0.now ≡ slice_index_or ks p.0 d) × ((d : B) → p.1.1.now ≡ slice_index_or vs p.0 d)
  numbered_turn p e h =
      let so_far = source_yields (zips fronts fronts) xs s t y in
      let next = subst (λ o. enumerate_steps (zips fronts fronts) t o u) e h in
      let turn = zip_turn ks vs (bare xs) _ _ (enumerate_source u) (Some p.1) first second so_far.2 p.1 refl next.0 in
      let at : length (bare xs) ≡ p.0 = omega (arith, so_far.0, so_far.1, next.1) in
      (omega (arith, at, so_far.1), omega (arith, at, turn.0), (λ d. turn.2 d ∙ ap (λ n. slice_index_or ks n d) at), λ d. turn.3 d ∙ ap (λ n. slice_index_or vs n d) at)

  pub numbered_end : length vs ≡ length ks → r ≡ None → enumerate_steps (zips fronts fronts) t r u → length xs ≡ length ks
  numbered_end same e h =
      let so_far = source_yields (zips fronts fronts) xs s t y in
      let last = subst (λ o. enumerate_steps (zips fronts fronts) t o u) e h in
      omega (arith, so_far.1, zip_end ks vs (bare xs) _ _ (enumerate_source u) None first second so_far.2 refl last.0)
