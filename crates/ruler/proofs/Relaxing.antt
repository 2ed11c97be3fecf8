-- What the cells are without legs, and with one leg more; the laws hold again.
use Rattle.std.proofs.Common.{◌≡◌, ℕ, ◌-◌, ◌<◌, ◌≤◌, true, List, arith}
use Rattle.std.proofs.lemmas.Bool.Decides.{nat_tests}
use Rattle.ruler.specs.Cells.{cell, Capped, Still, Detours, knows, bare_at, relaxed_at, Filled}

module _ (ring : ℕ) (rows : List (List ℕ)) (bare : Filled (bare_at ring) rows) where
  pub bare_apart : (i j : ℕ) → i < 64 → j < 64 → (i ≡ j → ⊥) → cell rows i j ≡ ring
  bare_apart i j h k d = let is = bare i j h k in grind (arith, nat_tests)

  pub bare_capped : Capped ring rows
  bare_capped i j h k = let is = bare i j h k in grind (arith, nat_tests)

module _ (old new : List (List ℕ)) (f t size : ℕ) (inf : f < 64) (int : t < 64) (filled : Filled (relaxed_at old f t size) new) where
  pub relaxed_still : Still old → Still new
  relaxed_still still i h = let e = filled i i h h in let s = still i h in omega arith

  pub relaxed_capped : (ring : ℕ) → Capped ring old → Capped ring new
  relaxed_capped ring capped i j h k = let e = filled i j h k in let s = capped i j h k in omega arith

  pub relaxed_detours : Detours old → Detours new
  relaxed_detours det i j k h =
      let p = filled i j h.0 h.1 in
      let q = filled j k h.1 h.2 in
      let r = filled i k h.0 h.2 in
      let a = det i j k h in
      let b = det t j k (int, h.1, h.2) in
      let c = det i j f (h.0, h.1, inf) in
      omega arith

-- the place of a known site
pub placed : (n a : ℕ) → n ≤ 64 → knows n a ≡ true → a - 1 < 64
placed n a few h = grind (arith, nat_tests)

pub positive : (n a : ℕ) → knows n a ≡ true → 1 ≤ a
positive n a h = grind (arith, nat_tests)
