-- Distinct ids from 1 to 64: one more keeps them so, and there are at most 64.
use Rattle.std.proofs.Common.{◌≡◌, ℕ, zero, suc, ◌+◌, ◌<◌, ◌≤◌, Bool, true, false, cond, not, ◌&&◌, ◌||◌, eqb, leb, ◌≢◌, ◌⊎◌, List, [], ◌∷◌, ◌++◌, length, sym, refl, ap, ◌∙◌, inl, inr, arith, eq-eqb, ne_eqb, leb-true}
use Rattle.std.proofs.lemmas.List.{length_push}
use Rattle.std.proofs.lemmas.Bool.{cases_eq}
use Rattle.std.proofs.lemmas.Bool.Decides.{nat_tests}
use Rattle.dimacs.specs.declared.document.Node.{Node}
use Rattle.dimacs.specs.Nodes.{distinct, vacant, with_more}
use Rattle.dimacs.specs.Scan.{taken}

both_true : (a b : Bool) → (a && b) ≡ true → (a ≡ true) × (b ≡ true)
both_true true b e = (refl, e)
both_true false b e = absurd (clash e)
  where
    clash : false ≡ true → ⊥
    clash e = let z : ◌≡◌ {A = ℕ} 0 1 = cc in omega arith

not_true : (b : Bool) → not b ≡ true → b ≡ false
not_true true e = absurd (clash e)
  where
    clash : false ≡ true → ⊥
    clash e = let z : ◌≡◌ {A = ℕ} 0 1 = cc in omega arith
not_true false e = refl

neither : (a b : Bool) → (a || b) ≡ false → (a ≡ false) × (b ≡ false)
neither true b e = absurd (clash e)
  where
    clash : true ≡ false → ⊥
    clash e = let z : ◌≡◌ {A = ℕ} 0 1 = cc in omega arith
neither false b e = (refl, e)

taken_push : (ns : List Node) (n : Node) (id : ℕ) → taken ns id ≡ false → n.id ≢ id → taken (ns ++ (n ∷ [])) id ≡ false
taken_push [] n id free other = ap (λ b. b || false) (ne_eqb n.id id other)
taken_push (m ∷ ms) n id free other =
    let parts = neither (eqb m.id id) (taken ms id) free in
    ap (λ b. b || taken (ms ++ (n ∷ [])) id) parts.0 ∙ taken_push ms n id parts.1 other

pub record Vacant (ns : List Node) (id : ℕ) : Type 0 where
  pub low : 1 ≤ id
  pub high : id ≤ 64
  pub free : taken ns id ≡ false

pub vacant_parts : (ns : List Node) (id : ℕ) → vacant ns id ≡ true → Vacant ns id
vacant_parts ns id v =
    let parts = both_true (leb 1 id && leb id 64) (not (taken ns id)) v in
    let range = both_true (leb 1 id) (leb id 64) parts.0 in
    record {
      low = leb-true 1 id range.0;
      high = leb-true id 64 range.1;
      free = not_true (taken ns id) parts.1;
    }

pub vacant_is : (ns : List Node) (id : ℕ) → Vacant ns id → vacant ns id ≡ true
vacant_is ns id v =
    let range : (leb 1 id && leb id 64) ≡ true = let l = v.low in let h = v.high in grind (arith, nat_tests) in
    ap (λ b. b && not (taken ns id)) range ∙ ap not v.free

pub distinct_push : (ns : List Node) (n : Node) → distinct ns ≡ true → vacant ns n.id ≡ true → distinct (ns ++ (n ∷ [])) ≡ true
distinct_push [] n d v = ap (λ b. b && true) v
distinct_push (m ∷ ms) n d v =
    let parts = both_true (vacant ms m.id) (distinct ms) d in
    let mine = vacant_parts ms m.id parts.0 in
    let its = vacant_parts (m ∷ ms) n.id v in
    let split = neither (eqb m.id n.id) (taken ms n.id) its.free in
    let apart : n.id ≢ m.id = λ e. clash (eqb m.id n.id) (eq-eqb m.id n.id (sym e)) split.0 in
    let rest = distinct_push ms n parts.1 (vacant_is ms n.id (record { low = its.low; high = its.high; free = split.1 })) in
    let first = vacant_is (ms ++ (n ∷ [])) m.id (record { low = mine.low; high = mine.high; free = taken_push ms n m.id mine.free apart }) in
    ap (λ b. b && distinct (ms ++ (n ∷ []))) first ∙ rest
  where
    clash : (b : Bool) → b ≡ true → b ≡ false → ⊥
    clash b e f = let z : ◌≡◌ {A = ℕ} 0 1 = cc in omega arith

-- how many of the ids from 1 to k are taken
held : List Node → ℕ → ℕ
held ns zero = 0
held ns (suc k) = cond (taken ns (suc k)) 1 0 + held ns k

held_le : (ns : List Node) (k : ℕ) → held ns k ≤ k
unfolding held
held_le ns zero = omega arith
held_le ns (suc k) = let more = held_le ns k in go (taken ns (suc k)) more
  where
    go : (b : Bool) → held ns k ≤ k → cond b 1 0 + held ns k ≤ suc k
    go true more = omega arith
    go false more = omega arith

module _ (n : Node) (ns : List Node) (free : taken ns n.id ≡ false) where
  held_past : (k : ℕ) → k < n.id → held (n ∷ ns) k ≡ held ns k
  unfolding held
  held_past zero h = refl
  held_past (suc k) h =
      let other = ne_eqb n.id (suc k) (λ e. omega arith) in
      let more = held_past k (omega arith) in
      ap (λ b. cond (b || taken ns (suc k)) 1 0 + held (n ∷ ns) k) other ∙ ap (λ x. cond (taken ns (suc k)) 1 0 + x) more

  held_more : (k : ℕ) → 1 ≤ n.id → n.id ≤ k → held (n ∷ ns) k ≡ suc (held ns k)
  unfolding held
  held_more zero low h = absurd (omega arith)
  held_more (suc k) low h = go (cases_eq n.id (suc k)) (held_more k low)
    where
      go : (n.id ≡ suc k) ⊎ (n.id ≡ suc k → ⊥) → (n.id ≤ k → held (n ∷ ns) k ≡ suc (held ns k)) → cond (eqb n.id (suc k) || taken ns (suc k)) 1 0 + held (n ∷ ns) k ≡ suc (cond (taken ns (suc k)) 1 0 + held ns k)
      go (inl e) more =
          let is = eq-eqb n.id (suc k) e in
          let none : taken ns (suc k) ≡ false = ap (taken ns) (sym e) ∙ free in
          let past = held_past k (omega arith) in
          ap (λ b. cond (b || taken ns (suc k)) 1 0 + held (n ∷ ns) k) is ∙ ap (λ x. 1 + x) past ∙ one_more ∙ ap (λ b. suc (cond b 1 0 + held ns k)) (sym none)
        where
          one_more : 1 + held ns k ≡ suc (0 + held ns k)
          one_more = omega arith
      go (inr d) more =
          let other = ne_eqb n.id (suc k) d in
          let rest = more (omega arith) in
          ap (λ b. cond (b || taken ns (suc k)) 1 0 + held (n ∷ ns) k) other ∙ ap (λ x. cond (taken ns (suc k)) 1 0 + x) rest ∙ shift (cond (taken ns (suc k)) 1 0) (held ns k)
        where
          shift : (a b : ℕ) → a + suc b ≡ suc (a + b)
          shift a b = omega arith

length_held : (ns : List Node) → distinct ns ≡ true → length ns ≤ held ns 64
length_held [] d = omega arith
length_held (n ∷ ns) d =
    let parts = both_true (vacant ns n.id) (distinct ns) d in
    let v = vacant_parts ns n.id parts.0 in
    let more = length_held ns parts.1 in
    let here = held_more n ns v.free 64 v.low v.high in
    omega arith

pub distinct_few : (ns : List Node) → distinct ns ≡ true → length ns ≤ 64
distinct_few ns d = let a = length_held ns d in let b = held_le ns 64 in omega arith

-- so one that is vacant finds a place
pub vacant_few : (ns : List Node) (n : Node) → distinct ns ≡ true → vacant ns n.id ≡ true → length ns < 64
vacant_few ns n d v = let all = distinct_few (ns ++ (n ∷ [])) (distinct_push ns n d v) in let more = length_push ns n in omega arith

-- a list of distinct ids stays one with a node whose id is vacant, and there is room for it
module _ (ns : List Node) (n : Node) (apart : distinct ns ≡ true) (low : 1 ≤ n.id) (high : n.id ≤ 64) (free : false ≡ taken ns n.id) where
  is_vacant : vacant ns n.id ≡ true
  is_vacant = vacant_is ns n.id (record { low = low; high = high; free = sym free })

  pub vacant_room : length ns < 64
  vacant_room = vacant_few ns n apart is_vacant

  pub pushed_apart : distinct (ns ++ (n ∷ [])) ≡ true
  pushed_apart = distinct_push ns n apart is_vacant

  pub pushed_more : ns ++ (n ∷ []) ≡ with_more ns n
  pushed_more = ap (λ b. cond b (ns ++ (n ∷ [])) ns) (sym is_vacant)
