-- Sums over planned wires are sums over rows: a wire's current counts at the one row where it leaves or arrives.
use Rattle.std.proofs.Common.{◌≡◌, ℕ, zero, suc, ◌+◌, ◌-◌, ◌<◌, ◌≤◌, cond, eqb, ◌⊎◌, List, [], ◌∷◌, length, take, ℤ, pos, ◌+ℤ◌, ◌-ℤ◌, ◌*ℤ◌, Some, None, Option, sym, refl, ap, ◌∙◌, inl, inr, add-one, arith}
use borrow.Author.Differences.{ints}
use lib.IntN.{zero-*ℤ}
use Rattle.std.specs.List.{AllByRecursion}
use Rattle.std.proofs.lemmas.List.{take_all}
use Rattle.std.proofs.lemmas.Bool.{eq-eqb, ne_eqb, cases_lt}
use Rattle.wires.specs.declared.terminal.Terminal.{Terminal}
use Rattle.wires.specs.Sums.{sum, total}
use Rattle.wires.specs.Marks.{value, worth}
use Rattle.wires.specs.Wiring.{seated, row_adds}
use Rattle.wires.proofs.Integers.{add_mul}
use Rattle.wires.proofs.Sums.{seated_more}
use Rattle.audit.specs.Audit.{row_at, mark_at, pins}
use Rattle.planner.specs.declared.plan.Link.{Link}

-- the sum over the numbers below n
abbrev pub sum_to : (ℕ → ℤ) → ℕ → ℤ
sum_to f zero = pos 0
sum_to f (suc n) = sum_to f n +ℤ f n

pub sum_to_same : (f g : ℕ → ℤ) (n : ℕ) → ((i : ℕ) → i < n → f i ≡ g i) → sum_to f n ≡ sum_to g n
sum_to_same f g zero h = refl
sum_to_same f g (suc n) h =
    let ih = sum_to_same f g n (λ i l. h i (omega arith)) in
    let e = h n (omega arith) in
    omega (arith, ints)

pub sum_to_sub : (f g : ℕ → ℤ) (n : ℕ) → sum_to (λ i. f i -ℤ g i) n ≡ sum_to f n -ℤ sum_to g n
sum_to_sub f g zero = refl
sum_to_sub f g (suc n) = let ih = sum_to_sub f g n in omega (arith, ints)

-- the current of the wires with this id at one end: `sent` and `received`
abbrev pub carried : (Link → ℕ) → List Link → ℕ → ℕ
carried end ls id = total (λ l. cond (eqb (end l) id) l.current 0) ls

-- a current at one id, weighed over the rows: before its row, and from there on
module _ (w : ℕ → ℤ) (id c : ℕ) where
  not_yet : (n : ℕ) → n < id → sum_to (λ i. pos (cond (eqb id (i + 1)) c 0) *ℤ w i) n ≡ pos 0
  not_yet zero h = refl
  not_yet (suc n) h =
      let ih = not_yet n (omega arith) in
      let e = ap (λ b. pos (cond b c 0) *ℤ w n) (ne_eqb id (n + 1) (λ e. omega arith)) ∙ zero-*ℤ (w n) in
      omega (arith, ints)

  since : (n : ℕ) → 1 ≤ id → id ≤ n → sum_to (λ i. pos (cond (eqb id (i + 1)) c 0) *ℤ w i) n ≡ pos c *ℤ w (id - 1)
  since zero from up_to_lem = absurd (omega arith)
  since (suc n) from up_to_lem = go (cases_lt n id) (since n from)
    where
      go : (n < id) ⊎ (id ≤ n) → (id ≤ n → sum_to (λ i. pos (cond (eqb id (i + 1)) c 0) *ℤ w i) n ≡ pos c *ℤ w (id - 1)) → sum_to (λ i. pos (cond (eqb id (i + 1)) c 0) *ℤ w i) (suc n) ≡ pos c *ℤ w (id - 1)
      go (inl h) ih =
          let none = not_yet n h in
          let here : n ≡ id - 1 = omega arith in
          let e = ap (λ b. pos (cond b c 0) *ℤ w n) (eq-eqb id (n + 1) (omega arith)) ∙ ap (λ i. pos c *ℤ w i) here in
          omega (arith, ints)
      go (inr h) ih =
          let all = ih h in
          let e = ap (λ b. pos (cond b c 0) *ℤ w n) (ne_eqb id (n + 1) (λ e. omega arith)) ∙ zero-*ℤ (w n) in
          omega (arith, ints)

sum_to_add : (f g : ℕ → ℕ) (w : ℕ → ℤ) (n : ℕ) → sum_to (λ i. pos (f i + g i) *ℤ w i) n ≡ sum_to (λ i. pos (f i) *ℤ w i) n +ℤ sum_to (λ i. pos (g i) *ℤ w i) n
sum_to_add f g w zero = refl
sum_to_add f g w (suc n) =
    let ih = sum_to_add f g w n in
    let e = add_mul (pos (f n)) (pos (g n)) (w n) in
    omega (arith, ints)

sum_to_none : (w : ℕ → ℤ) (n : ℕ) → sum_to (λ i. pos 0 *ℤ w i) n ≡ pos 0
sum_to_none w zero = refl
sum_to_none w (suc n) =
    let ih = sum_to_none w n in
    let e = zero-*ℤ (w n) in
    omega (arith, ints)

-- currents weighed by the row at one end, summed over the wires and over the rows
pub carried_sum : (end : Link → ℕ) (w : ℕ → ℤ) (n : ℕ) (ls : List Link) → AllByRecursion (λ l. (1 ≤ end l) × (end l ≤ n)) ls → sum (λ l. pos l.current *ℤ w (end l - 1)) ls ≡ sum_to (λ i. pos (carried end ls (i + 1)) *ℤ w i) n
carried_sum end w n [] all = sym (sum_to_none w n)
carried_sum end w n (l ∷ ls) all =
    let ih = carried_sum end w n ls all.1 in
    let e = since w (end l) l.current n all.0.0 all.0.1 in
    let d = sum_to_add (λ i. cond (eqb (end l) (i + 1)) l.current 0) (λ i. carried end ls (i + 1)) w n in
    omega (arith, ints)

-- an id at which no wire has that end
pub carried_none : (end : Link → ℕ) (id : ℕ) (ls : List Link) → AllByRecursion (λ l. end l ≡ id → ⊥) ls → carried end ls id ≡ 0
carried_none end id [] all = refl
carried_none end id (l ∷ ls) all =
    let ih = carried_none end id ls all.1 in
    let e = ap (λ b. cond b l.current 0) (ne_eqb (end l) id all.0) in
    omega arith

-- a sum over the seated terminals, and a value, by row
pub seated_sum : (f : Terminal → ℤ) (rows : List (Option Terminal)) → sum f (seated rows) ≡ sum_to (λ i. row_adds f (row_at rows i)) (length rows)
seated_sum f rows = sym (ap (λ rs. sum f (seated rs)) (take_all (length rows) rows (omega arith))) ∙ go (length rows) (omega arith)
  where
    go : (n : ℕ) → n ≤ length rows → sum f (seated (take n rows)) ≡ sum_to (λ i. row_adds f (row_at rows i)) n
    go zero h = refl
    go (suc n) h =
        let ih = go n (omega arith) in
        let e = rw add-one at (seated_more f rows n None (omega arith)) in
        omega (arith, ints)

value_more : (rows : List (Option Terminal)) (marks : List ℕ) (i : ℕ) → i < length rows → length marks ≡ length rows → value (pins (take (suc i) rows) (take (suc i) marks)) ≡ value (pins (take i rows) (take i marks)) +ℤ row_adds (λ t. worth (record { terminal = t; mark = mark_at marks i })) (row_at rows i)
value_more [] marks i h e = absurd (omega arith)
value_more (r ∷ rows) [] i h e = absurd (omega arith)
value_more (Some t ∷ rows) (m ∷ marks) zero h e = omega (arith, ints)
value_more (None ∷ rows) (m ∷ marks) zero h e = omega (arith, ints)
value_more (Some t ∷ rows) (m ∷ marks) (suc i) h e = let rest = value_more rows marks i (omega arith) (omega arith) in omega (arith, ints)
value_more (None ∷ rows) (m ∷ marks) (suc i) h e = value_more rows marks i (omega arith) (omega arith)

pub value_sum : (rows : List (Option Terminal)) (marks : List ℕ) → length marks ≡ length rows → value (pins rows marks) ≡ sum_to (λ i. row_adds (λ t. worth (record { terminal = t; mark = mark_at marks i })) (row_at rows i)) (length rows)
value_sum rows marks same = sym (ap (λ rs. value (pins rs (take (length rows) marks))) (take_all (length rows) rows (omega arith)) ∙ ap (λ ms. value (pins rows ms)) (take_all (length rows) marks (omega arith))) ∙ go (length rows) (omega arith)
  where
    go : (n : ℕ) → n ≤ length rows → value (pins (take n rows) (take n marks)) ≡ sum_to (λ i. row_adds (λ t. worth (record { terminal = t; mark = mark_at marks i })) (row_at rows i)) n
    go zero h = refl
    go (suc n) h =
        let ih = go n (omega arith) in
        let e = value_more rows marks n (omega arith) same in
        omega (arith, ints)
