-- Pins against rows and marks by their number, and marks laid out again from pins.
use Rattle.std.proofs.Common.{◌≡◌, ℕ, zero, suc, ◌+◌, ◌<◌, ◌≤◌, Bool, true, false, cond, ◌&&◌, List, [], ◌∷◌, length, Some, None, Option, sym, refl, ap, ◌∙◌, subst, arith}
use Rattle.std.specs.List.{AllByRecursion}
use Rattle.std.proofs.lemmas.Bool.{true≢false, ltb-false, le-ltb, le-leb, and_from}
use Rattle.ruler.specs.Meaning.{Meaning}
use Rattle.wires.specs.declared.terminal.Terminal.{Terminal}
use Rattle.wires.specs.Marks.{Pin, terminals, Reaches, Feasible}
use Rattle.wires.specs.Wiring.{Seated, seated}
use Rattle.audit.specs.Audit.{row_at, mark_at, mark_fits, beyond, too_far, pins}

pub terminals_pins : (rows : List (Option Terminal)) (marks : List ℕ) → length marks ≡ length rows → terminals (pins rows marks) ≡ seated rows
terminals_pins [] marks e = refl
terminals_pins (Some t ∷ rows) [] e = absurd (omega arith)
terminals_pins (Some t ∷ rows) (x ∷ marks) e = ap (λ ts. t ∷ ts) (terminals_pins rows marks (omega arith))
terminals_pins (None ∷ rows) [] e = absurd (omega arith)
terminals_pins (None ∷ rows) (x ∷ marks) e = terminals_pins rows marks (omega arith)

-- what holds of each filled row and its mark holds of each pin
pins_from_rows : (P : Pin → Type 0) (rows : List (Option Terminal)) (marks : List ℕ) → ((i : ℕ) (t : Terminal) → i < length rows → row_at rows i ≡ Some t → P (record { terminal = t; mark = mark_at marks i })) → AllByRecursion P (pins rows marks)
pins_from_rows P [] marks h = tt
pins_from_rows P (Some t ∷ rows) [] h = tt
pins_from_rows P (Some t ∷ rows) (x ∷ marks) h = (h 0 t (omega arith) refl, pins_from_rows P rows marks (λ i u l. h (suc i) u (omega arith)))
pins_from_rows P (None ∷ rows) [] h = tt
pins_from_rows P (None ∷ rows) (x ∷ marks) h = pins_from_rows P rows marks (λ i u l. h (suc i) u (omega arith))

-- what holds of each pin holds of a filled row and its mark
row_from_pins : (P : Pin → Type 0) (rows : List (Option Terminal)) (marks : List ℕ) (i : ℕ) (t : Terminal) → length marks ≡ length rows → row_at rows i ≡ Some t → AllByRecursion P (pins rows marks) → P (record { terminal = t; mark = mark_at marks i })
row_from_pins P [] marks i t e r all = absurd (let z : ◌≡◌ {A = ℕ} 0 1 = cc in omega arith)
row_from_pins P (Some u ∷ rows) [] i t e r all = absurd (omega arith)
row_from_pins P (Some u ∷ rows) (x ∷ marks) zero t e r all = let s : u ≡ t = cc in subst (λ v. P (record { terminal = v; mark = x })) s all.0
row_from_pins P (Some u ∷ rows) (x ∷ marks) (suc i) t e r all = row_from_pins P rows marks i t (omega arith) r all.1
row_from_pins P (None ∷ rows) [] i t e r all = absurd (omega arith)
row_from_pins P (None ∷ rows) (x ∷ marks) zero t e r all = absurd (let z : ◌≡◌ {A = ℕ} 0 1 = cc in omega arith)
row_from_pins P (None ∷ rows) (x ∷ marks) (suc i) t e r all = row_from_pins P rows marks i t (omega arith) r all

-- what holds of each seated terminal holds of a filled row
pub row_from_seated : (P : Terminal → Type 0) (rows : List (Option Terminal)) (i : ℕ) (t : Terminal) → row_at rows i ≡ Some t → AllByRecursion P (seated rows) → P t
row_from_seated P [] i t r all = absurd (let z : ◌≡◌ {A = ℕ} 0 1 = cc in omega arith)
row_from_seated P (Some u ∷ rows) zero t r all = let s : u ≡ t = cc in subst P s all.0
row_from_seated P (Some u ∷ rows) (suc i) t r all = row_from_seated P rows i t r all.1
row_from_seated P (None ∷ rows) zero t r all = absurd (let z : ◌≡◌ {A = ℕ} 0 1 = cc in omega arith)
row_from_seated P (None ∷ rows) (suc i) t r all = row_from_seated P rows i t r all

-- of no two rows is the second marked too far above the first
abbrev pub Near : Meaning → List (Option Terminal) → List ℕ → Type 0
Near m rows marks = (i j : ℕ) → i < length rows → j < length rows → too_far m (row_at rows i) (mark_at marks i) (row_at rows j) (mark_at marks j) ≡ false

reaches_from_near : (m : Meaning) (t u : Terminal) (x y : ℕ) → too_far m (Some t) x (Some u) y ≡ false → y ≤ x + m.span t.site u.site
reaches_from_near m t u x y = go (m.known t.site && m.known u.site)
  where
    go : (b : Bool) → beyond (cond b (Some (m.span t.site u.site)) None) x y ≡ false → y ≤ x + m.span t.site u.site
    go true e = ltb-false (x + m.span t.site u.site) y e
    go false e = absurd (true≢false e)

pub near_from_reaches : (m : Meaning) (t u : Terminal) (x y : ℕ) → m.known t.site ≡ true → m.known u.site ≡ true → y ≤ x + m.span t.site u.site → too_far m (Some t) x (Some u) y ≡ false
near_from_reaches m t u x y k l h =
    let e = and_from (m.known t.site) (m.known u.site) k l in
    ap (λ b. beyond (cond b (Some (m.span t.site u.site)) None) x y) e ∙ le-ltb (x + m.span t.site u.site) y h

pub feasible_from_near : (m : Meaning) (rows : List (Option Terminal)) (marks : List ℕ) → Near m rows marks → Feasible m (pins rows marks)
feasible_from_near m rows marks near =
    pins_from_rows (λ a. AllByRecursion (Reaches m a) (pins rows marks)) rows marks (λ i t k r. pins_from_rows (Reaches m (record { terminal = t; mark = mark_at marks i })) rows marks (λ j u l s. reaches_from_near m t u (mark_at marks i) (mark_at marks j) (at i j t u k l r s)))
  where
    at : (i j : ℕ) (t u : Terminal) → i < length rows → j < length rows → row_at rows i ≡ Some t → row_at rows j ≡ Some u → too_far m (Some t) (mark_at marks i) (Some u) (mark_at marks j) ≡ false
    at i j t u k l r s = sym (ap (λ o. too_far m o (mark_at marks i) (row_at rows j) (mark_at marks j)) r ∙ ap (λ o. too_far m (Some t) (mark_at marks i) o (mark_at marks j)) s) ∙ near i j k l

near_from_feasible : (m : Meaning) (rows : List (Option Terminal)) (marks : List ℕ) → length marks ≡ length rows → Seated m (seated rows) → Feasible m (pins rows marks) → Near m rows marks
near_from_feasible m rows marks e known feasible i j k l = go (row_at rows i) (row_at rows j) refl refl
  where
    go : (a b : Option Terminal) → row_at rows i ≡ a → row_at rows j ≡ b → too_far m a (mark_at marks i) b (mark_at marks j) ≡ false
    go None b r s = refl
    go (Some t) None r s = refl
    go (Some t) (Some u) r s =
        let a : Pin = record { terminal = t; mark = mark_at marks i } in
        let from = row_from_pins (λ p. AllByRecursion (Reaches m p) (pins rows marks)) rows marks i t e r feasible in
        let reach = row_from_pins (Reaches m a) rows marks j u e s from in
        near_from_reaches m t u (mark_at marks i) (mark_at marks j) (row_from_seated (λ v. m.known v.site ≡ true) rows i t r known) (row_from_seated (λ v. m.known v.site ≡ true) rows j u s known) reach

-- marks for the rows: a filled row takes the mark of the next pin, an empty one 0
abbrev pub spread : List (Option Terminal) → List Pin → List ℕ
spread [] ps = []
spread (Some t ∷ rows) [] = 0 ∷ spread rows []
spread (Some t ∷ rows) (p ∷ ps) = p.mark ∷ spread rows ps
spread (None ∷ rows) ps = 0 ∷ spread rows ps

pub length_spread : (rows : List (Option Terminal)) (ps : List Pin) → length (spread rows ps) ≡ length rows
length_spread [] ps = refl
length_spread (Some t ∷ rows) [] = ap suc (length_spread rows [])
length_spread (Some t ∷ rows) (p ∷ ps) = ap suc (length_spread rows ps)
length_spread (None ∷ rows) ps = ap suc (length_spread rows ps)

pub pins_spread : (rows : List (Option Terminal)) (ps : List Pin) → terminals ps ≡ seated rows → pins rows (spread rows ps) ≡ ps
pins_spread [] [] e = refl
pins_spread [] (p ∷ ps) e = absurd (let z : ◌≡◌ {A = ℕ} 0 1 = cc in omega arith)
pins_spread (Some t ∷ rows) [] e = absurd (let z : ◌≡◌ {A = ℕ} 0 1 = cc in omega arith)
pins_spread (Some t ∷ rows) (p ∷ ps) e =
    let first : t ≡ p.terminal = cc in
    let rest : terminals ps ≡ seated rows = cc in
    let same : ◌≡◌ {A = Pin} (record { terminal = t; mark = p.mark }) p = ap (λ v. record { terminal = v; mark = p.mark }) first in
    cc (same, pins_spread rows ps rest)
pins_spread (None ∷ rows) ps e = pins_spread rows ps e

pub spread_fits : (rows : List (Option Terminal)) (ps : List Pin) → AllByRecursion (λ p. p.mark ≤ 4000000) ps → (i : ℕ) → mark_fits (row_at rows i) (mark_at (spread rows ps) i) ≡ true
spread_fits [] ps all i = refl
spread_fits (Some t ∷ rows) [] all zero = refl
spread_fits (Some t ∷ rows) [] all (suc i) = spread_fits rows [] all i
spread_fits (Some t ∷ rows) (p ∷ ps) all zero = le-leb p.mark 4000000 all.0
spread_fits (Some t ∷ rows) (p ∷ ps) all (suc i) = spread_fits rows ps all.1 i
spread_fits (None ∷ rows) ps all zero = refl
spread_fits (None ∷ rows) ps all (suc i) = spread_fits rows ps all i

pub spread_near : (m : Meaning) (rows : List (Option Terminal)) (ps : List Pin) → terminals ps ≡ seated rows → Seated m (seated rows) → Feasible m ps → Near m rows (spread rows ps)
spread_near m rows ps e known feasible = near_from_feasible m rows (spread rows ps) (length_spread rows ps) known (subst (Feasible m) (sym (pins_spread rows ps e)) feasible)
