-- The lowest number that fails a test, by what a loop from 0 on has seen.
use Rattle.std.proofs.Common.{◌≡◌, ℕ, zero, suc, ◌<◌, Bool, true, false, cond, Some, None, Option, sym, refl, ap, ◌∙◌, inl, inr, arith}
use Rattle.std.proofs.lemmas.Bool.{cases_order, cases_lt}
use Rattle.audit.specs.Audit.{lowest}

-- one number more, by what was found below it
abbrev next : (ℕ → Bool) → ℕ → Option ℕ → Option ℕ
next bad n found = elim found [ Some i ↦ Some i | None ↦ cond (bad n) (Some n) None ]

step : (bad : ℕ → Bool) (n : ℕ) → lowest bad (suc n) ≡ next bad n (lowest bad n)
unfolding lowest
step bad n = refl

-- nothing below n fails
abbrev pub Clear : (ℕ → Bool) → ℕ → Type 0
Clear bad n = (k : ℕ) → k < n → bad k ≡ false

some_is_not_none : (i : ℕ) → Some i ≡ None → ⊥
some_is_not_none i e = let z : ◌≡◌ {A = ℕ} 0 1 = cc in omega arith

pub lowest_none : (bad : ℕ → Bool) (n : ℕ) → Clear bad n → lowest bad n ≡ None
unfolding lowest
lowest_none bad zero clear = refl
lowest_none bad (suc n) clear =
    let below : lowest bad n ≡ None = lowest_none bad n (λ k h. clear k (omega arith)) in
    step bad n ∙ ap (next bad n) below ∙ ap (λ b. cond b (Some n) None) (clear n (omega arith))

pub lowest_found : (bad : ℕ → Bool) (n i : ℕ) → Clear bad i → bad i ≡ true → i < n → lowest bad n ≡ Some i
unfolding lowest
lowest_found bad zero i clear fails h = absurd (omega arith)
lowest_found bad (suc n) i clear fails h = elim (cases_order i n) [ inl e ↦ here e | inr (inl l) ↦ step bad n ∙ ap (next bad n) (lowest_found bad n i clear fails l) | inr (inr l) ↦ absurd (omega arith) ]
  where
    here : i ≡ n → lowest bad (suc n) ≡ Some i
    here e =
        let below : lowest bad n ≡ None = lowest_none bad n (λ k h. clear k (omega arith)) in
        step bad n ∙ ap (next bad n) below ∙ ap (λ b. cond b (Some n) None) (ap bad (sym e) ∙ fails) ∙ ap Some (sym e)

-- where nothing was found, nothing fails
pub lowest_clear : (bad : ℕ → Bool) (n : ℕ) → lowest bad n ≡ None → Clear bad n
unfolding lowest
lowest_clear bad zero e k h = absurd (omega arith)
lowest_clear bad (suc n) e k h = go (lowest_clear bad n) (lowest bad n) refl (bad n) refl
  where
    go : (lowest bad n ≡ None → Clear bad n) → (o : Option ℕ) → lowest bad n ≡ o → (b : Bool) → bad n ≡ b → bad k ≡ false
    go rest (Some i) below b here = let z : Some i ≡ None = sym (ap (next bad n) below) ∙ sym (step bad n) ∙ e in absurd (some_is_not_none i z)
    go rest None below true here = let z : Some n ≡ None = ap (λ b. cond b (Some n) None) (sym here) ∙ sym (ap (next bad n) below) ∙ sym (step bad n) ∙ e in absurd (some_is_not_none n z)
    go rest None below false here = elim (cases_lt k n) [ inl l ↦ rest below k l | inr l ↦ let same : k ≡ n = omega arith in ap bad same ∙ here ]

-- what was found is below the end
pub lowest_below : (bad : ℕ → Bool) (n i : ℕ) → Some i ≡ lowest bad n → i < n
unfolding lowest
lowest_below bad zero i e = absurd (some_is_not_none i e)
lowest_below bad (suc n) i e = go (lowest_below bad n i) (lowest bad n) refl (bad n) refl
  where
    go : (Some i ≡ lowest bad n → i < n) → (o : Option ℕ) → lowest bad n ≡ o → (b : Bool) → bad n ≡ b → i < suc n
    go rest (Some j) below b here = let h = rest (e ∙ step bad n ∙ ap (next bad n) below ∙ sym below) in omega arith
    go rest None below true here = let z : Some i ≡ Some n = e ∙ step bad n ∙ ap (next bad n) below ∙ ap (λ b. cond b (Some n) None) here in let s : i ≡ n = cc in omega arith
    go rest None below false here = let z : Some i ≡ None = e ∙ step bad n ∙ ap (next bad n) below ∙ ap (λ b. cond b (Some n) None) here in absurd (some_is_not_none i z)
