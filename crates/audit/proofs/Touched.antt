-- Where the smallest site that fails is found: only sites that a wire or a terminal touches can fail.
use Rattle.std.proofs.Common.{◌≡◌, ℕ, ◌+◌, ◌^◌, ◌<◌, ◌≤◌, Bool, true, false, cond, ◌&&◌, eqb, ltb, ◌⊎◌, List, [], ◌∷◌, length, get_or, take, ℤ, pos, Some, None, Option, sym, refl, subst, inl, inr, arith}
use borrow.Author.Differences.{ints}
use Rattle.std.specs.List.{AllByRecursion}
use Rattle.std.proofs.ByRecursion.{All-more, All-weaker}
use Rattle.std.proofs.lemmas.Bool.{and_parts, cases_Bool, both_ways, eqb-true, ltb-true, ltb-false}
use Rattle.wires.specs.declared.terminal.Terminal.{Terminal}
use Rattle.wires.specs.declared.wire.Wire.{Wire}
use Rattle.wires.specs.Wiring.{share, net, due, seated}
use Rattle.audit.specs.Audit.{lowest, unmet}
use Rattle.audit.specs.Search.{lowered, IsSite, Fails, Passed, OfRow, Looked}
use Rattle.audit.proofs.Lowest.{lowest_none, lowest_found}

-- one site more is looked at
lowered_fails : (bad : ℕ → Bool) (found : Option ℕ) (site : ℕ) → Fails bad found → Fails bad (lowered bad found site)
lowered_fails bad (Some low) site fails = go (ltb site low && bad site) refl
  where
    go : (b : Bool) → (ltb site low && bad site) ≡ b → Fails bad (cond b (Some site) (Some low))
    go true e = (and_parts (ltb site low) (bad site) e).1
    go false e = fails
lowered_fails bad None site fails = go (bad site) refl
  where
    go : (b : Bool) → bad site ≡ b → Fails bad (cond b (Some site) None)
    go true e = e
    go false e = tt

lowered_here : (bad : ℕ → Bool) (found : Option ℕ) (site : ℕ) → Passed bad (lowered bad found site) site
lowered_here bad (Some low) site = go (ltb site low) refl (bad site) refl
  where
    go : (b : Bool) → ltb site low ≡ b → (f : Bool) → bad site ≡ f → Passed bad (cond (b && f) (Some site) (Some low)) site
    go true e true f = λ _. omega arith
    go true e false f = λ g. absurd (both_ways (bad site) f g)
    go false e true f = λ _. ltb-false site low e
    go false e false f = λ _. ltb-false site low e
lowered_here bad None site = go (bad site) refl
  where
    go : (b : Bool) → bad site ≡ b → Passed bad (cond b (Some site) None) site
    go true e = λ _. omega arith
    go false e = e

lowered_rest : (bad : ℕ → Bool) (found : Option ℕ) (site : ℕ) (t : ℕ) → Passed bad found t → Passed bad (lowered bad found site) t
lowered_rest bad (Some low) site t passed = go (ltb site low && bad site) refl
  where
    go : (b : Bool) → (ltb site low && bad site) ≡ b → Passed bad (cond b (Some site) (Some low)) t
    go true e = λ f. let h = passed f in let l = ltb-true site low (and_parts (ltb site low) (bad site) e).0 in omega arith
    go false e = passed
lowered_rest bad None site t passed = go (bad site)
  where
    go : (b : Bool) → Passed bad (cond b (Some site) None) t
    go true = λ f. absurd (both_ways (bad t) passed f)
    go false = passed

-- nothing was looked at yet
pub looked_none : (bad : ℕ → Bool) → Looked bad None [] []
looked_none bad = record { site = tt; fails = tt; ends = tt; seats = tt }

-- a site more was looked at
module _ (bad : ℕ → Bool) (found : Option ℕ) (site : ℕ) (next : Option ℕ) (is : next ≡ lowered bad found site) where
  then_fails : Fails bad found → Fails bad next
  then_fails f = subst (Fails bad) (sym is) (lowered_fails bad found site f)

  then_here : Passed bad next site
  then_here = let P : Option ℕ → Type 0 = λ o. Passed bad o site in subst P (sym is) (lowered_here bad found site)

  then_rest : (t : ℕ) → Passed bad found t → Passed bad next t
  then_rest t p = let P : Option ℕ → Type 0 = λ o. Passed bad o t in subst P (sym is) (lowered_rest bad found site t p)

-- the next wire's ends were looked at
pub looked_wire : (bad : ℕ → Bool) (found mid next : Option ℕ) (ws : List Wire) (i : ℕ) (d : Wire) → i < length ws → Looked bad found (take i ws) [] → mid ≡ lowered bad found (get_or ws i d).start → next ≡ lowered bad mid (get_or ws i d).end → IsSite next → Looked bad next (take (i + 1) ws) []
looked_wire bad found mid next ws i d h l to_mid to_next site = record { site = site; fails = then_fails bad mid (get_or ws i d).end next to_next (then_fails bad found (get_or ws i d).start mid to_mid l.fails); ends = ends; seats = tt }
  where
    rest : (t : ℕ) → Passed bad found t → Passed bad next t
    rest t p = then_rest bad mid (get_or ws i d).end next to_next t (then_rest bad found (get_or ws i d).start mid to_mid t p)

    ends : AllByRecursion (λ w. Passed bad next w.start × Passed bad next w.end) (take (i + 1) ws)
    ends = All-more (λ w. Passed bad next w.start × Passed bad next w.end) ws i d h (All-weaker (λ w. Passed bad found w.start × Passed bad found w.end) (λ w. Passed bad next w.start × Passed bad next w.end) (λ w p. (rest w.start p.0, rest w.end p.1)) (take i ws) l.ends) (then_rest bad mid (get_or ws i d).end next to_next (get_or ws i d).start (then_here bad found (get_or ws i d).start mid to_mid), then_here bad mid (get_or ws i d).end next to_next)

-- the next row was looked at: empty, or its terminal's site
module _ (bad : ℕ → Bool) (found : Option ℕ) (ws : List Wire) (rows : List (Option Terminal)) (i : ℕ) (h : i < length rows) (l : Looked bad found ws (take i rows)) where
  pub looked_empty : get_or rows i None ≡ None → Looked bad found ws (take (i + 1) rows)
  looked_empty e = record { site = l.site; fails = l.fails; ends = l.ends; seats = All-more (OfRow (λ t. Passed bad found t.site)) rows i None h l.seats (subst (OfRow (λ t. Passed bad found t.site)) (sym e) tt) }

  pub looked_seat : (t : Terminal) (next : Option ℕ) → get_or rows i None ≡ Some t → next ≡ lowered bad found t.site → IsSite next → Looked bad next ws (take (i + 1) rows)
  looked_seat t next e is site = record { site = site; fails = then_fails bad found t.site next is l.fails; ends = ends; seats = seats }
    where
      rest : (s : ℕ) → Passed bad found s → Passed bad next s
      rest s p = then_rest bad found t.site next is s p

      rest_row : (r : Option Terminal) → OfRow (λ t. Passed bad found t.site) r → OfRow (λ t. Passed bad next t.site) r
      rest_row (Some u) p = rest u.site p
      rest_row None p = tt

      ends : AllByRecursion (λ w. Passed bad next w.start × Passed bad next w.end) ws
      ends = All-weaker (λ w. Passed bad found w.start × Passed bad found w.end) (λ w. Passed bad next w.start × Passed bad next w.end) (λ w p. (rest w.start p.0, rest w.end p.1)) ws l.ends

      seats : AllByRecursion (OfRow (λ t. Passed bad next t.site)) (take (i + 1) rows)
      seats = All-more (OfRow (λ t. Passed bad next t.site)) rows i None h (All-weaker (OfRow (λ t. Passed bad found t.site)) (OfRow (λ t. Passed bad next t.site)) rest_row (take i rows) l.seats) (subst (OfRow (λ t. Passed bad next t.site)) (sym e) (then_here bad found t.site next is))

-- something stands at a site, or it adds nothing there
share_or_none : (P : ℕ → Type 0) (a s : ℕ) (z : ℤ) → P a → P s ⊎ (share a s z ≡ pos 0)
share_or_none P a s z p = go (eqb a s) refl
  where
    go : (b : Bool) → eqb a s ≡ b → P s ⊎ (cond b z (pos 0) ≡ pos 0)
    go true e = inl (subst P (eqb-true a s e) p)
    go false e = inr refl

net_or_none : (P : ℕ → Type 0) (ws : List Wire) (s : ℕ) → AllByRecursion (λ w. P w.start × P w.end) ws → P s ⊎ (net ws s ≡ pos 0)
net_or_none P [] s all = inr refl
net_or_none P (w ∷ ws) s all = go (share_or_none P w.start s (pos w.current) all.0.0) (share_or_none P w.end s (pos w.current) all.0.1) (net_or_none P ws s all.1)
  where
    go : P s ⊎ (share w.start s (pos w.current) ≡ pos 0) → P s ⊎ (share w.end s (pos w.current) ≡ pos 0) → P s ⊎ (net ws s ≡ pos 0) → P s ⊎ (net (w ∷ ws) s ≡ pos 0)
    go (inl p) b c = inl p
    go (inr a) (inl p) c = inl p
    go (inr a) (inr b) (inl p) = inl p
    go (inr a) (inr b) (inr c) = inr (omega (arith, ints))

due_or_none : (P : ℕ → Type 0) (rows : List (Option Terminal)) (s : ℕ) → AllByRecursion (OfRow (λ t. P t.site)) rows → P s ⊎ (due (seated rows) s ≡ pos 0)
due_or_none P [] s all = inr refl
due_or_none P (None ∷ rows) s all = due_or_none P rows s all.1
due_or_none P (Some t ∷ rows) s all = go (share_or_none P t.site s t.current all.0) (due_or_none P rows s all.1)
  where
    go : P s ⊎ (share t.site s t.current ≡ pos 0) → P s ⊎ (due (seated rows) s ≡ pos 0) → P s ⊎ (due (seated (Some t ∷ rows)) s ≡ pos 0)
    go (inl p) b = inl p
    go (inr a) (inl p) = inl p
    go (inr a) (inr b) = inr (omega (arith, ints))

-- when every site that is touched was looked at, what was found is the smallest that fails
module _ (rows : List (Option Terminal)) (ws : List Wire) where
  all_looked : (P : ℕ → Type 0) → AllByRecursion (λ w. P w.start × P w.end) ws → AllByRecursion (OfRow (λ t. P t.site)) rows → (s : ℕ) → P s ⊎ (unmet rows ws s ≡ false)
  all_looked P ends seats s = go (net_or_none P ws s ends) (due_or_none P rows s seats)
    where
      go : P s ⊎ (net ws s ≡ pos 0) → P s ⊎ (due (seated rows) s ≡ pos 0) → P s ⊎ (unmet rows ws s ≡ false)
      go (inl p) b = inl p
      go (inr a) (inl p) = inl p
      go (inr a) (inr b) = inr (rw (a, b) refl)

  pub found_lowest : (found : Option ℕ) → Looked (unmet rows ws) found ws rows → found ≡ lowest (unmet rows ws) (2 ^ 32)
  found_lowest None l = sym (lowest_none (unmet rows ws) (2 ^ 32) (λ k h. go k (all_looked (Passed (unmet rows ws) None) l.ends l.seats k)))
    where
      go : (k : ℕ) → (unmet rows ws k ≡ false) ⊎ (unmet rows ws k ≡ false) → unmet rows ws k ≡ false
      go k (inl e) = e
      go k (inr e) = e
  found_lowest (Some low) l = sym (lowest_found (unmet rows ws) (2 ^ 32) low (λ k h. go k h (all_looked (Passed (unmet rows ws) (Some low)) l.ends l.seats k)) l.fails l.site)
    where
      below : (k : ℕ) → k < low → (unmet rows ws k ≡ true → low ≤ k) → (unmet rows ws k ≡ true) ⊎ (unmet rows ws k ≡ false) → unmet rows ws k ≡ false
      below k h p (inl e) = let l = p e in absurd (omega arith)
      below k h p (inr e) = e

      go : (k : ℕ) → k < low → (unmet rows ws k ≡ true → low ≤ k) ⊎ (unmet rows ws k ≡ false) → unmet rows ws k ≡ false
      go k h (inl p) = below k h p (cases_Bool (unmet rows ws k))
      go k h (inr e) = e
