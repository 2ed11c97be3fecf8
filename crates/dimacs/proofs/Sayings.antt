-- What a line says by its words, against the layout's words for it.
use Rattle.std.proofs.Common.{◌≡◌, ℕ, zero, suc, Bool, true, false, cond, eqb, List, [], ◌∷◌, codes, length, get_or, Some, None, Ok, Err, Option, Result, sym, refl, ap, ◌∙◌, subst, arith}
use Rattle.std.specs.Str.{bytes_eq}
use Rattle.std.proofs.lemmas.Bool.{eqb-true}
use Rattle.std.proofs.lemmas.Slice.Eq.{bytes_eq-Decides}
use Rattle.reader.specs.declared.line.Line.{Line}
use Rattle.reader.specs.declared.line.Line.TheVariants.{Blank, Comment, Problem, Node, Arc}
use Rattle.reader.specs.declared.refusal.Fault.TheVariants.{LineKind, LineWords}
use Rattle.reader.specs.declared.refusal.Refusal.{Refusal}
use Rattle.dimacs.specs.Layout.{ArcLine, NodeLine, SaysArc, SaysNode, SaysProblem, Silent}
use Rattle.reader.specs.Lines.{arc_said, counted, fifth, fourth, node_said, problem_said, read, said, says_min, second, sixth, third}
use Rattle.reader.specs.Numbers.{numeral, flow_of}
use Rattle.reader.specs.Refusals.{refused}

-- what is refused is not accepted
pub never : {A : Type 0} {r : Refusal} {x : A} → Err r ≡ Ok x → ⊥
never e = let z : ◌≡◌ {A = ℕ} 0 1 = cc in omega arith

-- a list by its places, n of them from place i
module _ {A : Type 0} (d : A) where
  abbrev placed : ℕ → ℕ → List A → List A
  placed i zero xs = []
  placed i (suc n) xs = get_or xs i d ∷ placed (suc i) n xs

  placed_later : (i n : ℕ) (x : A) (xs : List A) → placed (suc i) n (x ∷ xs) ≡ placed i n xs
  placed_later i zero x xs = refl
  placed_later i (suc n) x xs = ap (λ l. get_or xs i d ∷ l) (placed_later (suc i) n x xs)

  placed_all : (n : ℕ) (xs : List A) → length xs ≡ n → xs ≡ placed 0 n xs
  placed_all zero [] e = refl
  placed_all zero (x ∷ xs) e = absurd (omega arith)
  placed_all (suc n) [] e = absurd (omega arith)
  placed_all (suc n) (x ∷ xs) e = ap (λ l. x ∷ l) (placed_all n xs (omega arith) ∙ sym (placed_later 0 n x xs))

-- what a line says, in the layout's words
abbrev pub Says : List (List ℕ) → Line → Type 0
Says ws Blank = Silent ws
Says ws Comment = Silent ws
Says ws (Problem p) = p.is_min ≡ true → SaysProblem ws p.sites p.arcs
Says ws (Node n) = SaysNode ws (record { id = n.id; flow = n.flow })
Says ws (Arc a) = SaysArc ws (record { from = a.from; to = a.to; low = a.low; cap = a.cap; cost = a.cost })

-- a line that is not refused has the words that its kind asks for
counted_is : (line n : ℕ) (ws : List (List ℕ)) (r : Result Line Refusal) (l : Line) → counted line n ws r ≡ Ok l → (length ws ≡ n) × (r ≡ Ok l)
counted_is line n ws r l e = go (eqb (length ws) n) refl e
  where
    go : (t : Bool) → eqb (length ws) n ≡ t → cond t r (Err (refused LineWords line 0)) ≡ Ok l → (length ws ≡ n) × (r ≡ Ok l)
    go true is e = (eqb-true (length ws) n is, e)
    go false is e = absurd (never e)

-- and each number that it asks for
read_is : {A : Type 0} (line word : ℕ) (o : Option A) (go : A → Result Line Refusal) (l : Line) → read line word o go ≡ Ok l → (x : A) × (o ≡ Some x) × (go x ≡ Ok l)
read_is line word (Some x) go l e = (x, refl, e)
read_is line word None go l e = absurd (never e)

module _ (line : ℕ) (ws : List (List ℕ)) (l : Line) where
  problem_says : get_or ws 0 [] ≡ 112 ∷ [] → problem_said line ws ≡ Ok l → Says ws l
  problem_says first e =
      let n = counted_is line 4 ws _ l e in
      let s = read_is line 3 (numeral (third ws)) _ l n.1 in
      let a = read_is line 4 (numeral (fourth ws)) _ l s.2 in
      let is : Problem (record { is_min = says_min (second ws); sites = s.0; arcs = a.0 }) ≡ l = cc in
      let all = placed_all [] 4 ws n.0 in
      subst (Says ws) is (λ min. record { first = third ws; second = fourth ws; words = all ∙ ap (λ w. w ∷ second ws ∷ third ws ∷ fourth ws ∷ []) first ∙ ap (λ w. (112 ∷ []) ∷ w ∷ third ws ∷ fourth ws ∷ []) ((bytes_eq-Decides (second ws) (codes "min")).0 min); says_sites = s.1; says_arcs = a.1 })

  node_says : get_or ws 0 [] ≡ 110 ∷ [] → node_said line ws ≡ Ok l → Says ws l
  node_says first e =
      let n = counted_is line 3 ws _ l e in
      let i = read_is line 2 (numeral (second ws)) _ l n.1 in
      let f = read_is line 3 (flow_of (third ws)) _ l i.2 in
      let is : Node (record { id = i.0; flow = f.0 }) ≡ l = cc in
      let all = placed_all [] 3 ws n.0 in
      subst (Says ws) is (record { first = second ws; second = third ws; words = all ∙ ap (λ w. w ∷ second ws ∷ third ws ∷ []) first; says_id = i.1; says_flow = f.1 })

  arc_says : get_or ws 0 [] ≡ 97 ∷ [] → arc_said line ws ≡ Ok l → Says ws l
  arc_says first e =
      let n = counted_is line 6 ws _ l e in
      let f = read_is line 2 (numeral (second ws)) _ l n.1 in
      let t = read_is line 3 (numeral (third ws)) _ l f.2 in
      let b = read_is line 4 (numeral (fourth ws)) _ l t.2 in
      let c = read_is line 5 (numeral (fifth ws)) _ l b.2 in
      let p = read_is line 6 (numeral (sixth ws)) _ l c.2 in
      let is : Arc (record { from = f.0; to = t.0; low = b.0; cap = c.0; cost = p.0 }) ≡ l = cc in
      let all = placed_all [] 6 ws n.0 in
      subst (Says ws) is (record {
        first = second ws;
        second = third ws;
        third = fourth ws;
        fourth = fifth ws;
        fifth = sixth ws;
        words = all ∙ ap (λ w. w ∷ second ws ∷ third ws ∷ fourth ws ∷ fifth ws ∷ sixth ws ∷ []) first;
        says_from = f.1;
        says_to = t.1;
        says_low = b.1;
        says_cap = c.1;
        says_cost = p.1;
      })

-- whatever is said was said in those words
pub says : (line : ℕ) (ws : List (List ℕ)) (l : Line) → said line ws ≡ Ok l → Says ws l
says line [] l e = let is : Blank ≡ l = cc in subst (Says []) is tt
says line (w ∷ ws) l e = go (bytes_eq w (codes "c")) (bytes_eq w (codes "p")) (bytes_eq w (codes "n")) (bytes_eq w (codes "a")) ((bytes_eq-Decides w (codes "c")).0) ((bytes_eq-Decides w (codes "p")).0) ((bytes_eq-Decides w (codes "n")).0) ((bytes_eq-Decides w (codes "a")).0) e
  where
    go : (c p n a : Bool) → (c ≡ true → w ≡ codes "c") → (p ≡ true → w ≡ codes "p") → (n ≡ true → w ≡ codes "n") → (a ≡ true → w ≡ codes "a") → cond c (Ok Comment) (cond p (problem_said line (w ∷ ws)) (cond n (node_said line (w ∷ ws)) (cond a (arc_said line (w ∷ ws)) (Err (refused LineKind line 1))))) ≡ Ok l → Says (w ∷ ws) l
    go true p n a is_c is_p is_n is_a e = let is : Comment ≡ l = cc in subst (Says (w ∷ ws)) is (is_c refl)
    go false true n a is_c is_p is_n is_a e = problem_says line (w ∷ ws) l (is_p refl) e
    go false false true a is_c is_p is_n is_a e = node_says line (w ∷ ws) l (is_n refl) e
    go false false false true is_c is_p is_n is_a e = arc_says line (w ∷ ws) l (is_a refl) e
    go false false false false is_c is_p is_n is_a e = absurd (never e)

-- and those words say it
module _ (line : ℕ) (ws : List (List ℕ)) where
  pub problem_is_said : (sites arcs : ℕ) → SaysProblem ws sites arcs → said line ws ≡ Ok (Problem (record { is_min = true; sites = sites; arcs = arcs }))
  problem_is_said sites arcs s = ap (said line) s.words ∙ simp (s.says_sites, s.says_arcs)

  pub node_is_said : (n : NodeLine) → SaysNode ws n → said line ws ≡ Ok (Node (record { id = n.id; flow = n.flow }))
  node_is_said n s = ap (said line) s.words ∙ simp (s.says_id, s.says_flow)

  pub arc_is_said : (a : ArcLine) → SaysArc ws a → said line ws ≡ Ok (Arc (record { from = a.from; to = a.to; low = a.low; cap = a.cap; cost = a.cost }))
  arc_is_said a s = ap (said line) s.words ∙ simp (s.says_from, s.says_to, s.says_low, s.says_cap, s.says_cost)
