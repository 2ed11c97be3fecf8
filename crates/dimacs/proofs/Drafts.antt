-- A draft that has its problem, and what one more line makes of it.
use Rattle.std.proofs.Common.{◌≡◌, ℕ, suc, ◌+◌, ◌<◌, Bool, cond, ◌||◌, eqb, ltb, List, [], ◌∷◌, ◌++◌, Some, None, Ok, Option, Result, refl, ap, arith}
use Rattle.std.proofs.lemmas.Grind.{common_steps}
use Rattle.audit.specs.Questions.{outcome}
use Rattle.dimacs.specs.declared.document.Problem as the_problem
use Rattle.dimacs.specs.declared.document.Node as the_node
use Rattle.dimacs.specs.declared.document.Arc as the_arc
use Rattle.reader.specs.declared.refusal.Refusal.{Refusal}
use Rattle.dimacs.specs.Layout.{Silent}
use Rattle.dimacs.specs.Scan.{Draft, finished, row_entered, taken, then}
use Rattle.dimacs.proofs.Sayings.{never}

-- the lines of a file, each as its words
abbrev pub Rows : Type 0
Rows = List (List (List ℕ))

abbrev pub draft : the_problem.Problem → List the_node.Node → List the_arc.Arc → ℕ → Draft
draft p ns xs k = record { problem = Some p; nodes = ns; arcs = xs; lines = k }

-- a scan that ends well went on from each line
pub went : (q : Option Refusal) (d e : Draft) (go : Draft → Result Draft Refusal) → then (outcome q d) go ≡ Ok e → (q ≡ None) × (go d ≡ Ok e)
went None d e go is = (refl, is)
went (Some r) d e go is = absurd (never is)

-- a line that says nothing leaves the draft
pub silent_entered : (known : ℕ → Bool) (line : ℕ) (d : Draft) (ws : List (List ℕ)) → Silent ws → row_entered known line d ws ≡ Ok d
silent_entered known line d [] s = refl
silent_entered known line d (w ∷ ws) s = ap (λ v. row_entered known line d (v ∷ ws)) s

-- the ids of these nodes and one more
pub taken_push : (ns : List the_node.Node) (m : the_node.Node) (id : ℕ) → taken (ns ++ (m ∷ [])) id ≡ (taken ns id || eqb m.id id)
taken_push [] m id = grind (arith, common_steps)
taken_push (n ∷ ns) m id = grind (arith, common_steps, taken_push ns m id)

module _ (p : the_problem.Problem) (ns : List the_node.Node) where
  -- at the end the arcs are as many as the problem says
  pub finished_is : (line : ℕ) (xs : List the_arc.Arc) (k : ℕ) (e : Draft) → finished line (draft p ns xs k) ≡ Ok e → (p.arcs ≡ k) × (e ≡ draft p ns xs k)
  finished_is line xs k e is = (grind (arith, common_steps), grind (arith, common_steps))

  pub finishes : (line : ℕ) (xs : List the_arc.Arc) (k : ℕ) → p.arcs ≡ k → finished line (draft p ns xs k) ≡ Ok (draft p ns xs k)
  finishes line xs k is = grind (arith, common_steps)

  -- no arcs more
  pub draft_end : (xs : List the_arc.Arc) (k : ℕ) → draft p ns xs k ≡ draft p ns (xs ++ []) (k + 0)
  draft_end xs k = grind (arith, common_steps)

  -- one arc and then others
  pub draft_arc : (xs ys : List the_arc.Arc) (x : the_arc.Arc) (k m : ℕ) → k < 2000 → draft p ns (cond (ltb k 2000) (xs ++ (x ∷ [])) xs ++ ys) (k + 1 + m) ≡ draft p ns (xs ++ (x ∷ ys)) (k + suc m)
  draft_arc xs ys x k m room = grind (arith, common_steps)
