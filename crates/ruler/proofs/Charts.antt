-- A map that shows a chart shows it with one step more.
use Rattle.std.proofs.Common.{◌≡◌, ℕ, ◌+◌, ◌<◌, List, [], ◌∷◌, ◌++◌, length, get_or, take, Ok, Err, Result, sym, refl, ap, ◌∙◌, subst, MatchResult}
use Rattle.std.proofs.lemmas.List.{take_more}
use Rattle.ruler.specs.declared.map.Map.{Map}
use Rattle.ruler.specs.declared.map.table.run.Step.{Step}
use Rattle.ruler.specs.declared.map.table.run.Step.TheVariants.{Leg}
use Rattle.ruler.specs.declared.refusal.Refusal.{Refusal}
use Rattle.ruler.specs.Chart.{Chart, Follows, Shows, blank, course, fed}
use Rattle.ruler.specs.Map.{Lengthened, leg_of, leg_outcome}

-- a leg is refused by the map exactly where the chart refuses it
module _ (m after : Map) (a b len : ℕ) (c : Chart) (s : Shows m c) where
  made : (r : Result (Unit {0}) Refusal) → MatchResult r (λ _. Lengthened m after (leg_of a b len)) (λ _. after ≡ m) → Shows after (elim r [ Ok done ↦ record { sites = c.sites; ring = c.ring; legs = leg_of a b len ∷ c.legs } | Err refusal ↦ c ])
  made (Ok done) more = more c.sites c.ring c.legs s
  made (Err refusal) same = let P : Map → Type 0 = λ x. Shows x c in subst P (sym same) s

  pub leg_shown : (r : Result (Unit {0}) Refusal) → r ≡ leg_outcome m.sites a b len → MatchResult r (λ _. Lengthened m after (leg_of a b len)) (λ _. after ≡ m) → Shows after (fed c (Leg a b len))
  leg_shown r is h =
      let P : Result (Unit {0}) Refusal → Type 0 = λ o. Shows after (elim o [ Ok done ↦ record { sites = c.sites; ring = c.ring; legs = leg_of a b len ∷ c.legs } | Err refusal ↦ c ]) in
      subst P (is ∙ ap (λ n. leg_outcome n a b len) s.count) (made r h)

pub course_push : (c : Chart) (steps : List Step) (step : Step) → course c (steps ++ step ∷ []) ≡ fed (course c steps) step
course_push c [] step = refl
course_push c (first ∷ steps) step = course_push (fed c first) steps step

course_more : (steps : List Step) (i : ℕ) (d : Step) → i < length steps → fed (course blank (take i steps)) (get_or steps i d) ≡ course blank (take (i + 1) steps)
course_more steps i d h = sym (course_push blank (take i steps) (get_or steps i d)) ∙ ap (course blank) (sym (take_more steps i d h))

-- the map shows the steps
pub record Charts (m : Map) (steps : List Step) : Type 0 where
  pub shows : Shows m (course blank steps)

-- a map that charts the steps so far charts one more, once it has made it
pub charts_more : (m after : Map) (steps : List Step) (i : ℕ) (d : Step) → i < length steps → Charts m (take i steps) → Follows m after (get_or steps i d) → Charts after (take (i + 1) steps)
charts_more m after steps i d h so_far made =
    let P : Chart → Type 0 = λ c. Shows after c in
    record { shows = subst P (course_more steps i d h) (made.shown _ so_far.shows) }
