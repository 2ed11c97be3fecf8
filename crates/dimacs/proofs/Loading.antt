-- Loads make of a file what its document says.
use Rattle.std.proofs.Common.{◌≡◌, ℕ, Bool, List, [], ◌∷◌, map, Ok, Err, Result, sym, refl, ap, ◌∙◌, subst, arith}
use Rattle.std.proofs.lemmas.Grind.{common_steps}
use Rattle.std.specs.List.{AllByRecursion}
use Rattle.ruler.specs.Chart.{Chart, Shows, blank, course, fed}
use Rattle.ruler.specs.Map as the_map
use Rattle.ruler.specs.declared.map.Map.{Map}
use Rattle.ruler.specs.declared.map.table.run.Step.TheVariants.{Begin, Leg}
use Rattle.reader.specs.declared.refusal.Refusal.{Refusal}
use Rattle.dimacs.specs.Layout.{ArcLine, ArcWithin, Document, Reads, Within, arc_of}
use Rattle.dimacs.specs.Loads.{Draws, LoadsMap, MapAfter, anywhere, done, laid_on, legs_of, steps_of}
use Rattle.dimacs.specs.Scan.{Draft, scanned, sites_of}
use Rattle.dimacs.proofs.Exactness.{exact}
use Rattle.dimacs.proofs.Sayings.{never}

abbrev chart : ℕ → List the_map.Leg → Chart
chart n legs = record { sites = n; ring = 4000000; legs = legs }

-- an arc within the limits is laid
one_leg : (doc : Document) (legs : List the_map.Leg) (a : ArcLine) → ArcWithin doc a → fed (chart doc.sites legs) (Leg a.from a.to a.cost) ≡ chart doc.sites (the_map.leg_of a.from a.to a.cost ∷ legs)
one_leg doc legs a w =
    let from = w.from in
    let to = w.to in
    let cost = w.cost in
    grind (arith, common_steps)

all_legs : (doc : Document) (legs : List the_map.Leg) (arcs : List ArcLine) → AllByRecursion (ArcWithin doc) arcs → course (chart doc.sites legs) (legs_of (map arc_of arcs)) ≡ chart doc.sites (laid_on legs arcs)
all_legs doc legs [] w = refl
all_legs doc legs (a ∷ arcs) w =
    ap (λ c. course c (legs_of (map arc_of arcs))) (one_leg doc legs a w.0) ∙ all_legs doc (the_map.leg_of a.from a.to a.cost ∷ legs) arcs w.1

-- the steps of a document within the limits come to its chart
module _ (known : ℕ → Bool) (doc : Document) (within : Within known doc) (d : Draft) (reads : Reads d doc) where
  begins : fed blank (Begin doc.sites 4000000) ≡ chart doc.sites []
  begins =
      let some = within.some in
      let few = within.few in
      grind (arith, common_steps)

  pub charted : course blank (steps_of d) ≡ chart doc.sites (laid_on [] doc.arcs)
  charted =
      ap (λ p. course (fed blank (Begin (sites_of p) 4000000)) (legs_of d.arcs)) reads.problem ∙ ap (λ l. course (fed blank (Begin doc.sites 4000000)) (legs_of l)) reads.arcs ∙ ap (λ c. course c (legs_of (map arc_of doc.arcs))) begins ∙ all_legs doc [] doc.arcs within.arcs

  pub drawn : (m : Map) → Shows m (course blank (steps_of d)) → Draws m doc
  drawn m shown = subst (Shows m) charted shown

-- from an answer to the file that gave it
module _ {P : Type 0} (s : Result Draft Refusal) where
  pub accepted_draft : done s ≡ Ok tt → ((d : Draft) → s ≡ Ok d → P) → P
  accepted_draft e go = by s refl e
    where
      by : (r : Result Draft Refusal) → s ≡ r → done r ≡ Ok tt → P
      by (Ok d) is e = go d is
      by (Err x) is e = absurd (never e)

pub loads_map : (bs : List ℕ) (r : Result (Unit {0}) Refusal) (before after : Map) → r ≡ done (scanned anywhere bs) → MapAfter (scanned anywhere bs) before after → LoadsMap bs r after
loads_map bs r before after answer made =
    record {
      accepted = λ ok. accepted_draft (scanned anywhere bs) (sym answer ∙ ok) (λ d is.
          let said = (exact anywhere bs).accepted d is in
          (said.0, said.1, drawn anywhere said.0 said.1.within d said.2 after (subst (λ s. MapAfter s before after) is made)));
      accepts = λ doc file.
          let said = (exact anywhere bs).accepts doc file in
          (answer ∙ ap done said.1, drawn anywhere doc file.within said.0 said.2 after (subst (λ s. MapAfter s before after) said.1 made));
    }
