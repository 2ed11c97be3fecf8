-- The chart of a run: what sites, ring and legs the steps alone give, without a table.
use Rattle.std.specs.Prelude.{ℕ, List, [], ◌∷◌, Ok, Err}
use Rattle.ruler.specs.declared.map.Map.{Map}
use Rattle.ruler.specs.declared.map.table.run.Step.{Step}
use Rattle.ruler.specs.declared.map.table.run.Step.TheVariants.{Begin, Leg}
use Rattle.ruler.specs.Map as the_map

-- The sites are 1 to that many; the legs are those laid since the map was begun, the last one first.
pub record Chart : Type 0 where
  pub sites : ℕ
  pub ring : ℕ
  pub legs : List the_map.Leg

-- no site, and nothing laid
abbrev pub blank : Chart
blank = record { sites = 0; ring = 0; legs = [] }

-- A step that is not refused begins anew, or puts a leg in front; a refused one changes nothing.
abbrev pub fed : Chart → Step → Chart
fed c (Begin n ring) = elim (the_map.begin_outcome n ring) [ Ok done ↦ record { sites = n; ring = ring; legs = [] } | Err refusal ↦ c ]
fed c (Leg a b len) = elim (the_map.leg_outcome c.sites a b len) [ Ok done ↦ record { sites = c.sites; ring = c.ring; legs = the_map.leg_of a b len ∷ c.legs } | Err refusal ↦ c ]

-- the chart after a run of steps
abbrev pub course : Chart → List Step → Chart
course c [] = c
course c (step ∷ steps) = course (fed c step) steps

-- the map stands for the chart: each of its lengths is the smallest sum along a way of the chart's legs, or the ring
abbrev pub Shows : Map → Chart → Type 0
Shows m c = the_map.Stands m c.sites c.ring c.legs

-- whatever chart the map showed before, it shows that with one step more after
pub record Follows (before after : Map) (step : Step) : Type 0 where
  pub shown : (c : Chart) → Shows before c → Shows after (fed c step)
