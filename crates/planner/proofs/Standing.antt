-- Terminals in the rows of sources and of sinks.
use Rattle.std.proofs.Common.{◌≡◌, ℕ, ◌<◌, true, cond, leb, ◌⊎◌, ℤ, pos, negsuc, neg_ℤ, ◌<ℤ◌, Some, None, Option, sym, refl, ap, ◌∙◌, inl, inr, arith}
use borrow.Author.Differences.{ints}
use lib.Signed.{lt_z}
use Rattle.std.proofs.lemmas.Bool.{false≢true, and_parts, and_from, leb-true}
use Rattle.ruler.specs.Meaning.{Meaning}
use Rattle.wires.specs.declared.terminal.Terminal.{Terminal}
use Rattle.audit.specs.Questions.{allowed, row_allowed}
use Rattle.planner.specs.Costs.{cost_between, or_none}
use Rattle.planner.specs.declared.side.Side.TheVariants.{Source, Sink}
use Rattle.planner.specs.Ends.{given, taken, amount}
use Rattle.planner.specs.Planned.{is_sink, is_source, site_of_row}

-- a row that gives has a source, and one that takes has a sink
pub source_in : (o : Option Terminal) → 0 < amount Source o → (t : Terminal) × (o ≡ Some t) × (t.current ≡ pos (amount Source o))
source_in (Some t) h = (t, refl, go t.current h)
  where
    go : (z : ℤ) → 0 < given z → z ≡ pos (given z)
    go (pos n) h = refl
    go (negsuc n) h = absurd (omega arith)
source_in None h = absurd (omega arith)

pub sink_in : (o : Option Terminal) → 0 < amount Sink o → (t : Terminal) × (o ≡ Some t) × (neg_ℤ t.current ≡ pos (amount Sink o))
sink_in (Some t) h = (t, refl, go t.current h)
  where
    go : (z : ℤ) → 0 < taken z → neg_ℤ z ≡ pos (taken z)
    go (pos n) h = absurd (omega arith)
    go (negsuc n) h = refl
sink_in None h = absurd (omega arith)

-- a source gives its current, and a sink takes its own
pub source_gives : (t : Terminal) → pos 0 <ℤ t.current → (0 < amount Source (Some t)) × (pos (amount Source (Some t)) ≡ t.current)
source_gives t = go t.current
  where
    go : (z : ℤ) → pos 0 <ℤ z → (0 < given z) × (pos (given z) ≡ z)
    go (pos n) h = (omega (arith, ints), refl)
    go (negsuc n) h = absurd (omega (arith, ints))

pub sink_takes : (t : Terminal) → t.current <ℤ pos 0 → (0 < amount Sink (Some t)) × (pos (amount Sink (Some t)) ≡ neg_ℤ t.current)
sink_takes t = go t.current
  where
    go : (z : ℤ) → z <ℤ pos 0 → (0 < taken z) × (pos (taken z) ≡ neg_ℤ z)
    go (pos n) h = absurd (omega (arith, ints))
    go (negsuc n) h = (omega arith, refl)

-- no row does both, and one with an allowed current does either
pub not_both : (o : Option Terminal) → 0 < amount Source o → 0 < amount Sink o → ⊥
not_both (Some t) g k = go t.current g k
  where
    go : (z : ℤ) → 0 < given z → 0 < taken z → ⊥
    go (pos n) g k = omega arith
    go (negsuc n) g k = omega arith
not_both None g k = omega arith

pub either_way : (t : Terminal) → row_allowed (Some t) ≡ true → (0 < amount Source (Some t)) ⊎ (0 < amount Sink (Some t))
either_way t = go t.current
  where
    go : (z : ℤ) → allowed z ≡ true → (0 < given z) ⊎ (0 < taken z)
    go (pos n) e = let low = leb-true 1 n (and_parts (leb 1 n) (leb n 1000000) e).0 in inl (omega arith)
    go (negsuc n) e = inr (omega arith)

-- between two seats the cost is the length
pub cost_is_span : (m : Meaning) (o p : Option Terminal) (t u : Terminal) → o ≡ Some t → p ≡ Some u → m.known (site_of_row o) ≡ true → m.known (site_of_row p) ≡ true → cost_between m o p ≡ m.span (site_of_row o) (site_of_row p)
cost_is_span m (Some a) (Some b) t u e f k l = ap (λ c. or_none (cond c (Some (m.span a.site b.site)) None)) (and_from (m.known a.site) (m.known b.site) k l)
cost_is_span m (Some a) None t u e f k l = absurd (let z : ◌≡◌ {A = ℕ} 0 1 = cc in omega arith)
cost_is_span m None p t u e f k l = absurd (let z : ◌≡◌ {A = ℕ} 0 1 = cc in omega arith)

-- the terminal of a row that is a source, and of one that is a sink
pub source_from : (o : Option Terminal) → is_source o ≡ true → (t : Terminal) × (o ≡ Some t) × (pos 0 <ℤ t.current)
source_from (Some t) e = (t, refl, omega (arith, ints))
source_from None e = absurd (false≢true e)

pub sink_from : (o : Option Terminal) → is_sink o ≡ true → (t : Terminal) × (o ≡ Some t) × (t.current <ℤ pos 0)
sink_from (Some t) e = (t, refl, omega (arith, ints))
sink_from None e = absurd (false≢true e)

-- and back
pub is_source_from : (o : Option Terminal) (t : Terminal) → o ≡ Some t → pos 0 <ℤ t.current → is_source o ≡ true
is_source_from o t e h = ap is_source e ∙ (let here : true ≡ lt_z (pos 0) t.current = omega (arith, ints) in sym here)

pub is_sink_from : (o : Option Terminal) (t : Terminal) → o ≡ Some t → t.current <ℤ pos 0 → is_sink o ≡ true
is_sink_from o t e h = ap is_sink e ∙ (let here : true ≡ lt_z t.current (pos 0) = omega (arith, ints) in sym here)
