-- Marks that are fair from every source to every sink, and tight where anything flows, are fair between any two ends.
use Rattle.std.proofs.Common.{◌≡◌, ℕ, ◌+◌, ◌<◌, ◌≤◌, true, arith}
use Rattle.ruler.specs.Meaning.{Meaning, Metric}

module _ (m : Meaning) (n : ℕ) (site mark : ℕ → ℕ) where
  -- a mark at a site that exceeds no source's mark by more than the length from there, and one that some source's mark reaches
  abbrev pub Under : ℕ → ℕ → Type 0
  Under s x = (i : ℕ) → i < n → x ≤ mark i + m.span (site i) s

  abbrev pub Reached : ℕ → ℕ → Type 0
  Reached s x = (i : ℕ) × (i < n) × (x ≡ mark i + m.span (site i) s)

  module _ (metric : Metric m) (known : (i : ℕ) → i < n → m.known (site i) ≡ true) where
    -- a source whose wire ends at a sink with the mark y
    pub source_under : (k s y : ℕ) → k < n → m.known s ≡ true → y ≡ mark k + m.span (site k) s → Under s y → Under (site k) (mark k)
    source_under k s y h l tight fair i g =
        let there = fair i g in
        let turn = metric.detour (site i) (site k) s (known i g) (known k h) l in
        omega arith

    pub source_reached : (k : ℕ) → k < n → Reached (site k) (mark k)
    source_reached k h = (k, h, let none = metric.still (site k) (known k h) in omega arith)

    pub reached_under : (s t x y : ℕ) → m.known s ≡ true → m.known t ≡ true → Reached s x → Under t y → y ≤ x + m.span s t
    reached_under s t x y k l reached under =
        let there = under reached.0 reached.1 in
        let turn = metric.detour (site reached.0) s t (known reached.0 reached.1) k l in
        let is = reached.2 in
        omega arith
