-- What a ruler means, and the laws that every ruler keeps.
use Rattle.std.specs.Prelude.{◌≡◌, ℕ, ◌+◌, ◌^◌, ◌<◌, ◌≤◌, Bool, true, cond, ◌&&◌, Some, None, Option}

-- The known sites, and a length for every ordered pair of them; the two directions may differ.
pub record Meaning : Type 0 where
  pub known : ℕ → Bool
  pub span : ℕ → ℕ → ℕ

-- A site is a number of 32 bits, and lengths keep three laws wherever the sites are known.
pub record Metric (m : Meaning) : Type 0 where
  pub sites : (a : ℕ) → m.known a ≡ true → a < 2 ^ 32
  -- from a site to itself
  pub still : (a : ℕ) → m.known a ≡ true → m.span a a ≡ 0
  -- a detour is never shorter
  pub detour : (a b c : ℕ) → m.known a ≡ true → m.known b ≡ true → m.known c ≡ true → m.span a c ≤ m.span a b + m.span b c
  pub ceiling : (a b : ℕ) → m.known a ≡ true → m.known b ≡ true → m.span a b ≤ 4000000

-- What a ruler answers for a pair: the length, absent exactly where one of the two is unknown.
abbrev pub measured : Meaning → ℕ → ℕ → Option ℕ
measured m a b = cond (m.known a && m.known b) (Some (m.span a b)) None
