-- A derated ruler keeps the laws that the ruler below keeps.
use Rattle.std.specs.Prelude.{◌≡◌, ℕ, ◌+◌, ◌*◌, ◌≤◌}
use Rattle.std.proofs.Common.{mul-add, mul-le-mul_left, mul-zero, arith}
use Rattle.ruler.specs.Meaning.{Meaning, Metric}
use Rattle.ruler.specs.Derated.{derated, lengthened}

capped_detour : (f p q r : ℕ) → p ≤ q + r → lengthened f p ≤ lengthened f q + lengthened f r
capped_detour f p q r h =
    let product : f * p ≤ f * q + f * r = rw (← mul-add) (mul-le-mul_left f h) in omega arith

capped_zero : (f p : ℕ) → p ≡ 0 → lengthened f p ≡ 0
capped_zero f p h = rw (h, mul-zero) (omega arith)

pub derated_metric : (f : ℕ) (m : Meaning) → Metric m → Metric (derated f m)
derated_metric f m laws =
    record {
      sites = laws.sites;
      still = λ a h. capped_zero f _ (laws.still a h);
      detour = λ a b c h k l. capped_detour f _ _ _ (laws.detour a b c h k l);
      ceiling = λ a b h k. omega arith;
    }
