-- The lengths of a stack keep the laws of every ruler.
use Rattle.std.specs.Prelude.{◌≡◌, ℕ, ◌+◌, ◌*◌, ◌^◌, ◌≤◌}
use Rattle.std.proofs.Common.{mul-add, mul-le-mul_left, mul-zero, arith, ltb-true}
use Rattle.ruler.specs.Meaning.{Metric}
use Rattle.ruler.specs.Plane.{apart}
use Rattle.ruler.specs.Stack.{stack, column, row, layer}

apart_detour : (a b c : ℕ) → apart a c ≤ apart a b + apart b c
apart_detour a b c = omega arith

apart_below : (n a b : ℕ) → a ≤ n → b ≤ n → apart a b ≤ n
apart_below n a b h k = omega arith

via_detour : (via p q r : ℕ) → p ≤ q + r → via * p ≤ via * q + via * r
via_detour via p q r h = rw (← mul-add) (mul-le-mul_left via h)

via_ceiling : (via p : ℕ) → via ≤ 1000 → p ≤ 15 → via * p ≤ 15000
via_ceiling via p h k = omega (arith, mul-le-mul_left via k)

pub stack_metric : (via : ℕ) → via ≤ 1000 → Metric (stack via)
stack_metric via short =
    record {
      sites = λ a h. ltb-true a (2 ^ 32) h;
      still = λ a h. let z : apart (layer a) (layer a) ≡ 0 = omega arith in rw (z, mul-zero) (omega arith);
      detour = λ a b c h k l.
          let p = apart_detour (column a) (column b) (column c) in
          let q = apart_detour (row a) (row b) (row c) in
          let r = via_detour via _ _ _ (apart_detour (layer a) (layer b) (layer c)) in
          omega arith;
      ceiling = λ a b h k.
          let p = apart_below 16383 (column a) (column b) (omega arith) (omega arith) in
          let q = apart_below 16383 (row a) (row b) (omega arith) (omega arith) in
          let ha = ltb-true a (2 ^ 32) h in
          let hb = ltb-true b (2 ^ 32) k in
          let r = via_ceiling via _ short (apart_below 15 (layer a) (layer b) (omega arith) (omega arith)) in
          omega arith;
    }
