use Rattle.std.proofs.Common.{ℕ, ◌*◌, ◌≤◌, mul-le-mul_right, arith, rules}
use Rattle.ruler.proofs.factor.Factor.lengthen.Goals as goal

few : (f n : ℕ) → f ≤ 16 → n ≤ 4000000 → f * n ≤ 64000000
few f n h k = omega (arith, mul-le-mul_right n h)

many : (f n : ℕ) → 1 ≤ f → n ≤ f * n
many f n h = omega (arith, mul-le-mul_right n h)

-- src/factor/check.rt:24:14
pub overflow_mul-self : goal.overflow_mul-self
overflow_mul-self c =
    let h : c.args.self.now.times * c.args.length ≤ 64000000 = few _ _ c.args.self.now.small (omega arith) in
    search rules

-- src/factor/check.rt:20:5
pub returns-else-length-le4000000 : goal.returns-else-length-le4000000
returns-else-length-le4000000 c =
    let h = many c.args.self.now.times c.args.length c.args.self.now.positive in omega arith
