-- One written item of a row, by what it changes and what it leaves.
use Rattle.std.proofs.Common.{◌≡◌, ℕ, zero, suc, ◌<◌, true, false, Option, Some, None, is_none, is_some, nat_lt, List, length, set, replicate, slice_index_or, refl, length-set, get_or-set_other, get_or-set_same, arith}
use Rattle.transport.specs.Solver.{Put, round_of}
use Rattle.transport.specs.declared.load.tree.Reached.{Reached}

pub put_set_as : {A : Type 0} (d : A) (xs : List A) (k : ℕ) (x y : A) → k < length xs → x ≡ y → Put d xs (set xs k x) k y
put_set_as d xs k x y l e = record { size = length-set xs k x; here = rw get_or-set_same e; rest = λ i ne. rw get_or-set_other }

pub put_set : {A : Type 0} (d : A) (xs : List A) (k : ℕ) (x : A) → k < length xs → Put d xs (set xs k x) k x
put_set d xs k x l = put_set_as d xs k x x l refl

-- a row of one item, and past its end
pub blank : {A : Type 0} (d : A) (n i : ℕ) → slice_index_or (replicate n d) i d ≡ d
blank d zero i = refl
blank d (suc n) zero = refl
blank d (suc n) (suc i) = blank d n i

pub round_none : (o : Option Reached) → is_none o ≡ true → round_of o ≡ 0
round_none None e = refl
round_none (Some r) e = cc

pub round_some : (o : Option Reached) → is_none o ≡ false → 0 < round_of o
round_some None e = cc
round_some (Some r) e = omega arith

pub some_round : (o : Option Reached) → is_some o ≡ nat_lt 0 (round_of o)
some_round None = refl
some_round (Some r) = grind arith
