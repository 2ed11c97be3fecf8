-- What a contract sees of a list of bounded length.
use Rattle.std.specs.Prelude.{ℕ, List, take}
use Rattle.bounded.specs.declared.bounded.Bounded.{Bounded}

-- its items in their order
abbrev pub items : {T : Type 0} {N : ℕ} → Bounded T N → List T
items b = take b.count b.places
