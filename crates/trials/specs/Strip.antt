-- A hundred sites on a line.
use Rattle.std.specs.Prelude.{nat_lt}
use Rattle.ruler.specs.Meaning.{Meaning}
use Rattle.ruler.specs.Plane.{apart}

abbrev pub strip : Meaning
strip = record { known = λ s. nat_lt s 100; span = apart }
