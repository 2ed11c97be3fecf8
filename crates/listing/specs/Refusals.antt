-- The number of every refusal; neither names a place.
use Rattle.std.specs.Prelude.{ℕ}
use Rattle.listing.specs.declared.refusal.Refusal.{Refusal}
use Rattle.listing.specs.declared.refusal.Refusal.TheVariants.{NotPlanned, TextTooLong}

abbrev pub number_of : Refusal → ℕ
number_of NotPlanned = 7
number_of TextTooLong = 31

abbrev pub place_of : Refusal → ℕ
place_of NotPlanned = 0
place_of TextTooLong = 0
