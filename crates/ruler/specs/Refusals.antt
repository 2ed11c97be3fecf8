-- The number of every refusal of a ruler; none names a place.
use Rattle.std.specs.Prelude.{ℕ}
use Rattle.ruler.specs.declared.refusal.Refusal.{Refusal}
use Rattle.ruler.specs.declared.refusal.Refusal.TheVariants.{SiteCount, RingOutOfRange, LegSite, LegTooLong, FactorOutOfRange, ViaOutOfRange}

abbrev pub number_of : Refusal → ℕ
number_of SiteCount = 16
number_of RingOutOfRange = 17
number_of LegSite = 18
number_of LegTooLong = 19
number_of FactorOutOfRange = 20
number_of ViaOutOfRange = 21

abbrev pub place_of : Refusal → ℕ
place_of _ = 0
