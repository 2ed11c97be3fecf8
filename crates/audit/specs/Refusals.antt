-- The number of every refusal, and the place that it names: an id, a wire counted from 0, a site, or 0.
use Rattle.std.specs.Prelude.{ℕ, List, ◌++◌, codes, decimal}
use Rattle.audit.specs.declared.refusal.Refusal.{Refusal}
use Rattle.audit.specs.declared.refusal.Refusal.TheVariants.{IdOutOfRange, IdTaken, IdFree, CurrentOutOfRange, SiteUnknown, Unbalanced, NotPlanned, MarkCount, WireCount, WireCurrent, WireSite, MarkOutOfRange, Unmet, MarksApart, AreaDiffers}

abbrev pub number_of : Refusal → ℕ
number_of (IdOutOfRange id) = 1
number_of (IdTaken id) = 2
number_of (IdFree id) = 3
number_of (CurrentOutOfRange id) = 4
number_of (SiteUnknown id) = 5
number_of Unbalanced = 6
number_of NotPlanned = 7
number_of MarkCount = 8
number_of WireCount = 9
number_of (WireCurrent wire) = 10
number_of (WireSite wire) = 11
number_of (MarkOutOfRange id) = 12
number_of (Unmet site) = 13
number_of (MarksApart id) = 14
number_of AreaDiffers = 15

abbrev pub place_of : Refusal → ℕ
place_of (IdOutOfRange id) = id
place_of (IdTaken id) = id
place_of (IdFree id) = id
place_of (CurrentOutOfRange id) = id
place_of (SiteUnknown id) = id
place_of Unbalanced = 0
place_of NotPlanned = 0
place_of MarkCount = 0
place_of WireCount = 0
place_of (WireCurrent wire) = wire
place_of (WireSite wire) = wire
place_of (MarkOutOfRange id) = id
place_of (Unmet site) = site
place_of (MarksApart id) = id
place_of AreaDiffers = 0

-- how a refusal of that number is shown
abbrev pub shown : ℕ → List ℕ
shown number = codes "refused " ++ decimal number
