-- The number of every fault of a file, and the place that it names.
use Rattle.std.specs.Prelude.{ℕ}
use Rattle.ruler.specs.Refusals as ruler
use Rattle.audit.specs.Refusals as audit
use Rattle.reader.specs.declared.refusal.Fault.{Fault}
use Rattle.reader.specs.declared.refusal.Fault.TheVariants.{SheetInUse, FileForm, LineKind, LineWords, LineOrder, ProblemLine, SiteOutOfRange, ArcBounds, ArcCount, Terminal, Leg}
use Rattle.reader.specs.declared.refusal.Refusal.{Refusal}

abbrev pub number_of : Fault → ℕ
number_of SheetInUse = 22
number_of FileForm = 23
number_of LineKind = 24
number_of LineWords = 25
number_of LineOrder = 26
number_of ProblemLine = 27
number_of SiteOutOfRange = 28
number_of ArcBounds = 29
number_of ArcCount = 30
number_of (Terminal refusal) = audit.number_of refusal
number_of (Leg refusal) = ruler.number_of refusal

abbrev pub place_of : Fault → ℕ
place_of SheetInUse = 0
place_of FileForm = 0
place_of LineKind = 0
place_of LineWords = 0
place_of LineOrder = 0
place_of ProblemLine = 0
place_of SiteOutOfRange = 0
place_of ArcBounds = 0
place_of ArcCount = 0
place_of (Terminal refusal) = audit.place_of refusal
place_of (Leg refusal) = ruler.place_of refusal

-- a fault at a line and a word
abbrev pub refused : Fault → ℕ → ℕ → Refusal
refused fault line word = record { fault = fault; line = line; word = word }
