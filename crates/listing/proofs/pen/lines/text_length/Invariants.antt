use Rattle.std.proofs.Common.{◌≡◌, ◌+◌, ◌*◌, ◌≤◌, length, drop}
use Rattle.std.specs.List.{AllByRecursion}
use Rattle.listing.specs.Listing.{listing_of, wire_lines, Sized}
use Rattle.listing.proofs.pen.lines.text_length.Given as goal

-- what is counted and what is left are the whole, no line is longer than 65, and what is counted is sized
abbrev pub invariant-loop-link : goal.invariant-loop-link
invariant-loop-link l =
    (l.count + length (wire_lines (drop l.link-index l.links)) ≡ length (listing_of l.area l.links))
    × (l.count ≤ 23 + 65 * l.link-index)
    × (AllByRecursion Sized (drop l.link-index l.links) → AllByRecursion Sized l.links)
