use Rattle.std.proofs.Common.{◌≡◌, ◌+◌, length, drop}
use Rattle.listing.specs.declared.pen.Pen.{Pen}
use Rattle.listing.specs.Listing.{wire_lines}
use Rattle.listing.specs.Pens.{Writes}
use Rattle.listing.proofs.pen.Pen.put_links.Given as goal

-- what is left has its room, and what writes it from here writes the whole from the start
abbrev pub invariant-loop-link : goal.invariant-loop-link
invariant-loop-link l =
    record {
      room : l.self.at + length (wire_lines (drop l.link-index l.links)) ≡ l.initial.self.at + length (wire_lines l.links);
      size : length l.self.out.now ≡ length l.initial.self.out.now;
      whole : (pen : Pen) → Writes l.self pen (wire_lines (drop l.link-index l.links)) → Writes l.initial.self pen (wire_lines l.links);
    }
