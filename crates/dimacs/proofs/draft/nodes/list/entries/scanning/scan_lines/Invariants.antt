-- What is left gives what the whole file gives; the lines are few, and no more arcs than lines.
use Rattle.std.proofs.Common.{◌≡◌, ◌+◌, ◌≤◌, length}
use Rattle.dimacs.specs.Contents.{draft_of}
use Rattle.reader.specs.Reading.{place_of}
use Rattle.dimacs.specs.Scan.{nothing, scanned_from}
use Rattle.reader.specs.Words.{rows}
use Rattle.dimacs.proofs.draft.nodes.list.entries.scanning.scan_lines.Given as goal

abbrev pub invariant-loop-line : goal.invariant-loop-line
invariant-loop-line g l =
    (scanned_from (g.S.Sites.known l.sites) l.reader.line (draft_of l.draft) (rows (place_of l.reader).after) ≡ scanned_from (g.S.Sites.known l.sites) 0 nothing (rows l.file))
    × (l.reader.line + length (place_of l.reader).after ≤ 65536)
    × (l.draft.lines ≤ l.reader.line)

abbrev pub decreases-loop-line : goal.decreases-loop-line
decreases-loop-line g l = length (place_of l.reader).after
