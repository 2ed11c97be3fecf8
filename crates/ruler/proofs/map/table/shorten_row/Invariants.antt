-- The cells so far are shortened, the others as they were.
use Rattle.std.proofs.Common.{ℕ, ◌≡◌, ◌+◌, ◌<◌, ◌≤◌, min, slice_index}
use Rattle.ruler.proofs.map.table.shorten_row.Given as goal

abbrev pub invariant-loop-j : goal.invariant-loop-j
invariant-loop-j l =
    record {
      shortened : (k : ℕ) → k < l.j → slice_index l.row k ≡ min (slice_index l.initial.row k) (l.there + slice_index l.onward k);
      rest : (k : ℕ) → l.j ≤ k → slice_index l.row k ≡ slice_index l.initial.row k;
    }
