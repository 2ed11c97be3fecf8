-- The value so far and that of the rows to come make the whole; each row moves it by at most 1,000,000 × 2 ^ 32.
use Rattle.std.proofs.Common.{◌≡◌, ◌+◌, ◌*◌, length, pos, ◌+ℤ◌, neg_ℤ, ◌≤ℤ◌}
use Rattle.std.specs.Iterator.Adapters.{zip_first, zip_second}
use Rattle.std.specs.Slice.Iter.{iter_rest}
use Rattle.wires.specs.Marks.{value}
use Rattle.audit.specs.Audit.{pins}
use Rattle.audit.proofs.table.Table.value_of.Given as goal

abbrev pub invariant-loop-row : goal.invariant-loop-row
invariant-loop-row l =
    let rows = iter_rest (zip_first l.row-iterator) in
    let marks = iter_rest (zip_second l.row-iterator) in
    record {
      whole : l.value +ℤ value (pins rows marks) ≡ value (pins l.self.rows l.marks);
      count : length l.yielded + length rows ≡ 64;
      same : length marks ≡ length rows;
      low : neg_ℤ (pos (4294967296000000 * length l.yielded)) ≤ℤ l.value;
      high : l.value ≤ℤ pos (4294967296000000 * length l.yielded);
    }
