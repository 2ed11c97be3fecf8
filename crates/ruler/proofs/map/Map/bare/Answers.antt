use Rattle.std.proofs.Common.{◌≡◌, ℕ, ◌<◌, ◌∙◌, [], replicate, slice_index, ap, arith}
use Rattle.std.proofs.lemmas.List.{get_or-replicate}
use Rattle.ruler.specs.Cells.{cell}
use Rattle.ruler.proofs.map.Map.bare.Goals as goal

even : (n k j : ℕ) → k < 64 → j < 64 → cell (replicate 64 (replicate 64 n)) k j ≡ n
even n k j in_row in_column = ap (λ row. slice_index row j) (get_or-replicate 64 k (replicate 64 n) [] in_row) ∙ get_or-replicate 64 j n 0 in_column

pub invariant_of-map : goal.invariant_of-map
invariant_of-map c =
    record {
      few = omega arith;
      short = omega arith;
      capped = λ i j li lj. omega (arith, even 0 i j li lj);
      still = λ i li. even 0 i i li li;
      detour = λ i j k (li, lj, lk). omega (arith, even 0 i k li lk);
    }
