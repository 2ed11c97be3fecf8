-- What a listing that fits answers, leaves and reads back as.
use Rattle.std.proofs.Common.{◌≡◌, ℕ, ◌^◌, ◌<◌, ◌≤◌, false, cond, ltb, List, ◌++◌, length, take, drop, Some, Option, sym, ap, ◌∙◌, zero-add, le-ltb}
use Rattle.std.specs.List.{AllByRecursion}
use Rattle.std.proofs.lemmas.List.{take_at}
use Rattle.planner.specs.declared.plan.Plan.{Plan}
use Rattle.planner.specs.Planned.{links_of}
use Rattle.listing.specs.Listing.{Put, Sized, filled, left_in, text_of}
use Rattle.listing.specs.Reading.{read_back, told}
use Rattle.listing.proofs.Reading.{listing_read}

-- a text that fits, put at the start of a buffer
module _ (text held holds : List ℕ) (n : ℕ) (fits : length text ≤ length held) (put : Put held 0 text holds n) where
  room : ltb (length held) (length text) ≡ false
  room = le-ltb (length held) (length text) fits

  count : n ≡ length text
  count = put.end ∙ zero-add (length text)

  begins : holds ≡ text ++ drop (length text) held
  begins = put.after ∙ ap (λ k. text ++ drop k held) (zero-add (length text))

  pub put_filled : holds ≡ filled text held
  put_filled = begins ∙ ap (λ b. cond b held (text ++ drop (length text) held)) (sym room)

module _ (o : Option Plan) (p : Plan) (held holds : List ℕ) (n : ℕ) (is : Some p ≡ o) (fits : length (text_of p) ≤ length held) (put : Put held 0 (text_of p) holds n) where
  pub list_after : holds ≡ left_in o held
  list_after = put_filled (text_of p) held holds n fits put ∙ ap (λ plan. left_in plan held) is

  pub list_reads : p.area < 2 ^ 64 → AllByRecursion Sized (links_of p) → read_back (take n holds) ≡ told o
  list_reads area links =
      ap read_back (ap (take n) (begins (text_of p) held holds n fits put) ∙ take_at (text_of p) (drop (length (text_of p)) held) n (sym (count (text_of p) held holds n fits put)))
      ∙ listing_read p.area (links_of p) area links
      ∙ ap told is
