-- What a pen over a lent buffer leaves.
use Rattle.std.specs.Prelude.{◌≡◌, ℕ, ◌+◌, ◌≤◌, List, length}
use Rattle.listing.specs.declared.pen.Pen.{Pen}
use Rattle.listing.specs.Listing.{Put}

-- the text was put at the pen's place, in the same buffer, and the pen goes on after it
pub record Writes (before after : Pen) (text : List ℕ) : Type 0 where
  pub size : length after.out.now ≡ length before.out.now
  pub same : after.out.ghost_name ≡ before.out.ghost_name
  pub put : Put before.out.now before.at text after.out.now after.at

-- there is room for the text from the pen's place on
abbrev pub HasRoom : Pen → List ℕ → Type 0
HasRoom pen text = pen.at + length text ≤ length pen.out.now
