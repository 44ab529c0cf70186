-- 01, 'Limits': what a drawing keeps, so that its listing fits the room that is lent for it.
use Rattle.std.specs.Prelude.{ℕ, ◌+◌, ◌*◌, ◌<◌, ◌≤◌, get_or}
use Rattle.decimals.specs.Decimal.{BASE}
use Rattle.listing.specs.Listing.{NET}
use Rattle.listing.specs.Room.{room}
use Rattle.page_layout.specs.Drawing.{Drawing}
use Rattle.page_listing.specs.Printed.{ROOM}

-- the rows of n nets ask for no more bytes than that, and name vertices whose coordinates, counted from −2^31, are words of 32 bits
pub record Fits (d : Drawing) (n : ℕ) : Type 0 where
  pub vertices : ℕ
  pub roomy : room d.nets n ≤ ROOM
  pub inside : (i : ℕ) → i < n → get_or d.nets (i * NET + 1) 0 + get_or d.nets (i * NET + 2) 0 ≤ vertices
  pub xs_low : (k : ℕ) → k < vertices → get_or d.xs k 0 < BASE
  pub ys_low : (k : ℕ) → k < vertices → get_or d.ys k 0 < BASE
