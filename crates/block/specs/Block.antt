-- 01, 'Desk and page text': how the words of a block stand for the lists of a desk, and what words a record leaves that is put in or taken out.
-- A block: an area for each kind, a count and then its rows.
use Rattle.std.specs.Prelude.{◌≡◌, List, Bool, not, ◌&&◌, ℕ, ◌-◌, ◌≤◌, length, leb}
use Rattle.std.specs.List.{list_all}
use Rattle.rows.specs.Rows.{part, with_part, records, is_in, count, put_last, taken_out, put_in}
use Rattle.block.specs.Sizes.{BOX_AREA, PORT_AREA, NET_AREA, END_AREA, PORTS_AT, NETS_AT, ENDS_AT, BLOCK}
use Rattle.book.specs.Book.{Record, Lists, width, most, ok_record}
use Rattle.book.specs.Entries.{Entry, out, back, none}
use Rattle.book.specs.declared.Kind.{Kind}

-- where a kind's area begins, and its words
abbrev pub start : Kind → ℕ
start Kind.Box = 0
start Kind.Port = PORTS_AT
start Kind.Net = NETS_AT
start Kind.End = ENDS_AT

abbrev pub size : Kind → ℕ
size Kind.Box = BOX_AREA
size Kind.Port = PORT_AREA
size Kind.Net = NET_AREA
size Kind.End = END_AREA

unfoldable pub area : Kind → List ℕ → List ℕ
area k blk = part (start k) (size k) blk

unfoldable pub list_of : Kind → List ℕ → List Record
list_of k blk = records (width k) (count (area k blk)) (area k blk)

unfoldable pub lists_of : List ℕ → Lists
lists_of blk =
    record { boxes = list_of Kind.Box blk; ports = list_of Kind.Port blk; nets = list_of Kind.Net blk; ends = list_of Kind.End blk }

-- a list that keeps its limit, of records that a desk may hold
unfoldable pub ok_list : Kind → List Record → Bool
ok_list k rs = leb (length rs) (most k) && list_all (ok_record k) rs

-- an id that is not among those behind it
unfoldable pub apart : ℕ → List ℕ → Bool
apart id rest = not (is_in id rest)

-- a block whose counts keep the limits
pub record Counted (blk : List ℕ) : Type 0 where
  pub long : length blk ≡ BLOCK
  pub few : (k : Kind) → count (area k blk) ≤ most k

-- the block with a row put last in the area of its kind, and with row i out
unfoldable pub with_row : Kind → Record → List ℕ → List ℕ
with_row k r blk = with_part (start k) (size k) (put_last (width k) r (area k blk)) blk

unfoldable pub without_row : Kind → ℕ → List ℕ → List ℕ
without_row k i blk = with_part (start k) (size k) (taken_out (width k) i (area k blk)) blk

-- and with a row put in at place i
unfoldable pub with_row_at : Kind → ℕ → Record → List ℕ → List ℕ
with_row_at k i r blk = with_part (start k) (size k) (put_in (width k) i r (area k blk)) blk

-- the block before the change that an entry undoes
unfoldable pub block_before : Entry → List ℕ → List ℕ
block_before (out k) blk = without_row k (count (area k blk) - 1) blk
block_before (back k i r) blk = with_row_at k i r blk
block_before none blk = blk
