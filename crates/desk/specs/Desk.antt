-- 01, 'Desk and page text': how the words of a lent slice stand for a book, and what words a change leaves.
-- Words: the pile's depth, then the block of the lists now, then 32 undo entries, the latest first.
use Rattle.std.specs.Prelude.{◌≡◌, List, map, true, cond, ℕ, ◌+◌, ◌-◌, ◌*◌, ◌≤◌, min, length, get_or, take, drop, set, replicate, eqb, leb, ltb}
use Rattle.rows.specs.Rows.{pasted, part, with_part, rows}
use Rattle.book.specs.Sizes.{COPIES}
use Rattle.block.specs.Sizes.{PORTS_AT, NETS_AT, ENDS_AT, BLOCK}
use Rattle.desk.specs.Sizes.{NEXT, ENTRY, LATER, DESK}
use Rattle.book.specs.Book.{Record, Book, valid, Seen, seen, width}
use Rattle.book.specs.Kinds
use Rattle.book.specs.Entries.{Entry, out, back, none, copies}
use Rattle.block.specs.Block.{lists_of, Counted, with_row}
use Rattle.book.specs.declared.Kind.{Kind}

-- ---- an entry: 0 to 3 the last record of that kind goes, 4 to 7 a record comes back; its place; its row
abbrev pub tag : Kind → ℕ
tag = Kinds.tag

abbrev pub KINDS : ℕ
KINDS = 4

unfoldable pub kind_of : ℕ → Kind
kind_of n = cond (eqb n 0) Kind.Box (cond (eqb n 1) Kind.Port (cond (eqb n 2) Kind.Net Kind.End))

unfoldable pub comes_back : Kind → List ℕ → Entry
comes_back k e = back k (get_or e 1 0) (take (width k) (drop 2 e))

unfoldable pub entry_of : List ℕ → Entry
entry_of e =
    cond (ltb (get_or e 0 0) KINDS) (out (kind_of (get_or e 0 0))) (cond (ltb (get_or e 0 0) (2 * KINDS)) (comes_back (kind_of (get_or e 0 0 - KINDS)) e) none)

-- the words of the two, zeros behind them
unfoldable pub out_words : Kind → List ℕ
out_words k = set (replicate ENTRY 0) 0 (tag k)

unfoldable pub back_words : Kind → ℕ → Record → List ℕ
back_words k i r = pasted (set (set (replicate ENTRY 0) 0 (KINDS + tag k)) 1 i) 2 r (width k)

-- ---- the desk
unfoldable pub block : List ℕ → List ℕ
block ws = part 1 BLOCK ws

unfoldable pub with_block : List ℕ → List ℕ → List ℕ
with_block blk ws = with_part 1 BLOCK blk ws

unfoldable pub entries_of : List ℕ → List Entry
entries_of ws = map entry_of (rows ENTRY (get_or ws 0 0) (drop NEXT ws))

unfoldable pub book_of : List ℕ → Book
book_of ws = record { lists = lists_of (block ws); pile = copies (entries_of ws) (lists_of (block ws)) }

abbrev pub seen_of : List ℕ → Seen
seen_of ws = seen (book_of ws)

-- an entry laid on the pile: all entries move up one place, and the oldest of 33 falls out
unfoldable pub laid : List ℕ → List ℕ → List ℕ
laid e ws = set (pasted (pasted ws (NEXT + ENTRY) (drop NEXT ws) LATER) NEXT e ENTRY) 0 (min (get_or ws 0 0 + 1) COPIES)

-- the latest entry, and the words without it: all entries move down one place
unfoldable pub latest : List ℕ → List ℕ
latest ws = part NEXT ENTRY ws

unfoldable pub unlaid : List ℕ → List ℕ
unlaid ws = set (pasted ws NEXT (drop (NEXT + ENTRY) ws) LATER) 0 (get_or ws 0 0 - 1)

-- a desk that is long enough, and whose lists now keep the counts' limits: what a record can be added to without an entry
pub record Ready (ws : List ℕ) : Type 0 where
  pub long : DESK ≤ length ws
  pub counted : Counted (block ws)

-- a desk that is long enough and sound
pub record Sound (ws : List ℕ) : Type 0 where
  pub long : DESK ≤ length ws
  pub book : valid (book_of ws) ≡ true

-- the words with a record put last, without an entry
unfoldable pub taken : Kind → Record → List ℕ → List ℕ
taken k r ws = with_block (with_row k r (block ws)) ws

-- the words with every count of the lists now and the depth 0
unfoldable pub emptied : List ℕ → List ℕ
emptied ws = set (set (set (set (set ws 0 0) 1 0) (1 + PORTS_AT) 0) (1 + NETS_AT) 0) (1 + ENDS_AT) 0

-- 1: the lent desk is below its size; else n
unfoldable pub sized : List ℕ → ℕ → ℕ
sized ws n = cond (leb DESK (length ws)) n 1

-- the words change where the number is 0
unfoldable pub at0 : ℕ → List ℕ → List ℕ → List ℕ
at0 n after before = cond (eqb n 0) after before
