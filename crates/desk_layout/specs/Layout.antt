-- 01, 'Nets', 'Separation' and 'Numbers handed back': a layout on a desk. What it answers is a definition over the lists, the arguments and the lent sizes alone.
use Rattle.std.specs.Prelude.{List, Bool, cond, ◌&&◌, ℕ, eqb, leb, length, replicate}
use Rattle.fixed.specs.Up.{BIAS}
use Rattle.vertex.specs.Pages.{VERTICES}
use Rattle.layout.specs.Layout.{NET_WORDS, JOIN_WORDS}
use Rattle.layout.specs.Answer.{layout_number as page_number}
use Rattle.page_layout.specs.Drawing.{Drawing, laid}
use Rattle.desk.specs.Sizes.{DESK}
use Rattle.book.specs.Book.{Lists, Seen, ranged, answer}
use Rattle.desk.specs.Desk.{seen_of}
use Rattle.select.specs.Page.{page_of}
use Rattle.desk_layout.specs.declared.Choice.{Choice}

-- ---- 'search and layout build their graph from the desk, pruned or not as the caller says; layout separates or not likewise': 1 for yes, 0 for no
abbrev pub choice : ℕ → ℕ → Choice
choice prune separate = record { prune = prune; separate = separate }

abbrev pub is_pruned : Choice → Bool
is_pruned q = eqb q.prune 1

abbrev pub is_apart : Choice → Bool
is_apart q = eqb q.separate 1

unfoldable pub ok_choice : Choice → Bool
ok_choice q = leb q.prune 1 && leb q.separate 1

-- ---- by the lists alone

-- 8 or 0: the number of a net stands in its row
unfoldable pub layout_number : Lists → ℕ
layout_number l = page_number (page_of l)

-- 'outputs zero'
unfoldable pub zeros : Drawing → Drawing
zeros d =
    record {
      nets = replicate (length d.nets) 0;
      xs = replicate (length d.xs) BIAS;
      ys = replicate (length d.ys) BIAS;
      kinds = replicate (length d.kinds) 0;
      joins = replicate (length d.joins) 0;
    }

-- by the number: 'outputs, zeros behind them' at 0, else 'outputs zero'
unfoldable pub left : ℕ → Lists → Choice → Drawing → Drawing
left n l q d = cond (eqb n 0) (laid (page_of l) (is_pruned q) (is_apart q) d) (zeros d)

-- ---- of a call that is lent `size` words of the desk

-- the lists have room for 64 nets, 512 vertices and 256 junctions
abbrev pub roomy : Drawing → Bool
roomy d =
    leb NET_WORDS (length d.nets)
    && ((leb VERTICES (length d.xs) && leb VERTICES (length d.ys)) && (leb VERTICES (length d.kinds) && leb JOIN_WORDS (length d.joins)))

-- and the desk is lent whole
unfoldable pub is_lent : ℕ → Drawing → Bool
is_lent size d = leb DESK size && roomy d

-- 2 comes before 8
unfoldable pub tested : Seen → Choice → ℕ
tested s q = answer s.sound (ranged (ok_choice q)) (layout_number s.lists)

unfoldable pub says : ℕ → Drawing → Choice → Seen → ℕ
says size d q s = cond (is_lent size d) (tested s q) 1

-- 'everything unchanged' at 1
unfoldable pub shows : ℕ → Drawing → Choice → Seen → Drawing
shows size d q s = cond (is_lent size d) (left (tested s q) s.lists q d) d

-- on the words of a desk: what the function's contract says
abbrev pub desk_number : List ℕ → Drawing → Choice → ℕ
desk_number ws d q = says (length ws) d q (seen_of ws)

abbrev pub desk_drawing : List ℕ → Drawing → Choice → Drawing
desk_drawing ws d q = shows (length ws) d q (seen_of ws)
