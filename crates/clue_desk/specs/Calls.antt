-- 01, 'Desk and page text' and demand 3: all calls on a desk, the number, the words and the outputs of each, lists of calls, and
-- the claims about all of them at once.
use Rattle.std.specs.Prelude.{◌≡◌, List, [], ◌∷◌, ◌++◌, map, Bool, true, false, cond, ◌&&◌, ℕ, ◌+◌, ◌≤◌, length, get_or, take, drop, replicate, eqb, leb}
use Rattle.desk.specs.Sizes.{DESK}
use Rattle.book.specs.Book.{Lists, Book, Seen, seen, book_with, no_book, Item, in_order}
use Rattle.block.specs.Block.{start}
use Rattle.desk.specs.Desk.{book_of}
use Rattle.desk.specs.Calls.{Call as Edit, says as edit_says, makes as edit_makes, number as edit_number, words as edit_words}
use Rattle.desk.specs.Calls.Call.{add, retire, undo}
use Rattle.book.specs.declared.Kind.{Kind}
use Rattle.page_text.specs.Reading.{read_text}
use Rattle.page_text.specs.Words.{REFUSAL, told as refusal_words, read_number, read_words, read_refusal}
use Rattle.desk_search.specs.Query.{Query}
use Rattle.desk_search.specs.Search.{Outputs as Line, says as search_says, shows as search_shows, desk_number as search_number, desk_outputs as search_line}
use Rattle.page_layout.specs.Drawing.{Drawing}
use Rattle.desk_layout.specs.Layout.{says as layout_says, shows as layout_shows, desk_number as layout_number, desk_drawing as layout_drawing}
use Rattle.desk_layout.specs.declared.Choice.{Choice}

-- an addition, a retirement or undo; the reading of a text, with the words that are lent for a refusal; a search, with the lists that are lent for its line;
-- a layout, with the lists that are lent for its drawing
pub data Call : Type 0 where
  edit : Edit → Call
  read : List ℕ → List ℕ → Call
  search : Query → Line → Call
  layout : Choice → Drawing → Call

-- what a call leaves in the outputs that it is lent, a case for each of them
pub data Outputs : Type 0 where
  none : Outputs
  refused : List ℕ → Outputs
  lined : Line → Outputs
  drawn : Drawing → Outputs

-- the number handed back, the desk's words left behind, and the outputs left behind
abbrev pub number : Call → List ℕ → ℕ
number (edit c) ws = edit_number c ws
number (read text out) ws = read_number text ws out
number (search q o) ws = search_number ws o q
number (layout q d) ws = layout_number ws d q

abbrev pub words : Call → List ℕ → List ℕ
words (edit c) ws = edit_words c ws
words (read text out) ws = read_words text ws out
words (search q o) ws = ws
words (layout q d) ws = ws

abbrev pub outputs : Call → List ℕ → Outputs
outputs (edit c) ws = none
outputs (read text out) ws = refused (read_refusal text ws out)
outputs (search q o) ws = lined (search_line ws o q)
outputs (layout q d) ws = drawn (layout_drawing ws d q)

-- a call with the size of the desk's part that is lent to it, on a whole desk
pub record Lent : Type 0 where
  pub call : Call
  pub size : ℕ

unfoldable pub number_of : Lent → List ℕ → ℕ
number_of c ws = number c.call (take c.size ws)

unfoldable pub outputs_of : Lent → List ℕ → Outputs
outputs_of c ws = outputs c.call (take c.size ws)

unfoldable pub after : Lent → List ℕ → List ℕ
after c ws = words c.call (take c.size ws) ++ drop c.size ws

unfoldable pub run : List Lent → List ℕ → List ℕ
run [] ws = ws
run (c ∷ cs) ws = run cs (after c ws)

abbrev pub edit_undoes : Edit → Bool
edit_undoes (add k r) = false
edit_undoes (retire k name) = false
edit_undoes undo = true

abbrev pub is_undo : Call → Bool
is_undo (edit c) = edit_undoes c
is_undo (read text out) = false
is_undo (search q o) = false
is_undo (layout q d) = false

-- ---- 'A desk acts as this book, fed the calls' arguments and buffer sizes alone'
-- a reading is lent enough of the desk and of the refusal's words: else its number is 1
unfoldable pub enough : ℕ → List ℕ → Bool
enough size out = leb DESK size && leb REFUSAL (length out)

-- the book's number for a call that is lent `size` words of the desk
abbrev pub says : Call → ℕ → Seen → ℕ
says (edit c) size s = cond (leb DESK size) (edit_says c s) 1
says (read text out) size s = cond (enough size out) (read_text text).number 1
says (search q o) size s = search_says size o q s
says (layout q d) size s = layout_says size d q s

-- the outputs by the book: no list has a say in a refusal
abbrev pub tells : Call → ℕ → Seen → Outputs
tells (edit c) size s = none
tells (read text out) size s = refused (cond (enough size out) (refusal_words (read_text text).line (read_text text).inner (length out)) out)
tells (search q o) size s = lined (search_shows size o q s)
tells (layout q d) size s = drawn (layout_shows size d q s)

-- the book after a call: 'reading a page text, unless it gets 1, first empties lists and pile, then adds its lines without copies; 16 empties the lists again'
abbrev pub makes : Call → ℕ → Book → Book
makes (edit c) size b = cond (eqb (says (edit c) size (seen b)) 0) (edit_makes c b) b
makes (read text out) size b = cond (enough size out) (book_with (read_text text).lists) b
makes (search q o) size b = b
makes (layout q d) size b = b

unfoldable pub told : Lent → Book → ℕ
told c b = says c.call c.size (seen b)

unfoldable pub told_outputs : Lent → Book → Outputs
told_outputs c b = tells c.call c.size (seen b)

unfoldable pub turn : Lent → Book → Book
turn c b = makes c.call c.size b

unfoldable pub turns : List Lent → Book → Book
turns [] b = b
turns (c ∷ cs) b = turns cs (turn c b)

-- an empty desk, of any length that a call accepts: its counts and its depth are 0
pub record Empty (ws : List ℕ) : Type 0 where
  pub long : DESK ≤ length ws
  pub depth : get_or ws 0 0 ≡ 0
  pub counts : (k : Kind) → get_or ws (1 + start k) 0 ≡ 0

abbrev pub ActsAsBook : Type 0
ActsAsBook =
    (ws : List ℕ) → Empty ws → (cs : List Lent)
    → (book_of (run cs ws) ≡ turns cs no_book)
    × ((c : Lent) → (number_of c (run cs ws) ≡ told c (turns cs no_book)) × (outputs_of c (run cs ws) ≡ told_outputs c (turns cs no_book)))

-- 'all zeros' are an empty desk
unfoldable pub fresh : ℕ → List ℕ
fresh n = replicate n 0

abbrev pub FreshIsEmpty : Type 0
FreshIsEmpty = (n : ℕ) → DESK ≤ n → Empty (fresh n)

-- 'the surviving records are the lists in kept order': their additions
unfoldable pub adding : Item → Lent
adding i = record { call = edit (add i.kind i.row); size = DESK }

unfoldable pub surviving : Lists → List Lent
surviving l = map adding (in_order l)

-- a new desk to which only the records that survive the calls were added, in kept order
unfoldable pub rebuilt : List Lent → List ℕ → List ℕ → List ℕ
rebuilt cs ws new = run (surviving (book_of (run cs ws)).lists) new

-- Demand 3: after any list of calls, also of ones that were lent too little, the next call that is no undo has the number and the outputs
-- that it has on a new desk to which only the surviving records were added in kept order; and they are added: that desk has the same lists
abbrev pub Demand : Type 0
Demand =
    (ws new : List ℕ) → Empty ws → Empty new → (cs : List Lent)
    → ((book_of (rebuilt cs ws new)).lists ≡ (book_of (run cs ws)).lists)
    × ((c : Lent) → is_undo c.call ≡ false
    → (number_of c (run cs ws) ≡ number_of c (rebuilt cs ws new)) × (outputs_of c (run cs ws) ≡ outputs_of c (rebuilt cs ws new)))
