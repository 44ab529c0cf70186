-- The sizes of a block in words: an area for each kind of record, a count and then its rows.
use Rattle.std.specs.Prelude.{ℕ, ◌+◌, ◌*◌}
use Rattle.book.specs.Sizes.{BOX, PORT, NET, END, BOXES, PORTS, NETS, ENDS}

-- the words of an area: a count and the rows
abbrev pub BOX_AREA : ℕ
BOX_AREA = 1 + BOXES * BOX

abbrev pub PORT_AREA : ℕ
PORT_AREA = 1 + PORTS * PORT

abbrev pub NET_AREA : ℕ
NET_AREA = 1 + NETS * NET

abbrev pub END_AREA : ℕ
END_AREA = 1 + ENDS * END

-- where an area begins in its block; the block's words
abbrev pub PORTS_AT : ℕ
PORTS_AT = BOX_AREA

abbrev pub NETS_AT : ℕ
NETS_AT = PORTS_AT + PORT_AREA

abbrev pub ENDS_AT : ℕ
ENDS_AT = NETS_AT + NET_AREA

abbrev pub BLOCK : ℕ
BLOCK = ENDS_AT + END_AREA
