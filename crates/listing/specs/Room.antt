-- 01, 'Program `wires`' and 'Limits': how many bytes a listing takes at most, from the rows of its nets alone.
use Rattle.std.specs.Prelude.{ℕ, zero, suc, ◌+◌, ◌*◌, List, get_or}
use Rattle.listing.specs.Listing.{NET}

-- a net's own line, a vertex's line and a junction's, each with numbers of at most ten digits
abbrev pub NET_BYTES : ℕ
NET_BYTES = 48

abbrev pub VERTEX_BYTES : ℕ
VERTEX_BYTES = 39

abbrev pub JUNCTION_BYTES : ℕ
JUNCTION_BYTES = 26

unfoldable pub room_at : List ℕ → ℕ → ℕ
room_at nets i = NET_BYTES + get_or nets (i * NET + 2) 0 * VERTEX_BYTES + get_or nets (i * NET + 4) 0 * JUNCTION_BYTES

-- the first n nets
unfoldable pub room : List ℕ → ℕ → ℕ
room nets zero = 0
room nets (suc n) = room nets n + room_at nets n
