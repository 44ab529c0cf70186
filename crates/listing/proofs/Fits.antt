-- A listing takes no more bytes than its room.
--     joins-fit     each junction row is printed once at most
--     listing-fits  all nets
use mathlib.Core.Path.{◌≡◌, refl}
use mathlib.Core.Bool.{Bool, true, false}
use mathlib.Core.List.{List, [], ◌∷◌}
use Prim.Native.Nat.{ℕ, zero, suc, ◌+◌, ◌-◌, ◌*◌, ◌<◌, ◌≤◌}
use native.Mathlib.Omega.{arith}
use borrow.Author.Tests.{eqb-true}
use lib.Dec.{eqb}
use lib.ListN.{length, length-append, get_or}
use Rattle.decimals.specs.Decimal.{BASE}
use Rattle.decimals.specs.Write.{digits, signed, field}
use Rattle.decimals.proofs.Clean.{digits-width, signed-width}
use Rattle.listing.specs.Listing.{Page, NET, up_to, vertex_line, join_line, join_at, join_from, joins_of, net_line, net_part, net_at, listing}
use Rattle.listing.specs.Room.{NET_BYTES, VERTEX_BYTES, JUNCTION_BYTES, room_at, room}
use Rattle.listing.proofs.Pieces.{vertex-room, join-room, net-room, three}

-- a list whose entries are words of 32 bits
abbrev pub Words : List ℕ → Type 0
Words l = (i : ℕ) → get_or l i 0 < BASE

-- ---- one line

net-line : (a b c d : ℕ) → a < BASE → b < BASE → c < BASE → d < BASE → length (net_line a b c d) ≤ NET_BYTES
unfolding net_line
net-line a b c d ha hb hc hd =
    omega (arith, net-room (110 ∷ 101 ∷ 116 ∷ []) (digits a) (digits b) (digits c) (digits d), length-append (field (digits a)) (field (digits b)), length-append (field (digits c)) (field (digits d)), digits-width a ha, digits-width b hb, digits-width c hc, digits-width d hd)

vertex-line : (xs ys kinds : List ℕ) (first k : ℕ) → get_or xs (first + k) 0 < BASE → get_or ys (first + k) 0 < BASE → k < BASE → length (vertex_line xs ys kinds first k) ≤ VERTEX_BYTES
unfolding vertex_line
vertex-line xs ys kinds first k wx wy hk =
    let x = get_or xs (first + k) 0 in
    let y = get_or ys (first + k) 0 in
    omega (arith, vertex-room (118 ∷ []) (digits k) (signed x) (signed y) (get_or kinds (first + k) 0), length-append (field (signed x)) (field (signed y)), digits-width k hk, signed-width x wx, signed-width y wy)

join-line : (v e l : ℕ) → v < BASE → e < BASE → length (join_line v e l) ≤ JUNCTION_BYTES
unfolding join_line
join-line v e l hv he =
    omega (arith, join-room (106 ∷ []) (digits v) (digits e) l, length-append (field (digits v)) (field (digits e)), digits-width v hv, digits-width e he)

-- ---- several lines

one_more : (f : ℕ → List ℕ) (n : ℕ) → length (up_to f (suc n)) ≡ length (up_to f n) + length (f n)
unfolding up_to
one_more f n = length-append (up_to f n) (f n)

none : (f : ℕ → List ℕ) → length (up_to f 0) ≡ 0
unfolding up_to
none f = refl

-- n pieces of at most b bytes
pieces-fit : (f : ℕ → List ℕ) (b n : ℕ) → ((k : ℕ) → k < n → length (f k) ≤ b) → length (up_to f n) ≤ n * b
unfolding up_to
pieces-fit f b zero h = omega arith
pieces-fit f b (suc n) h = omega (arith, length-append (up_to f n) (f n), pieces-fit f b n (λ k l. h k (omega arith)), h n (omega arith))

module _ (js : List ℕ) (first begin : ℕ) (wj : Words js) where
  -- the line of the row `begin + c`, if it is one of the vertex v
  abbrev at-vertex : ℕ → ℕ → List ℕ
  at-vertex c v = join_from js first v begin c

  -- it is printed for one vertex at most
  record Once (c n : ℕ) : Type 0 where
    few : length (up_to (at-vertex c) n) ≤ JUNCTION_BYTES
    later : first + n ≤ get_or js ((begin + c) * 3) 0 → length (up_to (at-vertex c) n) ≡ 0

  once_more : (c n : ℕ) → n < BASE → Once c n → (b : Bool) → eqb (get_or js ((begin + c) * 3) 0) (first + n) ≡ b → Once c (suc n)
  unfolding join_from join_at
  once_more c n h before true t =
      let w : get_or js ((begin + c) * 3) 0 ≡ first + n = eqb-true _ _ t in
      let short : length (at-vertex c n) ≤ JUNCTION_BYTES = rw t (join-line n (get_or js ((begin + c) * 3 + 1) 0 - first) _ h (omega (arith, wj ((begin + c) * 3 + 1)))) in
      record { few = omega (arith, one_more (at-vertex c) n, short, before.later (omega (arith, w))); later = λ z. absurd (omega (arith, w)) }
  once_more c n h before false t =
      let nothing : length (at-vertex c n) ≡ 0 = rw t in
      record { few = omega (arith, one_more (at-vertex c) n, nothing, before.few); later = λ z. omega (arith, one_more (at-vertex c) n, nothing, before.later (omega arith)) }

  once : (c n : ℕ) → n ≤ BASE → Once c n
  once c zero h = record { few = omega (arith, none (at-vertex c)); later = λ z. none (at-vertex c) }
  once c (suc n) h = once_more c n (omega arith) (once c n (omega arith)) _ refl

  -- the lines of one more row
  joins-more : (c n : ℕ) → length (joins_of js first begin (suc c) n) ≡ length (joins_of js first begin c n) + length (at-vertex c n)
  unfolding joins_of
  joins-more c n = one_more (join_from js first n begin) c

  row_more : (c n : ℕ) → length (up_to (joins_of js first begin (suc c)) n) ≡ length (up_to (joins_of js first begin c) n) + length (up_to (at-vertex c) n)
  row_more c zero = omega (arith, none (joins_of js first begin (suc c)), none (joins_of js first begin c), none (at-vertex c))
  row_more c (suc n) =
      omega (arith, row_more c n, one_more (joins_of js first begin (suc c)) n, one_more (joins_of js first begin c) n, one_more (at-vertex c) n, joins-more c n)

  no_rows : (n : ℕ) → length (up_to (joins_of js first begin 0) n) ≡ 0
  unfolding joins_of
  no_rows zero = none (joins_of js first begin 0)
  no_rows (suc n) = omega (arith, one_more (joins_of js first begin 0) n, none (join_from js first n begin), no_rows n)

  pub joins-fit : (c n : ℕ) → n ≤ BASE → length (up_to (joins_of js first begin c) n) ≤ c * JUNCTION_BYTES
  joins-fit zero n h = omega (arith, no_rows n)
  joins-fit (suc c) n h = omega (arith, row_more c n, joins-fit c n h, (once c n h).few)

-- ---- all nets

-- the vertices of the first n nets are among the first m, whose coordinates are words of 32 bits
pub record Fit (p : Page) (n m : ℕ) : Type 0 where
  pub nets_fit : Words p.nets
  pub ids_fit : Words p.ids
  pub inside : (i : ℕ) → i < n → get_or p.nets (i * NET + 1) 0 + get_or p.nets (i * NET + 2) 0 ≤ m
  pub xs_fit : (k : ℕ) → k < m → get_or p.xs k 0 < BASE
  pub ys_fit : (k : ℕ) → k < m → get_or p.ys k 0 < BASE
  pub joins_fit_words : Words p.junctions

module _ (p : Page) (n m : ℕ) (h : Fit p n m) where
  net-fits : (i : ℕ) → i < n → length (net_at p i) ≤ room_at p.nets i
  unfolding net_at net_part room_at
  net-fits i few_nets =
      let id = get_or p.ids i 0 in
      let number = get_or p.nets (i * NET) 0 in
      let first = get_or p.nets (i * NET + 1) 0 in
      let count = get_or p.nets (i * NET + 2) 0 in
      let begin = get_or p.nets (i * NET + 3) 0 in
      let joins = get_or p.nets (i * NET + 4) 0 in
      let few : count < BASE = h.nets_fit (i * NET + 2) in
      let a = net-line id number count joins (h.ids_fit i) (h.nets_fit (i * NET)) few (h.nets_fit (i * NET + 4)) in
      let b = pieces-fit (vertex_line p.xs p.ys p.kinds first) VERTEX_BYTES count (λ k l. vertex-line p.xs p.ys p.kinds first k (h.xs_fit (first + k) (omega (arith, h.inside i few_nets))) (h.ys_fit (first + k) (omega (arith, h.inside i few_nets))) (omega arith)) in
      let d = joins-fit p.junctions first begin h.joins_fit_words joins count (omega arith) in
      omega (arith, a, b, d, three (net_line id number count joins) (up_to (vertex_line p.xs p.ys p.kinds first) count) (up_to (joins_of p.junctions first begin joins) count))

  nets_fit : (k : ℕ) → k ≤ n → length (up_to (net_at p) k) ≤ room p.nets k
  unfolding up_to room
  nets_fit zero l = omega arith
  nets_fit (suc k) l = omega (arith, length-append (up_to (net_at p) k) (net_at p k), nets_fit k (omega arith), net-fits k l)

  pub listing-fits : length (listing p n) ≤ room p.nets n
  unfolding listing
  listing-fits = nets_fit n (omega arith)
