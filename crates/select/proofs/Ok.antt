-- Valid lists: what their page keeps.
--     held, explicit-low               the rows are there; at most 512 explicit anchors
--     page-in                          the records of their rows are the page
--     few_boxes, few-ports, ..         the counts
--     box-fields, port-fields, ..      coordinates are fields
--     box-order                        least is at most greatest
--     port-dirs, end-marks             directions at most 15, marks at most 1
--     port_words, end_words            every word is below what the greatest id is below
use mathlib.Core.Path.{◌≡◌, refl}
use mathlib.Core.List.{List, []}
use mathlib.Core.Bool.{Bool, true, ◌&&◌}
use Prim.Native.Nat.{ℕ, zero, suc, ◌+◌, ◌*◌, ◌/◌, ◌<◌, ◌≤◌}
use native.Mathlib.Omega.{arith}
use borrow.Author.Tests.{leb-true}
use lib.Dec.{leb}
use lib.ListN.{length, get_or}
use Rattle.fixed.specs.Constants.{LEAST, GREATEST}
use Rattle.fixed.proofs.Bools.{and_left, and_right}
use Rattle.rows.proofs.Rows.{row_in}
use Rattle.book.specs.Sizes.{IDS}
use Rattle.book.specs.Book.{Record, Lists, width, ok_id_in, ok_id, ok_place, ok_record, ok_lists}
use Rattle.book.specs.declared.Kind.{Kind}
use Rattle.book.proofs.Fields.{record-ranged}
use Rattle.book.proofs.Keeps.{boxes-ok, nets-ok, ports-ok, ends-ok, owners-few, owners-scan, members-few, members-scan}
use Rattle.sightline.specs.Boxes.{Fields}
use Rattle.anchors.specs.declared.Records.{Records as Lent}
use Rattle.anchors.specs.Lent.{records_in}
use Rattle.anchors.specs.Records.{BOX, ROW, NET, RowsHeld}
use Rattle.anchors.specs.Explicit.{explicit}
use Rattle.anchors.proofs.Counted.{Distinct, Owned, explicit-few}
use Rattle.select.specs.Page.{flat, page_of}
use Rattle.select.proofs.Listed.{Fine, fine-own, fine-belongs, fine-at, length-flat, word_at, words-low, distinct, owned}

-- ---- a record's fields
pub record Coordinate (x : ℕ) : Type 0 where
  pub least : LEAST ≤ x
  pub greatest : x ≤ GREATEST

within : (x : ℕ) → leb LEAST x && leb x GREATEST ≡ true → Coordinate x
within x e = record { least = leb-true LEAST x (and_left (leb LEAST x) _ e); greatest = leb-true x GREATEST (and_right (leb LEAST x) _ e) }

placed : (x y : ℕ) → ok_place x y ≡ true → Coordinate x × Coordinate y
unfolding ok_place
placed x y e =
    (within x (and_left (leb LEAST x && leb x GREATEST) _ e), within y (and_right (leb LEAST x && leb x GREATEST) _ e))

module _ (r : Record) (e : ok_record Kind.Box r ≡ true) where
  abbrev low : Bool
  low = ok_place (get_or r 1 0) (get_or r 2 0)

  abbrev high : Bool
  high = ok_place (get_or r 3 0) (get_or r 4 0)

  places : low && high ≡ true
  places = and_right (ok_id (get_or r 0 0)) _ (and_left (ok_id (get_or r 0 0) && (low && high)) _ (record-ranged Kind.Box r e))

  orders : leb (get_or r 1 0) (get_or r 3 0) && leb (get_or r 2 0) (get_or r 4 0) ≡ true
  orders = and_right (ok_id (get_or r 0 0) && (low && high)) _ (record-ranged Kind.Box r e)

  box-low : Coordinate (get_or r 1 0) × Coordinate (get_or r 2 0)
  box-low = placed (get_or r 1 0) (get_or r 2 0) (and_left low high places)

  box-high : Coordinate (get_or r 3 0) × Coordinate (get_or r 4 0)
  box-high = placed (get_or r 3 0) (get_or r 4 0) (and_right low high places)

  box-less : (get_or r 1 0 ≤ get_or r 3 0) × (get_or r 2 0 ≤ get_or r 4 0)
  box-less = (leb-true (get_or r 1 0) (get_or r 3 0) (and_left _ (leb (get_or r 2 0) (get_or r 4 0)) orders), leb-true (get_or r 2 0) (get_or r 4 0) (and_right (leb (get_or r 1 0) (get_or r 3 0)) _ orders))

-- a port or an end: its last field is at most `top`
module _ (r : Record) (top : ℕ) (e : (ok_id (get_or r 0 0) && ok_place (get_or r 1 0) (get_or r 2 0)) && leb (get_or r 3 0) top ≡ true) where
  point_at : Coordinate (get_or r 1 0) × Coordinate (get_or r 2 0)
  point_at = placed (get_or r 1 0) (get_or r 2 0) (and_right (ok_id (get_or r 0 0)) _ (and_left (ok_id (get_or r 0 0) && ok_place (get_or r 1 0) (get_or r 2 0)) _ e))

  point-id : get_or r 0 0 ≤ IDS
  unfolding ok_id_in
  point-id =
      let t = and_left (ok_id (get_or r 0 0)) _ (and_left (ok_id (get_or r 0 0) && ok_place (get_or r 1 0) (get_or r 2 0)) _ e) in
      leb-true (get_or r 0 0) IDS (and_right (leb 1 (get_or r 0 0)) _ t)

  point-last : get_or r 3 0 ≤ top
  point-last = leb-true (get_or r 3 0) top (and_right (ok_id (get_or r 0 0) && ok_place (get_or r 1 0) (get_or r 2 0)) _ e)

  -- each of the four fields
  point-low : (m : ℕ) → IDS < m → top < m → (j : ℕ) → j < 4 → get_or r j 0 < m
  point-low m h t zero l = omega (arith, point-id)
  point-low m h t (suc zero) l = omega (arith, point_at.0.greatest)
  point-low m h t (suc (suc zero)) l = omega (arith, point_at.1.greatest)
  point-low m h t (suc (suc (suc zero))) l = omega (arith, point-last)
  point-low m h t (suc (suc (suc (suc j)))) l = absurd (omega arith)

-- ---- the field j of every row
module _ (k : Kind) (rs : List Record) (f : Fine k rs) (j : ℕ) (hj : j < width k) where
  there : (i : ℕ) → i < length rs → i * width k + j < length (flat rs)
  there i h = rw (length-flat k f) (omega (arith, row_in (width k) i (length rs) h))

  coordinates : ((r : Record) → ok_record k r ≡ true → Coordinate (get_or r j 0)) → Fields (flat rs) (width k) j (length rs)
  coordinates c =
      record {
        there = there;
        least = λ i h. rw (word_at k f i j h hj) (c (get_or rs i []) (fine-at k f i h)).least;
        greatest = λ i h. rw (word_at k f i j h hj) (c (get_or rs i []) (fine-at k f i h)).greatest;
      }

-- ---- valid lists
module _ (l : Lists) (ok : ok_lists l ≡ true) where
  pub boxes : Fine Kind.Box l.boxes
  boxes = fine-own Kind.Box l.boxes (owners-scan Kind.Box l.boxes (boxes-ok l ok))

  pub ports : Fine Kind.Port l.ports
  ports = fine-belongs Kind.Port l.boxes l.ports (members-scan Kind.Port l.ports l.boxes (ports-ok l ok))

  pub nets : Fine Kind.Net l.nets
  nets = fine-own Kind.Net l.nets (owners-scan Kind.Net l.nets (nets-ok l ok))

  pub ends : Fine Kind.End l.ends
  ends = fine-belongs Kind.End l.nets l.ends (members-scan Kind.End l.ends l.nets (ends-ok l ok))

  pub few_boxes : length l.boxes ≤ 64
  few_boxes = owners-few Kind.Box l.boxes (boxes-ok l ok)

  pub few-ports : length l.ports ≤ 256
  few-ports = members-few Kind.Port l.ports l.boxes (ports-ok l ok)

  pub few_nets : length l.nets ≤ 64
  few_nets = owners-few Kind.Net l.nets (nets-ok l ok)

  pub few-ends : length l.ends ≤ 256
  few-ends = members-few Kind.End l.ends l.nets (ends-ok l ok)

  pub held : RowsHeld (page_of l)
  held =
      record {
        boxes_held = omega (arith, length-flat Kind.Box boxes);
        ports_held = omega (arith, length-flat Kind.Port ports);
        nets_held = omega (arith, length-flat Kind.Net nets);
        ends_held = omega (arith, length-flat Kind.End ends);
        few_boxes = omega (arith, few_boxes);
        few_nets = omega (arith, few_nets);
      }

  -- records of these rows are the page: each list has as many rows as records
  pub page-in : (r : Lent) → r.boxes.now ≡ flat l.boxes → r.ports.now ≡ flat l.ports → r.nets.now ≡ flat l.nets → r.ends.now ≡ flat l.ends → records_in r ≡ page_of l
  page-in r eb ep en ee =
      let nb : length (flat l.boxes) / BOX ≡ length l.boxes = omega (arith, length-flat Kind.Box boxes) in
      let np : length (flat l.ports) / ROW ≡ length l.ports = omega (arith, length-flat Kind.Port ports) in
      let nn : length (flat l.nets) / NET ≡ length l.nets = omega (arith, length-flat Kind.Net nets) in
      let ne : length (flat l.ends) / ROW ≡ length l.ends = omega (arith, length-flat Kind.End ends) in
      rw (eb, ep, en, ee, nb, np, nn, ne)

  pub box-keys : Distinct BOX (length l.boxes) (flat l.boxes)
  box-keys = distinct Kind.Box l.boxes (owners-scan Kind.Box l.boxes (boxes-ok l ok))

  pub net-keys : Distinct NET (length l.nets) (flat l.nets)
  net-keys = distinct Kind.Net l.nets (owners-scan Kind.Net l.nets (nets-ok l ok))

  pub port-boxes : Owned (flat l.ports) (length l.ports) (flat l.boxes) BOX (length l.boxes)
  port-boxes = owned Kind.Box Kind.Port refl l.boxes l.ports boxes (members-scan Kind.Port l.ports l.boxes (ports-ok l ok))

  pub end-nets : Owned (flat l.ends) (length l.ends) (flat l.nets) NET (length l.nets)
  end-nets = owned Kind.Net Kind.End refl l.nets l.ends nets (members-scan Kind.End l.ends l.nets (ends-ok l ok))

  pub explicit-low : length (explicit (page_of l)).xs ≤ 512
  explicit-low = omega (arith, explicit-few (page_of l) box-keys net-keys, few-ports, few-ends)

  pub box-min-x : Fields (flat l.boxes) BOX 1 (length l.boxes)
  box-min-x = coordinates Kind.Box l.boxes boxes 1 (omega arith) (λ r e. (box-low r e).0)

  pub box-min-y : Fields (flat l.boxes) BOX 2 (length l.boxes)
  box-min-y = coordinates Kind.Box l.boxes boxes 2 (omega arith) (λ r e. (box-low r e).1)

  pub box-max-x : Fields (flat l.boxes) BOX 3 (length l.boxes)
  box-max-x = coordinates Kind.Box l.boxes boxes 3 (omega arith) (λ r e. (box-high r e).0)

  pub box-max-y : Fields (flat l.boxes) BOX 4 (length l.boxes)
  box-max-y = coordinates Kind.Box l.boxes boxes 4 (omega arith) (λ r e. (box-high r e).1)

  pub box-order : (i : ℕ) → i < length l.boxes
      → (get_or (flat l.boxes) (i * BOX + 1) 0 ≤ get_or (flat l.boxes) (i * BOX + 3) 0) × (get_or (flat l.boxes) (i * BOX + 2) 0 ≤ get_or (flat l.boxes) (i * BOX + 4) 0)
  box-order i h =
      rw (word_at Kind.Box boxes i 1 h (omega arith), word_at Kind.Box boxes i 2 h (omega arith), word_at Kind.Box boxes i 3 h (omega arith), word_at Kind.Box boxes i 4 h (omega arith))
      (box-less (get_or l.boxes i []) (fine-at Kind.Box boxes i h))

  pub port_x : Fields (flat l.ports) ROW 1 (length l.ports)
  port_x = coordinates Kind.Port l.ports ports 1 (omega arith) (λ r e. (point_at r 15 (record-ranged Kind.Port r e)).0)

  pub port_y : Fields (flat l.ports) ROW 2 (length l.ports)
  port_y = coordinates Kind.Port l.ports ports 2 (omega arith) (λ r e. (point_at r 15 (record-ranged Kind.Port r e)).1)

  pub port-dirs : (i : ℕ) → i < length l.ports → get_or (flat l.ports) (i * ROW + 3) 0 ≤ 15
  port-dirs i h = rw (word_at Kind.Port ports i 3 h (omega arith)) (point-last (get_or l.ports i []) 15 (record-ranged Kind.Port (get_or l.ports i []) (fine-at Kind.Port ports i h)))

  pub end_x : Fields (flat l.ends) ROW 1 (length l.ends)
  end_x = coordinates Kind.End l.ends ends 1 (omega arith) (λ r e. (point_at r 1 (record-ranged Kind.End r e)).0)

  pub end_y : Fields (flat l.ends) ROW 2 (length l.ends)
  end_y = coordinates Kind.End l.ends ends 2 (omega arith) (λ r e. (point_at r 1 (record-ranged Kind.End r e)).1)

  pub port_words : (m : ℕ) → IDS < m → (k : ℕ) → get_or (flat l.ports) k 0 < m
  port_words m h k = words-low Kind.Port m (omega arith) (λ r e j g. point-low r 15 (record-ranged Kind.Port r e) m h (omega arith) j g) ports k

  pub end_words : (m : ℕ) → IDS < m → (k : ℕ) → get_or (flat l.ends) k 0 < m
  end_words m h k = words-low Kind.End m (omega arith) (λ r e j g. point-low r 1 (record-ranged Kind.End r e) m h (omega arith) j g) ends k

  pub end-marks : (i : ℕ) → i < length l.ends → get_or (flat l.ends) (i * ROW + 3) 0 ≤ 1
  end-marks i h = rw (word_at Kind.End ends i 3 h (omega arith)) (point-last (get_or l.ends i []) 1 (record-ranged Kind.End (get_or l.ends i []) (fine-at Kind.End ends i h)))
