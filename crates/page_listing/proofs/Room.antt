-- The listing of a laid-out page fits its room.
--     laid-fits     what its rows keep
--     list-fits     its listing
use mathlib.Core.Path.{◌≡◌, refl}
use mathlib.Core.Bool.{Bool, true, false}
use mathlib.Core.List.{List}
use Prim.Native.Nat.{ℕ, zero, suc, ◌+◌, ◌*◌, ◌<◌, ◌≤◌}
use native.Mathlib.Omega.{arith}
use lib.ListN.{length, get_or, replicate, length-replicate}
use Rattle.fixed.specs.Up.{BIAS}
use Rattle.decimals.specs.Decimal.{BASE}
use Rattle.wire.specs.Wires.{vertices}
use Rattle.page_graph.specs.Page.{crowded}
use Rattle.page_laws.proofs.Ranges.{blank-page}
use Rattle.book.specs.declared.Kind.{Kind}
use Rattle.book.proofs.Fields.{record-ranged}
use Rattle.book.specs.Book.{Record, Lists, ok_record, ok_lists}
use Rattle.select.specs.Page.{flat, page_of}
use Rattle.select.proofs.Listed.{words-low}
use Rattle.select.proofs.Ok.{nets, few_nets}
use Rattle.select.proofs.Asked.{asked, placed}
use Rattle.layout.specs.Layout.{blank}
use Rattle.layout.specs.Answer.{layout_page}
use Rattle.layout_laws.specs.Laid.{LOW, HIGH, Ready}
use Rattle.layout_laws.specs.Counted.{vertex_count, join_count, Counted}
use Rattle.layout_laws.proofs.Theorem.{laid_out}
use Rattle.layout_laws.proofs.Counts.{rows-count}
use Rattle.page_text.proofs.Back.{id-fits}
use Rattle.page_layout.specs.Drawing.{Drawing, lists_of, bare, laid}
use Rattle.listing.specs.Listing.{page, listing}
use Rattle.listing.specs.Room.{NET_BYTES, VERTEX_BYTES, JUNCTION_BYTES, room_at, room}
use Rattle.listing.proofs.Fits.{Words, listing-fits}
use Rattle.page_listing.specs.Printed.{ROOM, page_on}
use Rattle.page_listing.specs.Fits.{Fits}

-- the room for k nets, by what their rows count
room-is : (R : List ℕ) (k : ℕ) → room R k ≡ k * NET_BYTES + vertex_count R k * VERTEX_BYTES + join_count R k * JUNCTION_BYTES
unfolding room room_at vertex_count join_count
room-is R zero = refl
room-is R (suc k) = omega (arith, room-is R k)

no-vertex : (d : Drawing) → (bare d).wires.n ≡ 0
unfolding bare blank
no-vertex d = refl

no_join : (d : Drawing) → (bare d).j ≡ 0
unfolding bare blank
no_join d = refl

-- lists of the sizes that a page has at most
pub record Sized (d : Drawing) : Type 0 where
  pub nets_long : length d.nets ≡ 320
  pub xs_long : length d.xs ≡ 512
  pub ys_long : length d.ys ≡ 512
  pub kinds_long : length d.kinds ≡ 512
  pub joins_long : length d.joins ≡ 768

module _ (l : Lists) (ok : ok_lists l ≡ true) (clear : crowded (page_of l) ≡ false) (pruned apart : Bool) (d : Drawing) (s : Sized d) where
  ready : Ready (length l.nets) (bare d)
  unfolding bare blank
  ready =
      record {
        page =
            blank-page LOW HIGH (vertices (replicate (length d.xs) BIAS) (replicate (length d.ys) BIAS) (replicate (length d.kinds) 0) 0) (replicate (length d.joins) 0) refl
            (record { of_x = omega (arith, s.xs_long, length-replicate {A = ℕ} (length d.xs) BIAS); of_y = omega (arith, s.ys_long, length-replicate {A = ℕ} (length d.ys) BIAS); of_kinds = omega (arith, s.kinds_long, length-replicate {A = ℕ} (length d.kinds) 0) })
            (omega (arith, s.joins_long, length-replicate {A = ℕ} (length d.joins) 0));
        rows_long = omega (arith, s.nets_long, length-replicate {A = ℕ} (length d.nets) 0, few_nets l ok);
      }

  counted : Counted (length l.nets) (layout_page (page_of l) pruned apart (bare d))
  counted = rows-count (page_of l) pruned apart (bare d) (asked l ok) (placed l ok) clear ready (no-vertex d) (no_join d)

  laid-room : room (laid (page_of l) pruned apart d).nets (length l.nets) ≤ ROOM
  unfolding laid lists_of
  laid-room =
      let Q = layout_page (page_of l) pruned apart (bare d) in
      let c = counted in
      omega (arith, room-is Q.nets (length l.nets), c.vertices_are, c.joins_are, c.few, c.half, few_nets l ok)

  pub laid-fits : Fits (laid (page_of l) pruned apart d) (length l.nets)
  unfolding laid lists_of
  laid-fits =
      let o = laid_out (page_of l) pruned apart (bare d) (asked l ok) (placed l ok) clear ready in
      record {
        vertices = (layout_page (page_of l) pruned apart (bare d)).wires.n;
        roomy = laid-room;
        inside = λ i h. (o.each i h).inside;
        xs_low = λ k h. omega (arith, o.near_x.high k h);
        ys_low = λ k h. omega (arith, o.near_y.high k h);
      }

-- ---- the listing, of rows that are words of 32 bits

id-low : (r : Record) → ok_record Kind.Net r ≡ true → (j : ℕ) → j < 1 → get_or r j 0 < BASE
id-low r e zero h = id-fits (get_or r 0 0) (record-ranged Kind.Net r e)
id-low r e (suc j) h = absurd (omega arith)

ids-low : (l : Lists) → ok_lists l ≡ true → (i : ℕ) → get_or (flat l.nets) i 0 < BASE
ids-low l ok i = words-low Kind.Net BASE (omega arith) id-low (nets l ok) i

pub list-fits : (l : Lists) → ok_lists l ≡ true → (d : Drawing) → Fits d (length l.nets) → Words d.nets → Words d.joins → length (listing (page_on l d) (length l.nets)) ≤ ROOM
unfolding page_on
list-fits l ok d f wn wj =
    omega (
      arith,
      f.roomy,
      listing-fits (page d.nets (flat l.nets) d.xs d.ys d.kinds d.joins) (length l.nets) f.vertices
          (record { nets_fit = wn; ids_fit = ids-low l ok; inside = f.inside; xs_fit = f.xs_low; ys_fit = f.ys_low; joins_fit_words = wj }),
    )
