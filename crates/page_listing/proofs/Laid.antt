-- A desk that holds a valid page: what its layout hands back, and what is printed of it.
use mathlib.Core.Path.{◌≡◌, refl, ap, ◌∙◌}
use mathlib.Core.Bool.{Bool, true, false, cond}
use mathlib.Core.List.{List}
use Prim.Native.Nat.{ℕ, ◌<◌, ◌≤◌}
use native.Mathlib.Omega.{arith}
use borrow.Author.Tests.{le-leb}
use lib.ListN.{length, length-replicate}
use lib.IntN.{ℤ}
use Rattle.fixed.specs.Up.{BIAS, ups}
use Rattle.fixed.proofs.Lists.{length-ups}
use Rattle.anchors.specs.Records.{Records}
use Rattle.page_graph.specs.Page.{crowded}
use Rattle.desk.specs.Sizes.{DESK}
use Rattle.book.specs.Book.{Lists, valid, ranged, answer}
use Rattle.desk.specs.Desk.{book_of, seen_of}
use Rattle.book.proofs.Keeps.{lists-ok}
use Rattle.select.specs.Page.{flat, page_of}
use Rattle.select.proofs.Ok.{few_nets}
use Rattle.layout.specs.Answer.{layout_number as page_number}
use Rattle.page_layout.specs.Drawing.{Drawing, drawing, bare, laid}
use Rattle.desk_layout.specs.declared.Choice.{Choice}
use Rattle.desk_layout.specs.Layout.{is_pruned, is_apart, ok_choice, layout_number, left, is_lent, tested, says, shows, desk_number, desk_drawing}
use Rattle.decimals.specs.Write.{digits, digits_in, tabbed, Put}
use Rattle.listing.specs.Listing.{line, page, listing, crowded_line}
use Rattle.listing.proofs.Fits.{Words}
use Rattle.page_listing.specs.Printed.{ROOM, sheet, page_on, laid_listing, page_printed}
use Rattle.page_listing.specs.Fits.{Fits}
use Rattle.page_listing.proofs.Room.{Sized, laid-fits, list-fits}

-- ---- what stood in the lists before has no say
sheet-sized : Sized sheet
unfolding sheet
sheet-sized =
    record {
      nets_long = length-replicate {A = ℕ} 320 0;
      xs_long = length-replicate {A = ℕ} 512 BIAS;
      ys_long = length-replicate {A = ℕ} 512 BIAS;
      kinds_long = length-replicate {A = ℕ} 512 0;
      joins_long = length-replicate {A = ℕ} 768 0;
    }

same-bare : (d e : Drawing) → Sized d → Sized e → bare d ≡ bare e
unfolding bare
same-bare d e s t =
    rw (s.nets_long, s.xs_long, s.ys_long, s.kinds_long, s.joins_long, t.nets_long, t.xs_long, t.ys_long, t.kinds_long, t.joins_long)

on-sheet : (r : Records) (pruned apart : Bool) (d : Drawing) → Sized d → laid r pruned apart d ≡ laid r pruned apart sheet
unfolding laid
on-sheet r pruned apart d s = rw (same-bare d sheet s sheet-sized)

-- lists as they are lent
pub lent-sized : (nets : List ℕ) (x y : List ℤ) (kinds joins : List ℕ) → length nets ≡ 320 → length x ≡ 512 → length y ≡ 512 → length kinds ≡ 512 → length joins ≡ 768
    → Sized (drawing nets x y kinds joins)
lent-sized nets x y kinds joins a b c d e =
    record { nets_long = a; xs_long = length-ups x ∙ b; ys_long = length-ups y ∙ c; kinds_long = d; joins_long = e }

pub crowded-room : (size : ℕ) → ROOM ≤ size → length crowded_line ≤ size
unfolding crowded_line line tabbed digits digits_in
crowded-room size h = omega arith

-- ---- the layout's number
module _ (ws : List ℕ) (long : DESK ≤ length ws) (v : valid (book_of ws) ≡ true) (q : Choice) (ok : ok_choice q ≡ true) (pruned apart : Bool) (ep : is_pruned q ≡ pruned) (ea : is_apart q ≡ apart)
    (d e : Drawing) (s : Sized d) (n : ℕ) (is : n ≡ desk_number ws d q) (leaves : e ≡ desk_drawing ws d q) where
  abbrev l : Lists
  l = (book_of ws).lists

  lent : is_lent (length ws) d ≡ true
  unfolding is_lent
  lent =
      rw (le-leb DESK (length ws) long, s.nets_long, s.xs_long, s.ys_long, s.kinds_long, s.joins_long)

  by-page : tested (seen_of ws) q ≡ cond (crowded (page_of l)) 8 0
  unfolding tested ranged answer layout_number page_number
  by-page = rw (v, ok)

  number_is : n ≡ cond (crowded (page_of l)) 8 0
  unfolding says
  number_is = is ∙ rw lent by-page

  pub is-crowded : (n ≡ 0 → ⊥) → crowded (page_of l) ≡ true
  is-crowded h = go (crowded (page_of l)) refl
    where
      go : (b : Bool) → crowded (page_of l) ≡ b → b ≡ true
      go true q = refl
      go false q = absurd (h (number_is ∙ rw q))

  pub is-clear : n ≡ 0 → crowded (page_of l) ≡ false
  is-clear h = go (crowded (page_of l)) refl
    where
      go : (b : Bool) → crowded (page_of l) ≡ b → b ≡ false
      go false q = refl
      go true q =
          let z : n ≡ 8 = number_is ∙ rw q in
          absurd (omega arith)

  laid_as : n ≡ 0 → e ≡ laid (page_of l) pruned apart d
  unfolding shows left
  laid_as h =
      let t : tested (seen_of ws) q ≡ 0 = by-page ∙ rw (is-clear h) in
      leaves ∙ rw (lent, t, ep, ea)

  pub drawing-fits : n ≡ 0 → Fits e (length l.nets)
  drawing-fits h =
      rw (laid_as h) (laid-fits l (lists-ok (book_of ws) v) (is-clear h) pruned apart d s)

  module _ (buf w : List ℕ) (r : ℕ) where
    pub crowded-printed : (n ≡ 0 → ⊥) → Put buf 0 crowded_line w r → Put buf 0 (page_printed pruned apart l) w r
    unfolding page_printed
    crowded-printed h p = rw (is-crowded h) p

    pub laid-printed : n ≡ 0 → Put buf 0 (listing (page_on l e) (length l.nets)) w r → Put buf 0 (page_printed pruned apart l) w r
    unfolding page_printed laid_listing
    laid-printed h p = rw (is-clear h, ← on-sheet (page_of l) pruned apart d s, ← laid_as h) p

-- ---- the listing of a drawing
module _ (ws : List ℕ) (v : valid (book_of ws) ≡ true) (nets : List ℕ) (x y : List ℤ) (kinds joins ids : List ℕ) (n : ℕ) (is : ids ≡ flat (book_of ws).lists.nets)
    (en : n ≡ length (book_of ws).lists.nets) where
  listing-is : listing (page nets ids (ups x) (ups y) kinds joins) n ≡ listing (page_on (book_of ws).lists (drawing nets x y kinds joins)) (length (book_of ws).lists.nets)
  unfolding page_on
  listing-is = rw (is, en)

  pub listing-asks : (size : ℕ) → Fits (drawing nets x y kinds joins) (length (book_of ws).lists.nets) → Words nets → Words joins → ROOM ≤ size
      → (length (listing (page nets ids (ups x) (ups y) kinds joins) n) ≤ size) × (n < 4294967296)
  listing-asks size f wn wj h =
      let ok = lists-ok (book_of ws) v in
      (omega (arith, ap length listing-is, list-fits (book_of ws).lists ok (drawing nets x y kinds joins) f wn wj), omega (arith, few_nets (book_of ws).lists ok))

  pub listing-put : (buf w : List ℕ) (r : ℕ) → Put buf 0 (listing (page nets ids (ups x) (ups y) kinds joins) n) w r
      → Put buf 0 (listing (page_on (book_of ws).lists (drawing nets x y kinds joins)) (length (book_of ws).lists.nets)) w r
  listing-put buf w r p = rw (← listing-is) p
