-- A layout goes by what it sees of the desk: on a desk of which a part is lent, and by a sound desk's lists alone.
use mathlib.Core.Path.{◌≡◌, refl}
use mathlib.Core.List.{List}
use mathlib.Core.Bool.{Bool, cond, ◌&&◌}
use Prim.Native.Nat.{ℕ, ◌≤◌}
use lib.ListN.{length, take}
use Rattle.desk.specs.Sizes.{DESK}
use Rattle.book.specs.Book.{Seen}
use Rattle.desk.specs.Desk.{seen_of}
use Rattle.desk.proofs.Longer.{lent_by}
use Rattle.page_layout.specs.Drawing.{Drawing}
use Rattle.desk_layout.specs.declared.Choice.{Choice}
use Rattle.desk_layout.specs.Layout.{roomy, is_lent, left, tested, says, shows, desk_number, desk_drawing}

-- ---- the first n words of a desk
module _ (ws : List ℕ) (n : ℕ) (long : DESK ≤ length ws) (d : Drawing) (q : Choice) where
  pub says-whole : desk_number (take n ws) d q ≡ says n d q (seen_of ws)
  unfolding says is_lent
  says-whole = lent_by ws n long (λ (b : Bool) (s : Seen). cond (b && roomy d) (tested s q) 1) (λ s t. refl)

  pub shows-whole : desk_drawing (take n ws) d q ≡ shows n d q (seen_of ws)
  unfolding shows is_lent
  shows-whole = lent_by ws n long (λ (b : Bool) (s : Seen). cond (b && roomy d) (left (tested s q) s.lists q d) d) (λ s t. refl)

-- ---- two desks with the same lists, both sound or neither
module _ (a b : Seen) (h : a.sound ≡ b.sound) (e : a.lists ≡ b.lists) (n : ℕ) (d : Drawing) (q : Choice) where
  same-tested : tested a q ≡ tested b q
  unfolding tested
  same-tested = rw (h, e)

  pub same_layout : says n d q a ≡ says n d q b
  unfolding says
  same_layout = rw same-tested

  pub same-shown : shows n d q a ≡ shows n d q b
  unfolding shows
  same-shown = rw (same-tested, e)
