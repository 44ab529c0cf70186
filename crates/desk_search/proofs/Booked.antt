-- A search goes by what it sees of the desk: on a desk of which a part is lent, and by a sound desk's lists alone.
use mathlib.Core.Path.{◌≡◌, refl}
use mathlib.Core.List.{List}
use mathlib.Core.Bool.{Bool, cond, ◌&&◌}
use Prim.Native.Nat.{ℕ, ◌≤◌}
use lib.ListN.{length, take}
use Rattle.desk.specs.Sizes.{DESK}
use Rattle.book.specs.Book.{Seen}
use Rattle.desk.specs.Desk.{seen_of}
use Rattle.desk.proofs.Longer.{lent_by}
use Rattle.desk_search.specs.Query.{Query}
use Rattle.desk_search.specs.Search.{Outputs, roomy, is_lent, left, tested, says, shows, desk_number, desk_outputs}

-- ---- the first n words of a desk
module _ (ws : List ℕ) (n : ℕ) (long : DESK ≤ length ws) (o : Outputs) (q : Query) where
  pub says-whole : desk_number (take n ws) o q ≡ says n o q (seen_of ws)
  unfolding says is_lent
  says-whole = lent_by ws n long (λ (b : Bool) (s : Seen). cond (b && roomy o) (tested s q) 1) (λ s t. refl)

  pub shows-whole : desk_outputs (take n ws) o q ≡ shows n o q (seen_of ws)
  unfolding shows is_lent
  shows-whole = lent_by ws n long (λ (b : Bool) (s : Seen). cond (b && roomy o) (left (tested s q) s.lists q o) o) (λ s t. refl)

-- ---- two desks with the same lists, both sound or neither
module _ (a b : Seen) (h : a.sound ≡ b.sound) (e : a.lists ≡ b.lists) (n : ℕ) (o : Outputs) (q : Query) where
  same-tested : tested a q ≡ tested b q
  unfolding tested
  same-tested = rw (h, e)

  pub same-search : says n o q a ≡ says n o q b
  unfolding says
  same-search = rw same-tested

  pub same-shown : shows n o q a ≡ shows n o q b
  unfolding shows
  same-shown = rw (same-tested, e)
