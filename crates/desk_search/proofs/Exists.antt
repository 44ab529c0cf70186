-- The search's claim on a desk: a valid page that is not crowded has what the claim on its records asks.
use mathlib.Core.Path.{◌≡◌, refl, ◌∙◌}
use mathlib.Core.Bool.{Bool, true, false, cond}
use Prim.Native.Nat.{ℕ}
use native.Mathlib.Omega.{arith}
use lib.ListN.{length}
use Rattle.astar.specs.Reached.{LIMIT}
use Rattle.page_graph.specs.Page.{crowded}
use Rattle.page_search.specs.Page.{search_number as page_number}
use Rattle.page_search.specs.Exists.{Sound, Owned, Holds as PageHolds, port as page-port, unported}
use Rattle.page_search.proofs.Theorem.{page-line-exists}
use Rattle.book.specs.Book.{Lists, Book, ok_lists, seen, valid, ranged, answer}
use Rattle.desk.specs.Desk.{book_of, seen_of}
use Rattle.book.specs.declared.Kind.{Kind}
use Rattle.book.proofs.Keeps.{lists-ok}
use Rattle.select.specs.Page.{page_of}
use Rattle.select.proofs.Listed.{word_at}
use Rattle.select.proofs.Asked.{asked}
use Rattle.select.proofs.Ok.{ports, ends, port-boxes, end-nets, port_words, end_words}
use Rattle.desk_search.specs.Query.{Query, is_pruned, ok_query}
use Rattle.desk_search.specs.Search.{is_lent, search_number, tested, says}
use Rattle.desk_search.specs.Exists.{Holds, AllHold, unpruned, Decided, SearchDecides}
use Rattle.desk_search.specs.Exists.Holds.{port, end}

-- ---- a valid page
module _ (l : Lists) (ok : ok_lists l ≡ true) where
  pub sound : Sound (page_of l)
  sound =
      record {
        rows = asked l ok;
        port_words = port_words l ok LIMIT (omega arith);
        end_words = end_words l ok LIMIT (omega arith);
      }

  pub owned : Owned (page_of l)
  owned =
      record {
        box_there = λ k h. record { row = (port-boxes l ok).key k h; listed = (port-boxes l ok).low k h; is = (port-boxes l ok).is k h };
        net_there = λ k h. record { row = (end-nets l ok).key k h; listed = (end-nets l ok).low k h; is = (end-nets l ok).is k h };
      }

  holds : (x y : ℕ) → Holds l x y → PageHolds (page_of l) x y
  holds x y (port i h ex ey) =
      page-port i
      (record { listed = h; x_is = word_at Kind.Port (ports l ok) i 1 h (omega arith) ∙ ex; y_is = word_at Kind.Port (ports l ok) i 2 h (omega arith) ∙ ey })
  holds x y (end i h ex ey z) =
      unported i
      (record { listed = h; x_is = word_at Kind.End (ends l ok) i 1 h (omega arith) ∙ ex; y_is = word_at Kind.End (ends l ok) i 2 h (omega arith) ∙ ey })
      (word_at Kind.End (ends l ok) i 3 h (omega arith) ∙ z)

  module _ (q : Query) (free : crowded (page_of l) ≡ false) (h : AllHold l q) where
    decided : Decided l q (search_number l q)
    unfolding unpruned search_number
    decided =
        let d =
        page-line-exists (page_of l) q.x q.y q.end_x q.end_y
        (record { sound = sound; owned = owned; roomy = free; start = holds q.x q.y h.start; ends = λ k g. holds _ _ (h.ends k g) }) in
        record { found = d.found (is_pruned q); joined = d.joined (is_pruned q); missed = d.missed (is_pruned q) }

-- ---- at the level of the call
crowded-8 : (l : Lists) (q : Query) → crowded (page_of l) ≡ true → search_number l q ≡ 8
unfolding search_number page_number
crowded-8 l q e = rw e

module _ (b : Book) (q : Query) (h : AllHold b.lists q) where
  -- by whether the desk is sound and the arguments keep their ranges
  abbrev by_tests : Bool → Bool → ℕ
  by_tests v f = answer v (ranged f) (search_number b.lists q)

  tested-decided : (tested (seen b) q ≡ 2 → ⊥) → (tested (seen b) q ≡ 8 → ⊥) → Decided b.lists q (tested (seen b) q)
  unfolding tested answer ranged
  tested-decided n₂ n₈ = go (valid b) refl (ok_query q) n₂ n₈
    where
      by : ok_lists b.lists ≡ true → (t : Bool) → crowded (page_of b.lists) ≡ t → (search_number b.lists q ≡ 8 → ⊥) → Decided b.lists q (search_number b.lists q)
      by ok true e n = absurd (n (crowded-8 b.lists q e))
      by ok false e n = decided b.lists ok q e h

      go : (v : Bool) → valid b ≡ v → (f : Bool) → (by_tests v f ≡ 2 → ⊥) → (by_tests v f ≡ 8 → ⊥) → Decided b.lists q (by_tests v f)
      go true e true a c = by (lists-ok b e) (crowded (page_of b.lists)) refl c
      go true e false a c = absurd (a refl)
      go false e f a c = absurd (a refl)

pub search-decides : SearchDecides
unfolding says
search-decides ws o q n₁ n₂ n₈ h = go (is_lent (length ws) o) n₁ n₂ n₈
  where
    go : (t : Bool) → (cond t (tested (seen_of ws) q) 1 ≡ 1 → ⊥) → (cond t (tested (seen_of ws) q) 1 ≡ 2 → ⊥) → (cond t (tested (seen_of ws) q) 1 ≡ 8 → ⊥)
        → Decided (book_of ws).lists q (cond t (tested (seen_of ws) q) 1)
    go true a b c = tested-decided (book_of ws) q h b c
    go false a b c = absurd (a refl)
