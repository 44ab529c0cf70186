-- A search as a call: what its answer and its outputs are at each return.
use mathlib.Core.Path.{◌≡◌, refl, ap, ◌∙◌}
use mathlib.Core.List.{List, []}
use mathlib.Core.Bool.{Bool, true, false, cond, ◌&&◌}
use Prim.Native.Nat.{ℕ, ◌≤◌}
use native.Mathlib.Omega.{arith}
use borrow.Author.Tests.{leb-true, eqb-true, eqb-false}
use lib.Dec.{leb, eqb}
use lib.IntN.{ℤ}
use lib.ListN.{length}
use Rattle.std.proofs.Common.{Result, replicate}
use Rattle.fixed.specs.Up.{BIAS, ups}
use Rattle.fixed.proofs.Bools.{and_left, and_right}
use Rattle.fixed.proofs.Lists.{length-ups}
use Rattle.nodes.specs.Graph.{NODES}
use Rattle.anchors.specs.Records.{Records}
use Rattle.path_finding.specs.Line.{table, place_at, kind_at, direction_at, Written}
use Rattle.page_graph.specs.Page.{crowded}
use Rattle.book.specs.Refusals.{number_of}
use Rattle.book.specs.declared.Refusal.{Refusal}
use Rattle.path_finding.specs.Places.{nodes_in}
use Rattle.path_finding.specs.Lent.{Cleared, KeptOutput}
use Rattle.path_finding.specs.declared.Output.{Output}
use Rattle.path_finding.proofs.Cleared.{ups-zeros}
use Rattle.desk_search.specs.Lent.{query_in, outputs_in}
use Rattle.desk_search.specs.declared.Request.{Request}
use Rattle.page_search.specs.Page.{PageSearched, search_line as page_line}
use Rattle.page_search.specs.Exists.{Sound, PageTold}
use Rattle.page_search.proofs.Theorem.{page_searches}
use Rattle.desk.specs.Sizes.{DESK}
use Rattle.book.specs.Book.{Lists, Seen, ok_lists, ok_place, valid, ranged, answer}
use Rattle.desk.specs.Desk.{book_of, seen_of}
use Rattle.book.proofs.Keeps.{lists-ok}
use Rattle.select.specs.Page.{page_of}
use Rattle.desk_search.specs.Query.{Query, ENDS, ok_ends, ok_query, is_pruned}
use Rattle.desk_search.specs.Search.{Outputs, outputs, is_lent, graph_of, search_number, search_line, written, left, zeros, tested, says, shows, desk_number, desk_outputs}
use Rattle.desk_search.proofs.Exists.{sound}
use Rattle.desk_search.proofs.Outputs.{no_line}

-- ---- the sizes
pub lent_is : (n : ℕ) (lx ly : List ℤ) (kinds dirs : List ℕ) (b : Bool)
    → b ≡ leb DESK n && ((leb NODES (length lx) && leb NODES (length ly)) && (leb NODES (length kinds) && leb NODES (length dirs)))
    → b ≡ is_lent n (outputs lx ly kinds dirs)
unfolding is_lent
lent_is n lx ly kinds dirs b e = rw (length-ups lx, length-ups ly) e

pub lent-desk : (n : ℕ) (o : Outputs) → is_lent n o ≡ true → DESK ≤ n
unfolding is_lent
lent-desk n o e = leb-true DESK n (and_left (leb DESK n) _ e)

-- ---- 1
module _ (ws : List ℕ) (o : Outputs) (q : Query) where
  pub says-1 : is_lent (length ws) o ≡ false → (1 ≡ desk_number ws o q) × (o ≡ desk_outputs ws o q)
  unfolding says shows
  says-1 e = rw e (refl, refl)

  pub says_on : is_lent (length ws) o ≡ true → (r : ℕ) (p : Outputs) → r ≡ tested (seen_of ws) q → p ≡ left r (book_of ws).lists q o
      → (r ≡ desk_number ws o q) × (p ≡ desk_outputs ws o q)
  unfolding says shows
  says_on e r p er ep = rw e (er, ep ∙ ap (λ (n : ℕ). left n (book_of ws).lists q o) er)

-- ---- 2
module _ (s : Seen) (q : Query) where
  pub refused-desk : s.sound ≡ false → 2 ≡ tested s q
  unfolding tested ranged answer
  refused-desk e = rw e

  pub refused-query : s.sound ≡ true → ok_query q ≡ false → 2 ≡ tested s q
  unfolding tested ranged answer
  refused-query v e = rw (v, e)

  pub passed : s.sound ≡ true → ok_query q ≡ true → (r : ℕ) → r ≡ search_number s.lists q → r ≡ tested s q
  unfolding tested ranged answer
  passed v e r er = rw (v, e) er

pub left-2 : (l : Lists) (q : Query) (o p : Outputs) → p ≡ zeros o → p ≡ left 2 l q o
unfolding left
left-2 l q o p e = e

-- ---- without 0 there is no line
no-nodes : (l : Lists) → ok_lists l ≡ true → (q : Query) → (search_number l q ≡ 0 → ⊥) → search_line l q ≡ []
unfolding search_number search_line
no-nodes l ok q h =
    let t = page_searches (page_of l) (sound l ok) (is_pruned q) q.x q.y q.end_x q.end_y in
    go (crowded (page_of l)) refl t
  where
    go : (c : Bool) → crowded (page_of l) ≡ c → PageTold (page_of l) (is_pruned q) q.x q.y q.end_x q.end_y → page_line (page_of l) (is_pruned q) q.x q.y q.end_x q.end_y ≡ []
    go true e t = (t.full e).1
    go false e t = t.line_is e ∙ (t.told e).refused (λ z. h (t.number_is e ∙ z))

-- ---- the page of a valid desk, and what a search on it leaves
module _ (l : Lists) (ok : ok_lists l ≡ true) (lent : Records) (the_page : lent ≡ page_of l) where
  pub page-sound : Sound lent
  page-sound = rw the_page (sound l ok)

  module _ (q : Query) (pruned : Bool) (num nodes : ℕ) (o : Outputs) (xs ys kinds dirs : List ℕ) (pruned-is : pruned ≡ is_pruned q)
      (ran : PageSearched lent pruned q.x q.y q.end_x q.end_y num nodes xs ys kinds dirs) where
    pub page-number : num ≡ search_number l q
    unfolding search_number
    page-number = ran.number_is ∙ rw (the_page, pruned-is)

    page-written : Written (graph_of l q).xs (graph_of l q).ys (graph_of l q).links (search_line l q) xs ys kinds dirs
    unfolding search_line graph_of
    page-written = rw (the_page, pruned-is) at ran.written

    module _ (a : length xs ≡ length o.xs) (b : length ys ≡ length o.ys) (c : length kinds ≡ length o.kinds) (d : length dirs ≡ length o.dirs) where
      found-line : ◌≡◌ {A = Outputs} (record { xs = xs; ys = ys; kinds = kinds; dirs = dirs }) (written (graph_of l q) (search_line l q) o)
      unfolding written
      found-line =
          let w = page-written in
          let e₁ : xs ≡ table (place_at (graph_of l q).xs (search_line l q)) (length o.xs) = w.x_is ∙ rw a in
          let e₂ : ys ≡ table (place_at (graph_of l q).ys (search_line l q)) (length o.ys) = w.y_is ∙ rw b in
          let e₃ : kinds ≡ table (kind_at (length (search_line l q))) (length o.kinds) = w.kind_is ∙ rw c in
          let e₄ : dirs ≡ table (direction_at (graph_of l q).links (search_line l q)) (length o.dirs) = w.direction_is ∙ rw d in
          rw (e₁, e₂, e₃, e₄)

      pub page-left : ◌≡◌ {A = Outputs} (record { xs = xs; ys = ys; kinds = kinds; dirs = dirs }) (left num l q o)
      unfolding left
      page-left = go (eqb num 0) refl
        where
          go : (t : Bool) → eqb num 0 ≡ t → ◌≡◌ {A = Outputs} (record { xs = xs; ys = ys; kinds = kinds; dirs = dirs }) (cond t (written (graph_of l q) (search_line l q) o) (zeros o))
          go true e = found-line
          go false e =
              no_line (graph_of l q).xs (graph_of l q).ys (graph_of l q).links (search_line l q) xs ys kinds dirs o
              (no-nodes l ok q (λ z. eqb-false num 0 e (page-number ∙ z))) a b c d page-written

-- ends that keep their ranges
pub query-ends : (q : Query) → ok_query q ≡ true → (length q.end_x ≡ length q.end_y) × (length q.end_x ≤ ENDS)
unfolding ok_query ok_ends
query-ends q e =
    let t = and_left (eqb (length q.end_x) (length q.end_y) && leb (length q.end_x) ENDS) _ (and_right (leb q.prune 1 && ok_place q.x q.y) _ e) in
    (eqb-true (length q.end_x) (length q.end_y) (and_left (eqb (length q.end_x) (length q.end_y)) _ t), leb-true (length q.end_x) ENDS (and_right (eqb (length q.end_x) (length q.end_y)) _ t))

-- ---- over what is lent
module _ (ws : List ℕ) (v : valid (book_of ws) ≡ true) (r : Records) (page : r ≡ page_of (book_of ws).lists) where
  pub valid-sound : Sound r
  valid-sound = page-sound (book_of ws).lists (lists-ok (book_of ws) v) r page

  -- a search that found so much, of which r is handed on
  module _ (q : Request) (found : Result ℕ Refusal) (o p : Output) (k : KeptOutput o p)
      (ran : PageSearched r (eqb q.prune 1) q.x q.y (ups q.end_x.now) (ups q.end_y.now) (number_of found) (nodes_in found) (ups p.x.now) (ups p.y.now) p.kinds.now p.directions.now)
      (num : ℕ) (same : num ≡ number_of found) where
    pub valid-number : num ≡ search_number (book_of ws).lists (query_in q)
    valid-number = same ∙ page-number (book_of ws).lists (lists-ok (book_of ws) v) r page (query_in q) _ _ _ (outputs_in o) _ _ _ _ refl ran

    pub valid-left : outputs_in p ≡ left num (book_of ws).lists (query_in q) (outputs_in o)
    valid-left =
        rw same
        (page-left (book_of ws).lists (lists-ok (book_of ws) v) r page (query_in q) _ _ _ (outputs_in o) _ _ _ _ refl ran
        (omega (arith, k.long_x, length-ups p.x.now, length-ups o.x.now)) (omega (arith, k.long_y, length-ups p.y.now, length-ups o.y.now)) k.long_kinds k.long_directions)

pub cleared-zeros : (a b : Output) → Cleared a b → outputs_in b ≡ zeros (outputs_in a)
unfolding zeros
cleared-zeros a b c =
    let e₁ : ups b.x.now ≡ replicate (length (ups a.x.now)) BIAS = ap ups c.no_x ∙ ups-zeros _ ∙ rw (length-ups a.x.now) in
    let e₂ : ups b.y.now ≡ replicate (length (ups a.y.now)) BIAS = ap ups c.no_y ∙ ups-zeros _ ∙ rw (length-ups a.y.now) in
    rw (e₁, e₂, c.no_kind, c.no_direction)
