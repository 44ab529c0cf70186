-- A search on a page finds a line exactly if there is one.
use mathlib.Core.Path.{◌≡◌, refl, sym, ◌∙◌}
use mathlib.Core.Bool.{Bool, true, false}
use mathlib.Core.List.{List}
use Prim.Native.Nat.{ℕ}
use Rattle.anchors.specs.Records.{Records}
use Rattle.graph.specs.Build.{whole, made}
use Rattle.path_finding.specs.Places.{number}
use Rattle.search.proofs.Theorem.{searches}
use Rattle.line_exists.specs.Exists.{Named, Joined}
use Rattle.line_exists.specs.Exists as Lines
use Rattle.line_exists.proofs.Theorem.{line-exists}
use Rattle.page_graph.specs.Page.{boxes_of_page, anchors_of_page, graph_of_page}
use Rattle.page_graph.proofs.Theorem.{page-few, anchor-in, anchor-explicit, anchor-x, anchor-y}
use Rattle.page_search.specs.Page.{search_number, search_line}
use Rattle.page_search.specs.Exists.{Sound, Holds, Asked, Decided, PageSearches, PageLineExists}
use Rattle.page_search.proofs.Explicits.{explicit-stands}
use Rattle.page_search.proofs.Ready.{x_low, y_low, page-ready}

module _ (r : Records) (x y : ℕ) (exs eys : List ℕ) (q : Asked r x y exs eys) where
  abbrev s : Sound r
  s = q.sound

  -- a place that holds something is the place of an explicit anchor
  named : (u v : ℕ) → Holds r u v → Named (anchors_of_page r) u v
  named u v h =
      let a = explicit-stands r u v q.owned h in
      let k = a.anchor in
      let l = a.listed in
      record { anchor = k; listed = anchor-in r k l; explicit = anchor-explicit r k l; x_is = anchor-x r k l ∙ a.x_is; y_is = anchor-y r k l ∙ a.y_is }

  decided : Lines.Decided (boxes_of_page r) (anchors_of_page r) x y exs eys
  decided =
      line-exists (boxes_of_page r) (anchors_of_page r) x y exs eys
      (record { few = (page-few r q.roomy).nodes_few; x_low = x_low r s; y_low = y_low r s; start = named x y q.start; ends = λ k h. named _ _ (q.ends k h) })

  number_is : (pruned : Bool) → search_number r pruned x y exs eys ≡ number (made (boxes_of_page r) (anchors_of_page r) pruned) x y exs eys
  unfolding search_number graph_of_page
  number_is pruned = rw q.roomy

  whole_is : graph_of_page r false ≡ whole (boxes_of_page r) (anchors_of_page r)
  unfolding graph_of_page made
  whole_is = refl

  pub page-decided : Decided r x y exs eys
  page-decided =
      record {
        found = λ pruned j. number_is pruned ∙ decided.found pruned (rw whole_is at j);
        joined = λ pruned e. rw whole_is (decided.joined pruned (sym (number_is pruned) ∙ e));
        missed = λ pruned n. number_is pruned ∙ decided.missed pruned (λ j. n (rw whole_is j));
        same = number_is true ∙ decided.same ∙ sym (number_is false);
      }

pub page-line-exists : PageLineExists
page-line-exists r x y exs eys q = page-decided r x y exs eys q

pub page_searches : PageSearches
unfolding search_number search_line
page_searches r s pruned x y exs eys =
    record { full = λ e. (rw e, rw e); number_is = λ e. rw e; line_is = λ e. rw e; told = λ e. searches (graph_of_page r pruned) (page-ready r s e pruned) x y exs eys }
