-- The tests of a search's arguments: the turns of the scan of its coordinates.
use mathlib.Core.Path.{◌≡◌, sym, ◌∙◌}
use mathlib.Core.List.{List, ◌∷◌}
use mathlib.Core.Bool.{Bool, true, false, ◌&&◌}
use Prim.Native.Nat.{ℕ, ◌+◌, ◌<◌, ◌≤◌}
use native.Mathlib.Numerals.{add-one}
use native.Mathlib.Omega.{arith}
use lib.Dec.{eqb, leb}
use lib.IntN.{ℤ}
use lib.ListN.{length, get_or, drop}
use lib.Seq.{drop-cons}
use Rattle.fixed.specs.Up.{ups}
use Rattle.fixed.proofs.Lists.{length-ups}
use Rattle.rows.specs.Rows.{scan}
use Rattle.rows.proofs.Rows.{pass, fail, done}
use Rattle.book.specs.Book.{ok_place}
use Rattle.desk_search.specs.Query.{ENDS, ok_step, ok_ends, ok_query, query}

module _ (us : List ℤ) (i : ℕ) (so_far : scan ok_step (ups us) ≡ scan ok_step (drop i (ups us))) where
  module _ (h : i < length us) (u : ℕ) (b : Bool) (eu : u ≡ get_or (ups us) i 0) (eb : (vs : List ℕ) → b ≡ ok_step u vs) where
    split : drop i (ups us) ≡ u ∷ drop (i + 1) (ups us)
    split = rw (eu, add-one i) (drop-cons (ups us) i 0 (omega (arith, length-ups us)))

    pub steps-fail : b ≡ false → false ≡ scan ok_step (ups us)
    steps-fail e = fail ok_step (ups us) u i split so_far (sym (eb _) ∙ e)

    pub steps-pass : b ≡ true → scan ok_step (ups us) ≡ scan ok_step (drop (i + 1) (ups us))
    steps-pass e = pass ok_step (ups us) u i split so_far (sym (eb _) ∙ e)

  pub steps-done : length us ≤ i → true ≡ scan ok_step (ups us)
  steps-done h = done ok_step (ups us) i (omega (arith, length-ups us)) so_far

pub ends_by : (ex ey : List ℤ) (a b : Bool) → a ≡ scan ok_step (ups ex) → b ≡ scan ok_step (ups ey)
    → (eqb (length ex) (length ey) && leb (length ex) ENDS) && (a && b) ≡ ok_ends (ups ex) (ups ey)
unfolding ok_ends
ends_by ex ey a b ea eb = rw (length-ups ex, length-ups ey, ea, eb)

pub query-by : (prune x y : ℕ) (ex ey : List ℤ) (a b c : Bool) → ((us : List ℕ) → a ≡ ok_step x us) → ((us : List ℕ) → b ≡ ok_step y us)
    → c ≡ ok_ends (ups ex) (ups ey) → (leb prune 1 && (a && b)) && c ≡ ok_query (query prune x y ex ey)
unfolding ok_query ok_place ok_step
query-by prune x y ex ey a b c ea eb ec = rw (ea (ups ex), eb (ups ex), ec)
