-- The four answers of a search between places: s is the start's node, `es` the nodes of the k ends, ok whether all are known.
use Prim.Native.Nat.{ℕ, zero, suc, ◌-◌, ◌≤◌, ◌<◌}
use mathlib.Core.Path.{◌≡◌, refl, sym, ap, ◌∙◌, subst}
use mathlib.Core.List.{List, []}
use mathlib.Core.Bool.{Bool, true, false, cond}
use native.Mathlib.Omega.{arith}
use native.Mathlib.Nat.{not-suc-le-zero}
use lib.ListN.{length, drop, drop_of_length-le, length-drop}
use lib.Dec.{ltb}
use borrow.Author.Tests.{lt-ltb, le-ltb, eq-eqb, ne_eqb, ltb-true}
use Rattle.fixed.proofs.Bools.{and_left, and_right}
use Rattle.std.proofs.Common.{Some, None, Result, Ok, Err}
use Rattle.std.specs.Result.{result_unwrap_or}
use Rattle.book.specs.declared.Refusal.{Refusal}
use Rattle.nodes.specs.Graph.{Graph, find}
use Rattle.nodes.specs.Lent.{Below as Found}
use Rattle.astar.specs.Reached.{Ready, Below}
use Rattle.path_finding.specs.Line.{line, table}
use Rattle.path_finding.specs.Places.{node_at, known, start_of, ends_of, ends_known, line_between, number, nodes_in, Answered}
use Rattle.path_finding.proofs.Lines.{below_more, is-line-below}

-- ends that are known are nodes
known-below : (xs ys : List ℕ) (n : ℕ) (exs eys : List ℕ) (k : ℕ) → known xs ys n exs eys k ≡ true → Below n (table (node_at xs ys n exs eys) k)
unfolding known table
known-below xs ys n exs eys zero h = λ i l. absurd (not-suc-le-zero l)
known-below xs ys n exs eys (suc k) h =
    below_more n (table (node_at xs ys n exs eys) k) (node_at xs ys n exs eys k) (known-below xs ys n exs eys k (and_left _ _ h)) (ltb-true _ _ (and_right (known xs ys n exs eys k) _ h))

-- ends that are known are nodes, in a list of the ends
pub all-known : (G : Graph) (exs eys l : List ℕ) → true ≡ ends_known G exs eys → l ≡ ends_of G exs eys → Below G.count l
all-known G exs eys l e f = subst (λ (m : List ℕ). Below G.count m) (sym f) (known-below G.xs G.ys G.count exs eys (length exs) (sym e))

module _ (G : Graph) (x y : ℕ) (exs eys path : List ℕ) where
  behind : drop (length path - 0) path ≡ []
  behind = drop_of_length-le path {i = length path - 0} (omega arith)

  pub no_start : Found None G.count (find G x y) → Answered G x y exs eys 9 0 path
  unfolding find number line_between
  no_start h = record { number_is = rw (le-ltb _ _ h); nodes_is = rw (le-ltb _ _ h); line_is = rw (le-ltb _ _ h) behind }

  module _ (s : ℕ) (f : Found (Some s) G.count (find G x y)) where
    at_start : s ≡ start_of G x y
    unfolding find
    at_start = f.0

    h : start_of G x y < G.count
    h = rw (← at_start) f.1

    pub no_end : false ≡ ends_known G exs eys → Answered G x y exs eys 10 0 path
    unfolding number line_between
    no_end k =
        let e = sym k in
        record { number_is = rw (lt-ltb _ _ h, e); nodes_is = rw (lt-ltb _ _ h, e); line_is = rw (lt-ltb _ _ h, e) behind }

    module _ (k : true ≡ ends_known G exs eys) (es : List ℕ) (nodes : es ≡ ends_of G exs eys) (at : ℕ) (z : drop at path ≡ line G es s) where
      e : ends_known G exs eys ≡ true
      e = sym k

      between_is : line_between G x y exs eys ≡ line G es s
      unfolding line_between
      between_is = rw (lt-ltb _ _ h, e, nodes, at_start)

      number-some : 0 < length (line_between G x y exs eys) → 0 ≡ number G x y exs eys
      unfolding number
      number-some p = rw (lt-ltb _ _ h, e, ne_eqb (length (line_between G x y exs eys)) 0 (λ z. omega arith))

      number-none : length (line_between G x y exs eys) ≡ 0 → 11 ≡ number G x y exs eys
      unfolding number
      number-none p = rw (lt-ltb _ _ h, e, eq-eqb (length (line_between G x y exs eys)) 0 p)

      length-is : length (line_between G x y exs eys) ≡ length path - at
      length-is = ap length (between_is ∙ sym z) ∙ length-drop at path

      pub no-line_between : at ≡ length path → Answered G x y exs eys 11 0 path
      no-line_between q =
          let m : length (line_between G x y exs eys) ≡ 0 = omega (arith, length-is) in
          let b : length path - 0 ≡ at = omega arith in
          record { number_is = number-none m; nodes_is = sym m; line_is = rw (b, between_is) z }

      pub line-found : at ≤ length path → (at ≡ length path → ⊥) → Answered G x y exs eys 0 (length path - at) path
      line-found within q =
          let b : length path - (length path - at) ≡ at = omega arith in
          record { number_is = number-some (omega (arith, length-is)); nodes_is = sym length-is; line_is = rw (b, between_is) z }

-- the line lies at the end of the list, and its nodes are nodes of the graph
none_below : (n : ℕ) → Below n []
none_below n i h = absurd (not-suc-le-zero h)

pub between-below : (G : Graph) → (0 < G.count → Ready G) → (x y : ℕ) (exs eys : List ℕ) → Below G.count (line_between G x y exs eys)
unfolding line_between
between-below G w x y exs eys = go (ltb (start_of G x y) G.count) refl (ends_known G exs eys)
  where
    go : (s : Bool) → ltb (start_of G x y) G.count ≡ s → (k : Bool) → Below G.count (cond s (cond k (line G (ends_of G exs eys) (start_of G x y)) []) [])
    go true e true = let l = ltb-true _ _ e in is-line-below G (w (omega (arith, l))) (ends_of G exs eys) (start_of G x y) l _ refl
    go true e false = none_below G.count
    go false e k = none_below G.count

module _ (G : Graph) (x y : ℕ) (exs eys path : List ℕ) (num nodes : ℕ) (a : Answered G x y exs eys num nodes path) where
  pub nodes-fit : nodes ≤ length path
  nodes-fit = omega (arith, a.nodes_is, ap length a.line_is, length-drop (length path - nodes) path)

  pub nodes-below : (0 < G.count → Ready G) → (l : List ℕ) → l ≡ drop (length path - nodes) path → Below G.count l
  nodes-below w l e = subst (λ (m : List ℕ). Below G.count m) (sym (e ∙ a.line_is)) (between-below G w x y exs eys)

-- how many nodes the line has, as the code takes it
pub unwrapped : (r : Result ℕ Refusal) → result_unwrap_or r 0 ≡ nodes_in r
unwrapped (Ok n) = refl
unwrapped (Err e) = refl
