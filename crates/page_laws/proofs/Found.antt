-- The line that a search between nodes gives is drawn on the graph's nodes, and leads from the start to one of the ends.
use mathlib.Core.Path.{◌≡◌, refl, sym, ap, ◌∙◌}
use mathlib.Core.Bool.{Bool, true, false, cond}
use mathlib.Core.List.{List, []}
use Prim.Native.Nat.{ℕ, zero, suc, ◌-◌, ◌<◌}
use native.Mathlib.Decide.{ℕ_discrete}
use native.Mathlib.Omega.{arith}
use borrow.Author.Tests.{lt-ltb, ltb-true}
use lib.Dec.{ltb}
use lib.ListN.{length, get_or}
use Rattle.fixed.proofs.Bools.{and_left, and_right}
use Rattle.nodes.specs.Chains.{Place}
use Rattle.nodes.specs.Graph.{Graph, seek, find}
use Rattle.nodes.proofs.Sound.{found}
use Rattle.astar.specs.Reached.{Ready, Below}
use Rattle.path_finding.specs.Claims.{Way, arrived, step, Led}
use Rattle.path_finding.specs.Line.{NORMAL, line, table, place_at, kind_at}
use Rattle.path_finding.specs.Places.{node_at, known, start_of, ends_of, ends_known, line_between}
use Rattle.path_finding.proofs.Lines.{table-length, table_at, is-line-below}
use Rattle.path_finding.proofs.Laws.{kind-end}
use Rattle.path_finding.proofs.Theorems.{right}
use Rattle.wire.specs.Lines.{Line, line_of}
use Rattle.net.specs.Nets.{found_line}
use Rattle.net_laws.specs.Laid.{Drawn}

-- ---- the first and the last node of a way

module _ (G : Graph) where
  way-some : {a b : ℕ} {l : List ℕ} → Way G a b l → 0 < length l
  way-some arrived = omega arith
  way-some (step h e w) = omega arith

  way-first : {a b : ℕ} {l : List ℕ} → Way G a b l → get_or l 0 0 ≡ a
  way-first arrived = refl
  way-first (step h e w) = refl

  way-last : {a b : ℕ} {l : List ℕ} → Way G a b l → get_or l (length l - 1) 0 ≡ b
  way-last arrived = refl
  way-last (step {v = v} {l = l} h e w) =
      let s = way-some w in
      let z : suc (length l) - 1 ≡ suc (length l - 1) = omega arith in
      rw z (way-last w)

-- ---- lines as the wires take them

module _ (G : Graph) (l : List ℕ) (below : Below G.count l) where
  node-place : (cs : List ℕ) (i : ℕ) → i < length l → get_or (table (place_at cs l) (length l)) i 0 ≡ get_or cs (get_or l i 0) 0
  unfolding place_at
  node-place cs i h = table_at (place_at cs l) (length l) i h ∙ rw (lt-ltb i (length l) h)

  drawn : Drawn (Place G) (line_of G l)
  drawn =
      record {
        last = λ h e. last h e;
        spots = λ i h. record { node = get_or l i 0; at = record { inside = below i h; at_x = sym (node-place G.xs i h); at_y = sym (node-place G.ys i h) } };
      }
    where
      last : 0 < length l → get_or (table (kind_at (length l)) (length l)) (length l - 1) 0 ≡ NORMAL → ⊥
      last h e =
          let t = table_at (kind_at (length l)) (length l) (length l - 1) (omega arith) in
          let k = kind-end (length l) (length l - 1) (omega arith) (omega arith) in
          omega arith

-- ---- the line between places

-- an end where the line leads
pub record Ending (L : Line) (exs eys : List ℕ) : Type 0 where
  pub index : ℕ
  pub listed : index < length exs
  pub x_is : get_or L.x (L.count - 1) 0 ≡ get_or exs index 0
  pub y_is : get_or L.y (L.count - 1) 0 ≡ get_or eys index 0

known-each : (xs ys : List ℕ) (n : ℕ) (exs eys : List ℕ) (k : ℕ) → known xs ys n exs eys k ≡ true → (i : ℕ) → i < k → node_at xs ys n exs eys i < n
unfolding known
known-each xs ys n exs eys zero e i h = absurd (omega arith)
known-each xs ys n exs eys (suc k) e i h = by (ℕ_discrete i k) (known-each xs ys n exs eys k (and_left _ (ltb (node_at xs ys n exs eys k) n) e))
  where
    by : Dec (i ≡ k) → ((i : ℕ) → i < k → node_at xs ys n exs eys i < n) → node_at xs ys n exs eys i < n
    by (yes q) on = rw q (ltb-true _ _ (and_right (known xs ys n exs eys k) _ e))
    by (no q) on = on i (omega arith)

-- places that are known are nodes' places
pub known-place : (G : Graph) (exs eys : List ℕ) → known G.xs G.ys G.count exs eys (length exs) ≡ true → (i : ℕ) → i < length exs → Place G (get_or exs i 0) (get_or eys i 0)
unfolding node_at find
known-place G exs eys e i h =
    let l = known-each G.xs G.ys G.count exs eys (length exs) e i h in
    let f = found G (get_or exs i 0) (get_or eys i 0) l in
    record { node = find G (get_or exs i 0) (get_or eys i 0); at = record { inside = l; at_x = f.0; at_y = f.1 } }

module _ (G : Graph) (w : Ready G) (x y : ℕ) (exs eys : List ℕ) where
  abbrev a : ℕ
  a = start_of G x y

  abbrev es : List ℕ
  es = ends_of G exs eys

  -- none, or the line between nodes that all are known
  data Form : List ℕ → Type 0 where
    nothing : Form []
    something : a < G.count → ends_known G exs eys ≡ true → Form (line G es a)

  form : Form (line_between G x y exs eys)
  unfolding line_between
  form = by (ltb a G.count) refl (ends_known G exs eys) refl
    where
      by : (b : Bool) → ltb a G.count ≡ b → (c : Bool) → ends_known G exs eys ≡ c → Form (cond b (cond c (line G es a) []) [])
      by true e true f = something (ltb-true _ _ e) f
      by true e false f = nothing
      by false e c f = nothing

  form-below : {l : List ℕ} → Form l → Below G.count l
  form-below nothing = λ i h. absurd (omega arith)
  form-below (something h f) = is-line-below G w es a h (line G es a) refl

  led : (h : a < G.count) → 0 < length (line G es a) → Led G es a (line G es a)
  led h s = (right G w es a h).leads (λ e. omega (arith, ap length e))

  -- the line's first node stands at (x, y), and its last one at an end
  abbrev Right : List ℕ → Type 0
  Right l = 0 < length l → (get_or (line_of G l).x 0 0 ≡ x) × (get_or (line_of G l).y 0 0 ≡ y) × Ending (line_of G l) exs eys

  form-right : {l : List ℕ} → Form l → Right l
  unfolding find node_at
  form-right nothing s = absurd (omega arith)
  form-right (something h f) s =
      let l = line G es a in
      let below = is-line-below G w es a h l refl in
      let d = led h s in
      let i = d.goal.index in
      let first = way-first G d.way in
      let last = way-last G d.way in
      let here = started h in
      let li : i < length exs = rw (table-length (node_at G.xs G.ys G.count exs eys) (length exs)) at d.goal.listed in
      let there = known-there f i li in
      let to : get_or l (length l - 1) 0 ≡ seek G.xs G.ys G.count (get_or exs i 0) (get_or eys i 0) = last ∙ sym d.goal.is ∙ end_is i li in
      let z : length l - 1 < length l = omega arith in (
        node-place G l below G.xs 0 s ∙ ap (λ (v : ℕ). get_or G.xs v 0) first ∙ here.0,
        node-place G l below G.ys 0 s ∙ ap (λ (v : ℕ). get_or G.ys v 0) first ∙ here.1,
        record {
          index = i;
          listed = li;
          x_is = node-place G l below G.xs (length l - 1) z ∙ ap (λ (v : ℕ). get_or G.xs v 0) to ∙ there.0;
          y_is = node-place G l below G.ys (length l - 1) z ∙ ap (λ (v : ℕ). get_or G.ys v 0) to ∙ there.1;
        },
      )
    where
      started : a < G.count → (get_or G.xs a 0 ≡ x) × (get_or G.ys a 0 ≡ y)
      started h = found G x y h

      end_is : (k : ℕ) → k < length exs → get_or es k 0 ≡ seek G.xs G.ys G.count (get_or exs k 0) (get_or eys k 0)
      end_is k h = table_at (node_at G.xs G.ys G.count exs eys) (length exs) k h

      known-there : ends_known G exs eys ≡ true → (i : ℕ) → i < length exs
          → (get_or G.xs (seek G.xs G.ys G.count (get_or exs i 0) (get_or eys i 0)) 0 ≡ get_or exs i 0) × (get_or G.ys (seek G.xs G.ys G.count (get_or exs i 0) (get_or eys i 0)) 0 ≡ get_or eys i 0)
      known-there f i h = found G (get_or exs i 0) (get_or eys i 0) (known-each G.xs G.ys G.count exs eys (length exs) f i h)

  pub found-drawn : Drawn (Place G) (found_line G x y exs eys)
  unfolding found_line
  found-drawn = drawn G (line_between G x y exs eys) (form-below form)

  pub found_right : 0 < (found_line G x y exs eys).count → (get_or (found_line G x y exs eys).x 0 0 ≡ x) × (get_or (found_line G x y exs eys).y 0 0 ≡ y) × Ending (found_line G x y exs eys) exs eys
  unfolding found_line
  found_right s = form-right form s
