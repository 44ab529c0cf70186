-- Level 2: what every copy along a junction and every put of a pair keeps, separation keeps. `I` is what is kept.
use Prim.Native.Nat.{ℕ, zero, suc, ◌+◌, ◌-◌, ◌≤◌, ◌<◌}
use mathlib.Core.Path.{◌≡◌, refl}
use mathlib.Core.Bool.{Bool, true, false, cond}
use mathlib.Core.List.{List}
use mathlib.Core.Logic.{◌⊎◌, inl, inr}
use native.Mathlib.Omega.{arith}
use lib.Dec.{eqb}
use lib.ListN.{length, get_or}
use borrow.Author.Tests.{eqb-true, eqb-false}
use Rattle.fixed.specs.Track.{track, moved}
use Rattle.vertex.specs.Pages.{rows, holder, joiner, corner}
use Rattle.tracks.specs.Corridors.{same_at, pair_of, corridor_of}
use Rattle.fixup.specs.Moves.{Places, places, copy_to, start_at, line_move, corner_move, row_move, move, move_junctions, put_pair, move_pair, move_at, moves_to}

-- what a junction can move: the end that joins, and the vertex before it unless it is a start
pub record Target (K J : List ℕ) (j e : ℕ) : Type 0 where
  pub row : j < rows J
  pub target : (e ≡ joiner J j) ⊎ ((e ≡ joiner J j - 1) × (start_at K e ≡ false))

module _ (K J : List ℕ) (I : Places → Type 0)
    (copy-x : (s : Places) (j e : ℕ) → Target K J j e → I s → I (places (copy_to s.x (holder J j) e) s.y))
    (copy-y : (s : Places) (j e : ℕ) → Target K J j e → I s → I (places s.x (copy_to s.y (holder J j) e))) where
  either : (b : Bool) (s t : Places) → (b ≡ true → I s) → (b ≡ false → I t) → I (cond b s t)
  either true s t f g = f refl
  either false s t f g = g refl

  module _ (j : ℕ) (l : j < rows J) where
    joins : Target K J j (joiner J j)
    joins = record { row = l; target = inl refl }

    before : start_at K (joiner J j - 1) ≡ false → Target K J j (joiner J j - 1)
    before e = record { row = l; target = inr (refl, e) }

    line-closed : (s : Places) → I s → I (line_move s (holder J j) (joiner J j))
    unfolding line_move
    line-closed s h =
        let v = holder J j in
        let e = joiner J j in
        let along = places (copy_to s.x v e) s.y in
        either (same_at s.y v (v + 1)) (places s.x (copy_to s.y v e)) (cond (same_at s.x v (v + 1)) along s) (λ _. copy-y s j e joins h)
        (λ _. either (same_at s.x v (v + 1)) along s (λ _. copy-x s j e joins h) (λ _. h))

    corner-closed : (s : Places) → I s → I (corner_move K s (holder J j) (joiner J j))
    unfolding corner_move
    corner-closed s h =
        let v = holder J j in
        let e = joiner J j in
        let t = places (copy_to s.x v e) (copy_to s.y v e) in
        let g : I t = copy-y (places (copy_to s.x v e) s.y) j e joins (copy-x s j e joins h) in
        let across = places t.x (copy_to t.y v (e - 1)) in
        let along = places (copy_to t.x v (e - 1)) t.y in
        let last = cond (same_at s.x e (e - 1)) along t in
        either (start_at K (e - 1)) t (cond (same_at s.y e (e - 1)) across last) (λ _. g)
        (λ b. either (same_at s.y e (e - 1)) across last (λ _. copy-y t j (e - 1) (before b) g)
        (λ _. either (same_at s.x e (e - 1)) along t (λ _. copy-x t j (e - 1) (before b) g) (λ _. g)))

    turned : (v : ℕ) (s : Places) → holder J j ≡ v → I s → I (corner_move K s v (joiner J j))
    turned v s here h = rw (← here) (corner-closed s h)

    row-closed : (i v : ℕ) (s on : Places) → I s → (holder J j ≡ v → I on) → I (row_move K J j i v s on)
    unfolding row_move
    row-closed i v s on h f = either (eqb (holder J j) v) bend s held (λ _. h)
      where
        bent : Places
        bent = cond (start_at K (joiner J j - 1)) (corner_move K s v (joiner J j)) on

        kept : Places
        kept = cond (eqb i v) (line_move s i (joiner J j)) s

        bend : Places
        bend = cond (corner J j) bent kept

        on_line : holder J j ≡ v → eqb i v ≡ true → I (line_move s i (joiner J j))
        on_line here e = rw (eqb-true i v e, ← here) (line-closed s h)

        held : eqb (holder J j) v ≡ true → I bend
        held e =
            let here = eqb-true (holder J j) v e in
            either (corner J j) bent kept
            (λ _. either (start_at K (joiner J j - 1)) (corner_move K s v (joiner J j)) on (λ _. turned v s here h) (λ _. f here))
            (λ _. either (eqb i v) (line_move s i (joiner J j)) s (on_line here) (λ _. h))

  move-closed : (k j i v : ℕ) (s : Places) → j ≤ rows J → I s → I (move k K J j i v s)
  unfolding move
  move-closed zero j i v s l h = h
  move-closed (suc k) zero i v s l h = h
  move-closed (suc k) (suc j) i v s l h =
      let t = move (suc k) K J j i v s in
      let g = move-closed (suc k) j i v s (omega arith) h in
      let e = joiner J j in
      let c = corner_move K t v e in
      let d = move k K J (rows J) (e - 1) (e - 1) c in
      row-closed j l i v t (move k K J (rows J) (e - 1) e d) g
      (λ here. move-closed k (rows J) (e - 1) e d (omega arith) (move-closed k (rows J) (e - 1) (e - 1) c (omega arith) (turned j l v t here g)))

  junctions-closed : (i : ℕ) (s : Places) → I s → I (move_junctions K J i s)
  unfolding move_junctions
  junctions-closed i s h =
      let n = length s.x in
      let t = move n K J (rows J) i i s in
      move-closed n (rows J) i (i + 1) t (omega arith) (move-closed n (rows J) i i s (omega arith) h)

  module _ (vertical : Bool) (keys ts : List ℕ)
      (put : (s : Places) (k c : ℕ) → k < length keys → (get_or ts k 0 ≡ 0 → ⊥) → c ≡ moved (corridor_of (get_or keys k 0)) (track (get_or ts k 0)) → I s
      → I (cond vertical (places (put_pair s.x (pair_of (get_or keys k 0)) c) s.y) (places s.x (put_pair s.y (pair_of (get_or keys k 0)) c)))) where
    pub moves-closed : (k : ℕ) (s : Places) → k ≤ length keys → I s → I (moves_to vertical K J keys ts k s)
    unfolding moves_to move_at move_pair
    moves-closed zero s l h = h
    moves-closed (suc k) s l h =
        let t = moves_to vertical K J keys ts k s in
        let g = moves-closed k s (omega arith) h in
        let i = pair_of (get_or keys k 0) in
        let c = moved (corridor_of (get_or keys k 0)) (track (get_or ts k 0)) in
        let u = cond vertical (places (put_pair t.x i c) t.y) (places t.x (put_pair t.y i c)) in
        either (eqb (get_or ts k 0) 0) t (move_junctions K J i u) (λ _. g) (λ e. junctions-closed i u (put t k c l (eqb-false (get_or ts k 0) 0 e) refl g))
