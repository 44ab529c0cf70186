-- A vertex's line a turn.
use mathlib.Core.Path.{◌≡◌}
use mathlib.Core.List.{List, [], ◌∷◌}
use Prim.Native.Nat.{ℕ, ◌+◌, ◌≤◌}
use native.Mathlib.Omega.{arith}
use lib.ListN.{length, get_or}
use Rattle.decimals.specs.Write.{digits, signed, Put}
use Rattle.listing.specs.Listing.{line, vertex_line}
use Rattle.listing.proofs.Writing.{writing_begins, writing-room, writing-on}
use Rattle.listing.proofs.put_vertices.Goals as goal

-- the line that is written is the vertex's
module _ (xs ys kinds : List ℕ) (first k x y l : ℕ) where
  room : (at n : ℕ) → at + length (vertex_line xs ys kinds first k) ≤ n → x ≡ get_or xs (first + k) 0 → y ≡ get_or ys (first + k) 0 → l ≡ get_or kinds (first + k) 0
      → at + length (line (118 ∷ []) (digits k ∷ signed x ∷ signed y ∷ (l ∷ []) ∷ [])) ≤ n
  unfolding vertex_line
  room at n h e f g = rw (e, f, g) h

  is-line : (buf w : List ℕ) (at e : ℕ) → Put buf at (line (118 ∷ []) (digits k ∷ signed x ∷ signed y ∷ (l ∷ []) ∷ [])) w e
      → x ≡ get_or xs (first + k) 0 → y ≡ get_or ys (first + k) 0 → l ≡ get_or kinds (first + k) 0 → Put buf at (vertex_line xs ys kinds first k) w e
  unfolding vertex_line
  is-line buf w at e p f g h = rw (← f, ← g, ← h) p

pub loop-k-init : goal.loop-k-init
loop-k-init c = writing_begins _ _ _ _ c.requires

pub put_vertex-next-requires : goal.put_vertex-next-requires
put_vertex-next-requires c = room _ _ _ _ _ _ _ _ _ _ (writing-room c.loop-k.invariant (omega arith)) c.coord.ensures c.coord-in-loop-k.ensures c.get_or-letter.ensures

pub loop-k-preserved : goal.loop-k-preserved
loop-k-preserved c = writing-on c.loop-k.invariant _ _ (omega arith) (is-line _ _ _ _ _ _ _ _ _ _ _ _ c.put_vertex-next.ensures c.coord.ensures c.coord-in-loop-k.ensures c.get_or-letter.ensures) c.put_vertex-next.auto.buf
