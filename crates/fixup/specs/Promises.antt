-- 01, 'Separation': what it promises for a page of n vertices. The proofs are in proofs/Promises.
use Rattle.std.specs.Prelude.{◌≡◌, Bool, true, false, ◌||◌, List, ℕ, ◌+◌, ◌-◌, ◌*◌, length, get_or}
use Rattle.fixed.specs.Constants.{SPACING}
use Rattle.vertex.specs.Kinds.{start}
use Rattle.vertex.specs.Pages.{kind_at, Within}
use Rattle.vertex.specs.declared.VertexKind.{VertexKind}
use Rattle.tracks.specs.Movement.{no_junction}
use Rattle.tracks.specs.Corridors.{gathered}
use Rattle.tracks.specs.Promises.{Apart, Ordered}
use Rattle.fixup.specs.Moves.{Places}
use Rattle.fixup.specs.Separation.{separate_wires}

-- no coordinate goes further than 256 spacings beyond the page's
abbrev pub REACH : ℕ
REACH = 256 * SPACING

-- every vertex keeps its place in the lists, and its coordinates stay in reach
pub record Bounded (lo hi n : ℕ) (K J : List ℕ) (s : Places) : Type 0 where
  pub xs : length (separate_wires K J s).x ≡ n
  pub ys : length (separate_wires K J s).y ≡ n
  pub near_x : Within (lo - REACH) (hi + REACH) n (separate_wires K J s).x
  pub near_y : Within (lo - REACH) (hi + REACH) n (separate_wires K J s).y

-- the kinds whose vertices stay: a wire's start, and an end with no junction
abbrev pub still : VertexKind → Bool
still kind = start kind || no_junction kind

pub record Still (K J : List ℕ) (s : Places) : Type 0 where
  pub still_x : (i : ℕ) → still (kind_at K i) ≡ true → get_or (separate_wires K J s).x i 0 ≡ get_or s.x i 0
  pub still_y : (i : ℕ) → still (kind_at K i) ≡ true → get_or (separate_wires K J s).y i 0 ≡ get_or s.y i 0

-- on both axes, corridors go by rising coordinate and list their pairs in order, and no two overlapping pairs of one share a track unless both are locked
pub record Parted (K J : List ℕ) (s : Places) : Type 0 where
  pub horizontal_order : Ordered false s.x s.y K J
  pub vertical_order : Ordered true s.y s.x K J
  pub horizontal : Apart (gathered false s.x s.y K J)
  pub vertical : Apart (gathered true s.y s.x K J)
