-- What the functions are lent, as the definitions see it: a line, and the wires of a net.
use Rattle.std.specs.Prelude.{◌≡◌, List, [], ◌∷◌, ℕ, length, map, Bool}
use Rattle.fixed.specs.Up.{ups}
use Rattle.nodes.specs.Columns.{graph_of}
use Rattle.vertex.specs.Kinds.{Junction}
use Rattle.wire.specs.Lines.{Line, line_of}
use Rattle.wire.specs.Wires.{Vertices, Wires, vertices, ends, wires, corner_x, corner_y, bent, fallback_vertices, push_bend, push_fallback_wire, push_fallback}
use Rattle.wire.specs.declared.types.End.{End}
use Rattle.wire.specs.declared.types.Fallback.{Fallback}
use Rattle.wire.specs.declared.types.Line.{Line as Path}
use Rattle.wire.specs.declared.types.Place.{Place}
use Rattle.wire.specs.declared.types.Wires.{Wires as Lists}

abbrev pub line_in : Path → Line
line_in l = line_of (graph_of l.graph.now) l.path.now

-- the rows of ends: four words an end
unfoldable pub words : List End → List ℕ
words [] = []
words (e ∷ es) = e.at.x ∷ e.at.y ∷ e.vertex ∷ e.letter ∷ words es

abbrev pub wires_of : Lists → Wires
wires_of w = wires (vertices (ups w.x.now) (ups w.y.now) w.letters.now w.n) (ends (words w.ends.now) w.m)

-- the lists are the same lent ones, and as many ends fit
pub record KeptWires (v w : Lists) : Type 0 where
  pub same_x : w.x.ghost_name ≡ v.x.ghost_name
  pub same_y : w.y.ghost_name ≡ v.y.ghost_name
  pub same_letters : w.letters.ghost_name ≡ v.letters.ghost_name
  pub same_ends : w.ends.ghost_name ≡ v.ends.ghost_name
  pub long_ends : length w.ends.now ≡ length v.ends.now

-- ---- what a fallback adds

abbrev pub bent_in : Fallback → Bool
bent_in f =
    bent (corner_x f.along f.start.x f.end.x) (corner_y f.along f.start.y f.end.y) f.start.x f.start.y f.end.x f.end.y

abbrev pub added_by : Fallback → ℕ
added_by f = fallback_vertices f.start.x f.start.y f.end.x f.end.y f.along

abbrev pub bend_in : Fallback → Vertices → Vertices
bend_in f P = push_bend f.start.x f.start.y f.end.x f.end.y f.along P

abbrev pub fallback_wire_in : Fallback → Junction → Vertices → Vertices
fallback_wire_in f J P = push_fallback_wire f.start.x f.start.y f.end.x f.end.y f.along J P

abbrev pub fallback_in : Fallback → Junction → Wires → Wires
fallback_in f J W = push_fallback f.start.x f.start.y f.end.x f.end.y f.along J W

-- ---- places as columns

abbrev pub xs_of : List Place → List ℕ
xs_of ps = map (λ (p : Place). p.x) ps

abbrev pub ys_of : List Place → List ℕ
ys_of ps = map (λ (p : Place). p.y) ps
