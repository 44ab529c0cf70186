use native.Mathlib.Omega.{arith}
use Rattle.wire.specs.Lent.{wires_of}
use Rattle.wire.proofs.Pushes.{fallback-least}
use Rattle.routing.proofs.Tries.{fits-vertices, fits-ends, fallback-over, fallback-done}
use Rattle.routing.proofs.fallback_wire.Goals as goal

pub fits-requires : goal.fits-requires
fits-requires c =
    let w = c.args.way in
    let k = fallback-least w.start.x w.start.y w.end.x w.end.y w.along in
    (omega (arith, c.args.wires.now.few_vertices), omega (arith, c.vertices.ensures), omega (arith, c.args.wires.now.few_ends), omega arith)

pub returns-then-not-fits-clause-value : goal.returns-then-not-fits-clause-value
returns-then-not-fits-clause-value c = fallback-over _ _ _ _ _ _ (wires_of c.args.wires.now) _ c.vertices.ensures _ c.fits.ensures c.if-not-fits.true

pub push_fallback_vertices-requires-clause-vertex_room : goal.push_fallback_vertices-requires-clause-vertex_room
push_fallback_vertices-requires-clause-vertex_room c =
    let v = fits-vertices c.args.wires.now.n c.vertices.result c.args.wires.now.m 2 _ c.fits.ensures c.if-not-fits.false in omega (arith, c.vertices.ensures)

pub push_fallback_vertices-requires-clause-end_room : goal.push_fallback_vertices-requires-clause-end_room
push_fallback_vertices-requires-clause-end_room c = fits-ends _ _ _ _ _ c.fits.ensures c.if-not-fits.false

pub returns-clause-value : goal.returns-clause-value
returns-clause-value c = fallback-done _ _ _ _ _ _ (wires_of c.args.wires.now) _ c.vertices.ensures _ c.fits.ensures _ c.if-not-fits.false c.push_fallback_vertices.ensures.value
