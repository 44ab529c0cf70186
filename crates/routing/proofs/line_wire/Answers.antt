use native.Mathlib.Omega.{arith}
use Prim.Native.Nat.{◌-◌, ◌+◌}
use lib.ListN.{length}
use Rattle.wire.specs.Lent.{line_in, wires_of}
use Rattle.wire.proofs.Counts.{kept-le}
use Rattle.routing.proofs.Tries.{fits-vertices, fits-ends, line-one, line-over, line-done}
use Rattle.routing.proofs.line_wire.Goals as goal

pub returns-then-line-eq1-clause-value : goal.returns-then-line-eq1-clause-value
returns-then-line-eq1-clause-value c = line-one _ _ _ (wires_of c.args.wires.now) c.if-line-eq1.true

pub fits-requires : goal.fits-requires
fits-requires c =
    let L = line_in c.args.line in
    let k = kept-le L.kinds L.ways (length c.args.line.path.now - 1) in
    (omega (arith, c.args.wires.now.few_vertices), omega (arith, c.vertices.ensures, c.args.line.few), omega (arith, c.args.wires.now.few_ends), omega (arith, c.args.line.few))

pub returns-then-not-fits-clause-value : goal.returns-then-not-fits-clause-value
returns-then-not-fits-clause-value c = line-over _ _ _ (wires_of c.args.wires.now) c.if-line-eq1.false _ c.vertices.ensures _ c.fits.ensures c.if-not-fits.true

pub push_vertices-requires-clause-vertex_room : goal.push_vertices-requires-clause-vertex_room
push_vertices-requires-clause-vertex_room c =
    let v = fits-vertices c.args.wires.now.n c.vertices.result c.args.wires.now.m (length c.args.line.path.now + 1) _ c.fits.ensures c.if-not-fits.false in omega (arith, c.vertices.ensures)

pub push_vertices-requires-clause-end_room : goal.push_vertices-requires-clause-end_room
push_vertices-requires-clause-end_room c = fits-ends _ _ _ _ _ c.fits.ensures c.if-not-fits.false

pub returns-clause-value : goal.returns-clause-value
returns-clause-value c = line-done _ _ _ (wires_of c.args.wires.now) c.if-line-eq1.false _ c.vertices.ensures _ c.fits.ensures _ c.if-not-fits.false c.push_vertices.ensures.value
