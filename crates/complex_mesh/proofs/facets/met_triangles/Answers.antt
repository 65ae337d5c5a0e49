use Rattle.std.proofs.Common.{sym, subst}
use Rattle.std.specs.Prelude.{All}
use Rattle.geo_laws.specs.Complex.{facets}
use Rattle.std.proofs.lemmas.Result.{err_from_is_err_and}
use Rattle.simplex_meets.specs.Proper.{IsTriangle, triangle_face}
use Rattle.complex_mesh.proofs.Causes.{plane_cause}
use Rattle.complex_mesh.proofs.Triangles.{triangles_span}
use Rattle.complex_mesh.proofs.Protected.{are_segments}
use Rattle.simplex_meets.specs.Crossing.{AreKnownMet, AreFlatMet}
use Rattle.facet_recover.specs.Missing.{AreListed}
use Rattle.complex_mesh.proofs.Listed.{listed_known}
use Rattle.complex_mesh.proofs.InPlane.{met_in_plane}
use Rattle.complex_mesh.proofs.facets.met_triangles.Goals as goal

pub crossings_beside-requires-clause-triangles : goal.crossings_beside-requires-clause-triangles
crossings_beside-requires-clause-triangles c =
    subst (All (λ t. IsTriangle c.args.points.now (triangle_face t))) (sym c.in_ok-triangles.ensures) (triangles_span c.args.points.now (facets c.args.complex.now))

pub crossings_beside-requires-clause-pieces : goal.crossings_beside-requires-clause-pieces
crossings_beside-requires-clause-pieces c = are_segments c.args.points.now c.args.pieces.now c.requires.facets.distinct c.requires.facets.two_ends

pub crossings_beside-requires-clause-known : goal.crossings_beside-requires-clause-known
crossings_beside-requires-clause-known c =
    subst (AreKnownMet c.args.points.now c.in_ok-triangles.triangles c.args.pieces.now) (sym c.as_slice.ensures.value)
    (listed_known c.args.points.now c.in_ok-triangles.triangles c.args.pieces.now c.in_ok-listed.listed.items
    (subst (λ rows. AreListed c.in_ok-triangles.triangles rows c.in_ok-listed.listed.items) c.requires.list c.in_ok-listed.ensures) c.requires.facets.are_sides)

pub crossings_beside-requires-clause-flat : goal.crossings_beside-requires-clause-flat
crossings_beside-requires-clause-flat c =
    subst (λ ts. AreFlatMet c.args.points.now ts c.args.pieces.now) (sym c.in_ok-triangles.ensures)
    (met_in_plane c.args.points.now (facets c.args.complex.now) c.args.pieces.now c.requires.facets.are_sides)

pub returns-in_err-crossings_beside : goal.returns-in_err-crossings_beside
returns-in_err-crossings_beside c =
    let p = err_from_is_err_and c.from_residual-in_err-crossings_beside.result c.from_residual-in_err-crossings_beside.ensures.1 in
    rw (p.1, p.2) (plane_cause c.args.points.now c.args.pieces.now (facets c.args.complex.now) c.in_ok-triangles.triangles c.in_ok-triangles.ensures _ c.in_err-crossings_beside.ensures)
