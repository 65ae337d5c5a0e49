use Rattle.std.proofs.Common.{ℕ, ◌<◌, length, refl, arith}
use Rattle.std.proofs.lemmas.Result.{err_from_is_err_and}
use Rattle.geo_laws.specs.Complex.{facets}
use Rattle.complex_mesh.proofs.Causes.{protection_cause, crossing_cause, tangle_cause}
use Rattle.complex_mesh.proofs.Protected.{sound_facets, still_distinct, still_few, protected_triangles, solid}
use Rattle.complex_mesh.proofs.Kept.{complex_mesh_of}
use Rattle.complex_mesh.proofs.meshing.mesh_facets.Goals as goal

pub met_triangles-requires-clause-facets : goal.met_triangles-requires-clause-facets
met_triangles-requires-clause-facets c = sound_facets c.args.options.now c.args.points c.args.complex.now c.args.segments.now (facets c.args.meshed.now) c.in_ok-protected.protected.points c.in_ok-protected.protected.pieces c.requires.meshable c.in_ok-protected.ensures.0 c.args.meshed.now c.requires.corners refl

pub recovered-requires-clause-distinct : goal.recovered-requires-clause-distinct
recovered-requires-clause-distinct c = still_distinct c.args.options.now c.args.points c.args.complex.now c.args.segments.now (facets c.args.meshed.now) c.in_ok-protected.protected.points c.in_ok-protected.protected.pieces c.requires.meshable c.in_ok-protected.ensures.0

pub recovered-requires-clause-few : goal.recovered-requires-clause-few
recovered-requires-clause-few c =
    one_less (length c.in_ok-protected.protected.points) (still_few c.args.options.now c.args.points c.args.complex.now c.args.segments.now (facets c.args.meshed.now) c.in_ok-protected.protected.points c.in_ok-protected.protected.pieces c.requires.meshable c.in_ok-protected.ensures.0)
  where
    one_less : (n : ℕ) → n < 4294967294 → n < 4294967295
    one_less n h = omega arith

pub recovered-requires-clause-solid : goal.recovered-requires-clause-solid
recovered-requires-clause-solid c = solid c.args.options.now c.args.points c.args.complex.now c.args.segments.now (facets c.args.meshed.now) c.in_ok-protected.protected.points c.in_ok-protected.protected.pieces c.requires.meshable c.in_ok-protected.ensures.0 c.in_ok-triangles.triangles c.in_ok-triangles.ensures.0 c.in_ok-triangles.ensures.1

pub recovered-requires-clause-complex : goal.recovered-requires-clause-complex
recovered-requires-clause-complex c = protected_triangles c.args.options.now c.args.points c.args.complex.now c.args.segments.now (facets c.args.meshed.now) c.in_ok-protected.protected.points c.in_ok-protected.protected.pieces c.requires.meshable c.in_ok-protected.ensures.0 c.in_ok-triangles.triangles c.in_ok-triangles.ensures.0 c.in_ok-triangles.ensures.1

pub returns-in_err-protected : goal.returns-in_err-protected
returns-in_err-protected c =
    let p = err_from_is_err_and c.from_residual.result c.from_residual.ensures.1 in
    rw (p.1, p.2) (protection_cause c.args.options.now c.args.points c.args.complex.now c.in_err-protected.field-0.0 c.in_err-protected.ensures)

pub returns-in_err-triangles : goal.returns-in_err-triangles
returns-in_err-triangles c =
    let p = err_from_is_err_and c.from_residual-in_err-triangles.result c.from_residual-in_err-triangles.ensures.1 in
    rw (p.1, p.2) (crossing_cause c.args.options.now c.args.points c.args.complex.now c.args.segments.now (facets c.args.meshed.now) c.in_ok-protected.protected.points c.in_ok-protected.protected.pieces c.in_ok-protected.ensures.0 _ c.in_err-triangles.ensures)

pub returns-in_err-whole : goal.returns-in_err-whole
returns-in_err-whole c =
    let p = err_from_is_err_and c.from_residual-in_err-whole.result c.from_residual-in_err-whole.ensures.1 in
    rw (p.1, p.2) (tangle_cause c.args.options.now c.args.points c.args.complex.now c.args.segments.now (facets c.args.meshed.now) c.in_ok-protected.protected.points c.in_ok-protected.protected.pieces
    c.in_ok-triangles.triangles c.in_ok-protected.ensures.0 c.in_ok-triangles.ensures.0 c.in_ok-triangles.ensures.1 _ c.in_err-whole.ensures)

pub returns : goal.returns
returns c =
    complex_mesh_of c.args.options.now c.args.points c.args.complex.now c.in_ok-mesh.mesh c.args.segments.now (facets c.args.meshed.now) c.in_ok-protected.protected.points c.in_ok-triangles.triangles
    c.in_ok-protected.protected.pieces c.in_ok-whole.whole c.requires.meshable c.in_ok-protected.ensures.0 c.in_ok-triangles.ensures.0 c.in_ok-triangles.ensures.1 c.in_ok-whole.ensures c.in_ok-mesh.ensures.0 c.in_ok-mesh.ensures.1 c.in_ok-mesh.ensures.2
