use Rattle.std.proofs.Common.{subst}
use Rattle.std.proofs.lemmas.Result.{err_from_is_err_and}
use Rattle.geo_laws.specs.Complex.{facets}
use Rattle.segment_protect.specs.Ends.{IsProtectFault}
use Rattle.complex_mesh.proofs.Causes.{protect_cause}
use Rattle.complex_mesh.proofs.Protected.{meshed_two_ends, protected_by}
use Rattle.complex_mesh.proofs.meshing.protect_facets.Goals as goal

pub pieces-requires-clause-ends : goal.pieces-requires-clause-ends
pieces-requires-clause-ends c = meshed_two_ends c.args.options.now.keep_facets c.args.points c.args.complex.now c.args.segments.now (facets c.args.meshed.now) c.requires.meshable.corners c.requires.meshed

pub returns-in_err-protected : goal.returns-in_err-protected
returns-in_err-protected c =
    let p = err_from_is_err_and c.from_residual-in_err-protected.result c.from_residual-in_err-protected.ensures.1 in
    rw (p.1, p.2) (protect_cause c.args.options.now c.args.points c.args.complex.now c.args.segments.now (facets c.args.meshed.now) c.requires.flat c.requires.meshed c.in_err-protected.field-0.0
    (subst (λ pieces. IsProtectFault c.args.options.now.halvings c.args.options.now.budget c.args.points pieces c.in_err-protected.field-0.0) c.in_ok-pieces.ensures.list c.in_err-protected.ensures))

pub returns : goal.returns
returns c = (
  protected_by c.args.options.now c.args.points c.args.complex.now c.args.segments.now (facets c.args.meshed.now) c.in_ok-pieces.pieces c.in_ok-protected.protected.points c.in_ok-protected.protected.pieces c.requires.flat c.requires.meshed c.in_ok-pieces.ensures.list c.in_ok-protected.ensures.0 c.in_ok-protected.ensures.1,
  c.in_ok-protected.ensures.2,
)
