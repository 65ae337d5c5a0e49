use Rattle.std.proofs.Common.{sym, subst}
use Rattle.std.proofs.lemmas.Result.{err_from_is_err_and}
use Rattle.refill_laws.specs.Protected.{IsProtected}
use Rattle.complex_mesh.proofs.Causes.{recover_cause}
use Rattle.complex_mesh.proofs.Recovered.{list_is, some_rows, recovered_is}
use Rattle.complex_mesh.proofs.recovering.recovered.Goals as goal

pub refill-requires-clause-delaunay : goal.refill-requires-clause-delaunay
refill-requires-clause-delaunay c = list_is c.args.points.now c.args.list.now c.requires.list

pub refill-requires-clause-some : goal.refill-requires-clause-some
refill-requires-clause-some c = some_rows c.args.points.now c.args.list.now c.requires.list c.requires.solid

pub refill-requires-clause-complex : goal.refill-requires-clause-complex
refill-requires-clause-complex c = subst (IsProtected c.args.points.now c.args.triangles.now) (sym c.requires.list) c.requires.complex

pub returns-in_err-whole : goal.returns-in_err-whole
returns-in_err-whole c =
    let p = err_from_is_err_and c.from_residual.result c.from_residual.ensures.1 in
    rw (p.1, p.2) (recover_cause c.args.points.now c.args.triangles.now c.args.list.now c.requires.list _ c.in_err-whole.ensures.cause)

pub returns : goal.returns
returns c =
    recovered_is c.args.points.now c.args.triangles.now c.args.list.now c.in_ok-whole.whole c.requires.list
    (subst (IsProtected c.args.points.now c.args.triangles.now) (sym c.requires.list) c.requires.complex) c.in_ok-whole.ensures.refilled c.in_ok-whole.ensures.by_sides
