use Rattle.std.proofs.Common.{subst, sym, ◌∙◌, ◌<◌, arith, length}
use Rattle.geo_laws.specs.Delaunay.{has_corner}
use Rattle.geo_laws.proofs.Members.{IsMember, any_true, at_place}
use Rattle.geo_laws.specs.declared.tetrahedra.Tet.{Tet}
use Rattle.refining.proofs.corners.has_corner_at.Goals as goal

pub returns-then-place-len : goal.returns-then-place-len
returns-then-place-len c =
    let rows = c.args.rows.now in
    let within : c.args.place < length rows = omega (arith, c.if-place-len.true, c.len.ensures.count) in
    let here = subst (λ (t : Tet). IsMember t rows) (c.at.ensures c.at.result) (at_place rows c.args.place c.at.result within) in
    λ yes. any_true (λ t. has_corner t c.args.i) rows c.at.result here (sym c.has_corner.ensures ∙ yes)
