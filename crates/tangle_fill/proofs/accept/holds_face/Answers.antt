use Rattle.std.proofs.Common.{List, subst}
use Rattle.std.specs.Prelude.{Contains}
use Rattle.std.specs.List.{slice_index_or}
use Rattle.geo_laws.specs.declared.faces.Face.{Face}
use Rattle.tangle_fill.proofs.Candidates.{equal_faces}
use Rattle.tangle_fill.proofs.accept.holds_face.Goals as goal

pub returns-in-Ok : goal.returns-in-Ok
returns-in-Ok c h =
    let face = c.args.face in
    let i = c.in-Ok.field-0 in
    subst (λ (xs : List Face). Contains xs face) c.as_slice.ensures (i, c.in-Ok.ensures.bound, equal_faces (slice_index_or c.as_slice.result.now i face) face (c.in-Ok.ensures.ok face))
