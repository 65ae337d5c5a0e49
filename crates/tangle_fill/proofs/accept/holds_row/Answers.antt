use Rattle.std.proofs.Common.{List, subst}
use Rattle.std.specs.Prelude.{Contains}
use Rattle.std.specs.List.{slice_index_or}
use Rattle.geo_laws.specs.declared.tetrahedra.Tet.{Tet}
use Rattle.tangle_fill.proofs.Candidates.{equal_rows}
use Rattle.tangle_fill.proofs.accept.holds_row.Goals as goal

pub returns-in-Ok : goal.returns-in-Ok
returns-in-Ok c h =
    let row = c.args.row in
    let i = c.in-Ok.field-0 in
    subst (λ (xs : List Tet). Contains xs row) c.as_slice.ensures (i, c.in-Ok.ensures.bound, equal_rows (slice_index_or c.as_slice.result.now i row) row (c.in-Ok.ensures.ok row))
