use Rattle.std.proofs.Common.{◌≡◌, ℕ, List, Option, Some, None, subst, sym, ap, ◌∙◌, arith, length}
use Rattle.std.specs.Option.{option_copied}
use Rattle.incidence.specs.declared.pairs.Across.{Across}
use Rattle.mesh_check.specs.Among.{IsFirstOfKinds}
use Rattle.mesh_check.specs.Defects.{ReadMesh, IsWrongNeighbor, neighbors_or}
use Rattle.mesh_check.specs.Searches.{IsLeastPair}
use Rattle.mesh_check.specs.declared.defect.Defect.TheVariants.{NeighborCount, WrongNeighbor}
use Rattle.mesh_check.proofs.DefectKinds.{none_2, none_3, first_2, first_3, among_some, among_none, one_kind, two_kinds}
use Rattle.mesh_check.proofs.Listed.{own_neighbors}
use Rattle.mesh_check.proofs.Rows.{pairs_long}
use Rattle.mesh_check.proofs.check.neighbors_defect.Goals as goal

pub returns-in_err-neighbors : goal.returns-in_err-neighbors
returns-in_err-neighbors c = λ points faces.
    let rows = c.args.list.now in
    let m : ReadMesh = record { points = points; rows = rows; faces = faces; neighbors = neighbors_or rows None } in
    rw (c.from_residual.ensures, c.in_err-neighbors.was) (among_none m 2 4 (two_kinds m 2 (none_2 m (pairs_long rows)) (none_3 m (own_neighbors rows))))
