use Rattle.std.proofs.Common.{sym, subst}
use Rattle.std.specs.Prelude.{Contains}
use Rattle.std.proofs.lemmas.List.Elements.{Contains-append_right}
use Rattle.geo_laws.specs.Delaunay.{numbers}
use Rattle.mesh_arena.specs.Mesh.{corner_list}
use Rattle.cavity_insert.proofs.LostSides.{told_row}
use Rattle.cavity_insert.proofs.lost.tell_corners.Goals as goal

pub returns-in_ok-extend_from_slice-clause-told : goal.returns-in_ok-extend_from_slice-clause-told
returns-in_ok-extend_from_slice-clause-told c =
    let row = c.in-Row.row in
    told_row c.args.arena.now.slots c.args.s.index (corner_list c.tet.result) row c.extend_from_slice.new.self.items c.tet.ensures.corners c.in-Row.ensures
    (λ i h. subst (λ xs. Contains xs i) (sym c.in_ok-extend_from_slice.ensures.items) (Contains-append_right c.args.lost.now.items (numbers row) i h))
