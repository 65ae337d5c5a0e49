use Rattle.std.proofs.Common.{refl, ap, sym, ◌∙◌}
use Rattle.std.specs.Prelude.{Some}
use Rattle.mesh_arena.specs.Mesh.{corners_at}
use Rattle.point_locate.specs.Place.{row_corners}
use Rattle.cavity_insert.proofs.SlotSides.{side_of_slot}
use Rattle.segment_protect.proofs.first_look.see_slot.Goals as goal

pub see_row-requires-clause-row : goal.see_row-requires-clause-row
see_row-requires-clause-row c = λ a b apart first second.
    let slots = c.args.living.now.slots in
    let s = c.in-Some.s.index in
    let row = c.in-Row.row in
    let at = ap (λ x. corners_at x s) (sym c.arena-arena.ensures.slots) ∙ c.tet.ensures.corners ∙ ap Some c.in-Row.ensures in
    side_of_slot slots c.args.living.now.points c.arena-arena.ensures.mesh a b s apart
    (record { corners = row_corners row; is = at; here = record { four = row; is = refl; first = first; second = second } })
