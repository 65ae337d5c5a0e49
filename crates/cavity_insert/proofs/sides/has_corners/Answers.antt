use Rattle.std.proofs.Common.{sym, ◌∙◌}
use Rattle.mesh_arena.specs.Mesh.{corner_list}
use Rattle.cavity_insert.proofs.SlotSides.{corner_found, both_in_row}
use Rattle.cavity_insert.proofs.sides.has_corners.Goals as goal

pub returns-then-has_corner : goal.returns-then-has_corner
returns-then-has_corner c = (
  λ h. record {
    four = c.in-Row.row;
    is = c.in-Row.ensures;
    first = corner_found c.in-Row.row c.args.a (sym c.has_corner.ensures ∙ c.if-has_corner.true);
    second = corner_found c.in-Row.row c.args.b (sym c.has_corner-then-has_corner.ensures ∙ h);
  },
  λ both. c.has_corner-then-has_corner.ensures ∙ (both_in_row (corner_list c.args.t) c.in-Row.row c.args.a c.args.b c.in-Row.ensures both).1,
)
