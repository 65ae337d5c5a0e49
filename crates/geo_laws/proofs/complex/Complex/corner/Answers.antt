use Rattle.std.proofs.Common.{length, ap, arith, []}
use Rattle.geo_laws.specs.Complex.{Polygon}
use Rattle.geo_laws.proofs.complex.Complex.corner.Goals as goal

pub bounds-corners-i : goal.bounds-corners-i
bounds-corners-i c =
    let none : Polygon = record { corners = []; line = 0 } in
    omega (arith, c.requires.place none, ap length (c.corners.ensures none))

pub offset_bounds-corners-i : goal.offset_bounds-corners-i
offset_bounds-corners-i c =
    let none : Polygon = record { corners = []; line = 0 } in
    omega (arith, c.corners.type_inv.1, c.requires.place none, ap length (c.corners.ensures none))
