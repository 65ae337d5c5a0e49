use Rattle.std.proofs.Common.{List, sym, subst}
use Rattle.std.specs.Prelude.{AllPairs}
use Rattle.sign_predicates.specs.Point.{Point}
use Rattle.geo_laws.specs.Delaunay.{RowBefore}
use Rattle.geo_laws.specs.declared.tetrahedra.Tet.{Tet}
use Rattle.path_laws.specs.Places.{IsKeptPart}
use Rattle.path_laws.specs.Flood.{carving_of}
use Rattle.hole_carve.specs.Flooding.{LeadsWithin}
use Rattle.hole_carve.specs.Kept.{unmarked}
use Rattle.hole_carve.specs.Ways.{ways_of}
use Rattle.hole_carve.proofs.Reached.{leads_within}
use Rattle.hole_carve.proofs.Walls.{walled_setting, of_walled}
use Rattle.hole_carve.proofs.Carved.{carved_as, if_ok_is}
use Rattle.hole_carve.proofs.KeptRows.{unmarked_ascends}
use Rattle.hole_carve.proofs.carving.carve.Goals as goal

pub flooded-requires-clause-within : goal.flooded-requires-clause-within
flooded-requires-clause-within c = subst LeadsWithin (sym c.ways-ways.ensures.same) (leads_within _ _ _ _ _ (walled_setting _ _ _ c.in_ok-mesh.mesh c.requires.filling c.in_ok-mesh.ensures.walled))

pub returns-clause-kept : goal.returns-clause-kept
returns-clause-kept c =
    let mesh = c.in_ok-mesh.mesh in
    let ts = c.args.triangles.now in
    let holes = c.args.holes.now in
    let marks = c.deref-2.result.now in
    let w = c.in_ok-mesh.ensures.walled in
    if_ok_is (IsKeptPart (carving_of c.args.keep_hull) c.args.points.now ts c.args.list.now holes) (unmarked c.args.list.now marks)
    (of_walled (λ (ps : List Point) (rows : List Tet). IsKeptPart (carving_of c.args.keep_hull) ps ts rows holes (unmarked rows marks)) c.args.points.now ts c.args.list.now mesh w
    (carved_as c.args.keep_hull mesh.points.now ts mesh.list.now holes mesh.closed (ways_of mesh.closed mesh.list.now) c.ways-ways.result c.in_ok-seeds.seeds.items c.deref.result.now c.in_ok-marks.marks.items marks
    c.ways-ways.ensures.same c.deref.ensures.value c.deref-2.ensures.value (walled_setting c.args.points.now ts c.args.list.now mesh c.requires.filling w) c.requires.holes c.in_ok-marks.ensures.long c.in_ok-seeds.ensures.marked c.in_ok-marks.ensures.exactly))
    c.rows_unmarked.result c.rows_unmarked.ensures

pub returns-clause-ascending : goal.returns-clause-ascending
returns-clause-ascending c h = if_ok_is (AllPairs RowBefore) (unmarked c.args.list.now c.deref-2.result.now) (unmarked_ascends c.args.list.now c.deref-2.result.now h) c.rows_unmarked.result c.rows_unmarked.ensures
