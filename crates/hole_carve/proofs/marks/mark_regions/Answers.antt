use Rattle.std.proofs.Common.{List, sym, subst}
use Rattle.sign_predicates.specs.Point.{Point}
use Rattle.geo_laws.specs.declared.tetrahedra.Tet.{Tet}
use Rattle.hole_carve.specs.Flooding.{LeadsWithin}
use Rattle.hole_carve.specs.Marks.{AreRegionMarks}
use Rattle.hole_carve.specs.Ways.{ways_of}
use Rattle.hole_carve.proofs.Reached.{leads_within}
use Rattle.hole_carve.proofs.Walls.{walled_setting, of_walled}
use Rattle.hole_carve.proofs.Marked.{numbered_joined_as}
use Rattle.hole_carve.proofs.marks.mark_regions.Goals as goal

pub numbers_of-requires-clause-within : goal.numbers_of-requires-clause-within
numbers_of-requires-clause-within c = subst LeadsWithin (sym c.ways-ways.ensures.same) (leads_within _ _ _ _ _ (walled_setting _ _ _ c.in_ok-mesh.mesh c.requires.filling c.in_ok-mesh.ensures.walled))

pub returns : goal.returns
returns c =
    let mesh = c.in_ok-mesh.mesh in
    let ts = c.args.triangles.now in
    let regions = c.args.complex.now.regions in
    let w = c.in_ok-mesh.ensures.walled in
    of_walled (λ (ps : List Point) (rows : List Tet). AreRegionMarks ps ts rows regions c.from.result) c.args.points.now ts c.args.list.now mesh w
    (numbered_joined_as mesh.points.now ts mesh.list.now mesh.closed (ways_of mesh.closed mesh.list.now) c.ways-ways.result regions c.in_ok-marks.marks.items c.from.result
    c.ways-ways.ensures.same c.from.ensures (walled_setting c.args.points.now ts c.args.list.now mesh c.requires.filling w) c.requires.regions c.in_ok-marks.ensures.long c.in_ok-marks.ensures.numbered)
