use Rattle.std.proofs.Common.{◌≡◌, length, Result, Ok, Err, sym, subst}
use Rattle.std.specs.Prelude.{All, IfOk}
use Rattle.complex_mesh.proofs.Protected.{corners_on_points, segments_two_ends}
use Rattle.geo_laws.specs.Complex.{corner_lists}
use Rattle.geo_laws.specs.Segment.{segments}
use Rattle.merged_facets.specs.Merged.{merged_segments}
use Rattle.merged_facets.specs.Merging.{is_inner}
use Rattle.recovery_laws.proofs.MergedMesh.{law_merged_ends}
use Rattle.segment_protect.specs.Spots.{HasTwoEnds}
use Rattle.refining.proofs.conforming.meshed_segments.Goals as goal

-- an answer that is a value has what the value has
ok_is : {T E : Type 0} (r : Result T E) (t : T) (P : T → Type 0) → IfOk r (λ found. found ≡ t) → P t → IfOk r P
ok_is (Ok found) t P e p = subst P (sym e) p
ok_is (Err fault) t P e p = e

pub returns-then-keep_facets : goal.returns-then-keep_facets
returns-then-keep_facets c =
    let ps = c.args.points.now in
    let complex = c.args.complex.now in
    ok_is c.segments.result (segments (corner_lists complex.polygons)) (All (HasTwoEnds (length ps))) c.segments.ensures (segments_two_ends ps complex c.requires.corners)

pub returns : goal.returns
returns c =
    let ps = c.args.points.now in
    let complex = c.args.complex.now in
    let inner = is_inner c.in_ok-merging.merging in
    ok_is c.merged_segments.result (merged_segments inner complex) (All (HasTwoEnds (length ps))) c.merged_segments.ensures
    (law_merged_ends ps complex inner (corners_on_points ps complex c.requires.corners))
