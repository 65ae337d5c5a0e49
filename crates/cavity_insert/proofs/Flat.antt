-- A row of the Delaunay list is on the points, and tells that they do not all lie in one plane.
use Rattle.std.proofs.Common.{◌≡◌, ℤ, pos, ◌<ℤ◌, List, arith}
use Rattle.std.specs.Prelude.{All}
use Rattle.std.specs.List.{slice_index_or}
use Rattle.std.proofs.lemmas.Int.{ints}
use Rattle.std.proofs.lemmas.List.Elements.{Contains-get_or}
use Rattle.sign_predicates.specs.Point.{Point}
use Rattle.sign_predicates.specs.Orientation.{volume, IsPositive}
use Rattle.geo_laws.specs.Delaunay.{corners, all_numbers, IsOn, IsDelaunayList, AreCoplanar}
use Rattle.geo_laws.specs.declared.tetrahedra.Tet.{Tet}
use Rattle.geo_laws.proofs.Corners.{on_of_among, on_corner, all_within}
use Rattle.sign_predicates.proofs.Places.{A, B, C, D}

-- the numbers of each row are those of points
pub rows_on_points : (ps : List Point) (rows : List Tet) → IsDelaunayList ps rows → All (IsOn ps) rows
rows_on_points ps rows are = λ k d h. on_of_among ps (all_numbers ps) (slice_index_or rows k d) (all_within ps) (((are.exactly (slice_index_or rows k d)).0 (Contains-get_or rows k d h)).is_on)

clash : (v : ℤ) → v ≡ pos 0 → pos 0 <ℤ v → ⊥
clash v e h = omega (arith, ints)

-- a positive row tells that the points do not lie in one plane
pub not_coplanar_of : (ps : List Point) (t : Tet) → IsOn ps t → IsPositive (corners ps t) → AreCoplanar ps → ⊥
not_coplanar_of ps t is_on positive flat =
    let on = on_corner ps t is_on in
    clash (volume (corners ps t)) (flat t.a t.b t.c t.d (on A) (on B) (on C) (on D)) positive
