-- A mesh with walls: where its floods go.
use Rattle.std.proofs.Common.{List, sym, subst}
use Rattle.sign_predicates.specs.Point.{Point}
use Rattle.geo_laws.specs.declared.complex.FacetTriangle.{FacetTriangle}
use Rattle.geo_laws.specs.declared.tetrahedra.Tet.{Tet}
use Rattle.path_laws.specs.Places.{IsFilling}
use Rattle.hole_carve.specs.declared.walled.Walled.{Walled}
use Rattle.hole_carve.specs.Walled.{IsWalledBy}
use Rattle.hole_carve.specs.Ways.{ways_of}
use Rattle.hole_carve.proofs.FacetFaces.{closes_are}
use Rattle.hole_carve.proofs.Steps.{are_ways}
use Rattle.hole_carve.proofs.Reached.{Setting}

pub walled_setting : (ps : List Point) (ts : List FacetTriangle) (rows : List Tet) (mesh : Walled) → IsFilling ps ts rows → IsWalledBy ps ts rows mesh
    → Setting mesh.points.now ts mesh.list.now mesh.closed (ways_of mesh.closed mesh.list.now)
walled_setting ps ts rows mesh filling w = record {
  filling = subst (IsFilling mesh.points.now ts) (sym w.rows_are) (subst (λ (qs : List Point). IsFilling qs ts rows) (sym w.points_are) filling);
  closes = closes_are ts mesh.closed w.closes;
  are = are_ways mesh.closed mesh.list.now;
}

-- what holds of its points and rows holds of those that it was made of
pub of_walled : (P : List Point → List Tet → Type 0) (ps : List Point) (ts : List FacetTriangle) (rows : List Tet) (mesh : Walled) → IsWalledBy ps ts rows mesh → P mesh.points.now mesh.list.now → P ps rows
of_walled P ps ts rows mesh w p = subst (P ps) w.rows_are (subst (λ (qs : List Point). P qs mesh.list.now) w.points_are p)
