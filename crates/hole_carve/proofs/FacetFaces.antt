-- The faces that are facet triangles.
use Rattle.std.proofs.Common.{◌≡◌, List, map, subst, sym}
use Rattle.std.specs.Prelude.{Contains, ◌↔◌}
use Rattle.geo_laws.specs.declared.faces.Face.{Face}
use Rattle.geo_laws.specs.declared.complex.FacetTriangle.{FacetTriangle}
use Rattle.geo_laws.proofs.Members.{IsMember, contains_of, member_of, in_map, map_cases}
use Rattle.incidence.specs.Chains.{face_of_triangle}
use Rattle.path_laws.specs.Flood.{IsFacetFace}

-- the triangles as faces
pub closes_are : (ts : List FacetTriangle) (faces : List Face) → faces ≡ map face_of_triangle ts → (f : Face) → Contains faces f ↔ IsFacetFace ts f
closes_are ts faces all f = (to, from)
  where
    to : Contains faces f → IsFacetFace ts f
    to c = let t = map_cases face_of_triangle f ts (subst (IsMember f) all (member_of faces f c)) in let k = contains_of ts t.0 t.1 in (k.0, t.0, k.1, k.2, sym t.2)

    from : IsFacetFace ts f → Contains faces f
    from (i, t, below, place, d) = contains_of faces f (subst (IsMember f) (sym all) (subst (λ g. IsMember g (map face_of_triangle ts)) d (in_map face_of_triangle t ts (member_of ts t (i, below, place)))))
