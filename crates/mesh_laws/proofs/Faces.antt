-- The faces of a four and of the hull.
use Rattle.std.proofs.Common.{ℕ, List}
use Rattle.sign_predicates.specs.Point.{Point}
use Rattle.geo_laws.specs.OrientedFace.{Face}
use Rattle.insert_laws.specs.Insertion.{IsHullFace}
use Rattle.mesh_laws.proofs.LowestFaces.{face_apart}
pub use Rattle.mesh_laws.proofs.LowestFaces.{AreApart, place_of, off_corner, corner_off, corner_split, apart_off, row_beside, row_off}

-- the corners of a hull face differ
pub hull_apart : (ps : List Point) (ms : List ℕ) (f : Face) → IsHullFace ps ms f → AreApart f
hull_apart ps ms f h = face_apart ps f h.behind h.is_face
