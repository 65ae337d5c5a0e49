-- What is written of a mesh whose corners have names names points that have one.
use Rattle.std.proofs.Common.{◌<◌, ℕ, Bool, List, length, get_or}
use Rattle.std.specs.Prelude.{All, Contains}
use Rattle.std.proofs.lemmas.List.{get_or_default}
use Rattle.sign_predicates.specs.Point.{Point}
use Rattle.geo_laws.specs.Complex.{Complex}
use Rattle.geo_laws.specs.Delaunay.{numbers}
use Rattle.geo_laws.specs.Faces.{side_numbers, AreSidesOf}
use Rattle.geo_laws.specs.declared.complex.FacetTriangle.{FacetTriangle}
use Rattle.geo_laws.specs.declared.faces.Side.{Side}
use Rattle.geo_laws.specs.declared.tetrahedra.Tet.{Tet}
use Rattle.mesh_files.specs.FaceRows.{AreFaceRowsOf}
use Rattle.mesh_files.specs.Texts.{marked_corners, AreNamed}
use Rattle.mesh_files.specs.declared.markers.FaceRow.{FaceRow}
use Rattle.mesh_files.proofs.Named.{face_named, side_named, row_named}

-- each item is in the list
in_list : {X : Type 0} (xs : List X) (k : ℕ) (d : X) → k < length xs → Contains xs (get_or xs k d)
in_list xs k d l = (k, l, get_or_default xs k (get_or xs k d) d l)

pub faces_named : (names : List ℕ) (ps : List Point) (rows : List Tet) (complex : Complex) (ts : List FacetTriangle) (all : Bool) (found : List FaceRow) → All (λ t. AreNamed names (numbers t)) rows
    → AreFaceRowsOf ps rows complex ts all found → All (λ f. AreNamed names (marked_corners f)) found
faces_named names ps rows complex ts all found h a = λ k d l.
    let r = get_or found k d in
    let is = (a.exactly r).0 (in_list found k d l) in
    row_named names is.0 r is.2.corners_are (face_named names rows h is.0 is.1)

pub sides_named : (names : List ℕ) (rows : List Tet) (sides : List Side) → All (λ t. AreNamed names (numbers t)) rows → AreSidesOf rows sides → All (λ s. AreNamed names (side_numbers s)) sides
sides_named names rows sides h a = λ k d l. side_named names rows h (get_or sides k d) ((a.exactly (get_or sides k d)).0 (in_list sides k d l))
