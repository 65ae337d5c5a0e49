-- Rows and faces whose points are told by their places in another list.
use Rattle.std.specs.Prelude.{◌≡◌, ℕ, ◌<◌, List, length, map, All, AllPairs, slice_index}
use Rattle.sign_predicates.specs.Point.{Point}
use Rattle.geo_laws.specs.Delaunay.{point, IsOn}
use Rattle.geo_laws.specs.declared.tetrahedra.Tet.{Tet}
use Rattle.incidence.specs.declared.pairs.Across.{Across}
use Rattle.mesh_files.specs.declared.markers.FaceRow.{FaceRow}
use Rattle.mesh_check.specs.Defects.{IsVerdict}
use Rattle.mesh_check.specs.declared.defect.Verdict.TheVariants.{Sound}

-- each corner by its new number
abbrev pub renamed_row : (ℕ → ℕ) → Tet → Tet
renamed_row r t = record { a = r t.a; b = r t.b; c = r t.c; d = r t.d }

abbrev pub renamed_face : (ℕ → ℕ) → FaceRow → FaceRow
renamed_face r f = record { a = r f.a; b = r f.b; c = r f.c; marker = f.marker }

-- the names are rising places in a second list of points, one for each point of the first, where the same point stands
pub record AreNamesIn (names : List ℕ) (ps qs : List Point) : Type 0 where
  pub long : length names ≡ length ps
  pub rising : AllPairs (λ i j. i < j) names
  pub same : (i : ℕ) → i < length ps → point qs (slice_index names i) ≡ point ps i

-- A mesh without a defect has none by such names
abbrev pub RenamedLaw : Type 0
RenamedLaw = (names : List ℕ) (ps qs : List Point) → AreNamesIn names ps qs
    → (rows : List Tet) (faces : List FaceRow) (neighbors : List Across) → All (IsOn ps) rows
    → IsVerdict (record { points = ps; rows = rows; faces = faces; neighbors = neighbors }) Sound
    → IsVerdict (record {
      points = qs;
      rows = map (renamed_row (slice_index names)) rows;
      faces = map
          (renamed_face (slice_index names)) faces;
      neighbors = neighbors;
    }) Sound
