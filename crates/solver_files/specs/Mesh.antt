-- A mesh as one file has it whole, and the parts of its text that all formats share.
use Rattle.std.specs.Prelude.{◌≡◌, ℕ, zero, suc, ◌<◌, ◌^◌, ℤ, pos, negsuc, nat_le, if◌then◌else◌, Option, Some, None, IfSome, List, [], ◌∷◌, ◌++◌, length, All, codes, is_some, slice_index_or}
use Rattle.std.specs.Option.{option_copied}
use Rattle.sign_predicates.specs.Point.{Point}
use Rattle.tet_text.specs.Decimals.{decimal_of}
use Rattle.tet_text.specs.Numbers.{count_of}
use Rattle.grid_coords.specs.declared.origin.WholePoint.{WholePoint}
use Rattle.geo_laws.specs.Delaunay.{numbers}
use Rattle.geo_laws.specs.declared.complex.Region.{Region}
use Rattle.geo_laws.specs.declared.tetrahedra.Tet.{Tet}
use Rattle.node_files.specs.Writing.{fields_from, IsNearGrid, IsNodeTable}
use Rattle.node_files.specs.declared.table.NodeTable.{NodeTable}
use Rattle.mesh_files.specs.Texts.{attribute_of, marked_corners, AreNamed}
use Rattle.mesh_files.specs.declared.markers.FaceRow.{FaceRow}
use Rattle.solver_files.specs.declared.mesh.WholeMesh.{WholeMesh}

-- listed and added points, tetrahedra with marks that name regions, faces with markers, and for each corner its name, which is its place
-- among all points
pub record Mesh : Type 0 where
  pub origin : Option WholePoint
  pub table : NodeTable
  pub added : List Point
  pub rows : List Tet
  pub marks : Option (List (Option ℕ))
  pub regions : List Region
  pub faces : List FaceRow
  pub names : List ℕ

abbrev pub mesh_of : WholeMesh → Mesh
mesh_of m = record {
  origin = m.origin;
  table = m.table.now;
  added = m.added.now;
  rows = m.list.now;
  marks = option_copied m.marks;
  regions = m.complex.now.regions;
  faces = m.faces.now;
  names = m.names.now;
}

-- A mesh that can be written: its points can, each corner has a name, and its marks, where it has some, are one for each tetrahedron, of
-- its regions
pub record IsWritten (m : Mesh) : Type 0 where
  pub table : IsNodeTable m.table
  pub near : IsNearGrid m.origin m.table.grid
  pub few : length m.table.listed < 2 ^ 32
  pub few_added : length m.added < 2 ^ 32
  pub named : All (λ t. AreNamed m.names (numbers t)) m.rows
  pub faces_named : All (λ f. AreNamed m.names (marked_corners f)) m.faces
  pub long : IfSome m.marks (λ marks. length marks ≡ length m.rows)
  pub regions : IfSome m.marks (λ marks. All (λ mark. IfSome mark (λ r. r < length m.regions)) marks)

-- ---- points

-- all points, in the order of the `.node` file
abbrev pub points_of : Mesh → List Point
points_of m = m.table.listed ++ m.added

-- fields with a space, 32, between two of them
abbrev pub spaced : List (List ℕ) → List ℕ
spaced [] = []
spaced (field ∷ []) = field
spaced (field ∷ next ∷ fields) = field ++ (32 ∷ spaced (next ∷ fields))

-- the coordinates of a point as the `.node` file has them
abbrev pub place_text : Mesh → Point → List ℕ
place_text m p = spaced (fields_from m.origin m.table.grid p)

-- ---- attributes and markers

-- the mark of the tetrahedron at a place, and none where there are no marks
abbrev pub mark_at : Option (List (Option ℕ)) → ℕ → Option ℕ
mark_at None place = None
mark_at (Some marks) place = slice_index_or marks place None

-- the attribute of the tetrahedron at a place as the `.ele` file has it, and 0 where that has none
abbrev pub attribute_at : Mesh → ℕ → List ℕ
attribute_at m place = attribute_of m.regions (mark_at m.marks place)

-- an attribute as it is written where it is a decimal, and else 0
abbrev pub scalar_of : List ℕ → List ℕ
scalar_of attribute = if is_some (decimal_of attribute) then attribute else codes "0"

-- a number as the tag of a group, which is at most 2^31 - 1, and 0 where it is greater; 0 is the tag of no group
abbrev pub tag_of : ℕ → ℕ
tag_of n = if nat_le n 2147483647 then n else 0

-- the tag that an attribute writes in digits alone
abbrev pub tag_of_count : Option ℕ → ℕ
tag_of_count None = 0
tag_of_count (Some n) = tag_of n

abbrev pub tag_of_text : List ℕ → ℕ
tag_of_text attribute = tag_of_count (count_of attribute)

-- the tag of the tetrahedron at a place, by its attribute, and 1 where no tetrahedron has an attribute
abbrev pub tag_if : Option (List (Option ℕ)) → ℕ → ℕ
tag_if None tag = 1
tag_if (Some marks) tag = tag

abbrev pub tet_tag : Mesh → ℕ → ℕ
tet_tag m place = tag_if m.marks (tag_of_text (attribute_at m place))

-- the tag of a marker, and 0 where it is below zero
abbrev pub marker_tag : ℤ → ℕ
marker_tag (pos n) = tag_of n
marker_tag (negsuc n) = 0

-- ---- repeated texts

-- a text n times
abbrev pub copies : ℕ → List ℕ → List ℕ
copies zero text = []
copies (suc n) text = text ++ copies n text
