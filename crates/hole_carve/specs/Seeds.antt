-- The seeds of a flood fill from a point.
use Rattle.std.specs.Prelude.{◌≡◌, ◌⊎◌, ℕ, ◌<◌, pos, Bool, false, List, length, slice_index_or, All, Contains, IfSome}
use Rattle.sign_predicates.specs.Point.{Point, RationalPoint, origin, as_rational}
use Rattle.sign_predicates.specs.Orientation.{InClosed, IsPositive, side_rational, opposite_face}
use Rattle.geo_laws.specs.Delaunay.{corners, row_at, IsOn}
use Rattle.geo_laws.specs.declared.faces.Face.{Face}
use Rattle.geo_laws.specs.declared.tetrahedra.Tet.{Tet}
use Rattle.box_tree.specs.Bodies.{IsRowTree}
use Rattle.hole_carve.specs.declared.walled.Walled.{Walled}
use Rattle.hole_carve.specs.Ways.{face_opposite}

-- the list has positive tetrahedra on the points
abbrev pub ArePositiveIn : List Point → List Tet → Type 0
ArePositiveIn ps rows = All (IsOn ps) rows × All (λ t. IsPositive (corners ps t)) rows

-- the list has positive tetrahedra on the points, and the tree, where there is one, is their AABB tree
abbrev pub IsSearchable : Walled → Type 0
IsSearchable mesh = ArePositiveIn mesh.points.now mesh.list.now × IfSome mesh.tree (IsRowTree mesh.points.now mesh.list.now)

-- the closed tetrahedron holds the point, on the plane of a face that is a subface
abbrev pub HoldsOn : List Point → List Face → Tet → RationalPoint → Type 0
HoldsOn ps closed t x = InClosed (corners ps t) x
    × ((k : ℕ) × (k < 4) × (side_rational (opposite_face (corners ps t) k) x ≡ pos 0) × Contains closed (face_opposite t k))

-- the closed tetrahedron at a place holds the point
abbrev pub RowHolds : List Point → List Tet → RationalPoint → ℕ → Type 0
RowHolds ps rows x i = (i < length rows) × InClosed (corners ps (row_at rows i)) x

abbrev pub HoldsOnSome : List Point → List Face → List Tet → RationalPoint → Type 0
HoldsOnSome ps closed rows x = (i : ℕ) × (i < length rows) × HoldsOn ps closed (row_at rows i) x

-- the closed tetrahedron holds the point, or, past the last one, none does; and none holds it on a subface
pub record IsSeedAt (ps : List Point) (closed : List Face) (rows : List Tet) (x : RationalPoint) (i : ℕ) : Type 0 where
  pub off : ¬ HoldsOnSome ps closed rows x
  pub holds : RowHolds ps rows x i ⊎ (i ≡ length rows) × ((j : ℕ) → ¬ RowHolds ps rows x j)

-- the place is a seed of the flood fill that carves, by the first hole points: it holds a hole point, or is the outside
-- of a hull that isn't kept
abbrev pub BeginsAt : Bool → List Point → List Face → List Tet → List RationalPoint → ℕ → ℕ → Type 0
BeginsAt keep_hull ps closed rows holes count i =
    (keep_hull ≡ false) × (i ≡ length rows)
    ⊎ (k : ℕ) × (k < count) × IsSeedAt ps closed rows (slice_index_or holes k (as_rational origin)) i
