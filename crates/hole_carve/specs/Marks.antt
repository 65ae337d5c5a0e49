-- The marks of tetrahedra: the first region point that a free path joins with a tetrahedron.
use Rattle.std.specs.Prelude.{◌≡◌, ◌≢◌, ◌↔◌, ℕ, ◌<◌, ◌≤◌, pos, ◌<ℤ◌, Bool, true, Option, Some, None, List, [], length, slice_index_or, All}
use Rattle.sign_predicates.specs.Point.{Point, RationalPoint, origin, as_rational, SomeRational}
use Rattle.sign_predicates.specs.Orientation.{StrictlyInside}
use Rattle.geo_laws.specs.Delaunay.{corners, row_at}
use Rattle.geo_laws.specs.Path.{Carving, IsJoined}
use Rattle.geo_laws.specs.declared.faces.Face.{Face}
use Rattle.geo_laws.specs.declared.tetrahedra.Tet.{Tet}
use Rattle.geo_laws.specs.declared.complex.FacetTriangle.{FacetTriangle}
use Rattle.geo_laws.specs.declared.complex.Region.{Region}
use Rattle.path_laws.specs.Places.{IsFilling, IsKeptPart}
use Rattle.incidence.specs.declared.pairs.Across.{Across}
use Rattle.hole_carve.specs.Flooding.{queue_at, IsFloodedFrom}
use Rattle.hole_carve.specs.Seeds.{IsSeedAt}
use Rattle.geo_laws.specs.Marks.{is_marked}

abbrev pub mark_at : List (Option ℕ) → ℕ → Option ℕ
mark_at marks i = slice_index_or marks i None

-- the point of the region at a place
abbrev pub region_point : List Region → ℕ → RationalPoint
region_point regions k = (slice_index_or regions k (record { at = as_rational origin; attribute = [] })).at

-- a free path leads from some point strictly inside the tetrahedron to a region point
abbrev pub IsInRegion : List Point → List FacetTriangle → List Tet → RationalPoint → Tet → Type 0
IsInRegion ps ts rows r t = SomeRational (λ x. StrictlyInside (corners ps t) x × IsJoined ps ts rows (Unit {0}) x r)

-- the first of the numbers below a count that has a property, or none
abbrev pub IsFirstOf : (ℕ → Type 0) → ℕ → Option ℕ → Type 0
IsFirstOf P count None = (j : ℕ) → j < count → ¬ P j
IsFirstOf P count (Some k) = (k < count) × P k × ((j : ℕ) → j < k → ¬ P j)

-- each tetrahedron has the number of the first region point that a free path joins with it, or none
pub record AreRegionMarks (ps : List Point) (ts : List FacetTriangle) (rows : List Tet) (regions : List Region)
    (marks : List (Option ℕ)) : Type 0 where
  pub long : length marks ≡ length rows
  pub each : (i : ℕ) → i < length rows
      → IsFirstOf (λ k. IsInRegion ps ts rows (region_point regions k) (row_at rows i)) (length regions) (mark_at marks i)

-- each tetrahedron of the part has the mark that it has in the whole list
pub record AreKeptMarks (whole : List Tet) (marks : List (Option ℕ)) (part : List Tet) (kept : List (Option ℕ)) : Type 0 where
  pub long : length kept ≡ length part
  pub each : (i j : ℕ) → i < length part → j < length whole → row_at whole j ≡ row_at part i → mark_at kept i ≡ mark_at marks j

-- the marks that the tetrahedra of the kept part have in the whole list are those that they have in the part alone
abbrev pub KeptMarksLaw : Type 0
KeptMarksLaw = (carving : Carving) (ps : List Point) (ts : List FacetTriangle) (whole : List Tet) (holes : List RationalPoint)
    (regions : List Region) (part : List Tet) (marks kept : List (Option ℕ))
    → IsFilling ps ts whole → All (λ h. pos 0 <ℤ h.w) holes → All (λ r. pos 0 <ℤ r.at.w) regions → IsKeptPart carving ps ts whole holes part
    → AreRegionMarks ps ts whole regions marks → AreKeptMarks whole marks part kept → AreRegionMarks ps ts part regions kept

-- ---- how they are found

-- each tetrahedron has the number of the first of some region points whose flood fill reaches it
abbrev pub AreNumbered : List Point → List Face → List Tet → List Across → List Region → ℕ → List (Option ℕ) → Type 0
AreNumbered ps closed rows ways regions count marks =
    (i : ℕ) → i < length rows
    → IsFirstOf (λ k. IsFloodedFrom ways (IsSeedAt ps closed rows (region_point regions k)) i) count (mark_at marks i)

-- a number is written at the tetrahedra in a queue from one place to before another
pub record IsPutFrom (queue : List ℕ) (from past number : ℕ) (old new : List (Option ℕ)) : Type 0 where
  pub long : length new ≡ length old
  pub put : (q : ℕ) → from ≤ q → q < past → queue_at queue q < length old → mark_at new (queue_at queue q) ≡ Some number
  pub rest : (i : ℕ) → ((q : ℕ) → from ≤ q → q < past → queue_at queue q ≢ i) → mark_at new i ≡ mark_at old i

-- the seeds are those of the first region points
abbrev pub AreRegionSeeds : List Point → List Face → List Tet → List Region → ℕ → List Bool → Type 0
AreRegionSeeds ps closed rows regions count seeds = (i : ℕ)
    → (is_marked seeds i ≡ true) ↔ ((k : ℕ) × (k < count) × IsSeedAt ps closed rows (region_point regions k) i)

-- the first place from `from` on at which the list has the tetrahedron, or the list's length
pub record IsPlaceFrom (rows : List Tet) (row : Tet) (from place : ℕ) : Type 0 where
  pub within : place ≤ length rows
  pub least : (k : ℕ) → from ≤ k → k < place → ¬ (row_at rows k ≡ row)
  pub there : place < length rows → row_at rows place ≡ row
