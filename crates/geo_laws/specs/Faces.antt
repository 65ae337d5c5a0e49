-- The faces and the sides of rows, each with its numbers ascending.
use Rattle.std.specs.Prelude.{◌≡◌, ◌↔◌, ◌⊎◌, ℕ, ◌<◌, min, max, List, [], ◌∷◌, flat_map, AllPairs, Contains}
use Rattle.geo_laws.specs.declared.faces.Face.{Face}
use Rattle.geo_laws.specs.declared.faces.Side.{Side}
use Rattle.geo_laws.specs.declared.tetrahedra.Tet.{Tet}

-- the triangle of three numbers: the least, the middle one and the greatest
abbrev pub face_of : ℕ → ℕ → ℕ → Face
face_of i j k = record { a = min (min i j) k; b = max (min i j) (min (max i j) k); c = max (max i j) k }

-- the segment of two numbers
abbrev pub side_of : ℕ → ℕ → Side
side_of i j = record { a = min i j; b = max i j }

-- the faces of a row: opposite its first corner, and so on
abbrev pub row_faces : Tet → List Face
row_faces t = face_of t.b t.c t.d ∷ face_of t.a t.c t.d ∷ face_of t.a t.b t.d ∷ face_of t.a t.b t.c ∷ []

-- the six sides of a row
abbrev pub row_sides : Tet → List Side
row_sides t = side_of t.a t.b ∷ side_of t.a t.c ∷ side_of t.a t.d ∷ side_of t.b t.c ∷ side_of t.b t.d ∷ side_of t.c t.d ∷ []

-- the numbers of a face's corners
abbrev pub face_numbers : Face → List ℕ
face_numbers f = f.a ∷ f.b ∷ f.c ∷ []

-- and of a side's ends
abbrev pub side_numbers : Side → List ℕ
side_numbers s = s.a ∷ s.b ∷ []

-- the faces of all rows: one that two rows share stands twice
abbrev pub faces_of_rows : List Tet → List Face
faces_of_rows rows = flat_map row_faces rows

abbrev pub sides_of_rows : List Tet → List Side
sides_of_rows rows = flat_map row_sides rows

-- the order of lists of numbers, from the left
abbrev pub FaceBefore : Face → Face → Type 0
FaceBefore f g = (f.a < g.a) ⊎ (f.a ≡ g.a) × ((f.b < g.b) ⊎ (f.b ≡ g.b) × (f.c < g.c))

abbrev pub SideBefore : Side → Side → Type 0
SideBefore s t = (s.a < t.a) ⊎ (s.a ≡ t.a) × (s.b < t.b)

-- each face of a row once, ascending
pub record AreFacesOf (rows : List Tet) (faces : List Face) : Type 0 where
  pub exactly : (f : Face) → Contains faces f ↔ Contains (faces_of_rows rows) f
  pub ascending : AllPairs FaceBefore faces

-- each side of a row once, ascending
pub record AreSidesOf (rows : List Tet) (sides : List Side) : Type 0 where
  pub exactly : (s : Side) → Contains sides s ↔ Contains (sides_of_rows rows) s
  pub ascending : AllPairs SideBefore sides

-- one row alone has the face: it is on the hull of the rows
pub record IsOfOneRow (rows : List Tet) (f : Face) : Type 0 where
  pub row : Tet
  pub is_row : Contains rows row
  pub has : Contains (row_faces row) f
  pub only : (t : Tet) → Contains rows t → Contains (row_faces t) f → t ≡ row

-- each such face once, ascending
pub record AreHullFacesOf (rows : List Tet) (faces : List Face) : Type 0 where
  pub exactly : (f : Face) → Contains faces f ↔ IsOfOneRow rows f
  pub ascending : AllPairs FaceBefore faces
