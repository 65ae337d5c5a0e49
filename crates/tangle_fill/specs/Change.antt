-- The difference of a candidate list from an old one, the corners of the changed tetrahedra, and the candidate's
-- tetrahedra that have a face with such corners: any other face lies between two old tetrahedra, or is on the hull.
use Rattle.std.specs.Prelude.{◌≡◌, ◌⊎◌, ℕ, Bool, false, IsTrue, List, [], ◌∷◌, ◌++◌, All, AllPairs, Contains}
use Rattle.std.specs.List.{AllByRecursion, list_any}
use Rattle.sign_predicates.specs.Point.{Point}
use Rattle.geo_laws.specs.Delaunay.{IsArranged}
use Rattle.geo_laws.specs.OrientedFace.{Face, reversed}
use Rattle.geo_laws.specs.declared.tetrahedra.Tet.{Tet}
use Rattle.crossing_laws.specs.Crossing.{faces_of}
use Rattle.tangle_laws.specs.Tangle.{lies_on}
use Rattle.tangle_laws.specs.Growth.{ShareNoSide, IsFilled}
use Rattle.tangle_fill.specs.Accept.{AreArrangedRows}
use Rattle.tangle_fill.specs.Indexed.{IsIndexed}
use Rattle.tangle_fill.specs.Removed.{AreAmong, IsRemoved}
use Rattle.tangle_fill.specs.declared.change.Change.{Change}
use Rattle.tangle_fill.specs.declared.growth.Growth.{Growth}
use Rattle.geo_laws.specs.Marks.{is_marked}

-- the tetrahedra of the list that are not in the other one
pub record IsRest (list other rest : List Tet) : Type 0 where
  pub within : AreAmong list rest
  pub others : (t : Tet) → Contains list t → Contains other t ⊎ Contains rest t

-- ---- marks at points

-- marked points stay marked
abbrev pub KeepsMarks : List Bool → List Bool → Type 0
KeepsMarks old new = (i : ℕ) → IsTrue (is_marked old i) → IsTrue (is_marked new i)

-- and no others are marked but those with the property
abbrev pub MarksOnly : (ℕ → Type 0) → List Bool → List Bool → Type 0
MarksOnly P old new = (i : ℕ) → IsTrue (is_marked new i) → IsTrue (is_marked old i) ⊎ P i

-- all corners of the tetrahedron are marked
pub record IsMarkedRow (marks : List Bool) (t : Tet) : Type 0 where
  pub a : IsTrue (is_marked marks t.a)
  pub b : IsTrue (is_marked marks t.b)
  pub c : IsTrue (is_marked marks t.c)
  pub d : IsTrue (is_marked marks t.d)

-- all corners of the face are marked
pub record IsMarkedFace (marks : List Bool) (f : Face) : Type 0 where
  pub a : IsTrue (is_marked marks f.a)
  pub b : IsTrue (is_marked marks f.b)
  pub c : IsTrue (is_marked marks f.c)

-- no face of the tetrahedron has all corners marked
abbrev pub HasNoMarkedFace : List Bool → Tet → Type 0
HasNoMarkedFace marks t = (f : Face) → IsTrue (lies_on f t) → ¬ IsMarkedFace marks f

-- ---- rows near what changed

-- the tetrahedron was added to others in the least even arrangement, none of which lies with it on one side of a face
pub record IsPutApart (before after : Growth) (row : Tet) : Type 0 where
  pub arranged : IsArranged row
  pub rows : after.rows ≡ before.rows ++ row ∷ []
  pub indexed : IsIndexed after
  pub apart : All (λ t. list_any (λ f. lies_on f t) (faces_of row) ≡ false) before.rows

-- the tetrahedra that have a marked face, and maybe more, indexed by the sides of faces; no two of them on one side of
-- a face
pub record HoldsNearRows (marks : List Bool) (rows : List Tet) (near : Growth) : Type 0 where
  pub within : AreAmong rows near.rows
  pub others : (t : Tet) → Contains rows t → Contains near.rows t ⊎ HasNoMarkedFace marks t
  pub one_a_side : AllPairs ShareNoSide near.rows
  pub indexed : IsIndexed near

-- the added tetrahedra, which are not in the old list, the removed ones of the old list, and the tetrahedra near both
pub record IsChange (ps : List Point) (old : List Tet) (c : Change) : Type 0 where
  pub added : IsRest c.rows old c.added
  pub removed : IsRemoved old c.rows c.removed
  pub added_rows : AreArrangedRows ps c.added
  pub added_marked : All (IsMarkedRow c.marks.items) c.added
  pub removed_marked : All (IsMarkedRow c.marks.items) c.removed.rows
  pub near : HoldsNearRows c.marks.items c.rows c.near

-- where the face is marked, a tetrahedron lies on its positive side, or no point
abbrev pub IsFilledNear : List Point → Change → Face → Type 0
IsFilledNear ps c f = IsMarkedFace c.marks.items f → IsFilled ps c.rows f

-- across each marked face of the tetrahedron lies another one, or no point
abbrev pub IsClosedNear : List Point → Change → Tet → Type 0
IsClosedNear ps c t = AllByRecursion (λ f. IsFilledNear ps c (reversed f)) (faces_of t)
