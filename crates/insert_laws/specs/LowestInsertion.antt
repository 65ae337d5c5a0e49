-- How the lower hull of lifted points changes when a point is added (incremental insertion: Bowyer 1981, Watson 1981). Point i is lifted
-- by `lifts i`, which may be any number: by its squared length, the lowest tetrahedra are the Delaunay ones; by that less a weight, they
-- are those of the regular triangulation. The points are those of a list whose numbers are among `ms`, and the new one may have any other
-- number. The space outside of the hull is cut into ghosts, one over each face of the hull. The cavity of the new point are the tetrahedra
-- that don't have it above and the ghosts of the hull faces that it sees; its rim are the faces between the cavity and the rest; its star
-- are the tetrahedra of the new point and the rim's faces.
use Rattle.std.specs.Prelude.{◌≡◌, ◌↔◌, ◌⊎◌, ℕ, ◌<◌, pos, ◌<ℤ◌, ℤ, List, ◌∷◌, length, Contains}
use Rattle.sign_predicates.specs.Point.{Point, as_rational}
use Rattle.sign_predicates.specs.Orientation.{IsPositive, InClosed, side}
use Rattle.geo_laws.specs.Delaunay.{point, corners, numbers, AreNumbersOf, IsArranged}
use Rattle.geo_laws.specs.Height.{IsLexPositive, residual, IsLowestAmong}
use Rattle.geo_laws.specs.declared.tetrahedra.Tet.{Tet}
use Rattle.geo_laws.specs.OrientedFace.{Face, triangle, reversed, beside}

-- p is the number of a further point
pub record IsNew (ps : List Point) (ms : List ℕ) (p : ℕ) : Type 0 where
  pub within : AreNumbersOf ps ms
  pub on : p < length ps
  pub is_new : ¬ Contains ms p

-- the two have the same corners
abbrev pub HasSameCorners : Tet → Tet → Type 0
HasSameCorners s t = (i : ℕ) → Contains (numbers s) i ↔ Contains (numbers t) i

-- f is a face of the tetrahedron t, which lies on its positive side
pub record IsFaceOf (ps : List Point) (f : Face) (t : Tet) : Type 0 where
  pub opposite : ℕ
  pub same_corners : HasSameCorners (beside f opposite) t
  pub over : pos 0 <ℤ side (triangle ps f) (point ps opposite)

-- no point is strictly beyond the face
abbrev pub HasNoneAmongBeyond : List Point → List ℕ → Face → Type 0
HasNoneAmongBeyond ps ms f = (i : ℕ) → Contains ms i → ¬ (pos 0 <ℤ side (triangle ps f) (point ps i))

-- f is a face of the hull, turned outward: a tetrahedron lies behind it, and no point is strictly beyond it
pub record IsLowestHullFace (lifts : ℕ → ℤ) (ps : List Point) (ms : List ℕ) (f : Face) : Type 0 where
  pub behind : Tet
  pub is_row : IsLowestAmong ps ms lifts behind
  pub is_face : IsFaceOf ps (reversed f) behind
  pub none_beyond : HasNoneAmongBeyond ps ms f

-- p is lifted above the plane through the tetrahedron's lifted corners
abbrev pub HasAbove : (ℕ → ℤ) → List Point → Tet → ℕ → Type 0
HasAbove lifts ps t p = IsLexPositive (residual ps lifts t p)

-- p is strictly beyond the hull face, or on its plane and not above the tetrahedron behind it
abbrev pub LowestSees : (ℕ → ℤ) → List Point → ℕ → Face → Tet → Type 0
LowestSees lifts ps p f behind =
    (pos 0 <ℤ side (triangle ps f) (point ps p)) ⊎ ((side (triangle ps f) (point ps p) ≡ pos 0) × ¬ HasAbove lifts ps behind p)

-- On the positive side of the face stands a place of the cavity of p: a tetrahedron that doesn't have p above, or the ghost of a hull face
-- that p sees
pub data IsLowestCavityPlace (lifts : ℕ → ℤ) (ps : List Point) (ms : List ℕ) (p : ℕ) (f : Face) : Type 0 where
  cavity_row : (t : Tet) → IsLowestAmong ps ms lifts t → IsFaceOf ps f t → ¬ HasAbove lifts ps t p → IsLowestCavityPlace lifts ps ms p f
  cavity_ghost : (h : IsLowestHullFace lifts ps ms f) → LowestSees lifts ps p f h.behind → IsLowestCavityPlace lifts ps ms p f

-- and here a place that isn't in the cavity
pub data IsLowestClearPlace (lifts : ℕ → ℤ) (ps : List Point) (ms : List ℕ) (p : ℕ) (f : Face) : Type 0 where
  clear_row : (t : Tet) → IsLowestAmong ps ms lifts t → IsFaceOf ps f t → HasAbove lifts ps t p → IsLowestClearPlace lifts ps ms p f
  clear_ghost : (h : IsLowestHullFace lifts ps ms f) → ¬ LowestSees lifts ps p f h.behind → IsLowestClearPlace lifts ps ms p f

-- t is the tetrahedron of p and a face between a place of the cavity and one that isn't in it
pub record IsLowestStarRow (lifts : ℕ → ℤ) (ps : List Point) (ms : List ℕ) (p : ℕ) (t : Tet) : Type 0 where
  pub face : Face
  pub same_corners : HasSameCorners (beside face p) t
  pub is_positive : IsPositive (corners ps t)
  pub is_arranged : IsArranged t
  pub cavity : IsLowestCavityPlace lifts ps ms p face
  pub clear : IsLowestClearPlace lifts ps ms p (reversed face)

-- The lowest tetrahedra with p are those without that have p above, and the star of p over the rim of its cavity. (That some tetrahedron is
-- there says that the points aren't all coplanar.)
abbrev pub LowestInsertionLaw : Type 0
LowestInsertionLaw = (lifts : ℕ → ℤ) (ps : List Point) (ms : List ℕ) (p : ℕ) → IsNew ps ms p → (some : Tet) → IsLowestAmong ps ms lifts some
    → (t : Tet)
    → IsLowestAmong ps (p ∷ ms) lifts t ↔ ((IsLowestAmong ps ms lifts t × HasAbove lifts ps t p) ⊎ IsLowestStarRow lifts ps ms p t)

-- p is on the positive side of each face of the rim, turned to the cavity
abbrev pub LowestRimLaw : Type 0
LowestRimLaw = (lifts : ℕ → ℤ) (ps : List Point) (ms : List ℕ) (p : ℕ) → IsNew ps ms p → (f : Face) → IsLowestCavityPlace lifts ps ms p f
    → IsLowestClearPlace lifts ps ms p (reversed f) → pos 0 <ℤ side (triangle ps f) (point ps p)

-- across each face of a lowest tetrahedron lies another one, or no point
abbrev pub LowestFacePairingLaw : Type 0
LowestFacePairingLaw = (lifts : ℕ → ℤ) (ps : List Point) (ms : List ℕ) → AreNumbersOf ps ms → (f : Face) (t : Tet)
    → IsLowestAmong ps ms lifts t → IsFaceOf ps (reversed f) t
    → HasNoneAmongBeyond ps ms f ⊎ ((s : Tet) × IsLowestAmong ps ms lifts s × IsFaceOf ps f s)

-- at most one lowest tetrahedron lies on one side of a face
abbrev pub LowestOneRowLaw : Type 0
LowestOneRowLaw = (lifts : ℕ → ℤ) (ps : List Point) (ms : List ℕ) → AreNumbersOf ps ms → (f : Face) (s t : Tet)
    → IsLowestAmong ps ms lifts s
    → IsFaceOf ps f s → IsLowestAmong ps ms lifts t → IsFaceOf ps f t → s ≡ t

-- ---- the hull

-- The hull faces without p as a corner are those before that p doesn't see
abbrev pub LowestOldHullLaw : Type 0
LowestOldHullLaw = (lifts : ℕ → ℤ) (ps : List Point) (ms : List ℕ) (p : ℕ) → IsNew ps ms p → (some : Tet) → IsLowestAmong ps ms lifts some
    → (f : Face) → Contains ms f.a → Contains ms f.b → Contains ms f.c
    → IsLowestHullFace lifts ps (p ∷ ms) f ↔ ((h : IsLowestHullFace lifts ps ms f) × ¬ LowestSees lifts ps p f h.behind)

-- the face of an edge and a further corner
abbrev pub edge_and : ℕ → ℕ → ℕ → Face
edge_and i j o = record { a = i; b = j; c = o }

-- the edge is one of a hull face that p sees, and turned one of a hull face that p doesn't see
pub record IsLowestHullRim (lifts : ℕ → ℤ) (ps : List Point) (ms : List ℕ) (p : ℕ) (i j : ℕ) : Type 0 where
  pub inner : ℕ
  pub seen : IsLowestHullFace lifts ps ms (edge_and i j inner)
  pub sees : LowestSees lifts ps p (edge_and i j inner) seen.behind
  pub outer : ℕ
  pub unseen : IsLowestHullFace lifts ps ms (edge_and j i outer)
  pub sees_not : ¬ LowestSees lifts ps p (edge_and j i outer) unseen.behind

-- and those with p are p and the edges between
abbrev pub LowestNewHullLaw : Type 0
LowestNewHullLaw = (lifts : ℕ → ℤ) (ps : List Point) (ms : List ℕ) (p : ℕ) → IsNew ps ms p → (some : Tet) → IsLowestAmong ps ms lifts some
    → (i j : ℕ) → IsLowestHullFace lifts ps (p ∷ ms) (edge_and i j p) ↔ IsLowestHullRim lifts ps ms p i j

-- across each edge of a hull face lies exactly one other
abbrev pub LowestHullEdgeLaw : Type 0
LowestHullEdgeLaw = (lifts : ℕ → ℤ) (ps : List Point) (ms : List ℕ) → AreNumbersOf ps ms → (i j o : ℕ)
    → IsLowestHullFace lifts ps ms (edge_and i j o)
    → ((q : ℕ) × IsLowestHullFace lifts ps ms (edge_and j i q)) × ((q : ℕ) → IsLowestHullFace lifts ps ms (edge_and i j q) → o ≡ q)

-- ---- the cavity is connected

-- a tetrahedron, or the ghost of a hull face
pub data RowOrGhost : Type 0 where
  row_place : Tet → RowOrGhost
  ghost_place : Face → RowOrGhost

-- the place is in the cavity of p
pub data IsInLowestCavity (lifts : ℕ → ℤ) (ps : List Point) (ms : List ℕ) (p : ℕ) : RowOrGhost → Type 0 where
  row_in : (t : Tet) → IsLowestAmong ps ms lifts t → ¬ HasAbove lifts ps t p → IsInLowestCavity lifts ps ms p (row_place t)
  ghost_in : (f : Face) → (h : IsLowestHullFace lifts ps ms f) → LowestSees lifts ps p f h.behind
      → IsInLowestCavity lifts ps ms p (ghost_place f)

-- the two places have a face in common; the last case is one ghost, its face named from another corner
pub data Touches (ps : List Point) : RowOrGhost → RowOrGhost → Type 0 where
  row_row : (f : Face) (s t : Tet) → IsFaceOf ps (reversed f) s → IsFaceOf ps f t → Touches ps (row_place s) (row_place t)
  row_ghost : (f : Face) (t : Tet) → IsFaceOf ps (reversed f) t → Touches ps (row_place t) (ghost_place f)
  ghost_row : (f : Face) (t : Tet) → IsFaceOf ps (reversed f) t → Touches ps (ghost_place f) (row_place t)
  ghost_ghost : (i j o q : ℕ) → Touches ps (ghost_place (edge_and i j o)) (ghost_place (edge_and j i q))
  ghost_turned : (i j o : ℕ) → Touches ps (ghost_place (edge_and i j o)) (ghost_place (edge_and j o i))

-- a chain of places of the cavity leads from the one to the other
pub data AreLowestPlacesJoined (lifts : ℕ → ℤ) (ps : List Point) (ms : List ℕ) (p : ℕ) : RowOrGhost → RowOrGhost → Type 0 where
  joined_self : (a : RowOrGhost) → AreLowestPlacesJoined lifts ps ms p a a
  joined_by : (a b c : RowOrGhost) → Touches ps a b → IsInLowestCavity lifts ps ms p b → AreLowestPlacesJoined lifts ps ms p b c
      → AreLowestPlacesJoined lifts ps ms p a c

-- where p lies in the closed tetrahedron s of the cavity, each place of the cavity is joined to s
abbrev pub LowestInsideCavityLaw : Type 0
LowestInsideCavityLaw = (lifts : ℕ → ℤ) (ps : List Point) (ms : List ℕ) (p : ℕ) → IsNew ps ms p → (s : Tet) → IsLowestAmong ps ms lifts s
    → InClosed (corners ps s) (as_rational (point ps p)) → ¬ HasAbove lifts ps s p
    → (a : RowOrGhost) → IsInLowestCavity lifts ps ms p a → AreLowestPlacesJoined lifts ps ms p a (row_place s)

-- where p is strictly beyond the hull face f, each place of the cavity is joined to the ghost of f
abbrev pub LowestBeyondCavityLaw : Type 0
LowestBeyondCavityLaw = (lifts : ℕ → ℤ) (ps : List Point) (ms : List ℕ) (p : ℕ) → IsNew ps ms p → (f : Face)
    → IsLowestHullFace lifts ps ms f
    → pos 0 <ℤ side (triangle ps f) (point ps p)
    → (a : RowOrGhost) → IsInLowestCavity lifts ps ms p a → AreLowestPlacesJoined lifts ps ms p a (ghost_place f)

-- the order of the numbers doesn't matter
abbrev pub LowestSameNumbersLaw : Type 0
LowestSameNumbersLaw = (lifts : ℕ → ℤ) (ps : List Point) (ms ks : List ℕ) → ((i : ℕ) → Contains ms i ↔ Contains ks i) → (t : Tet)
    → IsLowestAmong ps ms lifts t → IsLowestAmong ps ks lifts t

-- a hull face is a face of a tetrahedron behind it, and of none before it
abbrev pub LowestHullFaceLaw : Type 0
LowestHullFaceLaw = (lifts : ℕ → ℤ) (ps : List Point) (ms : List ℕ) → AreNumbersOf ps ms → (f : Face) (t : Tet)
    → IsLowestAmong ps ms lifts t
    → IsFaceOf ps (reversed f) t
    → IsLowestHullFace lifts ps ms f ↔ ((s : Tet) → IsLowestAmong ps ms lifts s → ¬ IsFaceOf ps f s)

-- the name of a hull face from its next corner
abbrev pub LowestHullTurnLaw : Type 0
LowestHullTurnLaw = (lifts : ℕ → ℤ) (ps : List Point) (ms : List ℕ) → AreNumbersOf ps ms → (i j o : ℕ)
    → IsLowestHullFace lifts ps ms (edge_and i j o) → IsLowestHullFace lifts ps ms (edge_and j o i)

-- a further point lies in a closed tetrahedron, or strictly beyond a hull face
abbrev pub LowestLocateLaw : Type 0
LowestLocateLaw = (lifts : ℕ → ℤ) (ps : List Point) (ms : List ℕ) (p : ℕ) → IsNew ps ms p → (some : Tet) → IsLowestAmong ps ms lifts some
    → ((t : Tet) × IsLowestAmong ps ms lifts t × InClosed (corners ps t) (as_rational (point ps p)))
    ⊎ ((f : Face) × IsLowestHullFace lifts ps ms f × (pos 0 <ℤ side (triangle ps f) (point ps p)))

-- A point that lies in a closed tetrahedron and above it is hidden: it changes neither the tetrahedra nor the hull, and its cavity has no
-- place
pub record IsHidden (lifts : ℕ → ℤ) (ps : List Point) (ms : List ℕ) (p : ℕ) : Type 0 where
  pub above : (t : Tet) → IsLowestAmong ps ms lifts t → HasAbove lifts ps t p
  pub no_place : (a : RowOrGhost) → ¬ IsInLowestCavity lifts ps ms p a
  pub rows : (t : Tet) → IsLowestAmong ps (p ∷ ms) lifts t ↔ IsLowestAmong ps ms lifts t
  pub hull : (f : Face) → IsLowestHullFace lifts ps (p ∷ ms) f ↔ IsLowestHullFace lifts ps ms f

abbrev pub HiddenLaw : Type 0
HiddenLaw = (lifts : ℕ → ℤ) (ps : List Point) (ms : List ℕ) (p : ℕ) → IsNew ps ms p → (s : Tet) → IsLowestAmong ps ms lifts s
    → InClosed (corners ps s) (as_rational (point ps p)) → HasAbove lifts ps s p → IsHidden lifts ps ms p

-- a face between a place of the cavity, on its positive side, and one that isn't in it
pub record IsLowestRimFace (lifts : ℕ → ℤ) (ps : List Point) (ms : List ℕ) (p : ℕ) (f : Face) : Type 0 where
  pub cavity : IsLowestCavityPlace lifts ps ms p f
  pub clear : IsLowestClearPlace lifts ps ms p (reversed f)

-- across each edge of a rim face lies another rim face, or the hull between a face that p sees and one that it doesn't; and at most one
-- rim face
abbrev pub LowestRimEdgeLaw : Type 0
LowestRimEdgeLaw = (lifts : ℕ → ℤ) (ps : List Point) (ms : List ℕ) (p : ℕ) → IsNew ps ms p → (i j k : ℕ)
    → IsLowestRimFace lifts ps ms p (edge_and i j k)
    → (IsLowestHullRim lifts ps ms p i j ⊎ ((q : ℕ) × IsLowestRimFace lifts ps ms p (edge_and j i q))) × ((q : ℕ)
    → IsLowestRimFace lifts ps ms p (edge_and i j q) → k ≡ q)

-- behind each edge where the rim meets the hull lies a rim face, and the edges follow one another
abbrev pub LowestHullRimLaw : Type 0
LowestHullRimLaw = (lifts : ℕ → ℤ) (ps : List Point) (ms : List ℕ) (p : ℕ) → IsNew ps ms p → (some : Tet) → IsLowestAmong ps ms lifts some
    → (i j : ℕ) → IsLowestHullRim lifts ps ms p i j
    → ((k : ℕ) × IsLowestRimFace lifts ps ms p (edge_and i j k)) × ((q : ℕ) × IsLowestHullRim lifts ps ms p j q × ((r : ℕ)
    → IsLowestHullRim lifts ps ms p j r → q ≡ r))

-- a further point whose cavity has a place has a rim face: the cavity is not all of space
abbrev pub LowestSomeRimFaceLaw : Type 0
LowestSomeRimFaceLaw = (lifts : ℕ → ℤ) (ps : List Point) (ms : List ℕ) (p : ℕ) → IsNew ps ms p → (some : Tet)
    → IsLowestAmong ps ms lifts some
    → (a : RowOrGhost) → IsInLowestCavity lifts ps ms p a → (f : Face) × IsLowestRimFace lifts ps ms p f

-- among its own corners a tetrahedron is the only lowest one, and its faces are those of the hull
pub record IsLowestFirst (lifts : ℕ → ℤ) (ps : List Point) (t : Tet) : Type 0 where
  pub only : (s : Tet) → IsLowestAmong ps (numbers t) lifts s ↔ (s ≡ t)
  pub hull : (f : Face) → IsFaceOf ps (reversed f) t → IsLowestHullFace lifts ps (numbers t) f

-- the list of four points that are not coplanar
abbrev pub LowestFirstLaw : Type 0
LowestFirstLaw = (lifts : ℕ → ℤ) (ps : List Point) (t : Tet) → IsPositive (corners ps t) → IsArranged t → IsLowestFirst lifts ps t

-- on each side of a face of a lowest tetrahedron stands a place of the cavity or a clear one, and not both
pub record IsLowestDivided (lifts : ℕ → ℤ) (ps : List Point) (ms : List ℕ) (p : ℕ) : Type 0 where
  pub decided : (f : Face) (t : Tet) → IsLowestAmong ps ms lifts t → IsFaceOf ps f t ⊎ IsFaceOf ps (reversed f) t
      → IsLowestCavityPlace lifts ps ms p f ⊎ IsLowestClearPlace lifts ps ms p f
  pub exclusive : (f : Face) → IsLowestCavityPlace lifts ps ms p f → IsLowestClearPlace lifts ps ms p f → ⊥

-- a new point divides the places into its cavity and the rest
abbrev pub LowestPlaceLaw : Type 0
LowestPlaceLaw = (lifts : ℕ → ℤ) (ps : List Point) (ms : List ℕ) (p : ℕ) → IsNew ps ms p → IsLowestDivided lifts ps ms p
