-- How the Delaunay list changes when a point is added (incremental insertion: Bowyer 1981, Watson 1981). The points are those of a list
-- whose numbers are among `ms`, and the new one may have any other number. The space outside of the hull is cut into ghosts, one over each
-- face of the hull. The cavity of the new point are the tetrahedra that don't have it outside and the ghosts of the hull faces that it
-- sees; its rim are the faces between the cavity and the rest; its star are the tetrahedra of the new point and the rim's faces.
use Rattle.std.specs.Prelude.{◌≡◌, ◌≢◌, ◌↔◌, ◌⊎◌, ℕ, pos, ◌<ℤ◌, IsTrue, List, [], ◌∷◌, ◌++◌, Contains}
use Rattle.sign_predicates.specs.Point.{Point, as_rational}
use Rattle.sign_predicates.specs.Orientation.{IsPositive, InClosed, side}
use Rattle.sign_predicates.specs.Sphere.{is_outside}
use Rattle.geo_laws.specs.Delaunay.{point, corners, numbers, as_numbers, all_numbers, AreNumbersOf, IsArranged, IsDelaunay, IsDelaunayAmong}
use Rattle.geo_laws.specs.declared.tetrahedra.Tet.{Tet}
use Rattle.geo_laws.specs.OrientedFace.{Face, triangle, reversed, beside}
pub use Rattle.insert_laws.specs.LowestInsertion.{IsNew, HasSameCorners, IsFaceOf, HasNoneAmongBeyond, edge_and}
pub use Rattle.insert_laws.specs.LowestInsertion.{RowOrGhost, row_place, ghost_place, Touches, row_row, row_ghost, ghost_row, ghost_ghost, ghost_turned}

-- f is a face of the hull, turned outward: a tetrahedron lies behind it, and no point is strictly beyond it
pub record IsHullFace (ps : List Point) (ms : List ℕ) (f : Face) : Type 0 where
  pub behind : Tet
  pub is_row : IsDelaunayAmong ps ms behind
  pub is_face : IsFaceOf ps (reversed f) behind
  pub none_beyond : HasNoneAmongBeyond ps ms f

-- p is outside of a tetrahedron
abbrev pub HasOutside : List Point → Tet → ℕ → Type 0
HasOutside ps t p = IsTrue (is_outside (corners ps t) (as_numbers t) (point ps p) p)

-- p is strictly beyond the hull face, or on its plane and not outside of the tetrahedron behind it
abbrev pub Sees : List Point → ℕ → Face → Tet → Type 0
Sees ps p f behind = (pos 0 <ℤ side (triangle ps f) (point ps p)) ⊎ ((side (triangle ps f) (point ps p) ≡ pos 0) × ¬ HasOutside ps behind p)

-- On the positive side of the face stands a place of the cavity of p: a tetrahedron that doesn't have p outside, or the ghost of a hull
-- face that p sees
pub data IsCavityPlace (ps : List Point) (ms : List ℕ) (p : ℕ) (f : Face) : Type 0 where
  cavity_row : (t : Tet) → IsDelaunayAmong ps ms t → IsFaceOf ps f t → ¬ HasOutside ps t p → IsCavityPlace ps ms p f
  cavity_ghost : (h : IsHullFace ps ms f) → Sees ps p f h.behind → IsCavityPlace ps ms p f

-- and here a place that isn't in the cavity
pub data IsClearPlace (ps : List Point) (ms : List ℕ) (p : ℕ) (f : Face) : Type 0 where
  clear_row : (t : Tet) → IsDelaunayAmong ps ms t → IsFaceOf ps f t → HasOutside ps t p → IsClearPlace ps ms p f
  clear_ghost : (h : IsHullFace ps ms f) → ¬ Sees ps p f h.behind → IsClearPlace ps ms p f

-- t is the tetrahedron of p and a face between a place of the cavity and one that isn't in it
pub record IsStarRow (ps : List Point) (ms : List ℕ) (p : ℕ) (t : Tet) : Type 0 where
  pub face : Face
  pub same_corners : HasSameCorners (beside face p) t
  pub is_positive : IsPositive (corners ps t)
  pub is_arranged : IsArranged t
  pub cavity : IsCavityPlace ps ms p face
  pub clear : IsClearPlace ps ms p (reversed face)

-- The Delaunay tetrahedra with p are those without that have p outside, and the star of p over the rim of its cavity. (That some
-- tetrahedron is there says that the points aren't all coplanar.)
abbrev pub InsertionLaw : Type 0
InsertionLaw = (ps : List Point) (ms : List ℕ) (p : ℕ) → IsNew ps ms p → (some : Tet) → IsDelaunayAmong ps ms some → (t : Tet)
    → IsDelaunayAmong ps (p ∷ ms) t ↔ ((IsDelaunayAmong ps ms t × HasOutside ps t p) ⊎ IsStarRow ps ms p t)

-- p is on the positive side of each face of the rim, turned to the cavity
abbrev pub RimLaw : Type 0
RimLaw = (ps : List Point) (ms : List ℕ) (p : ℕ) → IsNew ps ms p → (f : Face) → IsCavityPlace ps ms p f → IsClearPlace ps ms p (reversed f)
    → pos 0 <ℤ side (triangle ps f) (point ps p)

-- across each face of a Delaunay tetrahedron lies another one, or no point
abbrev pub FacePairingLaw : Type 0
FacePairingLaw = (ps : List Point) (ms : List ℕ) → AreNumbersOf ps ms → (f : Face) (t : Tet) → IsDelaunayAmong ps ms t
    → IsFaceOf ps (reversed f) t
    → HasNoneAmongBeyond ps ms f ⊎ ((s : Tet) × IsDelaunayAmong ps ms s × IsFaceOf ps f s)

-- at most one Delaunay tetrahedron lies on one side of a face
abbrev pub OneRowLaw : Type 0
OneRowLaw = (ps : List Point) (ms : List ℕ) → AreNumbersOf ps ms → (f : Face) (s t : Tet) → IsDelaunayAmong ps ms s → IsFaceOf ps f s
    → IsDelaunayAmong ps ms t → IsFaceOf ps f t → s ≡ t

-- ---- the hull

-- The hull faces without p as a corner are those before that p doesn't see
abbrev pub OldHullLaw : Type 0
OldHullLaw = (ps : List Point) (ms : List ℕ) (p : ℕ) → IsNew ps ms p → (some : Tet) → IsDelaunayAmong ps ms some → (f : Face)
    → Contains ms f.a → Contains ms f.b → Contains ms f.c
    → IsHullFace ps (p ∷ ms) f ↔ ((h : IsHullFace ps ms f) × ¬ Sees ps p f h.behind)

-- the edge is one of a hull face that p sees, and turned one of a hull face that p doesn't see
pub record IsHullRim (ps : List Point) (ms : List ℕ) (p : ℕ) (i j : ℕ) : Type 0 where
  pub inner : ℕ
  pub seen : IsHullFace ps ms (edge_and i j inner)
  pub sees : Sees ps p (edge_and i j inner) seen.behind
  pub outer : ℕ
  pub unseen : IsHullFace ps ms (edge_and j i outer)
  pub sees_not : ¬ Sees ps p (edge_and j i outer) unseen.behind

-- and those with p are p and the edges between
abbrev pub NewHullLaw : Type 0
NewHullLaw = (ps : List Point) (ms : List ℕ) (p : ℕ) → IsNew ps ms p → (some : Tet) → IsDelaunayAmong ps ms some → (i j : ℕ)
    → IsHullFace ps (p ∷ ms) (edge_and i j p) ↔ IsHullRim ps ms p i j

-- across each edge of a hull face lies exactly one other
abbrev pub HullEdgeLaw : Type 0
HullEdgeLaw = (ps : List Point) (ms : List ℕ) → AreNumbersOf ps ms → (i j o : ℕ) → IsHullFace ps ms (edge_and i j o)
    → ((q : ℕ) × IsHullFace ps ms (edge_and j i q)) × ((q : ℕ) → IsHullFace ps ms (edge_and i j q) → o ≡ q)

-- ---- the cavity is connected

-- the place is in the cavity of p
pub data IsInCavity (ps : List Point) (ms : List ℕ) (p : ℕ) : RowOrGhost → Type 0 where
  row_in : (t : Tet) → IsDelaunayAmong ps ms t → ¬ HasOutside ps t p → IsInCavity ps ms p (row_place t)
  ghost_in : (f : Face) → (h : IsHullFace ps ms f) → Sees ps p f h.behind → IsInCavity ps ms p (ghost_place f)

-- a chain of places of the cavity leads from the one to the other
pub data ArePlacesJoined (ps : List Point) (ms : List ℕ) (p : ℕ) : RowOrGhost → RowOrGhost → Type 0 where
  joined_self : (a : RowOrGhost) → ArePlacesJoined ps ms p a a
  joined_by : (a b c : RowOrGhost) → Touches ps a b → IsInCavity ps ms p b → ArePlacesJoined ps ms p b c → ArePlacesJoined ps ms p a c

-- where p lies in the closed tetrahedron s of the cavity, each place of the cavity is joined to s
abbrev pub InsideCavityLaw : Type 0
InsideCavityLaw = (ps : List Point) (ms : List ℕ) (p : ℕ) → IsNew ps ms p → (s : Tet) → IsDelaunayAmong ps ms s
    → InClosed (corners ps s) (as_rational (point ps p)) → ¬ HasOutside ps s p
    → (a : RowOrGhost) → IsInCavity ps ms p a → ArePlacesJoined ps ms p a (row_place s)

-- where p is strictly beyond the hull face f, each place of the cavity is joined to the ghost of f
abbrev pub BeyondCavityLaw : Type 0
BeyondCavityLaw = (ps : List Point) (ms : List ℕ) (p : ℕ) → IsNew ps ms p → (f : Face) → IsHullFace ps ms f
    → pos 0 <ℤ side (triangle ps f) (point ps p)
    → (a : RowOrGhost) → IsInCavity ps ms p a → ArePlacesJoined ps ms p a (ghost_place f)

-- the Delaunay tetrahedra of a list are those among its numbers in the list with a further point, which isn't among them
abbrev pub StartOfListLaw : Type 0
StartOfListLaw = (ps : List Point) (p : Point) (t : Tet) → IsDelaunay ps t ↔ IsDelaunayAmong (ps ++ p ∷ []) (all_numbers ps) t

-- the order of the numbers doesn't matter
abbrev pub SameNumbersLaw : Type 0
SameNumbersLaw = (ps : List Point) (ms ks : List ℕ) → ((i : ℕ) → Contains ms i ↔ Contains ks i) → (t : Tet) → IsDelaunayAmong ps ms t
    → IsDelaunayAmong ps ks t

-- a hull face is a face of a tetrahedron behind it, and of none before it
abbrev pub HullFaceLaw : Type 0
HullFaceLaw = (ps : List Point) (ms : List ℕ) → AreNumbersOf ps ms → (f : Face) (t : Tet) → IsDelaunayAmong ps ms t
    → IsFaceOf ps (reversed f) t
    → IsHullFace ps ms f ↔ ((s : Tet) → IsDelaunayAmong ps ms s → ¬ IsFaceOf ps f s)

-- the name of a hull face from its next corner
abbrev pub HullTurnLaw : Type 0
HullTurnLaw = (ps : List Point) (ms : List ℕ) → AreNumbersOf ps ms → (i j o : ℕ) → IsHullFace ps ms (edge_and i j o)
    → IsHullFace ps ms (edge_and j o i)

-- a further point lies in a closed tetrahedron, or strictly beyond a hull face
abbrev pub LocateLaw : Type 0
LocateLaw = (ps : List Point) (ms : List ℕ) (p : ℕ) → IsNew ps ms p → (some : Tet) → IsDelaunayAmong ps ms some
    → ((t : Tet) × IsDelaunayAmong ps ms t × InClosed (corners ps t) (as_rational (point ps p)))
    ⊎ ((f : Face) × IsHullFace ps ms f × (pos 0 <ℤ side (triangle ps f) (point ps p)))

-- a closed tetrahedron that holds p, where p is none of its corners, is in the cavity
abbrev pub StartLaw : Type 0
StartLaw = (ps : List Point) (ms : List ℕ) (p : ℕ) → IsNew ps ms p → ((i : ℕ) → Contains ms i → point ps i ≢ point ps p) → (t : Tet)
    → IsDelaunayAmong ps ms t
    → InClosed (corners ps t) (as_rational (point ps p)) → ¬ HasOutside ps t p

-- a face between a place of the cavity, on its positive side, and one that isn't in it
pub record IsRimFace (ps : List Point) (ms : List ℕ) (p : ℕ) (f : Face) : Type 0 where
  pub cavity : IsCavityPlace ps ms p f
  pub clear : IsClearPlace ps ms p (reversed f)

-- across each edge of a rim face lies another rim face, or the hull between a face that p sees and one that it doesn't; and at most one rim
-- face
abbrev pub RimEdgeLaw : Type 0
RimEdgeLaw = (ps : List Point) (ms : List ℕ) (p : ℕ) → IsNew ps ms p → (i j k : ℕ) → IsRimFace ps ms p (edge_and i j k)
    → (IsHullRim ps ms p i j ⊎ ((q : ℕ) × IsRimFace ps ms p (edge_and j i q))) × ((q : ℕ) → IsRimFace ps ms p (edge_and i j q) → k ≡ q)

-- behind each edge where the rim meets the hull lies a rim face, and the edges follow one another
abbrev pub HullRimLaw : Type 0
HullRimLaw = (ps : List Point) (ms : List ℕ) (p : ℕ) → IsNew ps ms p → (some : Tet) → IsDelaunayAmong ps ms some → (i j : ℕ)
    → IsHullRim ps ms p i j
    → ((k : ℕ) × IsRimFace ps ms p (edge_and i j k)) × ((q : ℕ) × IsHullRim ps ms p j q × ((r : ℕ) → IsHullRim ps ms p j r → q ≡ r))

-- a further point, which is none of those there, has a rim face
abbrev pub SomeRimFaceLaw : Type 0
SomeRimFaceLaw = (ps : List Point) (ms : List ℕ) (p : ℕ) → IsNew ps ms p → ((i : ℕ) → Contains ms i → point ps i ≢ point ps p)
    → (some : Tet) → IsDelaunayAmong ps ms some
    → (f : Face) × IsRimFace ps ms p f

-- among its own corners a tetrahedron is the only Delaunay one, and its faces are those of the hull
pub record IsFirst (ps : List Point) (t : Tet) : Type 0 where
  pub only : (s : Tet) → IsDelaunayAmong ps (numbers t) s ↔ (s ≡ t)
  pub hull : (f : Face) → IsFaceOf ps (reversed f) t → IsHullFace ps (numbers t) f

-- the list of four points that are not coplanar
abbrev pub FirstLaw : Type 0
FirstLaw = (ps : List Point) (t : Tet) → IsPositive (corners ps t) → IsArranged t → IsFirst ps t

-- on each side of a face of a Delaunay tetrahedron stands a place of the cavity or a clear one, and not both
pub record IsDivided (ps : List Point) (ms : List ℕ) (p : ℕ) : Type 0 where
  pub decided : (f : Face) (t : Tet) → IsDelaunayAmong ps ms t → IsFaceOf ps f t ⊎ IsFaceOf ps (reversed f) t → IsCavityPlace ps ms p f
      ⊎ IsClearPlace ps ms p f
  pub exclusive : (f : Face) → IsCavityPlace ps ms p f → IsClearPlace ps ms p f → ⊥

-- a new point divides the places into its cavity and the rest
abbrev pub PlaceLaw : Type 0
PlaceLaw = (ps : List Point) (ms : List ℕ) (p : ℕ) → IsNew ps ms p → IsDivided ps ms p
