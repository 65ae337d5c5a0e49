-- The Delaunay tetrahedra are the lowest ones where each point is lifted by its squared length, and a point is outside of one exactly where it is
-- lifted above it. So each notion of insertion is the one of the lowest tetrahedra, and back.
use Rattle.std.proofs.Common.{inl, inr, ℕ, List, ◌∷◌}
use Rattle.sign_predicates.specs.Point.{Point}
use Rattle.geo_laws.specs.Delaunay.{AreNumbersOf, IsDelaunayAmong}
use Rattle.geo_laws.specs.Height.{lifted, IsLowestAmong}
use Rattle.geo_laws.specs.OrientedFace.{Face, reversed}
use Rattle.geo_laws.specs.declared.tetrahedra.Tet.{Tet}
use Rattle.geo_laws.proofs.Corners.{on_of_among}
use Rattle.geo_laws.proofs.Lift.{law_lift, lowest_of, delaunay_of}
use Rattle.insert_laws.specs.LowestInsertion as lowest
use Rattle.insert_laws.proofs.LowestBridge.{of_new}
use Rattle.insert_laws.specs.Insertion.{IsNew, IsHullFace, HasOutside, Sees, IsCavityPlace, cavity_row, cavity_ghost, IsClearPlace, clear_row, clear_ghost, IsStarRow, IsRimFace, IsHullRim, edge_and, RowOrGhost, IsInCavity, row_in, ghost_in, ArePlacesJoined, joined_self, joined_by}
pub use Rattle.insert_laws.proofs.LowestBridge.{same_of_even, corner_to, corner_from}

-- ---- hull faces

abbrev pub hull_of : (ps : List Point) (ms : List ℕ) → AreNumbersOf ps ms → (f : Face) → IsHullFace ps ms f → lowest.IsLowestHullFace (lifted ps) ps ms f
hull_of ps ms within f h = record { behind = h.behind; is_row = lowest_of ps ms within h.behind h.is_row; is_face = h.is_face; none_beyond = h.none_beyond }

abbrev pub hull_from : (ps : List Point) (ms : List ℕ) → AreNumbersOf ps ms → (f : Face) → lowest.IsLowestHullFace (lifted ps) ps ms f → IsHullFace ps ms f
hull_from ps ms within f h = record { behind = h.behind; is_row = delaunay_of ps ms within h.behind h.is_row; is_face = h.is_face; none_beyond = h.none_beyond }

-- the numbers with a further one
pub numbers_with : (ps : List Point) (ms : List ℕ) (p : ℕ) → IsNew ps ms p → AreNumbersOf ps (p ∷ ms)
numbers_with ps ms p new = (of_new ps ms p new).within

-- ---- the place of a further point

module _ (ps : List Point) (ms : List ℕ) (p : ℕ) (new : IsNew ps ms p) where
  abbrev pub low : (t : Tet) → IsDelaunayAmong ps ms t → IsLowestAmong ps ms (lifted ps) t
  low = lowest_of ps ms new.within

  abbrev pub row : (t : Tet) → IsLowestAmong ps ms (lifted ps) t → IsDelaunayAmong ps ms t
  row = delaunay_of ps ms new.within

  pub above : (t : Tet) → IsDelaunayAmong ps ms t → HasOutside ps t p → lowest.HasAbove (lifted ps) ps t p
  above t d = (law_lift ps t p (on_of_among ps ms t new.within d.is_on) new.on d.is_positive (λ c. new.is_new (d.is_on p c))).0

  pub outside : (t : Tet) → IsDelaunayAmong ps ms t → lowest.HasAbove (lifted ps) ps t p → HasOutside ps t p
  outside t d = (law_lift ps t p (on_of_among ps ms t new.within d.is_on) new.on d.is_positive (λ c. new.is_new (d.is_on p c))).1

  -- ---- what p sees

  pub sees_of : (f : Face) (t : Tet) → IsDelaunayAmong ps ms t → Sees ps p f t → lowest.LowestSees (lifted ps) ps p f t
  sees_of f t d (inl h) = inl h
  sees_of f t d (inr h) = inr (h.0, λ a. h.1 (outside t d a))

  pub sees_from : (f : Face) (t : Tet) → IsDelaunayAmong ps ms t → lowest.LowestSees (lifted ps) ps p f t → Sees ps p f t
  sees_from f t d (inl h) = inl h
  sees_from f t d (inr h) = inr (h.0, λ o. h.1 (above t d o))

  -- ---- places

  pub cavity_of : (f : Face) → IsCavityPlace ps ms p f → lowest.IsLowestCavityPlace (lifted ps) ps ms p f
  cavity_of f (cavity_row t d face n) = lowest.cavity_row t (low t d) face (λ a. n (outside t d a))
  cavity_of f (cavity_ghost h s) = lowest.cavity_ghost (hull_of ps ms new.within f h) (sees_of f h.behind h.is_row s)

  pub cavity_from : (f : Face) → lowest.IsLowestCavityPlace (lifted ps) ps ms p f → IsCavityPlace ps ms p f
  cavity_from f (lowest.cavity_row t l face n) = let d = row t l in cavity_row t d face (λ o. n (above t d o))
  cavity_from f (lowest.cavity_ghost h s) = let k = hull_from ps ms new.within f h in cavity_ghost k (sees_from f k.behind k.is_row s)

  pub clear_of : (f : Face) → IsClearPlace ps ms p f → lowest.IsLowestClearPlace (lifted ps) ps ms p f
  clear_of f (clear_row t d face o) = lowest.clear_row t (low t d) face (above t d o)
  clear_of f (clear_ghost h n) = lowest.clear_ghost (hull_of ps ms new.within f h) (λ s. n (sees_from f h.behind h.is_row s))

  pub clear_from : (f : Face) → lowest.IsLowestClearPlace (lifted ps) ps ms p f → IsClearPlace ps ms p f
  clear_from f (lowest.clear_row t l face a) = let d = row t l in clear_row t d face (outside t d a)
  clear_from f (lowest.clear_ghost h n) = let k = hull_from ps ms new.within f h in clear_ghost k (λ s. n (sees_of f k.behind k.is_row s))

  -- ---- the rim and the star

  pub rim_of : (f : Face) → IsRimFace ps ms p f → lowest.IsLowestRimFace (lifted ps) ps ms p f
  rim_of f r = record { cavity = cavity_of f r.cavity; clear = clear_of (reversed f) r.clear }

  pub rim_from : (f : Face) → lowest.IsLowestRimFace (lifted ps) ps ms p f → IsRimFace ps ms p f
  rim_from f r = record { cavity = cavity_from f r.cavity; clear = clear_from (reversed f) r.clear }

  pub star_of : (t : Tet) → IsStarRow ps ms p t → lowest.IsLowestStarRow (lifted ps) ps ms p t
  star_of t s = record {
    face = s.face;
    same_corners = s.same_corners;
    is_positive = s.is_positive;
    is_arranged = s.is_arranged;
    cavity = cavity_of s.face s.cavity;
    clear = clear_of (reversed s.face) s.clear;
  }

  pub star_from : (t : Tet) → lowest.IsLowestStarRow (lifted ps) ps ms p t → IsStarRow ps ms p t
  star_from t s = record {
    face = s.face;
    same_corners = s.same_corners;
    is_positive = s.is_positive;
    is_arranged = s.is_arranged;
    cavity = cavity_from s.face s.cavity;
    clear = clear_from (reversed s.face) s.clear;
  }

  pub hull_rim_of : (i j : ℕ) → IsHullRim ps ms p i j → lowest.IsLowestHullRim (lifted ps) ps ms p i j
  hull_rim_of i j r = record {
    inner = r.inner;
    seen = hull_of ps ms new.within (edge_and i j r.inner) r.seen;
    sees = sees_of (edge_and i j r.inner) r.seen.behind r.seen.is_row r.sees;
    outer = r.outer;
    unseen = hull_of ps ms new.within (edge_and j i r.outer) r.unseen;
    sees_not = λ s. r.sees_not (sees_from (edge_and j i r.outer) r.unseen.behind r.unseen.is_row s);
  }

  pub hull_rim_from : (i j : ℕ) → lowest.IsLowestHullRim (lifted ps) ps ms p i j → IsHullRim ps ms p i j
  hull_rim_from i j r =
      let seen = hull_from ps ms new.within (edge_and i j r.inner) r.seen in
      let unseen = hull_from ps ms new.within (edge_and j i r.outer) r.unseen in
      record {
        inner = r.inner;
        seen = seen;
        sees = sees_from (edge_and i j r.inner) seen.behind seen.is_row r.sees;
        outer = r.outer;
        unseen = unseen;
        sees_not = λ s. r.sees_not (sees_of (edge_and j i r.outer) unseen.behind unseen.is_row s);
      }

  -- ---- the cavity

  pub in_of : (a : RowOrGhost) → IsInCavity ps ms p a → lowest.IsInLowestCavity (lifted ps) ps ms p a
  in_of _ (row_in t d n) = lowest.row_in t (low t d) (λ a. n (outside t d a))
  in_of _ (ghost_in f h s) = lowest.ghost_in f (hull_of ps ms new.within f h) (sees_of f h.behind h.is_row s)

  pub in_from : (a : RowOrGhost) → lowest.IsInLowestCavity (lifted ps) ps ms p a → IsInCavity ps ms p a
  in_from _ (lowest.row_in t l n) = let d = row t l in row_in t d (λ o. n (above t d o))
  in_from _ (lowest.ghost_in f h s) = let k = hull_from ps ms new.within f h in ghost_in f k (sees_from f k.behind k.is_row s)

  pub joined_from : (a b : RowOrGhost) → lowest.AreLowestPlacesJoined (lifted ps) ps ms p a b → ArePlacesJoined ps ms p a b
  joined_from a _ (lowest.joined_self _) = joined_self a
  joined_from a c (lowest.joined_by _ b _ touch k j) = joined_by a b c touch (in_from b k) (joined_from b c j)
