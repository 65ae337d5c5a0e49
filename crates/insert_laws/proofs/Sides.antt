-- On each side of a face of a tetrahedron stands one place, of the cavity or clear: a tetrahedron by the rule for above, a ghost by what the new point sees.
use Rattle.std.proofs.Common.{◌≡◌, ◌⊎◌, inl, inr, ℕ, pos, neg_ℤ, ◌<ℤ◌, ℤ, List, length, refl, subst, sym}
use Rattle.exact_algebra.proofs.Signs.{sign_of, pos_not_zero, pos_not_neg, neg_of_negated}
use Rattle.sign_predicates.specs.Point.{Point}
use Rattle.sign_predicates.specs.Orientation.{side}
use Rattle.geo_laws.specs.Height.{residual_at, places}
use Rattle.geo_laws.proofs.Lexicographic.{IsZeroAt, IsLexAbove, IsLexBelow, lex_sign_of, above_not_zero, not_both}
use Rattle.geo_laws.specs.Delaunay.{point, AreNumbersOf}
use Rattle.geo_laws.specs.Height.{IsLowestAmong}
use Rattle.geo_laws.specs.declared.tetrahedra.Tet.{Tet}
use Rattle.geo_laws.specs.OrientedFace.{Face, triangle, reversed}
use Rattle.insert_laws.specs.LowestInsertion.{IsFaceOf, IsLowestHullFace, HasNoneAmongBeyond, HasAbove, LowestSees, IsLowestCavityPlace, cavity_row, cavity_ghost, IsLowestClearPlace, clear_row, clear_ghost, LowestPlaceLaw}
use Rattle.insert_laws.proofs.LowestInsert.{law_face_pairing, law_one_row}
use Rattle.insert_laws.proofs.LowestLists.{law_hull_face}

-- p is lifted above a tetrahedron or not
pub above_or_not : (lifts : ℕ → ℤ) (ps : List Point) (t : Tet) (p : ℕ) → HasAbove lifts ps t p ⊎ ¬ HasAbove lifts ps t p
above_or_not lifts ps t p = go (lex_sign_of (residual_at ps lifts t p) (places (length ps)))
  where
    go : IsLexAbove (residual_at ps lifts t p) (places (length ps)) ⊎ (IsZeroAt (residual_at ps lifts t p) (places (length ps)) ⊎ IsLexBelow (residual_at ps lifts t p) (places (length ps)))
        → HasAbove lifts ps t p ⊎ ¬ HasAbove lifts ps t p
    go (inl a) = inl a
    go (inr (inl z)) = inr (λ a. above_not_zero (residual_at ps lifts t p) (places (length ps)) a z)
    go (inr (inr b)) = inr (λ a. not_both (residual_at ps lifts t p) (places (length ps)) a b)

-- p sees a face or not
sees_or_not : (lifts : ℕ → ℤ) (ps : List Point) (p : ℕ) (f : Face) (t : Tet) → LowestSees lifts ps p f t ⊎ ¬ LowestSees lifts ps p f t
sees_or_not lifts ps p f t = go (sign_of (side (triangle ps f) (point ps p))) (above_or_not lifts ps t p)
  where
    below : pos 0 <ℤ neg_ℤ (side (triangle ps f) (point ps p)) → LowestSees lifts ps p f t → ⊥
    below h (inl k) = pos_not_neg _ k (neg_of_negated _ h)
    below h (inr k) = pos_not_zero _ (subst (λ n. pos 0 <ℤ neg_ℤ n) k.0 h) refl

    on : side (triangle ps f) (point ps p) ≡ pos 0 → HasAbove lifts ps t p → LowestSees lifts ps p f t → ⊥
    on e o (inl k) = pos_not_zero _ k e
    on e o (inr k) = k.1 o

    go : (pos 0 <ℤ side (triangle ps f) (point ps p)) ⊎ ((side (triangle ps f) (point ps p) ≡ pos 0) ⊎ (pos 0 <ℤ neg_ℤ (side (triangle ps f) (point ps p)))) → HasAbove lifts ps t p ⊎ ¬ HasAbove lifts ps t p → LowestSees lifts ps p f t ⊎ ¬ LowestSees lifts ps p f t
    go (inl h) _ = inl (inl h)
    go (inr (inl e)) (inl o) = inr (on e o)
    go (inr (inl e)) (inr n) = inl (inr (e, n))
    go (inr (inr h)) _ = inr (below h)

-- a tetrahedron is of the cavity or clear
row_place_of : (lifts : ℕ → ℤ) (ps : List Point) (ms : List ℕ) (p : ℕ) (f : Face) (t : Tet) → IsLowestAmong ps ms lifts t → IsFaceOf ps f t → IsLowestCavityPlace lifts ps ms p f ⊎ IsLowestClearPlace lifts ps ms p f
row_place_of lifts ps ms p f t d face = go (above_or_not lifts ps t p)
  where
    go : HasAbove lifts ps t p ⊎ ¬ HasAbove lifts ps t p → IsLowestCavityPlace lifts ps ms p f ⊎ IsLowestClearPlace lifts ps ms p f
    go (inl o) = inr (clear_row t d face o)
    go (inr n) = inl (cavity_row t d face n)

-- and so is a ghost
ghost_place_of : (lifts : ℕ → ℤ) (ps : List Point) (ms : List ℕ) (p : ℕ) (f : Face) → IsLowestHullFace lifts ps ms f → IsLowestCavityPlace lifts ps ms p f ⊎ IsLowestClearPlace lifts ps ms p f
ghost_place_of lifts ps ms p f h = go (sees_or_not lifts ps p f h.behind)
  where
    go : LowestSees lifts ps p f h.behind ⊎ ¬ LowestSees lifts ps p f h.behind → IsLowestCavityPlace lifts ps ms p f ⊎ IsLowestClearPlace lifts ps ms p f
    go (inl s) = inl (cavity_ghost h s)
    go (inr n) = inr (clear_ghost h n)

-- behind a hull face is one tetrahedron, and before it none
same_behind : (lifts : ℕ → ℤ) (ps : List Point) (ms : List ℕ) → AreNumbersOf ps ms → (f : Face) (h k : IsLowestHullFace lifts ps ms f) → h.behind ≡ k.behind
same_behind lifts ps ms within f h k = law_one_row lifts ps ms within (reversed f) h.behind k.behind h.is_row h.is_face k.is_row k.is_face

no_row : (lifts : ℕ → ℤ) (ps : List Point) (ms : List ℕ) → AreNumbersOf ps ms → (f : Face) → IsLowestHullFace lifts ps ms f → (t : Tet) → IsLowestAmong ps ms lifts t → IsFaceOf ps f t → ⊥
no_row lifts ps ms within f h t d face = (law_hull_face lifts ps ms within f h.behind h.is_row h.is_face).0 h t d face

pub law_place : LowestPlaceLaw
law_place lifts ps ms p new = record { decided = decided; exclusive = exclusive }
  where
    decided : (f : Face) (t : Tet) → IsLowestAmong ps ms lifts t → IsFaceOf ps f t ⊎ IsFaceOf ps (reversed f) t → IsLowestCavityPlace lifts ps ms p f ⊎ IsLowestClearPlace lifts ps ms p f
    decided f t d (inl face) = row_place_of lifts ps ms p f t d face
    decided f t d (inr face) = across (law_face_pairing lifts ps ms new.within f t d face)
      where
        across : HasNoneAmongBeyond ps ms f ⊎ ((s : Tet) × IsLowestAmong ps ms lifts s × IsFaceOf ps f s) → IsLowestCavityPlace lifts ps ms p f ⊎ IsLowestClearPlace lifts ps ms p f
        across (inl none) = ghost_place_of lifts ps ms p f (record { behind = t; is_row = d; is_face = face; none_beyond = none })
        across (inr s) = row_place_of lifts ps ms p f s.0 s.1 s.2

    exclusive : (f : Face) → IsLowestCavityPlace lifts ps ms p f → IsLowestClearPlace lifts ps ms p f → ⊥
    exclusive f (cavity_row s d face n) (clear_row t e face' o) = n (subst (λ r. HasAbove lifts ps r p) (sym (law_one_row lifts ps ms new.within f s t d face e face')) o)
    exclusive f (cavity_row s d face n) (clear_ghost h m) = no_row lifts ps ms new.within f h s d face
    exclusive f (cavity_ghost h s) (clear_row t e face o) = no_row lifts ps ms new.within f h t e face
    exclusive f (cavity_ghost h s) (clear_ghost k m) = m (subst (LowestSees lifts ps p f) (same_behind lifts ps ms new.within f h k) s)
