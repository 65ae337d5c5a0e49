-- Each rational point is in the hull of points or beyond it: one tries all fours of them.
use Rattle.std.proofs.Common.{◌≡◌, ◌⊎◌, inl, inr, ℤ, pos, neg_ℤ, ◌<ℤ◌, ◌≤ℤ◌, List, [], ◌∷◌, arith}
use Rattle.std.proofs.lemmas.Int.{ints}
use Rattle.exact_algebra.proofs.Signs.{sign_of}
use Rattle.sign_predicates.specs.Point.{Point, RationalPoint}
use Rattle.sign_predicates.specs.Orientation.{volume, side_rational, InClosed, IsPositive}
use Rattle.geo_laws.specs.Delaunay.{corners}
use Rattle.geo_laws.specs.Hull.{InHullAmong}
use Rattle.geo_laws.specs.Laws.{HullLaw}
use Rattle.geo_laws.specs.declared.tetrahedra.Tet.{Tet}
use Rattle.sign_predicates.proofs.Places.{Place, opposite}
use Rattle.geo_laws.proofs.Places.{each_or_not, at_face, all_faces}
use Rattle.geo_laws.proofs.Members.{IsMember, here, there}
use Rattle.geo_laws.proofs.Corners.{corner_among, among_of_corners}
use Rattle.geo_laws.proofs.Heights.{above_or_not, both_or_not, all_fours, in_all_fours, of_all_fours}

-- a number is at least 0 or not
nonneg_or_not : (n : ℤ) → (pos 0 ≤ℤ n) ⊎ ¬ (pos 0 ≤ℤ n)
nonneg_or_not n = go (sign_of n)
  where
    go : (pos 0 <ℤ n) ⊎ ((n ≡ pos 0) ⊎ (pos 0 <ℤ neg_ℤ n)) → (pos 0 ≤ℤ n) ⊎ ¬ (pos 0 ≤ℤ n)
    go (inl h) = inl (omega (arith, ints))
    go (inr (inl e)) = inl (omega (arith, ints))
    go (inr (inr h)) = inr (λ k. omega (arith, ints))

-- the closed positive tetrahedron holds x, or not
record HoldsClosed (ps : List Point) (x : RationalPoint) (t : Tet) : Type 0 where
  positive : IsPositive (corners ps t)
  closed : InClosed (corners ps t) x

closed_or_not : (ps : List Point) (x : RationalPoint) (t : Tet) → HoldsClosed ps x t ⊎ ¬ HoldsClosed ps x t
closed_or_not ps x t = go (both_or_not (above_or_not (volume (corners ps t))) (each_or_not (λ u. pos 0 ≤ℤ side_rational (opposite (corners ps t) u) x) (λ u. nonneg_or_not (side_rational (opposite (corners ps t) u) x))))
  where
    go : ((pos 0 <ℤ volume (corners ps t)) × ((u : Place) → pos 0 ≤ℤ side_rational (opposite (corners ps t) u) x)) ⊎ ¬ ((pos 0 <ℤ volume (corners ps t)) × ((u : Place) → pos 0 ≤ℤ side_rational (opposite (corners ps t) u) x))
        → HoldsClosed ps x t ⊎ ¬ HoldsClosed ps x t
    go (inl h) = inl (record { positive = h.0; closed = all_faces (λ f. pos 0 ≤ℤ side_rational f x) (corners ps t) h.1 })
    go (inr n) = inr (λ h. n (h.positive, at_face (λ f. pos 0 ≤ℤ side_rational f x) (corners ps t) h.closed))

-- some element has the property, or none
some_or_none : {X : Type 0} (P : X → Type 0) → ((x : X) → P x ⊎ ¬ P x) → (xs : List X) → ((x : X) × IsMember x xs × P x) ⊎ ((x : X) → IsMember x xs → ¬ P x)
some_or_none P dec [] = inr (λ x m. elim m [ ])
some_or_none P dec (y ∷ xs) = go (dec y) (some_or_none P dec xs)
  where
    none : ¬ P y → ((x : _) → IsMember x xs → ¬ P x) → (x : _) → IsMember x (y ∷ xs) → ¬ P x
    none n rest x here = n
    none n rest x (there m) = rest x m

    go : P y ⊎ ¬ P y → ((x : _) × IsMember x xs × P x) ⊎ ((x : _) → IsMember x xs → ¬ P x) → ((x : _) × IsMember x (y ∷ xs) × P x) ⊎ ((x : _) → IsMember x (y ∷ xs) → ¬ P x)
    go (inl p) rest = inl (y, here, p)
    go (inr n) (inl r) = inl (r.0, there r.1, r.2)
    go (inr n) (inr rest) = inr (none n rest)

-- each of the fours among the numbers is one of `all_fours`, and those are among the numbers
pub law_hull : HullLaw
law_hull ps ms x = go (some_or_none (λ t. HoldsClosed ps x t) (closed_or_not ps x) (all_fours ms))
  where
    go : ((t : Tet) × IsMember t (all_fours ms) × HoldsClosed ps x t) ⊎ ((t : Tet) → IsMember t (all_fours ms) → ¬ HoldsClosed ps x t) → InHullAmong ps ms x ⊎ ¬ InHullAmong ps ms x
    go (inl r) = inl (record { row = r.0; is_on = among_of_corners ms r.0 (of_all_fours ms r.0 r.1); is_positive = r.2.positive; holds = r.2.closed })
    go (inr none) = inr (λ h. none h.row (in_all_fours ms h.row (corner_among ms h.row h.is_on)) (record { positive = h.is_positive; closed = h.holds }))
