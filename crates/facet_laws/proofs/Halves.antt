-- Points of half spaces.
use Rattle.std.proofs.Common.{ℕ, pos, ◌<ℤ◌, ◌≤ℤ◌, List, [], ◌∷◌}
use Rattle.sign_predicates.specs.Point.{Point, RationalPoint}
use Rattle.sign_predicates.specs.Orientation.{Triangle, side, side_rational}
use Rattle.geo_laws.specs.Delaunay.{point}
use Rattle.geo_laws.proofs.Members.{IsMember, here, there}
use Rattle.facet_laws.proofs.FlatHull.{InHullOf}
use Rattle.facet_laws.proofs.Insides.{side-least}

-- the half space of a triangle's plane has the corner
abbrev pub Has : List Point → Triangle → ℕ → Type 0
Has ps g i = pos 0 ≤ℤ side g (point ps i)

-- a point in a triangle on three points of the half space
pub between_three : (ps : List Point) (f g : Triangle) (x : RationalPoint) → pos 0 <ℤ x.w → InHullOf (Has ps g) ps f x → pos 0 ≤ℤ side_rational g x
between_three ps f g x w h = side-least ps g (h.a ∷ h.b ∷ h.c ∷ []) h.holds.0 x w h.holds.1 each
  where
    each : (i : ℕ) → IsMember i (h.a ∷ h.b ∷ h.c ∷ []) → pos 0 ≤ℤ side g (point ps i)
    each i here = h.on_a.below
    each i (there here) = h.on_b.below
    each i (there (there here)) = h.on_c.below
    each i (there (there (there m))) = elim m [ ]
