-- General position near a point of a tetrahedron: by the nudge law there is a rational point strictly inside it and off all planes through three of
-- the points, which lies on the side of x of each plane that doesn't hold x.
use Rattle.std.proofs.Common.{◌≡◌, ◌⊎◌, inl, inr, ℕ, pos, ◌<ℤ◌, ◌≤ℤ◌, List, [], ◌∷◌, map}
use Rattle.std.specs.Prelude.{Contains, flat_map}
use Rattle.std.specs.List.{AllByRecursion}
use Rattle.exact_algebra.proofs.Signs.{zero_or_not, nonneg_of_pos}
use Rattle.sign_predicates.specs.Point.{Point, RationalPoint}
use Rattle.sign_predicates.specs.Orientation.{Triangle, normal, side_rational, IsPositive, StrictlyInside, InClosed, SpansPlane}
use Rattle.sign_predicates.specs.declared.tetrahedron.Corners.{Corners}
use Rattle.geo_laws.specs.Laws.{KeepsSide, plane_through}
use Rattle.geo_laws.proofs.Places.{at_face, all_faces}
use Rattle.geo_laws.proofs.Members.{IsMember, here, there, in_flat_map, in_map, member_of}
use Rattle.geo_laws.proofs.Nudge.{law_nudge}

-- ---- all planes through three of the points

-- a triangle spans a plane or not
spans_or_not : (f : Triangle) → SpansPlane f ⊎ ¬ SpansPlane f
spans_or_not f = go (zero_or_not (normal f).x) (zero_or_not (normal f).y) (zero_or_not (normal f).z)
  where
    go : ((normal f).x ≡ pos 0) ⊎ ¬ ((normal f).x ≡ pos 0) → ((normal f).y ≡ pos 0) ⊎ ¬ ((normal f).y ≡ pos 0) → ((normal f).z ≡ pos 0) ⊎ ¬ ((normal f).z ≡ pos 0)
        → SpansPlane f ⊎ ¬ SpansPlane f
    go (inr h) _ _ = inl (λ z. h z.0)
    go (inl x) (inr h) _ = inl (λ z. h z.1)
    go (inl x) (inl y) (inr h) = inl (λ z. h z.2)
    go (inl x) (inl y) (inl z) = inr (λ s. s (x, y, z))

-- those that span a plane
kept : (f : Triangle) → SpansPlane f ⊎ ¬ SpansPlane f → List Triangle → List Triangle
kept f (inl s) fs = f ∷ fs
kept f (inr n) fs = fs

planes : List Triangle → List Triangle
planes [] = []
planes (f ∷ fs) = kept f (spans_or_not f) (planes fs)

-- each of these spans a plane
planes_span : (fs : List Triangle) → AllByRecursion SpansPlane (planes fs)
unfolding planes kept
planes_span [] = tt
-- each of these spans a plane
planes_span (f ∷ fs) = go (spans_or_not f) (planes_span fs)
  where
    go : (s : SpansPlane f ⊎ ¬ SpansPlane f) → AllByRecursion SpansPlane (planes fs) → AllByRecursion SpansPlane (kept f s (planes fs))
    go (inl s) r = (s, r)
    go (inr n) r = r

-- and each that does is one of these
in_planes : (f : Triangle) (fs : List Triangle) → IsMember f fs → SpansPlane f → IsMember f (planes fs)
unfolding planes kept
in_planes f [] m s = elim m [ ]
in_planes f (g ∷ fs) here s = go (spans_or_not g) s
  where
    go : (q : SpansPlane g ⊎ ¬ SpansPlane g) → SpansPlane g → IsMember g (kept g q (planes fs))
    go (inl q) s = here
    go (inr n) s = absurd (n s)
in_planes f (g ∷ fs) (there m) s = go (spans_or_not g) (in_planes f fs m s)
  where
    go : (q : SpansPlane g ⊎ ¬ SpansPlane g) → IsMember f (planes fs) → IsMember f (kept g q (planes fs))
    go (inl q) r = there r
    go (inr n) r = r

-- what holds of all holds of each member
all_at : {A : Type 0} (P : A → Type 0) (x : A) (xs : List A) → AllByRecursion P xs → IsMember x xs → P x
all_at P x [] h m = elim m [ ]
all_at P x (y ∷ xs) h here = h.0
all_at P x (y ∷ xs) h (there m) = all_at P x xs h.1 m

-- all triangles on the numbers
triangles : List Point → List ℕ → List Triangle
triangles ps ms = flat_map (λ i. flat_map (λ j. map (λ k. plane_through ps i j k) ms) ms) ms

in_triangles : (ps : List Point) (ms : List ℕ) (i j k : ℕ) → Contains ms i → Contains ms j → Contains ms k → IsMember (plane_through ps i j k) (triangles ps ms)
unfolding triangles
in_triangles ps ms i j k hi hj hk =
    in_flat_map (λ i. flat_map (λ j. map (λ k. plane_through ps i j k) ms) ms) i (plane_through ps i j k) ms (member_of ms i hi)
    (in_flat_map (λ j. map (λ k. plane_through ps i j k) ms) j (plane_through ps i j k) ms (member_of ms j hj)
    (in_map (λ k. plane_through ps i j k) k ms (member_of ms k hk)))

-- ---- the point near x

pub record Near (ps : List Point) (ms : List ℕ) (t : Corners) (x : RationalPoint) : Type 0 where
  pub near : RationalPoint
  pub w : pos 0 <ℤ near.w
  pub strictly : StrictlyInside t near
  pub keeps : (i j k : ℕ) → Contains ms i → Contains ms j → Contains ms k → SpansPlane (plane_through ps i j k) → KeepsSide x near (plane_through ps i j k)

pub near_point : (ps : List Point) (ms : List ℕ) (t : Corners) (x : RationalPoint) → IsPositive t → pos 0 <ℤ x.w → InClosed t x → Near ps ms t x
near_point ps ms t x p w closed =
    let fs = triangles ps ms in
    let y = law_nudge t p (planes fs) (planes_span fs) x w closed in
    record {
      near = y.0;
      w = y.1;
      strictly = y.2.0;
      keeps = λ i j k a b c s. all_at (KeepsSide x y.0) (plane_through ps i j k) (planes fs) y.2.1 (in_planes (plane_through ps i j k) fs (in_triangles ps ms i j k a b c) s);
    }

-- what is strictly inside is in the closed tetrahedron
pub closed_of : (t : Corners) (x : RationalPoint) → StrictlyInside t x → InClosed t x
closed_of t x h = all_faces (λ f. pos 0 ≤ℤ side_rational f x) t (λ u. nonneg_of_pos _ (at_face (λ f. pos 0 <ℤ side_rational f x) t h u))
