-- The corners of a tetrahedron of a list of points, by their numbers.
use Rattle.std.proofs.Common.{◌≡◌, ◌≢◌, ◌⊎◌, inl, inr, ℕ, zero, suc, ◌<◌, pos, true, List, [], ◌∷◌, length, refl, ap, sym, subst, ◌∙◌, arith, eq-eqb}
use Rattle.std.specs.Prelude.{Contains, ◌==◌}
use Rattle.std.specs.List.{slice_index_or}
use Rattle.exact_algebra.proofs.Signs.{pos_not_zero}
use Rattle.sign_predicates.specs.Point.{Point}
use Rattle.sign_predicates.specs.Orientation.{volume, side, IsPositive}
use Rattle.geo_laws.specs.Delaunay.{point, corners, numbers, numbers_below, all_numbers, IsOn, IsAmong, AreNumbersOf}
use Rattle.geo_laws.specs.Simplex.{has_number}
use Rattle.geo_laws.specs.declared.tetrahedra.Tet.{Tet}
use Rattle.geo_laws.proofs.Members.{IsMember, here, there, contains_of, member_of, in_range, range_bounds, any_true}
use Rattle.sign_predicates.proofs.Places.{Place, A, B, C, D, IsOther, opposite, side-own, side-other}
use Rattle.geo_laws.proofs.Places.{number, corner-point}

-- i is the number of a corner
abbrev pub IsCorner : Tet → ℕ → Type 0
IsCorner t i = (u : Place) × (i ≡ number t u)

corner_at : (t : Tet) (i k : ℕ) → k < 4 → slice_index_or (numbers t) k i ≡ i → IsCorner t i
corner_at t i zero h e = (A, sym e)
corner_at t i (suc zero) h e = (B, sym e)
corner_at t i (suc (suc zero)) h e = (C, sym e)
corner_at t i (suc (suc (suc zero))) h e = (D, sym e)
corner_at t i (suc (suc (suc (suc k)))) h e = absurd (omega arith)

-- a number of the list is that of a corner
pub corner_of : (t : Tet) (i : ℕ) → Contains (numbers t) i → IsCorner t i
corner_of t i c = corner_at t i c.0 c.1 c.2

-- and each corner has its number there
pub member_corner : (t : Tet) (u : Place) → IsMember (number t u) (numbers t)
member_corner t A = here
member_corner t B = there here
member_corner t C = there (there here)
member_corner t D = there (there (there here))

pub contains_corner : (t : Tet) (i : ℕ) → IsCorner t i → Contains (numbers t) i
contains_corner t i c = subst (Contains (numbers t)) (sym c.1) (contains_of (numbers t) (number t c.0) (member_corner t c.0))

-- the number of no corner
pub no_corner : (t : Tet) (i : ℕ) → ¬ Contains (numbers t) i → (u : Place) → number t u ≢ i
no_corner t i n u e = n (contains_corner t i (u, sym e))

-- ---- whether a number stands in a list

-- two numbers are the same or not
pub same_or_not : (m n : ℕ) → (m ≡ n) ⊎ (m ≢ n)
same_or_not zero zero = inl refl
same_or_not zero (suc n) = inr (λ e. omega arith)
-- two numbers are the same or not
same_or_not (suc m) zero = inr (λ e. omega arith)
-- two numbers are the same or not
same_or_not (suc m) (suc n) = go (same_or_not m n)
  where
    go : (m ≡ n) ⊎ (m ≢ n) → (suc m ≡ suc n) ⊎ (suc m ≢ suc n)
    go (inl e) = inl (ap suc e)
    go (inr d) = inr (λ e. d (omega arith))

-- a number stands in a list or not
pub contains_or_not : (s : List ℕ) (i : ℕ) → Contains s i ⊎ ¬ Contains s i
contains_or_not [] i = inr (λ c. let h = c.1 in omega arith)
-- a number stands in a list or not
contains_or_not (j ∷ s) i = go (same_or_not j i) (contains_or_not s i)
  where
    none : j ≢ i → ¬ Contains s i → (k : ℕ) → k < length (j ∷ s) → slice_index_or (j ∷ s) k i ≡ i → ⊥
    none n m zero h e = n e
    none n m (suc k) h e = m (k, omega arith, e)

    go : (j ≡ i) ⊎ (j ≢ i) → Contains s i ⊎ ¬ Contains s i → Contains (j ∷ s) i ⊎ ¬ Contains (j ∷ s) i
    go (inl e) m = inl (0, omega arith, e)
    go (inr n) (inl c) = inl (suc c.0, (let h = c.1 in omega arith), c.2)
    go (inr n) (inr m) = inr (λ c. none n m c.0 c.1 c.2)

-- a number is that of a corner or not
pub corner_or_not : (t : Tet) (i : ℕ) → IsCorner t i ⊎ ¬ Contains (numbers t) i
corner_or_not t i = go (contains_or_not (numbers t) i)
  where
    go : Contains (numbers t) i ⊎ ¬ Contains (numbers t) i → IsCorner t i ⊎ ¬ Contains (numbers t) i
    go (inl c) = inl (corner_of t i c)
    go (inr n) = inr n

-- the test finds a number that stands in the list
pub found : (s : List ℕ) (i : ℕ) → Contains s i → has_number s i ≡ true
found s i c = any_true (λ j. j == i) s i (member_of s i c) (eq-eqb i i refl)

-- ---- the corners of a positive tetrahedron have different numbers

abbrev pub AreDistinct : Tet → Type 0
AreDistinct t = (u v : Place) → IsOther u v → number t u ≢ number t v

-- else the volume would be the side of a corner at the face opposite another, which is 0
pub distinct : (ps : List Point) (t : Tet) → IsPositive (corners ps t) → AreDistinct t
distinct ps t p u v o e =
    let c = corners ps t in
    pos_not_zero (volume c) p (sym (side-own c u) ∙ ap (side (opposite c u)) (corner-point ps t u ∙ ap (point ps) e ∙ sym (corner-point ps t v)) ∙ side-other c u v o)

-- ---- the numbers below n

-- a number below n is one of them
pub contains_below : (n i : ℕ) → i < n → Contains (numbers_below n) i
contains_below n i h = contains_of (numbers_below n) i (in_range 0 n i (omega arith) (omega arith))

-- and each of them is below n
pub below_of : (n i : ℕ) → Contains (numbers_below n) i → i < n
below_of n i c = let r = range_bounds 0 n i (member_of (numbers_below n) i c) in let h = r.1 in omega arith

-- the numbers of all the points are those of points
pub all_within : (ps : List Point) → AreNumbersOf ps (all_numbers ps)
all_within ps = below_of (length ps)

-- ---- tetrahedra on numbers

-- the corners of a tetrahedron on numbers are among them
pub corner_among : (ms : List ℕ) (t : Tet) → IsAmong ms t → (u : Place) → Contains ms (number t u)
corner_among ms t on u = on (number t u) (contains_corner t (number t u) (u, refl))

pub member_among : (ms : List ℕ) (t : Tet) → IsAmong ms t → (i : ℕ) → IsMember i (numbers t) → Contains ms i
member_among ms t on i m = on i (contains_of (numbers t) i m)

-- and it is on them where its corners are among them
pub among_of_corners : (ms : List ℕ) (t : Tet) → ((u : Place) → Contains ms (number t u)) → IsAmong ms t
among_of_corners ms t h i c = let k = corner_of t i c in subst (Contains ms) (sym k.1) (h k.0)

-- a tetrahedron whose corners are points is on the points
pub on_of_corners : (ps : List Point) (t : Tet) → ((u : Place) → number t u < length ps) → IsOn ps t
on_of_corners ps t below zero e l = below A
on_of_corners ps t below (suc zero) e l = below B
on_of_corners ps t below (suc (suc zero)) e l = below C
on_of_corners ps t below (suc (suc (suc zero))) e l = below D
on_of_corners ps t below (suc (suc (suc (suc k)))) e l = absurd (omega arith)

pub on_of_among : (ps : List Point) (ms : List ℕ) (t : Tet) → AreNumbersOf ps ms → IsAmong ms t → IsOn ps t
on_of_among ps ms t within on = on_of_corners ps t (λ u. within (number t u) (corner_among ms t on u))

-- each of its corners is a point
pub on_corner : (ps : List Point) (t : Tet) → IsOn ps t → (u : Place) → number t u < length ps
on_corner ps t on A = on 0 0 (omega arith)
on_corner ps t on B = on 1 0 (omega arith)
on_corner ps t on C = on 2 0 (omega arith)
on_corner ps t on D = on 3 0 (omega arith)

-- ---- the sides of a tetrahedron's own points

-- the point of a corner has the volume as its side at the face opposite
pub side-own_point : (ps : List Point) (t : Tet) (u : Place) → side (opposite (corners ps t) u) (point ps (number t u)) ≡ volume (corners ps t)
side-own_point ps t u = ap (side (opposite (corners ps t) u)) (sym (corner-point ps t u)) ∙ side-own (corners ps t) u

-- and lies on the other faces
pub side-other_point : (ps : List Point) (t : Tet) (u v : Place) → IsOther u v → side (opposite (corners ps t) u) (point ps (number t v)) ≡ pos 0
side-other_point ps t u v o = ap (side (opposite (corners ps t) u)) (sym (corner-point ps t v)) ∙ side-other (corners ps t) u v o
