-- Ties: a point on the sphere through the corners of a tetrahedron is outside or not by rising number.
use Rattle.std.specs.Prelude.{◌≡◌, ◌≢◌, ℕ, ℤ, pos, Bool, true, false, int_lt, nat_lt, if◌then◌else◌}
use Rattle.std.specs.Prelude.{List, [], ◌∷◌, map, Option, Some, None, AllPairs}
use Rattle.sign_predicates.specs.Point.{Point}
use Rattle.sign_predicates.specs.Orientation.{side}
use Rattle.sign_predicates.specs.declared.tetrahedron.Corners.{Corners}
use Rattle.sign_predicates.specs.declared.tetrahedron.Numbers.{Numbers}
use Rattle.sign_predicates.specs.Sphere.{in_sphere, opposite_faces, is_outside}

-- the number of a point, and how that point decides: for outside, against it, or not at all
abbrev pub Decision : Type 0
Decision = ℕ × Option Bool

-- A corner decides by the side of its opposite face on which e lies, which is above 0 on the corner's side: for outside where e is strictly
-- beyond the face, against it where e is strictly on the corner's side, and not at all where e is on the face's plane.
abbrev pub decision_of : ℤ → Option Bool
decision_of s = if int_lt s (pos 0) then Some true else (if int_lt (pos 0) s then Some false else None)

-- the five points: e, with the number m, decides for outside, and each corner decides by its face
abbrev pub decisions : Corners → Numbers → Point → ℕ → List Decision
decisions t n e m = (m, Some true) ∷ map (λ f. (f.0, decision_of (side f.1 e))) (opposite_faces t n)

-- the point put before the first one with a number that is not less
abbrev pub put_by_number : Decision → List Decision → List Decision
put_by_number d [] = d ∷ []
put_by_number d (x ∷ xs) = if nat_lt x.0 d.0 then x ∷ put_by_number d xs else d ∷ x ∷ xs

-- the points by rising number
abbrev pub by_rising_number : List Decision → List Decision
by_rising_number [] = []
by_rising_number (d ∷ ds) = put_by_number d (by_rising_number ds)

-- the first point that decides
abbrev pub first_decision : List Decision → Bool
first_decision [] = false
first_decision ((number, Some outside) ∷ ds) = outside
first_decision ((number, None) ∷ ds) = first_decision ds

-- whether e is outside of the positive tetrahedron t: below 0 the sphere's sum says yes, above 0 it says no, and at 0 the five points
-- are taken by rising number
abbrev pub is_outside_by_rising_number : Corners → Numbers → Point → ℕ → Bool
is_outside_by_rising_number t n e m =
    let sum = in_sphere t e in
    let tie = first_decision (by_rising_number (decisions t n e m)) in
    if int_lt sum (pos 0) then true else (if int_lt (pos 0) sum then false else tie)

-- the five numbers differ
abbrev pub AreFiveDifferent : Numbers → ℕ → Type 0
AreFiveDifferent n m = AllPairs (λ i j. i ≢ j) (m ∷ n.a ∷ n.b ∷ n.c ∷ n.d ∷ [])

-- The rule of least numbers, by which a program needs no sorting, is the rule by rising number.
abbrev pub TieLaw : Type 0
TieLaw = (t : Corners) (n : Numbers) (e : Point) (m : ℕ) → AreFiveDifferent n m → is_outside t n e m ≡ is_outside_by_rising_number t n e m
