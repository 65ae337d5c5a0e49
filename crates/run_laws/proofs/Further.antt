-- The further corner of a row across a common face.
use Rattle.std.proofs.Common.{◌≡◌, inl, inr, ℕ, zero, suc, ◌<◌, ℤ, pos, ◌<ℤ◌, ◌≤ℤ◌, Bool, true, not, ◌&&◌, ◌||◌, List, refl, ap, subst, ◌∙◌, arith}
use Rattle.std.specs.Prelude.{int_lt, int_le, filter}
use Rattle.std.proofs.lemmas.Int.{ints}
use Rattle.std.proofs.lemmas.Bool.{cases_Bool}
use Rattle.sign_predicates.specs.Point.{Point}
use Rattle.sign_predicates.specs.Orientation.{side, volume, IsPositive}
use Rattle.sign_predicates.specs.Sphere.{in_sphere, wins_tie}
use Rattle.geo_laws.specs.Delaunay.{point, corners, numbers, as_numbers, is_outside_of}
use Rattle.geo_laws.specs.Mesh.{IsOutsideOf}
use Rattle.geo_laws.specs.OrientedFace.{triangle}
use Rattle.geo_laws.specs.Simplex.{has_number}
use Rattle.geo_laws.specs.declared.tetrahedra.Tet.{Tet}
use Rattle.geo_laws.proofs.Members.{IsMember, here, there, contains_of, in_filter, both_true, either_true}
use Rattle.geo_laws.proofs.Simplices.{member_of_test}
use Rattle.crossing_laws.proofs.Corners.{corner_of}
use Rattle.crossing_laws.proofs.Meet.{face_of, side_own}
use Rattle.crossing_laws.proofs.Tests.{lt_of, le_of}
use Rattle.crossing_laws.specs.Crossing.{faces_of, LieApart}
use Rattle.mesh_check.specs.Corners.{point_in, IsShared}
use Rattle.run_laws.proofs.Opposed.{beside_at, beyond_at}

-- the face is one of the row's
beside_member : (t : Tet) (p : ℕ) → p < 4 → IsMember (beside_at t p) (faces_of t)
beside_member t zero h = here
beside_member t (suc zero) h = there here
beside_member t (suc (suc zero)) h = there (there here)
beside_member t (suc (suc (suc zero))) h = there (there (there here))
beside_member t (suc (suc (suc (suc k)))) h = absurd (omega arith)

number_member : (t : Tet) (q : ℕ) → q < 4 → IsMember (point_in t q) (numbers t)
number_member t zero h = here
number_member t (suc zero) h = there here
number_member t (suc (suc zero)) h = there (there here)
number_member t (suc (suc (suc zero))) h = there (there (there here))
number_member t (suc (suc (suc (suc k)))) h = absurd (omega arith)

not_zero : (a : ℤ) → a ≡ pos 0 → a <ℤ pos 0 → ⊥
not_zero a e h = omega (arith, ints)

not_volume : (a v : ℤ) → a ≡ v → pos 0 <ℤ v → a <ℤ pos 0 → ⊥
not_volume a v e p h = omega (arith, ints)

-- it is no corner of the first row, as it lies beyond a face of that
not_own : (ps : List Point) (s t : Tet) (p q : ℕ) → IsPositive (corners ps s) → LieApart ps s t → IsShared s t p q → ¬ IsMember (point_in t q) (numbers s)
not_own ps s t p q positive apart shared m =
    let f = beside_at s p in
    let of = face_of ps s f (beside_member s p shared.corner) in
    let beyond = beyond_at ps s t p q apart shared in
    elim (of.others (point_in t q) (corner_of s (point_in t q) (contains_of (numbers s) (point_in t q) m))) [
      | inl e ↦ not_volume _ (volume (corners ps s)) (ap (λ (i : ℕ). side (triangle ps f) (point ps i)) e ∙ of.at_apex) positive beyond
      | inr on ↦ not_zero _ (side_own ps f (point_in t q) on) beyond
    ]

below_le : (z : ℤ) → z <ℤ pos 0 → z ≤ℤ pos 0
below_le z h = omega (arith, ints)

-- what is outside is not strictly inside
outside_le : (z : ℤ) (w : Bool) → (int_lt z (pos 0) || int_le z (pos 0) && w) ≡ true → z ≤ℤ pos 0
outside_le z w h =
    elim (either_true (int_lt z (pos 0)) (int_le z (pos 0) && w) h) [
      | inl lt ↦ below_le z (lt_of z (pos 0) lt)
      | inr both ↦ le_of z (pos 0) (both_true (int_le z (pos 0)) w both).0
    ]

pub further_outside : (ps : List Point) (s t : Tet) (p q : ℕ) → IsPositive (corners ps s) → LieApart ps s t → IsShared s t p q → IsOutsideOf ps s t → in_sphere (corners ps s) (point ps (point_in t q)) ≤ℤ pos 0
further_outside ps s t p q positive apart shared outside =
    let i = point_in t q in
    let new : not (has_number (numbers s) i) ≡ true = other i refl in
    let c = contains_of (filter (λ j. not (has_number (numbers s) j)) (numbers t)) i (in_filter (λ j. not (has_number (numbers s) j)) i (numbers t) (number_member t q shared.other) new) in
    let out : is_outside_of ps s i ≡ true = subst (λ (j : ℕ). is_outside_of ps s j ≡ true) c.2 (outside c.0 i c.1) in
    outside_le (in_sphere (corners ps s) (point ps i)) (wins_tie (corners ps s) (as_numbers s) (point ps i) i) out
  where
    other : (i : ℕ) → i ≡ point_in t q → not (has_number (numbers s) i) ≡ true
    other i e =
        elim (cases_Bool (has_number (numbers s) i)) [
          | inl holds ↦ absurd (not_own ps s t p q positive apart shared (subst (λ (j : ℕ). IsMember j (numbers s)) e (member_of_test (numbers s) i holds)))
          | inr fails ↦ ap not fails
        ]
