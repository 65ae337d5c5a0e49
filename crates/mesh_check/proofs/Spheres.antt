-- Points strictly inside spheres, by the rule for ties.
use Rattle.std.proofs.Common.{◌≡◌, ℕ, ℤ, pos, ◌<ℤ◌, ◌≤ℤ◌, Bool, true, false, cond, ◌||◌, ◌&&◌, List, [], ◌∷◌, refl, ap, sym, ◌∙◌, arith, inl, inr}
use Rattle.std.specs.Prelude.{◌⊎◌, IsTrue, not, int_lt, int_le, nat_lt, map, filter}
use Rattle.std.specs.List.{list_all, list_any}
use Rattle.std.proofs.lemmas.Int.{ints}
use Rattle.std.proofs.lemmas.Bool.{cases_Bool, cond-true, cond-false}
use Rattle.geo_laws.proofs.Sorting.{int_lt_true, int_lt_false}
use Rattle.sign_predicates.proofs.Holds.{tests_below, tests_zero, tests_above}
use Rattle.sign_predicates.specs.Point.{Point}
use Rattle.sign_predicates.specs.Orientation.{Triangle, side}
use Rattle.sign_predicates.specs.Sphere.{in_sphere, opposite_faces, alongside, across, wins_tie, is_outside}
use Rattle.sign_predicates.specs.declared.tetrahedron.Corners.{Corners}
use Rattle.sign_predicates.specs.declared.tetrahedron.Numbers.{Numbers}
use Rattle.geo_laws.proofs.Members.{both_true}

-- the corners' numbers are above 0
abbrev pub later : Numbers
later = record { a = 1; b = 2; c = 3; d = 4 }

abbrev Numbered : Type 0
Numbered = ℕ × Triangle

both_are : (a b : Bool) → a ≡ true → b ≡ true → (a && b) ≡ true
both_are a b p q = ap (λ x. x && b) p ∙ q

all_later : (g : Numbered → Bool) (xs : List Numbered) → list_all (λ f. nat_lt 0 f.0) xs ≡ true → list_all (nat_lt 0) (map (λ f. f.0) (filter g xs)) ≡ true
all_later g [] h = refl
all_later g (x ∷ xs) h =
    let parts = both_true (nat_lt 0 x.0) (list_all (λ f. nat_lt 0 f.0) xs) h in
    let rest = all_later g xs parts.1 in
    elim (cases_Bool (g x)) [
      | inl holds ↦ ap (λ (ys : List Numbered). list_all (nat_lt 0) (map (λ f. f.0) ys)) (cond-true _ _ _ holds) ∙ both_are (nat_lt 0 x.0) _ parts.0 rest
      | inr fails ↦ ap (λ (ys : List Numbered). list_all (nat_lt 0) (map (λ f. f.0) ys)) (cond-false _ _ _ fails) ∙ rest
    ]

-- the least number of all wins each tie
wins : (t : Corners) (p : Point) → wins_tie t later p 0 ≡ true
wins t p =
    let all = all_later (λ f. int_lt (pos 0) (side f.1 p)) (opposite_faces t later) refl in
    ap (λ b. b || list_any (λ i. list_all (nat_lt i) (alongside t later p)) (across t later p)) all

pub inside_is : (t : Corners) (p : Point) (b : Bool) → b ≡ is_outside t later p 0 → (IsTrue (not b) → pos 0 <ℤ in_sphere t p) × (pos 0 <ℤ in_sphere t p → IsTrue (not b))
inside_is t p b is =
    let s = in_sphere t p in
    let tie = wins_tie t later p 0 in
    elim (cases_Bool (int_lt (pos 0) s)) [
      | inl above ↦
          let gt = int_lt_true (pos 0) s above in
          let out : b ≡ false = is ∙ sym (tests_above s tie gt) in
          (λ h. gt, λ h. ap not out)
      | inr not_above ↦
          let le = int_lt_false (pos 0) s not_above in
          let out : b ≡ true = is ∙ outside s tie (wins t p) le (cases_Bool (int_lt s (pos 0))) in
          (λ h. let n : not b ≡ false = ap not out in absurd (cc), λ h. absurd (omega (arith, ints)))
    ]
  where
    outside : (s : ℤ) (tie : Bool) → tie ≡ true → s ≤ℤ pos 0 → (int_lt s (pos 0) ≡ true) ⊎ (int_lt s (pos 0) ≡ false) → int_lt s (pos 0) || int_le s (pos 0) && tie ≡ true
    outside s tie won le (inl below) = sym (tests_below s tie (int_lt_true s (pos 0) below))
    outside s tie won le (inr not_below) = let ge = int_lt_false s (pos 0) not_below in let zero : s ≡ pos 0 = omega (arith, ints) in sym (tests_zero s tie zero) ∙ won
