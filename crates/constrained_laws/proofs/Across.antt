-- Two tetrahedra with a common face. A point beyond it that is in the circumsphere of the first is in that of the second, where the second
-- one's further corner is outside of the first one's: the lifted planes turn up about the face.
use Rattle.std.proofs.Common.{◌≡◌, ◌⊎◌, inl, inr, ℕ, ◌<◌, ℤ, pos, negsuc, neg_ℤ, ◌+ℤ◌, ◌-ℤ◌, ◌*ℤ◌, ◌≤ℤ◌, false, List, [], ◌∷◌, map, length, refl, ap, sym, subst, ◌∙◌}
use Rattle.std.specs.Prelude.{Contains, IsTrue}
use lib.IntN.{*ℤ-zero}
use Rattle.exact_algebra.proofs.Ring.{num, var, neg, ring_given, given, same, ◌⊕◌, ◌⊖◌, ◌⊗◌}
use Rattle.sign_predicates.specs.Point.{Point, as_rational}
use Rattle.sign_predicates.specs.Orientation.{volume, side, side_rational, IsPositive}
use Rattle.geo_laws.specs.Delaunay.{point, corners, numbers, is_outside_of, IsOn}
use Rattle.geo_laws.specs.Height.{IsLexPositive, height, residual_at, residual, places, lifted}
use Rattle.geo_laws.specs.declared.tetrahedra.Tet.{Tet}
use Rattle.sign_predicates.proofs.Places.{Place, A, B, C, D, IsOther, opposite, corner}
use Rattle.geo_laws.proofs.Places.{number, corner-point, over_places, sum-same, sum-only}
use Rattle.geo_laws.proofs.Determinants.{weights-side, side_rational-as_rational}
use Rattle.geo_laws.proofs.Corners.{IsCorner}
use Rattle.geo_laws.proofs.Lexicographic.{IsLexBelow, sum_first, above_not_zero, zero_everywhere}
use Rattle.geo_laws.proofs.Lift.{law_lift}
use Rattle.geo_laws.proofs.LeastHeight.{law_residual}
use Rattle.geo_laws.proofs.Radical.{residual-own}
use Rattle.crossing_laws.proofs.Tests.{never}

-- ---- residuals at two tetrahedra

-- the residual at one tetrahedron, from those at another
change : (vr vt he : ℤ) (s hr ht at : Place → ℤ) (own : Place → Place → ℤ) → ((w : Place) → over_places (λ u. s u *ℤ own u w) ≡ vr *ℤ at w)
    → vt *ℤ (vr *ℤ he -ℤ over_places (λ u. s u *ℤ hr u))
    ≡ vr *ℤ (vt *ℤ he -ℤ over_places (λ w. at w *ℤ ht w)) -ℤ over_places (λ u. s u *ℤ (vt *ℤ hr u -ℤ over_places (λ w. own u w *ℤ ht w)))
unfolding same
change vr vt he s hr ht at own e =
    ring_given (var 1 ⊗ (var 0 ⊗ var 2 ⊖ (var 3 ⊗ var 7 ⊕ var 4 ⊗ var 8 ⊕ var 5 ⊗ var 9 ⊕ var 6 ⊗ var 10)))
    (var 0 ⊗ (var 1 ⊗ var 2 ⊖ (var 15 ⊗ var 11 ⊕ var 16 ⊗ var 12 ⊕ var 17 ⊗ var 13 ⊕ var 18 ⊗ var 14)) ⊖ (var 3 ⊗ (var 1 ⊗ var 7 ⊖ (var 19 ⊗ var 11 ⊕ var 20 ⊗ var 12 ⊕ var 21 ⊗ var 13 ⊕ var 22 ⊗ var 14)) ⊕ var 4 ⊗ (var 1 ⊗ var 8 ⊖ (var 23 ⊗ var 11 ⊕ var 24 ⊗ var 12 ⊕ var 25 ⊗ var 13 ⊕ var 26 ⊗ var 14)) ⊕ var 5 ⊗ (var 1 ⊗ var 9 ⊖ (var 27 ⊗ var 11 ⊕ var 28 ⊗ var 12 ⊕ var 29 ⊗ var 13 ⊕ var 30 ⊗ var 14)) ⊕ var 6 ⊗ (var 1 ⊗ var 10 ⊖ (var 31 ⊗ var 11 ⊕ var 32 ⊗ var 12 ⊕ var 33 ⊗ var 13 ⊕ var 34 ⊗ var 14))))
    (given (neg (var 11)) (var 3 ⊗ var 19 ⊕ var 4 ⊗ var 23 ⊕ var 5 ⊗ var 27 ⊕ var 6 ⊗ var 31) (var 0 ⊗ var 15) ∷ given (neg (var 12)) (var 3 ⊗ var 20 ⊕ var 4 ⊗ var 24 ⊕ var 5 ⊗ var 28 ⊕ var 6 ⊗ var 32) (var 0 ⊗ var 16) ∷ given (neg (var 13)) (var 3 ⊗ var 21 ⊕ var 4 ⊗ var 25 ⊕ var 5 ⊗ var 29 ⊕ var 6 ⊗ var 33) (var 0 ⊗ var 17) ∷ given (neg (var 14)) (var 3 ⊗ var 22 ⊕ var 4 ⊗ var 26 ⊕ var 5 ⊗ var 30 ⊕ var 6 ⊗ var 34) (var 0 ⊗ var 18) ∷ [])
    tt (vr ∷ vt ∷ he ∷ s A ∷ s B ∷ s C ∷ s D ∷ hr A ∷ hr B ∷ hr C ∷ hr D ∷ ht A ∷ ht B ∷ ht C ∷ ht D ∷ at A ∷ at B ∷ at C ∷ at D ∷ own A A ∷ own A B ∷ own A C ∷ own A D ∷ own B A ∷ own B B ∷ own B C ∷ own B D ∷ own C A ∷ own C B ∷ own C C ∷ own C D ∷ own D A ∷ own D B ∷ own D C ∷ own D D ∷ []) (e A, (e B, (e C, (e D, tt))))

-- the side of a point at a face opposite a corner
abbrev pub side_at : List Point → Tet → Place → ℕ → ℤ
side_at ps t u e = side (opposite (corners ps t) u) (point ps e)

residual-change : (ps : List Point) (first : ℕ → ℤ) (r t : Tet) (e k : ℕ)
    → volume (corners ps t) *ℤ residual_at ps first r e k
    ≡ volume (corners ps r) *ℤ residual_at ps first t e k -ℤ over_places (λ u. side_at ps r u e *ℤ residual_at ps first t (number r u) k)
residual-change ps first r t e k =
    change (volume (corners ps r)) (volume (corners ps t)) (height first e k) (λ u. side_at ps r u e) (λ u. height first (number r u) k) (λ w. height first (number t w) k) (λ w. side_at ps t w e) (λ u w. side_at ps t w (number r u))
    (λ w. sum-same (λ u. side_at ps r u e *ℤ side_at ps t w (number r u)) (λ u. side_rational (opposite (corners ps r) u) (as_rational (point ps e)) *ℤ side (opposite (corners ps t) w) (corner (corners ps r) u))
    (λ u j. sym (side_rational-as_rational (opposite (corners ps r) u) (point ps e)) j *ℤ side (opposite (corners ps t) w) (sym (corner-point ps r u) j))
    ∙ weights-side (corners ps r) (opposite (corners ps t) w) (as_rational (point ps e)) ∙ ap (λ q. volume (corners ps r) *ℤ q) (side_rational-as_rational (opposite (corners ps t) w) (point ps e)))

turned-change : (v x w y s b n : ℤ) → v *ℤ x ≡ w *ℤ y -ℤ b → b ≡ s *ℤ n → v *ℤ neg_ℤ x ≡ w *ℤ neg_ℤ y +ℤ s *ℤ n
unfolding same
turned-change v x w y s b n e d =
    ring_given (var 0 ⊗ neg (var 1)) (var 2 ⊗ neg (var 3) ⊕ var 4 ⊗ var 6) (given (num (negsuc 0)) (var 0 ⊗ var 1) (var 2 ⊗ var 3 ⊖ var 5) ∷ given (num (pos 1)) (var 5) (var 4 ⊗ var 6) ∷ []) tt (v ∷ x ∷ w ∷ y ∷ s ∷ b ∷ n ∷ []) (e, (d, tt))

-- where all corners of t but one are corners of s: how far a point is below the lifted plane of t, from how far it is below that of s
below-across : (ps : List Point) (first : ℕ → ℤ) (s t : Tet) (w : Place) → ((v : Place) → IsOther v w → IsCorner s (number t v)) → (e k : ℕ)
    → volume (corners ps s) *ℤ neg_ℤ (residual_at ps first t e k)
    ≡ volume (corners ps t) *ℤ neg_ℤ (residual_at ps first s e k) +ℤ side_at ps t w e *ℤ residual_at ps first s (number t w) k
below-across ps first s t w shared e k =
    turned-change (volume (corners ps s)) (residual_at ps first t e k) (volume (corners ps t)) (residual_at ps first s e k) (side_at ps t w e) (over_places (λ v. side_at ps t v e *ℤ residual_at ps first s (number t v) k)) (residual_at ps first s (number t w) k)
    (residual-change ps first t s e k)
    (sum-only w (λ v. side_at ps t v e *ℤ residual_at ps first s (number t v) k) (λ v o. ap (λ q. side_at ps t v e *ℤ q) (residual-own ps first s (number t v) (shared v o) k) ∙ *ℤ-zero (side_at ps t v e)))

-- ---- circumspheres

-- the point is in the tetrahedron's circumsphere, ties decided: its lifted height is below the lifted plane
abbrev pub IsInSphere : List Point → Tet → ℕ → Type 0
IsInSphere ps t i = IsLexBelow (residual_at ps (lifted ps) t i) (places (length ps))

pub neg-map : (f : ℕ → ℤ) (ks : List ℕ) → map neg_ℤ (map f ks) ≡ map (λ k. neg_ℤ (f k)) ks
neg-map f [] = refl
neg-map f (k ∷ ks) = ap (λ r. neg_ℤ (f k) ∷ r) (neg-map f ks)

-- a further point that is not outside is in it
pub in_sphere : (ps : List Point) (t : Tet) (i : ℕ) → IsOn ps t → i < length ps → IsPositive (corners ps t) → ¬ Contains (numbers t) i → is_outside_of ps t i ≡ false → IsInSphere ps t i
in_sphere ps t i on l p n not_outside = go (law_residual ps (lifted ps) t i l p n)
  where
    go : IsLexPositive (residual ps (lifted ps) t i) ⊎ IsLexPositive (map neg_ℤ (residual ps (lifted ps) t i)) → IsInSphere ps t i
    go (inl a) = never (sym not_outside ∙ (law_lift ps t i on l p n).1 a)
    go (inr b) = subst IsLexPositive (neg-map (residual_at ps (lifted ps) t i) (places (length ps))) b

-- no corner is in it
pub corner_not_in : (ps : List Point) (t : Tet) (i : ℕ) → IsCorner t i → IsInSphere ps t i → ⊥
corner_not_in ps t i c below =
    above_not_zero (λ k. neg_ℤ (residual_at ps (lifted ps) t i k)) (places (length ps)) below
    (zero_everywhere (λ k. neg_ℤ (residual_at ps (lifted ps) t i k)) (places (length ps)) (λ k. ap neg_ℤ (residual-own ps (lifted ps) t i c k)))

-- The second tetrahedron has all corners of the first but one, and its further corner is outside of the first: a point on its side of the
-- common face that is in the first one's circumsphere is in its own
pub still_in : (ps : List Point) (s t : Tet) (w : Place) → IsPositive (corners ps s) → IsPositive (corners ps t) → ((v : Place) → IsOther v w → IsCorner s (number t v))
    → IsOn ps s → number t w < length ps → ¬ Contains (numbers s) (number t w) → IsTrue (is_outside_of ps s (number t w))
    → (i : ℕ) → pos 0 ≤ℤ side_at ps t w i → IsInSphere ps s i → IsInSphere ps t i
still_in ps s t w p_s p_t shared on l n outside i least below =
    sum_first (volume (corners ps s)) (volume (corners ps t)) (side_at ps t w i) (λ k. neg_ℤ (residual_at ps (lifted ps) t i k)) (λ k. neg_ℤ (residual_at ps (lifted ps) s i k)) (residual_at ps (lifted ps) s (number t w)) (places (length ps))
    p_s p_t least (below-across ps (lifted ps) s t w shared i) below (inl ((law_lift ps s (number t w) on l p_s n).0 outside))
