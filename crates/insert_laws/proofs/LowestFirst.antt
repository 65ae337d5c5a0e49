-- Four points that are not coplanar: their lowest list is the one positive tetrahedron in its least arrangement, and its faces are the hull.
use Rattle.std.proofs.Common.{◌≡◌, ◌≢◌, ◌⊎◌, inl, inr, ℕ, ◌≤◌, pos, neg_ℤ, ◌<ℤ◌, List, ap, sym, subst, ◌∙◌, arith, ℤ}
use Rattle.std.proofs.lemmas.Int.{ints}
use Rattle.exact_algebra.proofs.Signs.{pos_not_zero}
use Rattle.sign_predicates.specs.Point.{Point}
use Rattle.sign_predicates.specs.Orientation.{IsPositive}
use Rattle.geo_laws.specs.Delaunay.{corners, numbers, IsAmong, IsArranged}
use Rattle.geo_laws.specs.Height.{IsLowestAmong}
use Rattle.geo_laws.specs.declared.tetrahedra.Tet.{Tet}
use Rattle.sign_predicates.proofs.Places.{Place, A, B, C, D, side-other}
use Rattle.geo_laws.proofs.Places.{number}
use Rattle.geo_laws.proofs.Corners.{IsCorner, corner_of, corner_among, distinct}
use Rattle.geo_laws.proofs.Arrangement.{at_least_a, at_least_b, last_two, same_row}
use Rattle.geo_laws.specs.OrientedFace.{Face, reversed, beside}
use Rattle.insert_laws.specs.LowestInsertion.{IsFaceOf, HasNoneAmongBeyond, LowestFirstLaw}
use Rattle.insert_laws.proofs.FacePencil.{side_of, side_of-reversed}

-- ---- an arranged tetrahedron whose corners are among those of another has them all

b_is : (t s : Tet) → IsArranged t → IsCorner t s.b → t.b ≤ s.b → s.b ≢ t.c → s.b ≢ t.d → s.b ≡ t.b
b_is t s h (A, e) l n m = let k = h.first in absurd (omega arith)
b_is t s h (B, e) l n m = e
b_is t s h (C, e) l n m = absurd (n e)
b_is t s h (D, e) l n m = absurd (m e)

a_is : (t s : Tet) → IsCorner t s.a → s.a ≢ t.b → s.a ≢ t.c → s.a ≢ t.d → s.a ≡ t.a
a_is t s (A, e) l n m = e
a_is t s (B, e) l n m = absurd (l e)
a_is t s (C, e) l n m = absurd (n e)
a_is t s (D, e) l n m = absurd (m e)

all_corners : (t s : Tet) → IsArranged t → IsArranged s → s.c ≢ s.d → ((u : Place) → IsCorner t (number s u)) → (i : ℕ) → IsCorner t i → IsCorner s i
all_corners t s ht hs apart in_t i k =
    let first = hs.first in
    let second = hs.second in
    let second' = hs.second' in
    let la = at_least_a t s.a ht (in_t A) in
    let lb = at_least_b t s.b ht (in_t B) (omega arith) in
    go lb (last_two t s.c ht (in_t C) (omega arith)) (last_two t s.d ht (in_t D) (omega arith))
  where
    found : s.a ≡ t.a → s.b ≡ t.b → ((s.c ≡ t.c) × (s.d ≡ t.d)) ⊎ ((s.c ≡ t.d) × (s.d ≡ t.c)) → IsCorner t i → IsCorner s i
    found ea eb _ (A, e) = (A, e ∙ sym ea)
    found ea eb _ (B, e) = (B, e ∙ sym eb)
    found ea eb (inl h) (C, e) = (C, e ∙ sym h.0)
    found ea eb (inl h) (D, e) = (D, e ∙ sym h.1)
    found ea eb (inr h) (C, e) = (D, e ∙ sym h.1)
    found ea eb (inr h) (D, e) = (C, e ∙ sym h.0)

    by : t.b ≤ s.b → s.b ≢ t.c → s.b ≢ t.d → s.a ≢ t.c → s.a ≢ t.d → ((s.c ≡ t.c) × (s.d ≡ t.d)) ⊎ ((s.c ≡ t.d) × (s.d ≡ t.c)) → IsCorner s i
    by lb bc bd ac ad h =
        let eb = b_is t s ht (in_t B) lb bc bd in
        let first = hs.first in
        found (a_is t s (in_t A) (λ e. omega arith) ac ad) eb h k

    go : t.b ≤ s.b → (s.c ≡ t.c) ⊎ (s.c ≡ t.d) → (s.d ≡ t.c) ⊎ (s.d ≡ t.d) → IsCorner s i
    go lb (inl c) (inl d) = absurd (apart (c ∙ sym d))
    go lb (inr c) (inr d) = absurd (apart (c ∙ sym d))
    go lb (inl c) (inr d) =
        let first = hs.first in
        let second = hs.second in
        let second' = hs.second' in
        by lb (λ e. omega arith) (λ e. omega arith) (λ e. omega arith) (λ e. omega arith) (inl (c, d))
    go lb (inr c) (inl d) =
        let first = hs.first in
        let second = hs.second in
        let second' = hs.second' in
        by lb (λ e. omega arith) (λ e. omega arith) (λ e. omega arith) (λ e. omega arith) (inr (c, d))

-- ---- the faces

-- no corner is beyond a face that has the tetrahedron behind it
pub none_beyond : (ps : List Point) (f : Face) (t : Tet) → IsFaceOf ps (reversed f) t → HasNoneAmongBeyond ps (numbers t) f
none_beyond ps f t face i c above = by (corner_of (beside (reversed f) face.opposite) i ((face.same_corners i).1 c))
  where
    clash : {n m : _} → m ≡ neg_ℤ n → pos 0 <ℤ n → pos 0 <ℤ m → ⊥
    clash e h k = omega (arith, ints)

    by : IsCorner (beside (reversed f) face.opposite) i → ⊥
    by (A, e) = pos_not_zero (side_of ps f i) above (ap (side_of ps f) e ∙ side-other (corners ps (beside f i)) D A tt)
    by (B, e) = pos_not_zero (side_of ps f i) above (ap (side_of ps f) e ∙ side-other (corners ps (beside f i)) D C tt)
    by (C, e) = pos_not_zero (side_of ps f i) above (ap (side_of ps f) e ∙ side-other (corners ps (beside f i)) D B tt)
    by (D, e) = clash (side_of-reversed ps f face.opposite) (subst (λ o. pos 0 <ℤ side_of ps f o) e above) face.over

-- ---- the law

-- a tetrahedron has no further points among its own corners
first_row : (lifts : ℕ → ℤ) (ps : List Point) (t : Tet) → IsPositive (corners ps t) → IsArranged t → IsLowestAmong ps (numbers t) lifts t
first_row lifts ps t p a = record { is_on = λ i c. c; is_positive = p; is_arranged = a; others = λ i c n. absurd (n c) }

-- and an arranged positive one among them is the same
pub only_row : (ps : List Point) (t : Tet) → IsPositive (corners ps t) → IsArranged t → (s : Tet) → IsAmong (numbers t) s → IsPositive (corners ps s) → IsArranged s → s ≡ t
only_row ps t p a s on q b =
    let in_t = λ (u : Place). corner_of t (number s u) (corner_among (numbers t) s on u) in
    same_row ps s t q p b a (λ i c. let k = in_t c.0 in (k.0, c.1 ∙ k.1)) (all_corners t s a b (distinct ps s q C D tt) in_t)

pub law_first : LowestFirstLaw
law_first lifts ps t p a = record {
  only = λ s. (λ d. only_row ps t p a s d.is_on d.is_positive d.is_arranged, λ e. subst (IsLowestAmong ps (numbers t) lifts) (sym e) (first_row lifts ps t p a));
  hull = λ f face. record { behind = t; is_row = first_row lifts ps t p a; is_face = face; none_beyond = none_beyond ps f t face };
}
