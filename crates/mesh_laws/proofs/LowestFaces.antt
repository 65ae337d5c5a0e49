-- Two faces with the same corners have the same sides, or exchanged ones; and the faces of a four.
use Rattle.std.proofs.Common.{◌≡◌, ◌≢◌, ◌⊎◌, inl, inr, ℕ, zero, suc, ◌<◌, pos, neg_ℤ, ◌<ℤ◌, List, refl, sym, ap, subst, ◌∙◌, arith, ℤ}
use Rattle.std.proofs.Math.IntN.{neg_ℤ-neg_ℤ}
use Rattle.std.specs.Prelude.{Contains}
use Rattle.sign_predicates.specs.Point.{Point}
use Rattle.sign_predicates.specs.Orientation.{side, IsPositive}
use Rattle.geo_laws.specs.Delaunay.{point, corners, numbers}
use Rattle.geo_laws.specs.declared.tetrahedra.Tet.{Tet as Row}
use Rattle.sign_predicates.proofs.Places.{Place, A, B, C, D, opposite}
use Rattle.geo_laws.proofs.Places.{number}
use Rattle.geo_laws.proofs.Corners.{IsCorner, corner_of, contains_corner, distinct, side-own_point}
use Rattle.geo_laws.specs.OrientedFace.{Face, triangle, reversed, beside}
use Rattle.insert_laws.specs.LowestInsertion.{HasSameCorners, IsFaceOf, IsLowestHullFace}
use Rattle.insert_laws.proofs.FacePencil.{side_of, side_of-reversed}
use Rattle.insert_laws.proofs.Beyond.{turn, side-turn}
use Rattle.mesh_laws.specs.LowestLiving.{face_off, IsFaceCorner, HasSameFaceCorners}

-- the corners of a face differ
pub record AreApart (f : Face) : Type 0 where
  pub ab : f.a ≢ f.b
  pub ac : f.a ≢ f.c
  pub bc : f.b ≢ f.c

-- the same sides, or exchanged ones
abbrev pub Agree : List Point → Face → Face → Type 0
Agree ps f g = ((o : ℕ) → side_of ps f o ≡ side_of ps g o) ⊎ ((o : ℕ) → side_of ps f o ≡ neg_ℤ (side_of ps g o))

named : (ps : List Point) (f g : Face) → f.a ≡ g.a → f.b ≡ g.b → f.c ≡ g.c → (o : ℕ) → side_of ps f o ≡ side_of ps g o
named ps f g p q r o = λ i. side_of ps (record { a = p i; b = q i; c = r i }) o

agree_at : (ps : List Point) (f g : Face) → AreApart f → IsFaceCorner g f.a → IsFaceCorner g f.b → IsFaceCorner g f.c → Agree ps f g
agree_at ps f g d (inl p) (inl q) (inl r) = absurd (d.ab (p ∙ sym q))
agree_at ps f g d (inl p) (inl q) (inr (inl r)) = absurd (d.ab (p ∙ sym q))
agree_at ps f g d (inl p) (inl q) (inr (inr r)) = absurd (d.ab (p ∙ sym q))
agree_at ps f g d (inl p) (inr (inl q)) (inl r) = absurd (d.ac (p ∙ sym r))
agree_at ps f g d (inl p) (inr (inl q)) (inr (inl r)) = absurd (d.bc (q ∙ sym r))
agree_at ps f g d (inl p) (inr (inl q)) (inr (inr r)) = inl (λ o. named ps f (record { a = g.a; b = g.b; c = g.c }) p q r o ∙ refl)
agree_at ps f g d (inl p) (inr (inr q)) (inl r) = absurd (d.ac (p ∙ sym r))
agree_at ps f g d (inl p) (inr (inr q)) (inr (inl r)) = inr (λ o. named ps f (record { a = g.a; b = g.c; c = g.b }) p q r o ∙ side_of-reversed ps g o)
agree_at ps f g d (inl p) (inr (inr q)) (inr (inr r)) = absurd (d.bc (q ∙ sym r))
agree_at ps f g d (inr (inl p)) (inl q) (inl r) = absurd (d.bc (q ∙ sym r))
agree_at ps f g d (inr (inl p)) (inl q) (inr (inl r)) = absurd (d.ac (p ∙ sym r))
agree_at ps f g d (inr (inl p)) (inl q) (inr (inr r)) = inr (λ o. named ps f (record { a = g.b; b = g.a; c = g.c }) p q r o ∙ side-turn ps (turn (reversed g)) o ∙ side-turn ps (reversed g) o ∙ side_of-reversed ps g o)
agree_at ps f g d (inr (inl p)) (inr (inl q)) (inl r) = absurd (d.ab (p ∙ sym q))
agree_at ps f g d (inr (inl p)) (inr (inl q)) (inr (inl r)) = absurd (d.ab (p ∙ sym q))
agree_at ps f g d (inr (inl p)) (inr (inl q)) (inr (inr r)) = absurd (d.ab (p ∙ sym q))
agree_at ps f g d (inr (inl p)) (inr (inr q)) (inl r) = inl (λ o. named ps f (record { a = g.b; b = g.c; c = g.a }) p q r o ∙ side-turn ps g o)
agree_at ps f g d (inr (inl p)) (inr (inr q)) (inr (inl r)) = absurd (d.ac (p ∙ sym r))
agree_at ps f g d (inr (inl p)) (inr (inr q)) (inr (inr r)) = absurd (d.bc (q ∙ sym r))
agree_at ps f g d (inr (inr p)) (inl q) (inl r) = absurd (d.bc (q ∙ sym r))
agree_at ps f g d (inr (inr p)) (inl q) (inr (inl r)) = inl (λ o. named ps f (record { a = g.c; b = g.a; c = g.b }) p q r o ∙ side-turn ps (turn g) o ∙ side-turn ps g o)
agree_at ps f g d (inr (inr p)) (inl q) (inr (inr r)) = absurd (d.ac (p ∙ sym r))
agree_at ps f g d (inr (inr p)) (inr (inl q)) (inl r) = inr (λ o. named ps f (record { a = g.c; b = g.b; c = g.a }) p q r o ∙ side-turn ps (reversed g) o ∙ side_of-reversed ps g o)
agree_at ps f g d (inr (inr p)) (inr (inl q)) (inr (inl r)) = absurd (d.bc (q ∙ sym r))
agree_at ps f g d (inr (inr p)) (inr (inl q)) (inr (inr r)) = absurd (d.ac (p ∙ sym r))
agree_at ps f g d (inr (inr p)) (inr (inr q)) (inl r) = absurd (d.ab (p ∙ sym q))
agree_at ps f g d (inr (inr p)) (inr (inr q)) (inr (inl r)) = absurd (d.ab (p ∙ sym q))
agree_at ps f g d (inr (inr p)) (inr (inr q)) (inr (inr r)) = absurd (d.ab (p ∙ sym q))

pub faces_agree : (ps : List Point) (f g : Face) → AreApart f → HasSameFaceCorners f g → Agree ps f g
faces_agree ps f g d same = agree_at ps f g d ((same f.a).0 (inl refl)) ((same f.b).0 (inr (inl refl))) ((same f.c).0 (inr (inr refl)))

-- ---- the faces of a four

abbrev pub place_of : ℕ → Place
place_of zero = A
place_of (suc zero) = B
place_of (suc (suc zero)) = C
place_of k = D

-- the other corners are those of the face
pub off_corner : (t : Row) (k m : ℕ) → k < 4 → m < 4 → m ≢ k → IsFaceCorner (face_off t k) (number t (place_of m))
off_corner t zero zero h g n = absurd (n refl)
off_corner t zero (suc zero) h g n = inl refl
off_corner t zero (suc (suc zero)) h g n = inr (inr refl)
off_corner t zero (suc (suc (suc zero))) h g n = inr (inl refl)
off_corner t zero (suc (suc (suc (suc m)))) h g n = absurd (omega arith)
off_corner t (suc zero) zero h g n = inl refl
off_corner t (suc zero) (suc zero) h g n = absurd (n refl)
off_corner t (suc zero) (suc (suc zero)) h g n = inr (inl refl)
off_corner t (suc zero) (suc (suc (suc zero))) h g n = inr (inr refl)
off_corner t (suc zero) (suc (suc (suc (suc m)))) h g n = absurd (omega arith)
off_corner t (suc (suc zero)) zero h g n = inl refl
off_corner t (suc (suc zero)) (suc zero) h g n = inr (inr refl)
off_corner t (suc (suc zero)) (suc (suc zero)) h g n = absurd (n refl)
off_corner t (suc (suc zero)) (suc (suc (suc zero))) h g n = inr (inl refl)
off_corner t (suc (suc zero)) (suc (suc (suc (suc m)))) h g n = absurd (omega arith)
off_corner t (suc (suc (suc zero))) zero h g n = inl refl
off_corner t (suc (suc (suc zero))) (suc zero) h g n = inr (inl refl)
off_corner t (suc (suc (suc zero))) (suc (suc zero)) h g n = inr (inr refl)
off_corner t (suc (suc (suc zero))) (suc (suc (suc zero))) h g n = absurd (n refl)
off_corner t (suc (suc (suc zero))) (suc (suc (suc (suc m)))) h g n = absurd (omega arith)
off_corner t (suc (suc (suc (suc k)))) m h g n = absurd (omega arith)

-- and back
pub corner_off : (t : Row) (k i : ℕ) → k < 4 → IsFaceCorner (face_off t k) i → (m : ℕ) × (m < 4) × (m ≢ k) × (number t (place_of m) ≡ i)
corner_off t zero i h (inl e) = (1, omega arith, (λ z. omega arith), sym e)
corner_off t zero i h (inr (inl e)) = (3, omega arith, (λ z. omega arith), sym e)
corner_off t zero i h (inr (inr e)) = (2, omega arith, (λ z. omega arith), sym e)
corner_off t (suc zero) i h (inl e) = (0, omega arith, (λ z. omega arith), sym e)
corner_off t (suc zero) i h (inr (inl e)) = (2, omega arith, (λ z. omega arith), sym e)
corner_off t (suc zero) i h (inr (inr e)) = (3, omega arith, (λ z. omega arith), sym e)
corner_off t (suc (suc zero)) i h (inl e) = (0, omega arith, (λ z. omega arith), sym e)
corner_off t (suc (suc zero)) i h (inr (inl e)) = (3, omega arith, (λ z. omega arith), sym e)
corner_off t (suc (suc zero)) i h (inr (inr e)) = (1, omega arith, (λ z. omega arith), sym e)
corner_off t (suc (suc (suc zero))) i h (inl e) = (0, omega arith, (λ z. omega arith), sym e)
corner_off t (suc (suc (suc zero))) i h (inr (inl e)) = (1, omega arith, (λ z. omega arith), sym e)
corner_off t (suc (suc (suc zero))) i h (inr (inr e)) = (2, omega arith, (λ z. omega arith), sym e)
corner_off t (suc (suc (suc (suc k)))) i h c = absurd (omega arith)

-- each corner is the one off the face, or of the face
pub corner_split : (t : Row) (k i : ℕ) → k < 4 → IsCorner t i → (i ≡ number t (place_of k)) ⊎ IsFaceCorner (face_off t k) i
corner_split t zero i h (A, e) = inl e
corner_split t zero i h (B, e) = inr (inl e)
corner_split t zero i h (C, e) = inr (inr (inr e))
corner_split t zero i h (D, e) = inr (inr (inl e))
corner_split t (suc zero) i h (A, e) = inr (inl e)
corner_split t (suc zero) i h (B, e) = inl e
corner_split t (suc zero) i h (C, e) = inr (inr (inl e))
corner_split t (suc zero) i h (D, e) = inr (inr (inr e))
corner_split t (suc (suc zero)) i h (A, e) = inr (inl e)
corner_split t (suc (suc zero)) i h (B, e) = inr (inr (inr e))
corner_split t (suc (suc zero)) i h (C, e) = inl e
corner_split t (suc (suc zero)) i h (D, e) = inr (inr (inl e))
corner_split t (suc (suc (suc zero))) i h (A, e) = inr (inl e)
corner_split t (suc (suc (suc zero))) i h (B, e) = inr (inr (inl e))
corner_split t (suc (suc (suc zero))) i h (C, e) = inr (inr (inr e))
corner_split t (suc (suc (suc zero))) i h (D, e) = inl e
corner_split t (suc (suc (suc (suc k)))) i h c = absurd (omega arith)

pub triangle_off : (ps : List Point) (t : Row) (k : ℕ) → k < 4 → triangle ps (face_off t k) ≡ opposite (corners ps t) (place_of k)
triangle_off ps t zero h = refl
triangle_off ps t (suc zero) h = refl
triangle_off ps t (suc (suc zero)) h = refl
triangle_off ps t (suc (suc (suc zero))) h = refl
triangle_off ps t (suc (suc (suc (suc k)))) h = absurd (omega arith)

pub apart_off : (ps : List Point) (t : Row) (k : ℕ) → k < 4 → IsPositive (corners ps t) → AreApart (face_off t k)
apart_off ps t zero h p = record { ab = distinct ps t p B D tt; ac = distinct ps t p B C tt; bc = distinct ps t p D C tt }
apart_off ps t (suc zero) h p = record { ab = distinct ps t p A C tt; ac = distinct ps t p A D tt; bc = distinct ps t p C D tt }
apart_off ps t (suc (suc zero)) h p = record { ab = distinct ps t p A D tt; ac = distinct ps t p A B tt; bc = distinct ps t p D B tt }
apart_off ps t (suc (suc (suc zero))) h p = record { ab = distinct ps t p A B tt; ac = distinct ps t p A C tt; bc = distinct ps t p B C tt }
apart_off ps t (suc (suc (suc (suc k)))) h p = absurd (omega arith)

-- the corner off the face is on its positive side
pub over_off : (ps : List Point) (t : Row) (k : ℕ) → k < 4 → IsPositive (corners ps t) → pos 0 <ℤ side_of ps (face_off t k) (number t (place_of k))
over_off ps t k h p = subst (λ f. pos 0 <ℤ side f (point ps (number t (place_of k)))) (sym (triangle_off ps t k h)) (subst (λ z. pos 0 <ℤ z) (sym (side-own_point ps t (place_of k))) p)

-- a face with the same corners and the corner off it are the corners of the four
pub beside_same : (t : Row) (k : ℕ) (f : Face) → k < 4 → HasSameFaceCorners f (face_off t k) → HasSameCorners (beside f (number t (place_of k))) t
beside_same t k f h same i = (λ c. to (corner_of (beside f o) i c), λ c. from (corner_split t k i h (corner_of t i c)))
  where
    o : ℕ
    o = number t (place_of k)

    of_face : IsFaceCorner f i → Contains (numbers t) i
    of_face c = let at = corner_off t k i h ((same i).0 c) in contains_corner t i (place_of at.0, sym at.3)

    to : IsCorner (beside f o) i → Contains (numbers t) i
    to (A, e) = of_face (inl e)
    to (B, e) = of_face (inr (inl e))
    to (C, e) = of_face (inr (inr e))
    to (D, e) = contains_corner t i (place_of k, e)

    back : IsFaceCorner f i → Contains (numbers (beside f o)) i
    back (inl e) = contains_corner (beside f o) i (A, e)
    back (inr (inl e)) = contains_corner (beside f o) i (B, e)
    back (inr (inr e)) = contains_corner (beside f o) i (C, e)

    from : (i ≡ o) ⊎ IsFaceCorner (face_off t k) i → Contains (numbers (beside f o)) i
    from (inl e) = contains_corner (beside f o) i (D, e)
    from (inr c) = back ((same i).1 c)

pub same_trans : (r s t : Row) → HasSameCorners r s → HasSameCorners s t → HasSameCorners r t
same_trans r s t h g i = (λ c. (g i).0 ((h i).0 c), λ c. (h i).1 ((g i).1 c))

-- A four's row is on the positive side of a face with the corners of one of the four's, or of that face reversed
pub row_beside : (ps : List Point) (t r : Row) (k : ℕ) (f : Face) → k < 4 → AreApart f → IsPositive (corners ps t) → HasSameCorners t r → HasSameFaceCorners f (face_off t k) → IsFaceOf ps f r ⊎ IsFaceOf ps (reversed f) r
row_beside ps t r k f h d p same corners = by (faces_agree ps f (face_off t k) d corners)
  where
    o : ℕ
    o = number t (place_of k)

    over : pos 0 <ℤ side_of ps (face_off t k) o
    over = over_off ps t k h p

    back : HasSameFaceCorners (reversed f) (face_off t k)
    back i = (λ c. (corners i).0 (swap c), λ c. swap_back ((corners i).1 c))
      where
        swap : IsFaceCorner (reversed f) i → IsFaceCorner f i
        swap (inl e) = inl e
        swap (inr (inl e)) = inr (inr e)
        swap (inr (inr e)) = inr (inl e)

        swap_back : IsFaceCorner f i → IsFaceCorner (reversed f) i
        swap_back (inl e) = inl e
        swap_back (inr (inl e)) = inr (inr e)
        swap_back (inr (inr e)) = inr (inl e)

    by : Agree ps f (face_off t k) → IsFaceOf ps f r ⊎ IsFaceOf ps (reversed f) r
    by (inl agree) = inl (record { opposite = o; same_corners = same_trans (beside f o) t r (beside_same t k f h corners) same; over = subst (λ z. pos 0 <ℤ z) (sym (agree o)) over })
    by (inr agree) =
        let turned : side_of ps (reversed f) o ≡ side_of ps (face_off t k) o = side_of-reversed ps f o ∙ ap neg_ℤ (agree o) ∙ neg_ℤ-neg_ℤ (side_of ps (face_off t k) o) in
        inr (record { opposite = o; same_corners = same_trans (beside (reversed f) o) t r (beside_same t k (reversed f) h back) same; over = subst (λ z. pos 0 <ℤ z) (sym turned) over })

-- a four's row is on the positive side of each of its faces
pub row_off : (ps : List Point) (t r : Row) (k : ℕ) → k < 4 → IsPositive (corners ps t) → HasSameCorners t r → IsFaceOf ps (face_off t k) r
row_off ps t r k h p same = record { opposite = number t (place_of k); same_corners = same_trans _ t r (beside_same t k (face_off t k) h (λ i. (λ c. c, λ c. c))) same; over = over_off ps t k h p }

-- the corners of a face with a row behind it differ: the four with the corner behind it is positive
pub face_apart : (ps : List Point) (f : Face) (t : Row) → IsFaceOf ps (reversed f) t → AreApart f
face_apart ps f t face =
    let r = beside (reversed f) face.opposite in
    record { ab = distinct ps r face.over A C tt; ac = distinct ps r face.over A B tt; bc = distinct ps r face.over C B tt }

pub hull_apart : (lifts : ℕ → ℤ) (ps : List Point) (ms : List ℕ) (f : Face) → IsLowestHullFace lifts ps ms f → AreApart f
hull_apart lifts ps ms f h = face_apart ps f h.behind h.is_face
