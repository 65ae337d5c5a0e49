-- The lowest tetrahedra of the points and one more. From a place of the cavity over a face and a clear place under it, the relation of the pencil of the
-- face shows that the new point is on the cavity's side and that every point is above the new tetrahedron; and back, from the first point over the face.
use Rattle.insert_laws.proofs.Identities as identity
use Rattle.geo_laws.proofs.Corners.{AreDistinct}
use Rattle.geo_laws.proofs.Arrangement.{even_residual, corner_to as even_corner_to, corner_from as even_corner_from}
use Rattle.std.proofs.Common.{◌≡◌, ◌≢◌, ◌⊎◌, inl, inr, ℕ, ℤ, pos, neg_ℤ, ◌+ℤ◌, ◌*ℤ◌, ◌<ℤ◌, List, ◌∷◌, length, refl, sym, subst, ◌∙◌, arith}
use Rattle.std.specs.Prelude.{Contains, ◌↔◌}
use Rattle.std.proofs.lemmas.Int.{ints}
use Rattle.sign_predicates.specs.Point.{Point, as_rational}
use Rattle.sign_predicates.specs.Orientation.{volume, side, side_rational, opposite_a, opposite_b, opposite_c, opposite_d, IsPositive}
use Rattle.geo_laws.specs.Delaunay.{point, corners, numbers, IsArranged}
use Rattle.geo_laws.specs.Height.{IsLowestAmong}
use Rattle.geo_laws.specs.Height.{residual_at, places}
use Rattle.geo_laws.specs.declared.tetrahedra.Tet.{Tet}
use Rattle.geo_laws.proofs.Determinants as ring
use Rattle.exact_algebra.proofs.Signs.{sign_of, zero_of_mul}
use Rattle.geo_laws.proofs.Corners.{IsCorner, corner_or_not}
use Rattle.sign_predicates.proofs.Places.{A, B, C, D}
use Rattle.geo_laws.proofs.Corners.{distinct, contains_corner}
use Rattle.geo_laws.proofs.Lexicographic.{IsZeroAt, IsLexAbove, lex_sign_of, lex_same}
use Rattle.geo_laws.specs.OrientedFace.{Face, triangle, reversed, beside, IsOther}
use Rattle.insert_laws.specs.LowestInsertion.{IsNew, IsFaceOf, HasNoneAmongBeyond, HasAbove, LowestSees, IsLowestCavityPlace, cavity_row, cavity_ghost, IsLowestClearPlace, clear_row, clear_ghost, IsLowestStarRow, LowestInsertionLaw, LowestRimLaw, LowestFacePairingLaw, LowestOneRowLaw}
use Rattle.geo_laws.proofs.Lexicographic.{IsLexBelow, not_both}
use Rattle.insert_laws.proofs.Pencil.{IsBare, IsBareUnder, IsFirst, first_of, neighbor, low_unique, above_not_zero}
use Rattle.insert_laws.proofs.StarPencil as pencil
use Rattle.insert_laws.proofs.StarPencil.{With, over_row, over_ghost, under_row, under_ghost}
use Rattle.geo_laws.specs.Arrangement.{swap_both}
use Rattle.geo_laws.proofs.Arrangement.{IsEven, even_self, even_trans, even_back, even-swap, even-cross, same_row, cross}
use Rattle.insert_laws.proofs.FacePencil.{side_of, gap_of, face_pencil, side_of-reversed}
use Rattle.insert_laws.proofs.LowestBridge

-- ---- the new point and the old rows

old_corner : (ps : List Point) (ms : List ℕ) (p : ℕ) (new : IsNew ps ms p) (t : Tet) → ((i : ℕ) → IsCorner t i → Contains ms i) → ¬ IsCorner t p
old_corner ps ms p new t on c = new.is_new (on p c)

-- p is none of the numbers
pub not_new : (ps : List Point) (ms : List ℕ) (p : ℕ) → IsNew ps ms p → (e : ℕ) → Contains ms e → p ≢ e
not_new ps ms p new e h d = new.is_new (subst (Contains ms) (sym d) h)

pub new_other : (ps : List Point) (ms : List ℕ) (p : ℕ) → IsNew ps ms p → (f : Face) → LowestBridge.IsFaceOn (Contains ms) f → IsOther f p
new_other ps ms p new f on = record { not_a = not_new ps ms p new f.a on.on_a; not_b = not_new ps ms p new f.b on.on_b; not_c = not_new ps ms p new f.c on.on_c }

-- the same on a face of the row
pub face_above : (lifts : ℕ → ℤ) (ps : List Point) (ms : List ℕ) (p : ℕ) (new : IsNew ps ms p) (f : Face) (o : ℕ) (t : Tet) → LowestBridge.IsFaceOn (Contains ms) f → LowestBridge.IsLowOn lifts ps (Contains ms) f o → IsEven ps (beside f o) t
    → HasAbove lifts ps t p ↔ IsLexAbove (gap_of lifts ps f o p) (places (length ps))
face_above lifts ps ms p new f o t on low even = (
  λ h. lex_same (residual_at ps lifts t p) (gap_of lifts ps f o p) (places (length ps))
      (λ k. sym (even_residual ps (beside f o) t even lifts p k)) h,
  λ h. lex_same (gap_of lifts ps f o p) (residual_at ps lifts t p) (places (length ps))
      (λ k. even_residual ps (beside f o) t even lifts p k) h,
)

-- p is above or below each row on an old face
pub decided : (lifts : ℕ → ℤ) (ps : List Point) (ms : List ℕ) (p : ℕ) (new : IsNew ps ms p) (f : Face) (o : ℕ) → LowestBridge.IsFaceOn (Contains ms) f → LowestBridge.IsLowOn lifts ps (Contains ms) f o
    → IsLexAbove (gap_of lifts ps f o p) (places (length ps)) ⊎ IsLexBelow (gap_of lifts ps f o p) (places (length ps))
decided lifts ps ms p new f o on low = go (lex_sign_of (gap_of lifts ps f o p) (places (length ps)))
  where
    go : IsLexAbove (gap_of lifts ps f o p) (places (length ps))
        ⊎ (IsZeroAt (gap_of lifts ps f o p) (places (length ps)) ⊎ IsLexBelow (gap_of lifts ps f o p) (places (length ps)))
        → IsLexAbove (gap_of lifts ps f o p) (places (length ps)) ⊎ IsLexBelow (gap_of lifts ps f o p) (places (length ps))
    go (inl a) = inl a
    go (inr (inl z)) = absurd ((face_pencil lifts ps f).apart o p new.on (new_other ps ms p new f on) (not_new ps ms p new o low.on) (above_not_zero _ low.over) z)
    go (inr (inr b)) = inr b

-- ---- places

-- what the new tetrahedron needs over the face
abbrev pub OverOn : (ℕ → ℤ) → List Point → List ℕ → ℕ → Face → Type 0
OverOn lifts ps ms p f = pencil.IsCavityOver f (side_of ps f) (gap_of lifts ps f) (places (length ps)) (Contains ms) p

-- and under it
abbrev pub UnderOn : (ℕ → ℤ) → List Point → List ℕ → ℕ → Face → Type 0
UnderOn lifts ps ms p f = pencil.IsClearUnder f (side_of ps f) (gap_of lifts ps f) (places (length ps)) (Contains ms) p

pub side_new : (ps : List Point) (ms : List ℕ) (p : ℕ) (new : IsNew ps ms p) (f : Face) → LowestBridge.IsFaceOn (Contains ms) f → side_of ps f p ≡ side (triangle ps f) (point ps p)
side_new ps ms p new f on = refl

-- no point is strictly beyond the face
pub bare_of : (ps : List Point) (ms : List ℕ) (p : ℕ) (new : IsNew ps ms p) (f : Face) → LowestBridge.IsFaceOn (Contains ms) f → HasNoneAmongBeyond ps ms f → IsBare (side_of ps f) (Contains ms)
bare_of ps ms p new f on h e l k = h e l k

pub of_bare : (ps : List Point) (ms : List ℕ) (p : ℕ) (new : IsNew ps ms p) (f : Face) → LowestBridge.IsFaceOn (Contains ms) f → IsBare (side_of ps f) (Contains ms) → HasNoneAmongBeyond ps ms f
of_bare ps ms p new f on h e l k = h e l k

-- the row of the face a, and of its reverse
pub cavity_to : (lifts : ℕ → ℤ) (ps : List Point) (ms : List ℕ) (p : ℕ) (new : IsNew ps ms p) (f : Face) → IsLowestCavityPlace lifts ps ms p f → LowestBridge.IsFaceOn (Contains ms) f × OverOn lifts ps ms p f
cavity_to lifts ps ms p new f (cavity_row t d face n) = (r.on, over_row r.apex r.low (below (decided lifts ps ms p new f r.apex r.on r.low)))
  where
    r : LowestBridge.IsRowOn lifts ps (Contains ms) f t
    r = LowestBridge.row_on lifts ps ms (Contains ms) (LowestBridge.of_list ps ms new.within) f t d face

    below : IsLexAbove (gap_of lifts ps f r.apex p) (places (length ps)) ⊎ IsLexBelow (gap_of lifts ps f r.apex p) (places (length ps))
        → IsLexBelow (gap_of lifts ps f r.apex p) (places (length ps))
    below (inl a) = absurd (n ((face_above lifts ps ms p new f r.apex t r.on r.low r.even).1 a))
    below (inr b) = b
cavity_to lifts ps ms p new f (cavity_ghost h s) = (on, over_ghost (bare_of ps ms p new f on h.none_beyond) r.apex (LowestBridge.under_of lifts qs (Contains ms) f r.apex r.low) (sees s))
  where
    qs : List Point
    qs = ps

    r : LowestBridge.IsRowOn lifts ps (Contains ms) (reversed f) h.behind
    r = LowestBridge.row_on lifts ps ms (Contains ms) (LowestBridge.of_list ps ms new.within) (reversed f) h.behind h.is_row h.is_face

    on : LowestBridge.IsFaceOn (Contains ms) f
    on = LowestBridge.reversed_on (Contains ms) (reversed f) r.on

    above : IsLexAbove (gap_of lifts ps (reversed f) r.apex p) (places (length ps)) ⊎ IsLexBelow (gap_of lifts ps (reversed f) r.apex p) (places (length ps))
        → ¬ HasAbove lifts ps h.behind p → IsLexAbove (gap_of lifts ps f r.apex p) (places (length ps))
    above (inl a) n = absurd (n ((face_above lifts ps ms p new (reversed f) r.apex h.behind r.on r.low r.even).1 a))
    above (inr b) n = lex_same (λ k. neg_ℤ (gap_of lifts ps (reversed f) r.apex p k)) (gap_of lifts ps f r.apex p) (places (length ps))
        (λ k. sym (LowestBridge.gap_back lifts ps f r.apex p k)) b

    sees : LowestSees lifts ps p f h.behind → (pos 0 <ℤ side_of ps f p) ⊎ ((side_of ps f p ≡ pos 0) × IsLexAbove (gap_of lifts ps f r.apex p) (places (length ps)))
    sees (inl k) = inl (subst (λ n. pos 0 <ℤ n) (sym (side_new ps ms p new f on)) k)
    sees (inr k) = inr (side_new ps ms p new f on ∙ k.0, above (decided lifts ps ms p new (reversed f) r.apex r.on r.low) k.1)

-- a clear place under the face has p above it
pub clear_to : (lifts : ℕ → ℤ) (ps : List Point) (ms : List ℕ) (p : ℕ) (new : IsNew ps ms p) (f : Face) → LowestBridge.IsFaceOn (Contains ms) f → IsLowestClearPlace lifts ps ms p (reversed f) → UnderOn lifts ps ms p f
clear_to lifts ps ms p new f on (clear_row t d face n) = under_row r.apex (LowestBridge.under_of lifts ps (Contains ms) f r.apex r.low)
    (lex_same (gap_of lifts ps (reversed f) r.apex p) (λ k. neg_ℤ (gap_of lifts ps f r.apex p k)) (places (length ps))
    (λ k. LowestBridge.gap_over lifts ps f r.apex p k) ((face_above lifts ps ms p new (reversed f) r.apex t r.on r.low r.even).0 n))
  where
    r : LowestBridge.IsRowOn lifts ps (Contains ms) (reversed f) t
    r = LowestBridge.row_on lifts ps ms (Contains ms) (LowestBridge.of_list ps ms new.within) (reversed f) t d face
clear_to lifts ps ms p new f on (clear_ghost h n) = under_ghost bare r.apex r.low (λ s. n (sees s))
  where
    r : LowestBridge.IsRowOn lifts ps (Contains ms) f h.behind
    r = LowestBridge.row_on lifts ps ms (Contains ms) (LowestBridge.of_list ps ms new.within) f h.behind h.is_row h.is_face

    bare : IsBareUnder (side_of ps f) (Contains ms)
    bare e l k = bare_of ps ms p new (reversed f) (LowestBridge.reversed_on (Contains ms) f on) h.none_beyond e l (subst (λ n. pos 0 <ℤ n) (sym (side_of-reversed ps f e)) k)

    new_reversed : side (triangle ps (reversed f)) (point ps p) ≡ neg_ℤ (side_of ps f p)
    new_reversed = sym (side_new ps ms p new (reversed f) (LowestBridge.reversed_on (Contains ms) f on)) ∙ side_of-reversed ps f p

    neg_of_zero : (m n : ℤ) → m ≡ neg_ℤ n → n ≡ pos 0 → m ≡ pos 0
    neg_of_zero m n e z = omega (arith, ints)

    sees : (pos 0 <ℤ neg_ℤ (side_of ps f p)) ⊎ ((side_of ps f p ≡ pos 0) × IsLexBelow (gap_of lifts ps f r.apex p) (places (length ps)))
        → LowestSees lifts ps p (reversed f) h.behind
    sees (inl k) = inl (subst (λ n. pos 0 <ℤ n) (sym new_reversed) k)
    sees (inr k) = inr (neg_of_zero (side (triangle ps (reversed f)) (point ps p)) (side_of ps f p) new_reversed k.0, λ o. not_both (gap_of lifts ps f r.apex p) (places (length ps)) ((face_above lifts ps ms p new f r.apex h.behind r.on r.low r.even).0 o) k.1)

-- a place of the cavity, from p below a low tetrahedron
pub of_cavity : (lifts : ℕ → ℤ) (ps : List Point) (ms : List ℕ) (p : ℕ) (new : IsNew ps ms p) (f : Face) → LowestBridge.IsFaceOn (Contains ms) f → OverOn lifts ps ms p f → IsLowestCavityPlace lifts ps ms p f
of_cavity lifts ps ms p new f on (over_row o low below) =
    let r = LowestBridge.row_of lifts ps ms (Contains ms) (LowestBridge.of_list ps ms new.within) f o on low in
    cavity_row r.row r.is_row r.is_face (λ h. not_both (gap_of lifts ps f o p) (places (length ps)) ((face_above lifts ps ms p new f o r.row on low r.even).0 h) below)
of_cavity lifts ps ms p new f on (over_ghost bare a low s) =
    cavity_ghost (record { behind = r.row; is_row = r.is_row; is_face = r.is_face; none_beyond = of_bare ps ms p new f on bare }) (sees s)
  where
    back : LowestBridge.IsFaceOn (Contains ms) (reversed f)
    back = LowestBridge.reversed_on (Contains ms) f on

    low' : LowestBridge.IsLowOn lifts ps (Contains ms) (reversed f) a
    low' = LowestBridge.of_under lifts ps (Contains ms) f a low

    r : LowestBridge.HasRowOn lifts ps ms (reversed f) a
    r = LowestBridge.row_of lifts ps ms (Contains ms) (LowestBridge.of_list ps ms new.within) (reversed f) a back low'

    sees : (pos 0 <ℤ side_of ps f p) ⊎ ((side_of ps f p ≡ pos 0) × IsLexAbove (gap_of lifts ps f a p) (places (length ps)))
        → LowestSees lifts ps p f r.row
    sees (inl k) = inl (subst (λ n. pos 0 <ℤ n) (side_new ps ms p new f on) k)
    sees (inr k) = inr (
      sym (side_new ps ms p new f on) ∙ k.0,
      λ o. not_both (gap_of lifts ps f a p) (places (length ps)) k.1 (lex_same (gap_of lifts ps (reversed f) a p) (λ k. neg_ℤ (gap_of lifts ps f a p k)) (places (length ps))
          (λ k. LowestBridge.gap_over lifts ps f a p k) ((face_above lifts ps ms p new (reversed f) a r.row back low' r.even).0 o)),
    )

-- a clear place, from p above one
pub of_clear : (lifts : ℕ → ℤ) (ps : List Point) (ms : List ℕ) (p : ℕ) (new : IsNew ps ms p) (f : Face) → LowestBridge.IsFaceOn (Contains ms) f → UnderOn lifts ps ms p f → IsLowestClearPlace lifts ps ms p (reversed f)
of_clear lifts ps ms p new f on (under_row a low below) = clear_row r.row r.is_row r.is_face
    ((face_above lifts ps ms p new (reversed f) a r.row back low' r.even).1 (lex_same (λ k. neg_ℤ (gap_of lifts ps f a p k)) (gap_of lifts ps (reversed f) a p) (places (length ps))
    (λ k. sym (LowestBridge.gap_over lifts ps f a p k)) below))
  where
    back : LowestBridge.IsFaceOn (Contains ms) (reversed f)
    back = LowestBridge.reversed_on (Contains ms) f on

    low' : LowestBridge.IsLowOn lifts ps (Contains ms) (reversed f) a
    low' = LowestBridge.of_under lifts ps (Contains ms) f a low

    r : LowestBridge.HasRowOn lifts ps ms (reversed f) a
    r = LowestBridge.row_of lifts ps ms (Contains ms) (LowestBridge.of_list ps ms new.within) (reversed f) a back low'
of_clear lifts ps ms p new f on (under_ghost bare o low n) =
    clear_ghost (record { behind = r.row; is_row = r.is_row; is_face = r.is_face; none_beyond = of_bare ps ms p new (reversed f) (LowestBridge.reversed_on (Contains ms) f on) bare' }) (λ s. n (sees s))
  where
    r : LowestBridge.HasRowOn lifts ps ms f o
    r = LowestBridge.row_of lifts ps ms (Contains ms) (LowestBridge.of_list ps ms new.within) f o on low

    bare' : IsBare (side_of ps (reversed f)) (Contains ms)
    bare' e l k = bare e l (subst (λ n. pos 0 <ℤ n) (side_of-reversed ps f e) k)

    new_reversed : side (triangle ps (reversed f)) (point ps p) ≡ neg_ℤ (side_of ps f p)
    new_reversed = sym (side_new ps ms p new (reversed f) (LowestBridge.reversed_on (Contains ms) f on)) ∙ side_of-reversed ps f p

    of_neg_zero : (m n : ℤ) → m ≡ neg_ℤ n → m ≡ pos 0 → n ≡ pos 0
    of_neg_zero m n e z = omega (arith, ints)

    below : IsLexAbove (gap_of lifts ps f o p) (places (length ps)) ⊎ IsLexBelow (gap_of lifts ps f o p) (places (length ps))
        → ¬ HasAbove lifts ps r.row p → IsLexBelow (gap_of lifts ps f o p) (places (length ps))
    below (inl a) q = absurd (q ((face_above lifts ps ms p new f o r.row on low r.even).1 a))
    below (inr b) q = b

    sees : LowestSees lifts ps p (reversed f) r.row
        → (pos 0 <ℤ neg_ℤ (side_of ps f p)) ⊎ ((side_of ps f p ≡ pos 0) × IsLexBelow (gap_of lifts ps f o p) (places (length ps)))
    sees (inl k) = inl (subst (λ n. pos 0 <ℤ n) new_reversed k)
    sees (inr k) = inr (of_neg_zero (side (triangle ps (reversed f)) (point ps p)) (side_of ps f p) new_reversed k.0, below (decided lifts ps ms p new f o on low) k.1)

-- ---- the laws

-- by the four cases of a tetrahedron or a ghost on each side
pub law_rim : LowestRimLaw
law_rim lifts ps ms p new f cavity clear =
    let over = cavity_to lifts ps ms p new f cavity in
    subst (λ n. pos 0 <ℤ n) (side_new ps ms p new f over.0) (pencil.sees (face_pencil lifts ps f) p over.1 (clear_to lifts ps ms p new f over.0 clear))

-- some corner of a positive row is off each plane
pub off_plane : (qs : List Point) (f : Face) (x : ℕ) (t : Tet) → IsPositive (corners qs t) → side_of qs f x ≢ pos 0 → (e : ℕ) × IsCorner t e × (side_of qs f e ≢ pos 0)
off_plane qs f x t p off = go (zero_or_not (side_of qs f t.a)) (zero_or_not (side_of qs f t.b)) (zero_or_not (side_of qs f t.c)) (zero_or_not (side_of qs f t.d))
  where
    zero_or_not : (n : ℤ) → (n ≡ pos 0) ⊎ (n ≢ pos 0)
    zero_or_not n = split (sign_of n)
      where
        split : (pos 0 <ℤ n) ⊎ ((n ≡ pos 0) ⊎ (pos 0 <ℤ neg_ℤ n)) → (n ≡ pos 0) ⊎ (n ≢ pos 0)
        split (inl h) = inr (λ e. omega (arith, ints))
        split (inr (inl e)) = inl e
        split (inr (inr h)) = inr (λ e. omega (arith, ints))

    go : (side_of qs f t.a ≡ pos 0) ⊎ (side_of qs f t.a ≢ pos 0) → (side_of qs f t.b ≡ pos 0) ⊎ (side_of qs f t.b ≢ pos 0) → (side_of qs f t.c ≡ pos 0) ⊎ (side_of qs f t.c ≢ pos 0)
        → (side_of qs f t.d ≡ pos 0) ⊎ (side_of qs f t.d ≢ pos 0) → (e : ℕ) × IsCorner t e × (side_of qs f e ≢ pos 0)
    go (inr n) _ _ _ = (t.a, (A, refl), n)
    go (inl _) (inr n) _ _ = (t.b, (B, refl), n)
    go (inl _) (inl _) (inr n) _ = (t.c, (C, refl), n)
    go (inl _) (inl _) (inl _) (inr n) = (t.d, (D, refl), n)
    go (inl ea) (inl eb) (inl ec) (inl ed) =
        let c = corners qs t in
        let y = as_rational (point qs x) in
        let g = triangle qs f in
        absurd (off (sym (ring.side_rational-as_rational g (point qs x)) ∙ zero_of_mul (volume c) (side_rational g y) p
        (sym (identity.sides-combine c g y)
        ∙ (λ j. side_rational (opposite_a c) y *ℤ ea j +ℤ (side_rational (opposite_b c) y *ℤ eb j +ℤ (side_rational (opposite_c c) y *ℤ ec j +ℤ side_rational (opposite_d c) y *ℤ ed j)))
        ∙ identity.sum-zero (side_rational (opposite_a c) y) (side_rational (opposite_b c) y) (side_rational (opposite_c c) y) (side_rational (opposite_d c) y))))

-- a row with the corner n, with that corner last
pub last_corner : (qs : List Point) (t : Tet) (n : ℕ) → IsCorner t n → (f : Face) × IsEven qs t (beside f n)
last_corner qs t n (A, e) = (
  record { a = t.d; b = t.c; c = t.b },
  subst (λ i. IsEven qs t (record { a = t.d; b = t.c; c = t.b; d = i })) (sym e) (even_trans qs t (cross t) (swap_both (cross t)) (even-cross qs t) (even-swap qs (cross t))),
)
last_corner qs t n (B, e) = (record { a = t.c; b = t.d; c = t.a }, subst (λ i. IsEven qs t (record { a = t.c; b = t.d; c = t.a; d = i })) (sym e) (even-cross qs t))
last_corner qs t n (C, e) = (record { a = t.b; b = t.a; c = t.d }, subst (λ i. IsEven qs t (record { a = t.b; b = t.a; c = t.d; d = i })) (sym e) (even-swap qs t))
last_corner qs t n (D, e) = (record { a = t.a; b = t.b; c = t.c }, subst (λ i. IsEven qs t (record { a = t.a; b = t.b; c = t.c; d = i })) (sym e) (even_self qs t))

is_corner_or_not : (t : Tet) (i : ℕ) → IsCorner t i ⊎ ¬ IsCorner t i
is_corner_or_not t i = go (corner_or_not t i)
  where
    go : IsCorner t i ⊎ ¬ Contains (numbers t) i → IsCorner t i ⊎ ¬ IsCorner t i
    go (inl c) = inl c
    go (inr n) = inr (λ c. n (contains_corner t i c))

-- a tetrahedron with p is the star of the rim, and one without it is low for p too
pub law_insertion : LowestInsertionLaw
law_insertion lifts ps ms p new some some_is t = (to, from)
  where
    qs : List Point
    qs = ps

    low_new : IsLowestAmong ps (p ∷ ms) lifts t → LowestBridge.IsLowFour lifts ps (With (Contains ms) p) t
    low_new d = LowestBridge.low_of_lowest lifts ps (p ∷ ms) (With (Contains ms) p) (LowestBridge.of_new ps ms p new) t d

    new_of : IsArranged t → LowestBridge.IsLowFour lifts ps (With (Contains ms) p) t → IsLowestAmong ps (p ∷ ms) lifts t
    new_of a low = LowestBridge.lowest_of_low lifts ps (p ∷ ms) (With (Contains ms) p) (LowestBridge.of_new ps ms p new) t a low

    below_next : (i : ℕ) → With (Contains ms) p i → i ≢ p → Contains ms i
    below_next i (inl e) n = absurd (n e)
    below_next i (inr c) n = c

    old_row : IsLowestAmong ps (p ∷ ms) lifts t → LowestBridge.IsLowFour lifts ps (With (Contains ms) p) t → ¬ IsCorner t p → IsLowestAmong ps ms lifts t × HasAbove lifts ps t p
    old_row d low n = (LowestBridge.lowest_of_low lifts ps ms (Contains ms) (LowestBridge.of_list ps ms new.within) t d.is_arranged old, low.others p (inl refl) n)
      where
        old : LowestBridge.IsLowFour lifts ps (Contains ms) t
        old = record {
          on = λ i c. below_next i (low.on i c) (λ e. n (subst (λ j. IsCorner t j) e c));
          positive = low.positive;
          others = λ e l k. low.others e (inr l) k;
        }

    star_row : IsLowestAmong ps (p ∷ ms) lifts t → LowestBridge.IsLowFour lifts ps (With (Contains ms) p) t → (f : Face) → IsEven ps t (beside f p) → IsLowestStarRow lifts ps ms p t
    star_row d low f even = record {
      face = f;
      same_corners = LowestBridge.same_of_even ps (beside f p) t (even_back ps t (beside f p) even);
      is_positive = low.positive;
      is_arranged = d.is_arranged;
      cavity = of_cavity lifts ps ms p new f on places_of.0;
      clear = of_clear lifts ps ms p new f on places_of.1;
    }
      where
        four : LowestBridge.IsLowFour lifts ps (With (Contains ms) p) (beside f p)
        four = LowestBridge.low_even lifts ps (With (Contains ms) p) t (beside f p) even low

        apart : AreDistinct (beside f p)
        apart = distinct ps (beside f p) four.positive

        on : LowestBridge.IsFaceOn (Contains ms) f
        on = record {
          on_a = below_next f.a (four.on f.a (A, refl)) (apart A D tt);
          on_b = below_next f.b (four.on f.b (B, refl)) (apart B D tt);
          on_c = below_next f.c (four.on f.c (C, refl)) (apart C D tt);
        }

        old : LowestBridge.IsLowFour lifts ps (Contains ms) some
        old = LowestBridge.low_of_lowest lifts ps ms (Contains ms) (LowestBridge.of_list ps ms new.within) some some_is

        off : (e : ℕ) × IsCorner some e × (side_of ps f e ≢ pos 0)
        off = off_plane ps f p some old.positive (above_not_zero _ four.positive)

        places_of : OverOn lifts ps ms p f × UnderOn lifts ps ms p f
        places_of = pencil.low_is_star (face_pencil lifts ps f) p (LowestBridge.list_set ps ms new.within) new.is_new off.0 (old.on off.0 off.1) off.2
            (LowestBridge.low_on_face lifts ps (With (Contains ms) p) f p four)

    to : IsLowestAmong ps (p ∷ ms) lifts t → (IsLowestAmong ps ms lifts t × HasAbove lifts ps t p) ⊎ IsLowestStarRow lifts ps ms p t
    to d = go (is_corner_or_not t p)
      where
        go : IsCorner t p ⊎ ¬ IsCorner t p → (IsLowestAmong ps ms lifts t × HasAbove lifts ps t p) ⊎ IsLowestStarRow lifts ps ms p t
        go (inl c) = let r = last_corner ps t p c in inr (star_row d (low_new d) r.0 r.1)
        go (inr n) = inl (old_row d (low_new d) n)

    kept : IsLowestAmong ps ms lifts t → HasAbove lifts ps t p → IsLowestAmong ps (p ∷ ms) lifts t
    kept d o = new_of d.is_arranged (record {
      on = λ i c. inr (old.on i c);
      positive = old.positive;
      others = λ e l n. at e (l) n;
    })
      where
        old : LowestBridge.IsLowFour lifts ps (Contains ms) t
        old = LowestBridge.low_of_lowest lifts ps ms (Contains ms) (LowestBridge.of_list ps ms new.within) t d

        at : (e : ℕ) → (e ≡ p) ⊎ Contains ms e → ¬ IsCorner t e → IsLexAbove (residual_at ps lifts t e) (places (length ps))
        at e (inl same) n = subst (λ i. IsLexAbove (residual_at ps lifts t i) (places (length ps))) (sym same) o
        at e (inr l) n = old.others e l n

    star : IsLowestStarRow lifts ps ms p t → IsLowestAmong ps (p ∷ ms) lifts t
    star s = new_of s.is_arranged (LowestBridge.low_even lifts ps (With (Contains ms) p) (beside s.face p) t even four)
      where
        over : LowestBridge.IsFaceOn (Contains ms) s.face × OverOn lifts ps ms p s.face
        over = cavity_to lifts ps ms p new s.face s.cavity

        low : LowestBridge.IsLowOn lifts ps (With (Contains ms) p) s.face p
        low = pencil.star_is_low (face_pencil lifts ps s.face) p over.1 (clear_to lifts ps ms p new s.face over.0 s.clear)

        four : LowestBridge.IsLowFour lifts ps (With (Contains ms) p) (beside s.face p)
        four = LowestBridge.four_of_face lifts ps (With (Contains ms) p) s.face p (record { on_a = wider over.0.on_a; on_b = wider over.0.on_b; on_c = wider over.0.on_c }) low
          where
            wider : {i : ℕ} → Contains ms i → With (Contains ms) p i
            wider h = inr h

        even : IsEven ps (beside s.face p) t
        even = LowestBridge.even_of_same ps (beside s.face p) t four.positive s.is_positive s.is_arranged s.same_corners

    from : (IsLowestAmong ps ms lifts t × HasAbove lifts ps t p) ⊎ IsLowestStarRow lifts ps ms p t → IsLowestAmong ps (p ∷ ms) lifts t
    from (inl h) = kept h.0 h.1
    from (inr s) = star s

-- the first point over the face makes the neighbor
pub law_face_pairing : LowestFacePairingLaw
law_face_pairing lifts ps ms within f t d face = go (first_of (face_pencil lifts ps f) (Contains ms) (LowestBridge.list_set ps ms within))
  where
    r : LowestBridge.IsRowOn lifts ps (Contains ms) (reversed f) t
    r = LowestBridge.row_on lifts ps ms (Contains ms) (LowestBridge.of_list ps ms within) (reversed f) t d face

    under : LowestBridge.IsLowUnderOn lifts ps (Contains ms) f r.apex
    under = LowestBridge.under_of lifts ps (Contains ms) f r.apex r.low

    go : IsBare (side_of ps f) (Contains ms) ⊎ ((o : ℕ) × IsFirst (side_of ps f) (gap_of lifts ps f) (places (length ps)) (Contains ms) o) → HasNoneAmongBeyond ps ms f ⊎ ((s : Tet) × IsLowestAmong ps ms lifts s × IsFaceOf ps f s)
    go (inl bare) = inl bare
    go (inr o) =
        let q = LowestBridge.row_of lifts ps ms (Contains ms) (LowestBridge.of_list ps ms within) f o.0 (LowestBridge.reversed_on (Contains ms) (reversed f) r.on) (neighbor (face_pencil lifts ps f) r.apex o.0 under o.1) in
        inr (q.row, q.is_row, q.is_face)

-- the first point is unique
pub law_one_row : LowestOneRowLaw
law_one_row lifts ps ms within f s t ds fs dt ft = same_row ps s t ds.is_positive dt.is_positive ds.is_arranged dt.is_arranged
    (λ i c. even_corner_to ps (beside f q.apex) t q.even i (subst (λ o. IsCorner (beside f o) i) same (even_corner_from ps (beside f r.apex) s r.even i c)))
    (λ i c. even_corner_to ps (beside f r.apex) s r.even i (subst (λ o. IsCorner (beside f o) i) (sym same) (even_corner_from ps (beside f q.apex) t q.even i c)))
  where
    r : LowestBridge.IsRowOn lifts ps (Contains ms) f s
    r = LowestBridge.row_on lifts ps ms (Contains ms) (LowestBridge.of_list ps ms within) f s ds fs

    q : LowestBridge.IsRowOn lifts ps (Contains ms) f t
    q = LowestBridge.row_on lifts ps ms (Contains ms) (LowestBridge.of_list ps ms within) f t dt ft

    same : r.apex ≡ q.apex
    same = low_unique (face_pencil lifts ps f) r.apex q.apex r.low q.low
