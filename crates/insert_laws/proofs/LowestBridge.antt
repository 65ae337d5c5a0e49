-- From lowest tetrahedra to low ones on their faces, and back: even permutations turn each face to the front.
use Rattle.geo_laws.proofs.Corners.{contains_or_not}
use Rattle.geo_laws.proofs.Arrangement as even
use Rattle.std.proofs.Common.{◌≡◌, ◌≢◌, ◌⊎◌, inl, inr, ℕ, zero, suc, ◌<◌, pos, neg_ℤ, ◌<ℤ◌, List, ◌∷◌, length, refl, sym, subst, arith, ℤ}
use Rattle.std.specs.List.{slice_index_or}
use Rattle.std.specs.Prelude.{Contains}
use Rattle.sign_predicates.specs.Point.{Point}
use Rattle.sign_predicates.specs.Orientation.{IsPositive}
use Rattle.geo_laws.specs.Delaunay.{corners, IsArranged, AreNumbersOf}
use Rattle.geo_laws.specs.Height.{IsLowestAmong}
use Rattle.geo_laws.specs.Height.{residual_at, places}
use Rattle.geo_laws.specs.declared.tetrahedra.Tet.{Tet}
use Rattle.geo_laws.proofs.Corners.{IsCorner, corner_of}
use Rattle.sign_predicates.proofs.Places.{A, B, C, D}
use Rattle.geo_laws.proofs.Corners.{contains_corner}
use Rattle.geo_laws.proofs.Lexicographic.{IsLexAbove, lex_same}
use Rattle.geo_laws.specs.OrientedFace.{Face, reversed, beside, IsOther}
use Rattle.insert_laws.specs.LowestInsertion.{HasSameCorners, IsFaceOf, IsNew}
use Rattle.insert_laws.proofs.StarPencil.{With}
use Rattle.insert_laws.proofs.Pencil.{IsSet, IsLow, IsLowUnder}
use Rattle.geo_laws.proofs.Arrangement.{IsEven, even_back, even_positive, arranged, same_row}
use Rattle.insert_laws.proofs.FacePencil.{side_of, gap_of, side_of-reversed, gap_of-reversed}

-- the row is positive and on the points below m, and all others of these are above it
pub record IsLowFour (lifts : ℕ → ℤ) (ps : List Point) (S : ℕ → Type 0) (t : Tet) : Type 0 where
  pub on : (i : ℕ) → IsCorner t i → S i
  pub positive : IsPositive (corners ps t)
  pub others : (e : ℕ) → S e → ¬ IsCorner t e → IsLexAbove (residual_at ps lifts t e) (places (length ps))

-- and so is each even permutation
pub low_even : (lifts : ℕ → ℤ) (ps : List Point) (S : ℕ → Type 0) (t s : Tet) → IsEven ps t s → IsLowFour lifts ps S t → IsLowFour lifts ps S s
low_even lifts ps S t s h low = record {
  on = λ i c. low.on i (even.corner_from ps t s h i c);
  positive = even_positive ps t s h low.positive;
  others = λ e l n. lex_same (residual_at ps lifts t e) (residual_at ps lifts s e) (places (length ps)) (λ k. even.even_residual ps t s h lifts e k) (low.others e l (λ c. n (even.corner_to ps t s h e c)));
}

-- ---- rows of the numbers

-- S are the numbers of the list, which are those of points
pub record IsOf (ps : List Point) (ms : List ℕ) (S : ℕ → Type 0) : Type 0 where
  pub within : (i : ℕ) → Contains ms i → i < length ps
  pub to : (i : ℕ) → S i → Contains ms i
  pub from : (i : ℕ) → Contains ms i → S i

-- a lowest tetrahedron is low
pub low_of_lowest : (lifts : ℕ → ℤ) (ps : List Point) (ms : List ℕ) (S : ℕ → Type 0) → IsOf ps ms S → (t : Tet) → IsLowestAmong ps ms lifts t → IsLowFour lifts ps S t
low_of_lowest lifts ps ms S h t d = record {
  on = λ i c. h.from i (on i c);
  positive = d.is_positive;
  others = λ e l n. d.others e (h.to e l) (λ c. n (corner_of t e c));
}
  where
    on : (i : ℕ) → IsCorner t i → Contains ms i
    on i c = d.is_on i (contains_corner t i c)

-- and a low one in its least arrangement is lowest
pub lowest_of_low : (lifts : ℕ → ℤ) (ps : List Point) (ms : List ℕ) (S : ℕ → Type 0) → IsOf ps ms S → (t : Tet) → IsArranged t → IsLowFour lifts ps S t → IsLowestAmong ps ms lifts t
lowest_of_low lifts ps ms S h t a low = record {
  is_on = λ i c. h.to i (low.on i (corner_of t i c));
  is_positive = low.positive;
  is_arranged = a;
  others = λ e l n. low.others e (h.from e l) (λ c. n (contains_corner t e c));
}

-- the numbers of a list
pub of_list : (ps : List Point) (ms : List ℕ) → AreNumbersOf ps ms → IsOf ps ms (Contains ms)
of_list ps ms h = record { within = h; to = λ i c. c; from = λ i c. c }

-- ---- one number more

-- the numbers with p are p and the others
pub of_cons : (p : ℕ) (ms : List ℕ) (i : ℕ) → Contains (p ∷ ms) i → With (Contains ms) p i
of_cons p ms i c = go c.0 c.1 c.2
  where
    go : (k : ℕ) → k < length (p ∷ ms) → slice_index_or (p ∷ ms) k i ≡ i → With (Contains ms) p i
    go zero l e = inl (sym e)
    go (suc k) l e = inr (k, (omega arith), e)

pub to_cons : (p : ℕ) (ms : List ℕ) (i : ℕ) → With (Contains ms) p i → Contains (p ∷ ms) i
to_cons p ms i (inl e) = (0, omega arith, sym e)
to_cons p ms i (inr c) = let l = c.1 in (suc c.0, omega arith, c.2)

pub of_new : (ps : List Point) (ms : List ℕ) (p : ℕ) → IsNew ps ms p → IsOf ps (p ∷ ms) (With (Contains ms) p)
of_new ps ms p new = record { within = λ i c. at i (of_cons p ms i c); to = λ i h. to_cons p ms i h; from = λ i c. of_cons p ms i c }
  where
    at : (i : ℕ) → With (Contains ms) p i → i < length ps
    at i (inl e) = let h = new.on in omega arith
    at i (inr c) = new.within i c

-- whether a number is among them is decided
pub list_set : (ps : List Point) (ms : List ℕ) → AreNumbersOf ps ms → IsSet (Contains ms) (length ps)
list_set ps ms h = record { decided = contains_or_not ms; below = h }

pub new_set : (ps : List Point) (ms : List ℕ) (p : ℕ) → IsNew ps ms p → IsSet (With (Contains ms) p) (length ps)
new_set ps ms p new = record { decided = λ i. go i (contains_or_not (p ∷ ms) i); below = λ i h. (of_new ps ms p new).within i (to_cons p ms i h) }
  where
    go : (i : ℕ) → Contains (p ∷ ms) i ⊎ ¬ Contains (p ∷ ms) i → With (Contains ms) p i ⊎ ¬ With (Contains ms) p i
    go i (inl c) = inl (of_cons p ms i c)
    go i (inr n) = inr (λ h. n (to_cons p ms i h))

-- ---- rows on a face

-- the corners of the face are below m
pub record IsFaceOn (S : ℕ → Type 0) (f : Face) : Type 0 where
  pub on_a : S f.a
  pub on_b : S f.b
  pub on_c : S f.c

-- the tetrahedron of f and o is low
abbrev pub IsLowOn : (ℕ → ℤ) → List Point → (ℕ → Type 0) → Face → ℕ → Type 0
IsLowOn lifts ps S f o = IsLow f (side_of ps f) (gap_of lifts ps f) (places (length ps)) S o

-- that of the face reversed and a is low
abbrev pub IsLowUnderOn : (ℕ → ℤ) → List Point → (ℕ → Type 0) → Face → ℕ → Type 0
IsLowUnderOn lifts ps S f a = IsLowUnder f (side_of ps f) (gap_of lifts ps f) (places (length ps)) S a

-- on a face, low means that every point of the face's pencil is above
pub low_on_face : (lifts : ℕ → ℤ) (ps : List Point) (S : ℕ → Type 0) (f : Face) (o : ℕ) → IsLowFour lifts ps S (beside f o) → IsLowOn lifts ps S f o
low_on_face lifts ps S f o low = record { on = low.on o (D, refl); over = low.positive; others = λ e l h d. low.others e l (λ c. none h d c) }
  where
    none : {e : ℕ} → IsOther f e → e ≢ o → IsCorner (beside f o) e → ⊥
    none h d (A, e) = h.not_a e
    none h d (B, e) = h.not_b e
    none h d (C, e) = h.not_c e
    none h d (D, e) = d e

pub face_on : (lifts : ℕ → ℤ) (ps : List Point) (S : ℕ → Type 0) (f : Face) (o : ℕ) → IsLowFour lifts ps S (beside f o) → IsFaceOn S f
face_on lifts ps S f o low = record { on_a = low.on f.a (A, refl); on_b = low.on f.b (B, refl); on_c = low.on f.c (C, refl) }

-- and back
pub four_of_face : (lifts : ℕ → ℤ) (ps : List Point) (S : ℕ → Type 0) (f : Face) (o : ℕ) → IsFaceOn S f → IsLowOn lifts ps S f o → IsLowFour lifts ps S (beside f o)
four_of_face lifts ps S f o on low = record {
  on = λ i c. below i c;
  positive = low.over;
  others = λ e l n. low.others e l (record { not_a = λ h. n (A, h); not_b = λ h. n (B, h); not_c = λ h. n (C, h) }) (λ h. n (D, h));
}
  where
    below : (i : ℕ) → IsCorner (beside f o) i → S i
    below i (A, e) = subst S (sym e) on.on_a
    below i (B, e) = subst S (sym e) on.on_b
    below i (C, e) = subst S (sym e) on.on_c
    below i (D, e) = subst S (sym e) low.on

-- ---- the same corners

pub corner_to : (s t : Tet) → HasSameCorners s t → (i : ℕ) → IsCorner s i → IsCorner t i
corner_to s t h i c = corner_of t i ((h i).0 (contains_corner s i c))

pub corner_from : (s t : Tet) → HasSameCorners s t → (i : ℕ) → IsCorner t i → IsCorner s i
corner_from s t h i c = corner_of s i ((h i).1 (contains_corner t i c))

-- even permutations have the same corners
pub same_of_even : (ps : List Point) (s t : Tet) → IsEven ps s t → HasSameCorners s t
same_of_even ps s t h = λ i. (λ c. contains_corner t i (even.corner_to ps s t h i (corner_of s i c)), λ c. contains_corner s i (even.corner_from ps s t h i (corner_of t i c)))

-- positive rows with the same corners, of which one is arranged, are even permutations of one another
pub even_of_same : (ps : List Point) (s t : Tet) → IsPositive (corners ps s) → IsPositive (corners ps t) → IsArranged t → HasSameCorners s t → IsEven ps s t
even_of_same ps s t p q a h = go (arranged ps s p)
  where
    go : (r : Tet) × IsEven ps s r × IsArranged r → IsEven ps s t
    go r = subst (λ u. IsEven ps s u) (same_row ps r.0 t (even_positive ps s r.0 r.1 p) q r.2 a
        (λ i c. corner_to s t h i (even.corner_from ps s r.0 r.1 i c)) (λ i c. even.corner_to ps s r.0 r.1 i (corner_from s t h i c))) r.1

-- a lowest row on its face
pub record IsRowOn (lifts : ℕ → ℤ) (ps : List Point) (S : ℕ → Type 0) (f : Face) (t : Tet) : Type 0 where
  pub apex : ℕ
  pub on : IsFaceOn S f
  pub even : IsEven ps (beside f apex) t
  pub low : IsLowOn lifts ps S f apex

-- each lowest tetrahedron with that face is one
pub row_on : (lifts : ℕ → ℤ) (ps : List Point) (ms : List ℕ) (S : ℕ → Type 0) → IsOf ps ms S → (f : Face) (t : Tet) → IsLowestAmong ps ms lifts t → IsFaceOf ps f t → IsRowOn lifts ps S f t
row_on lifts ps ms S h f t d face = record { apex = face.opposite; on = on; even = even; low = low_on_face lifts ps S f face.opposite (low_even lifts ps S t u (even_back ps u t even) low) }
  where
    u : Tet
    u = beside f face.opposite

    low : IsLowFour lifts ps S t
    low = low_of_lowest lifts ps ms S h t d

    below : (i : ℕ) → IsCorner (beside f face.opposite) i → S i
    below i c = low.on i (corner_to (beside f face.opposite) t face.same_corners i c)

    on : IsFaceOn S f
    on = record { on_a = below f.a (A, refl); on_b = below f.b (B, refl); on_c = below f.c (C, refl) }

    even : IsEven ps (beside f face.opposite) t
    even = even_of_same ps (beside f face.opposite) t face.over low.positive d.is_arranged face.same_corners

-- and from the low row on a face
pub record HasRowOn (lifts : ℕ → ℤ) (ps : List Point) (ms : List ℕ) (f : Face) (o : ℕ) : Type 0 where
  pub row : Tet
  pub is_row : IsLowestAmong ps ms lifts row
  pub is_face : IsFaceOf ps f row
  pub even : IsEven ps (beside f o) row

-- from a low one, arranged
pub row_of : (lifts : ℕ → ℤ) (ps : List Point) (ms : List ℕ) (S : ℕ → Type 0) → IsOf ps ms S → (f : Face) (o : ℕ) → IsFaceOn S f → IsLowOn lifts ps S f o → HasRowOn lifts ps ms f o
row_of lifts ps ms S h f o on low =
    let four = four_of_face lifts ps S f o on low in
    let r = arranged ps (beside f o) four.positive in
    record {
      row = r.0;
      is_row = lowest_of_low lifts ps ms S h r.0 r.2 (low_even lifts ps S (beside f o) r.0 r.1 four);
      is_face = record { opposite = o; same_corners = same_of_even ps (beside f o) r.0 r.1; over = low.over };
      even = r.1;
    }

-- ---- the other side

-- to turn the face turns the sides and the residuals
pub under_of : (lifts : ℕ → ℤ) (ps : List Point) (S : ℕ → Type 0) (f : Face) (a : ℕ) → IsLowOn lifts ps S (reversed f) a → IsLowUnderOn lifts ps S f a
under_of lifts ps S f a low = record {
  on = low.on;
  under = subst (λ n. pos 0 <ℤ n) (side_of-reversed ps f a) low.over;
  others = λ e l h d. lex_same (gap_of lifts ps (reversed f) a e) (λ k. neg_ℤ (gap_of lifts ps f a e k)) (places (length ps)) (λ k. gap_of-reversed lifts ps f a e k)
      (low.others e l (record { not_a = h.not_a; not_b = h.not_c; not_c = h.not_b }) d);
}

pub of_under : (lifts : ℕ → ℤ) (ps : List Point) (S : ℕ → Type 0) (f : Face) (a : ℕ) → IsLowUnderOn lifts ps S f a → IsLowOn lifts ps S (reversed f) a
of_under lifts ps S f a low = record {
  on = low.on;
  over = subst (λ n. pos 0 <ℤ n) (sym (side_of-reversed ps f a)) low.under;
  others = λ e l h d. lex_same (λ k. neg_ℤ (gap_of lifts ps f a e k)) (gap_of lifts ps (reversed f) a e) (places (length ps)) (λ k. sym (gap_of-reversed lifts ps f a e k))
      (low.others e l (record { not_a = h.not_a; not_b = h.not_c; not_c = h.not_b }) d);
}

pub reversed_on : (S : ℕ → Type 0) (f : Face) → IsFaceOn S f → IsFaceOn S (reversed f)
reversed_on S f on = record { on_a = on.on_a; on_b = on.on_c; on_c = on.on_b }

-- the row of the face's reverse has the opposite residuals
pub gap_over : (lifts : ℕ → ℤ) (ps : List Point) (f : Face) (o e k : ℕ) → gap_of lifts ps (reversed f) o e k ≡ neg_ℤ (gap_of lifts ps f o e k)
gap_over lifts ps f o e k = gap_of-reversed lifts ps f o e k

pub gap_back : (lifts : ℕ → ℤ) (ps : List Point) (f : Face) (o e k : ℕ) → gap_of lifts ps f o e k ≡ neg_ℤ (gap_of lifts ps (reversed f) o e k)
gap_back lifts ps f o e k = gap_of-reversed lifts ps (reversed f) o e k
