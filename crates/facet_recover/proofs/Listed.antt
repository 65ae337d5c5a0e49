-- The triangles that are faces of rows, marked row by row, and those that have no mark.
use Rattle.std.proofs.Common.{◌≡◌, ◌⊎◌, inl, inr, ℕ, zero, suc, ◌<◌, Bool, true, false, take, Ok, Err, List, [], ◌∷◌, ◌++◌, map, length, get_or, refl, ap, sym, subst, ◌∙◌, arith}
use Rattle.std.specs.Prelude.{◌↔◌, Contains, min, Result, IfOk}
use Rattle.std.proofs.lemmas.List.{flat_map_more, length-map}
use Rattle.geo_laws.specs.Faces.{face_of, row_faces, faces_of_rows}
use Rattle.geo_laws.specs.declared.faces.Face.{Face}
use Rattle.geo_laws.specs.declared.tetrahedra.Tet.{Tet}
use Rattle.geo_laws.specs.declared.complex.FacetTriangle.{FacetTriangle}
use Rattle.geo_laws.proofs.Members.{IsMember, here, there, member_of, contains_of, append_cases, in_append_left, in_append_right}
use Rattle.box_tree.proofs.Lists.{more_cases, in_more, in_last}
use Rattle.incidence.specs.Chains.{face_at, face_of_triangle}
use Rattle.facet_recover.specs.Missing.{AreMissing, AreListed}
use Rattle.geo_laws.specs.Marks.{is_marked}

-- ---- the faces of one row

-- one of four faces is that one
among : (x f g h i : Face) → Contains (f ∷ g ∷ h ∷ i ∷ []) x → (x ≡ f) ⊎ ((x ≡ g) ⊎ ((x ≡ h) ⊎ (x ≡ i)))
among x f g h i c = go x (member_of (f ∷ g ∷ h ∷ i ∷ []) x c)
  where
    go : (y : Face) → IsMember y (f ∷ g ∷ h ∷ i ∷ []) → (y ≡ f) ⊎ ((y ≡ g) ⊎ ((y ≡ h) ⊎ (y ≡ i)))
    go y here = inl refl
    go y (there here) = inr (inl refl)
    go y (there (there here)) = inr (inr (inl refl))
    go y (there (there (there here))) = inr (inr (inr refl))
    go y (there (there (there (there n)))) = elim n [ ]

-- the four faces are marked one after another
pub marked_four : (x f g h i : Face) (A B C D E : Type 0) → B ↔ (A ⊎ (x ≡ f)) → C ↔ (B ⊎ (x ≡ g)) → D ↔ (C ⊎ (x ≡ h)) → E ↔ (D ⊎ (x ≡ i)) → E ↔ (A ⊎ Contains (f ∷ g ∷ h ∷ i ∷ []) x)
marked_four x f g h i A B C D E b c d e = (λ m. last (e.0 m), λ w. elim w [ inl m ↦ e.1 (inl (d.1 (inl (c.1 (inl (b.1 (inl m))))))) | inr m ↦ back (among x f g h i m) ])
  where
    All : Type 0
    All = A ⊎ Contains (f ∷ g ∷ h ∷ i ∷ []) x

    one : A ⊎ (x ≡ f) → All
    one (inl m) = inl m
    one (inr q) = inr (0, omega arith, sym q)

    two : B ⊎ (x ≡ g) → All
    two (inl m) = one (b.0 m)
    two (inr q) = inr (1, omega arith, sym q)

    three : C ⊎ (x ≡ h) → All
    three (inl m) = two (c.0 m)
    three (inr q) = inr (2, omega arith, sym q)

    last : D ⊎ (x ≡ i) → All
    last (inl m) = three (d.0 m)
    last (inr q) = inr (3, omega arith, sym q)

    back : (x ≡ f) ⊎ ((x ≡ g) ⊎ ((x ≡ h) ⊎ (x ≡ i))) → E
    back (inl q) = e.1 (inl (d.1 (inl (c.1 (inl (b.1 (inr q)))))))
    back (inr (inl q)) = e.1 (inl (d.1 (inl (c.1 (inr q)))))
    back (inr (inr (inl q))) = e.1 (inl (d.1 (inr q)))
    back (inr (inr (inr q))) = e.1 (inr q)

-- a face that is another one is that one
pub told_of : (x f g : Face) (A B : Type 0) → f ≡ g → B ↔ (A ⊎ (x ≡ f)) → B ↔ (A ⊎ (x ≡ g))
told_of x f g A B e h = subst (λ y. B ↔ (A ⊎ (x ≡ y))) e h

least : (i j k : ℕ) → (min (min i j) k ≡ i) ⊎ ((min (min i j) k ≡ j) ⊎ (min (min i j) k ≡ k))
least i j k = grind arith

-- the first corner of a row's face is a corner of the row
pub first_corner : (t : Tet) (f : Face) → Contains (row_faces t) f → (f.a ≡ t.a) ⊎ ((f.a ≡ t.b) ⊎ ((f.a ≡ t.c) ⊎ (f.a ≡ t.d)))
first_corner t f c = go (among f (face_of t.b t.c t.d) (face_of t.a t.c t.d) (face_of t.a t.b t.d) (face_of t.a t.b t.c) c)
  where
    Found : Type 0
    Found = (f.a ≡ t.a) ⊎ ((f.a ≡ t.b) ⊎ ((f.a ≡ t.c) ⊎ (f.a ≡ t.d)))

    is : (g : Face) → f ≡ g → f.a ≡ g.a
    is g e = ap (λ (h : Face). h.a) e

    go : (f ≡ face_of t.b t.c t.d) ⊎ ((f ≡ face_of t.a t.c t.d) ⊎ ((f ≡ face_of t.a t.b t.d) ⊎ (f ≡ face_of t.a t.b t.c))) → Found
    go (inl e) = let m = is (face_of t.b t.c t.d) e in elim (least t.b t.c t.d) [ inl k ↦ inr (inl (m ∙ k)) | inr k ↦ elim k [ inl l ↦ inr (inr (inl (m ∙ l))) | inr l ↦ inr (inr (inr (m ∙ l))) ] ]
    go (inr (inl e)) = let m = is (face_of t.a t.c t.d) e in elim (least t.a t.c t.d) [ inl k ↦ inl (m ∙ k) | inr k ↦ elim k [ inl l ↦ inr (inr (inl (m ∙ l))) | inr l ↦ inr (inr (inr (m ∙ l))) ] ]
    go (inr (inr (inl e))) = let m = is (face_of t.a t.b t.d) e in elim (least t.a t.b t.d) [ inl k ↦ inl (m ∙ k) | inr k ↦ elim k [ inl l ↦ inr (inl (m ∙ l)) | inr l ↦ inr (inr (inr (m ∙ l))) ] ]
    go (inr (inr (inr e))) = let m = is (face_of t.a t.b t.c) e in elim (least t.a t.b t.c) [ inl k ↦ inl (m ∙ k) | inr k ↦ elim k [ inl l ↦ inr (inl (m ∙ l)) | inr l ↦ inr (inr (inl (m ∙ l))) ] ]

-- ---- the faces of all rows

-- the places of the faces are marked exactly where these are faces of the rows
abbrev pub AreMarked : List Face → List Tet → List Bool → Type 0
AreMarked faces rows marks = (k : ℕ) → k < length faces → (is_marked marks k ≡ true) ↔ Contains (faces_of_rows rows) (face_at faces k)

pub marked_none : (faces : List Face) (marks : List Bool) → ((k : ℕ) → is_marked marks k ≡ false) → AreMarked faces [] marks
marked_none faces marks clear k l = (λ m. absurd (never (sym (clear k) ∙ m)), λ c. absurd (let n = c.1 in omega arith))
  where
    never : false ≡ true → ⊥
    never e = cc

pub marked_more : (faces : List Face) (rows : List Tet) (t : Tet) (old new : List Bool) → ((k : ℕ) → k < length faces → (is_marked new k ≡ true) ↔ ((is_marked old k ≡ true) ⊎ Contains (row_faces t) (face_at faces k)))
    → AreMarked faces rows old → AreMarked faces (rows ++ t ∷ []) new
marked_more faces rows t old new more was k l = subst (λ fs. (is_marked new k ≡ true) ↔ Contains fs x) (flat_map_more row_faces [] rows t) (λ m. to ((more k l).0 m), λ c. (more k l).1 (from (append_cases x (faces_of_rows rows) (row_faces t) (member_of _ x c))))
  where
    x : Face
    x = face_at faces k

    to : (is_marked old k ≡ true) ⊎ Contains (row_faces t) x → Contains (faces_of_rows rows ++ row_faces t) x
    to (inl m) = contains_of _ x (in_append_left x (faces_of_rows rows) (row_faces t) (member_of _ x ((was k l).0 m)))
    to (inr c) = contains_of _ x (in_append_right x (faces_of_rows rows) (row_faces t) (member_of _ x c))

    from : IsMember x (faces_of_rows rows) ⊎ IsMember x (row_faces t) → (is_marked old k ≡ true) ⊎ Contains (row_faces t) x
    from (inl m) = inl ((was k l).1 (contains_of _ x m))
    from (inr m) = inr (contains_of _ x m)

default_at : {X : Type 0} (xs : List X) (k : ℕ) (d e : X) → k < length xs → get_or xs k d ≡ get_or xs k e
default_at [] k d e h = absurd (omega arith)
default_at (x ∷ xs) zero d e h = refl
default_at (x ∷ xs) (suc k) d e h = default_at xs k d e (omega arith)

mapped_at : (ts : List FacetTriangle) (k : ℕ) (d : FacetTriangle) (e : Face) → k < length ts → get_or (map face_of_triangle ts) k e ≡ face_of_triangle (get_or ts k d)
mapped_at [] k d e h = absurd (omega arith)
mapped_at (t ∷ ts) zero d e h = refl
mapped_at (t ∷ ts) (suc k) d e h = mapped_at ts k d e (omega arith)

-- the marks of the triangles
pub listed_are : (ts : List FacetTriangle) (faces : List Face) (rows : List Tet) (marks : List Bool) → faces ≡ map face_of_triangle ts → length marks ≡ length ts → AreMarked faces rows marks → AreListed ts rows marks
listed_are ts faces rows marks is long h = record {
  counted = long;
  each = λ i d l.
      let m = h i (subst (λ n. i < n) (sym (ap length is ∙ length-map _ _)) l) in
      let b = default_at marks i true false (omega (arith, long, l)) in
      let f = ap (λ fs. face_at fs i) is ∙ mapped_at ts i d _ l in
      (λ e. subst (Contains (faces_of_rows rows)) f (m.0 (sym b ∙ e)), λ c. b ∙ m.1 (subst (Contains (faces_of_rows rows)) (sym f) c));
}

-- ---- triangles without a mark

pub missing_none : (rows : List Tet) → AreMissing [] rows []
missing_none rows t = (λ m. absurd (let l = m.1 in omega arith), λ m. absurd (let l = m.0.1 in omega arith))

pub missing_more : (ts left : List FacetTriangle) (rows : List Tet) (t : FacetTriangle) → ¬ Contains (faces_of_rows rows) (face_of_triangle t) → AreMissing ts rows left → AreMissing (ts ++ t ∷ []) rows (left ++ t ∷ [])
missing_more ts left rows t is h u = (λ m. to (more_cases u t left m), λ m. from (more_cases u t ts m.0) m.1)
  where
    to : Contains left u ⊎ (u ≡ t) → Contains (ts ++ t ∷ []) u × ¬ Contains (faces_of_rows rows) (face_of_triangle u)
    to (inl m) = let q = (h u).0 m in (in_more u t ts q.0, q.1)
    to (inr e) = subst (λ v. Contains (ts ++ t ∷ []) v × ¬ Contains (faces_of_rows rows) (face_of_triangle v)) (sym e) (in_last t ts, is)

    from : Contains ts u ⊎ (u ≡ t) → ¬ Contains (faces_of_rows rows) (face_of_triangle u) → Contains (left ++ t ∷ []) u
    from (inl m) k = in_more u t left ((h u).1 (m, k))
    from (inr e) k = subst (Contains (left ++ t ∷ [])) (sym e) (in_last t left)

pub missing_same : (ts left : List FacetTriangle) (rows : List Tet) (t : FacetTriangle) → Contains (faces_of_rows rows) (face_of_triangle t) → AreMissing ts rows left → AreMissing (ts ++ t ∷ []) rows left
missing_same ts left rows t is h u = (λ m. (let q = (h u).0 m in (in_more u t ts q.0, q.1)), λ m. from (more_cases u t ts m.0) m.1)
  where
    from : Contains ts u ⊎ (u ≡ t) → ¬ Contains (faces_of_rows rows) (face_of_triangle u) → Contains left u
    from (inl m) k = (h u).1 (m, k)
    from (inr e) k = absurd (k (subst (λ v. Contains (faces_of_rows rows) (face_of_triangle v)) (sym e) is))

-- what the mark of a triangle says
pub unlisted_at : (ts : List FacetTriangle) (rows : List Tet) (marks : List Bool) (i : ℕ) (t : FacetTriangle) → AreListed ts rows marks → i < length ts → ((d : FacetTriangle) → get_or ts i d ≡ t)
    → get_or marks i true ≡ false → ¬ Contains (faces_of_rows rows) (face_of_triangle t)
unlisted_at ts rows marks i t h l is e c = never (sym e ∙ (h.each i t l).1 (subst (λ u. Contains (faces_of_rows rows) (face_of_triangle u)) (sym (is t)) c))
  where
    never : false ≡ true → ⊥
    never e = cc

pub listed_at : (ts : List FacetTriangle) (rows : List Tet) (marks : List Bool) (i : ℕ) (t : FacetTriangle) → AreListed ts rows marks → i < length ts → ((d : FacetTriangle) → get_or ts i d ≡ t)
    → get_or marks i true ≡ true → Contains (faces_of_rows rows) (face_of_triangle t)
listed_at ts rows marks i t h l is e = subst (λ u. Contains (faces_of_rows rows) (face_of_triangle u)) (is t) ((h.each i t l).0 e)

-- ---- answers

pub if_ok_then : {X E : Type 0} (P Q : X → Type 0) (r : Result X E) → ((x : X) → P x → Q x) → IfOk r P → IfOk r Q
if_ok_then P Q (Ok x) h p = h x p
if_ok_then P Q (Err e) h p = p

pub front_of : (xs zs : List Bool) (n : ℕ) → n ≡ length xs → take n (xs ++ zs) ≡ xs
front_of [] zs zero h = refl
front_of [] zs (suc n) h = absurd (omega arith)
front_of (x ∷ xs) zs zero h = absurd (omega arith)
front_of (x ∷ xs) zs (suc n) h = ap (λ s. x ∷ s) (front_of xs zs n (omega arith))
