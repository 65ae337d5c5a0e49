-- Lists of faces and rows: what stands in them, and the other rows that have a face.
use Rattle.std.proofs.Common.{◌≡◌, ◌≢◌, ◌⊎◌, inl, inr, ℕ, zero, suc, ◌+◌, ◌<◌, Bool, true, eqb, not, List, [], ◌∷◌, length, Option, Some, None, refl, ap, sym, subst, ◌∙◌, arith}
use Rattle.std.specs.Prelude.{Contains, find, option_map, slice_index_or}
use Rattle.std.specs.List.{list_any, enumerate_from}
use Rattle.std.proofs.lemmas.Bool.{cases_Bool, cond-true, cond-false, cases_eq, true≢false}
use Rattle.geo_laws.specs.Faces.{face_of, row_faces}
use Rattle.geo_laws.specs.declared.faces.Face.{Face}
use Rattle.geo_laws.specs.declared.tetrahedra.Tet.{Tet}
use Rattle.geo_laws.proofs.Members.{contains_of, member_of, some_true, any_true, both_true, either_true}
use Rattle.incidence.specs.Pairs.{is_face, has_face, is_partner, partner}
use Rattle.incidence.proofs.Partners.{face_same, face_itself}
use Rattle.mesh_check.specs.Corners.{face_in}
use Rattle.geo_laws.specs.Delaunay.{row_at}

-- ---- faces

-- a list has a face or not
pub contains_or_not : (fs : List Face) (f : Face) → Contains fs f ⊎ ¬ Contains fs f
contains_or_not fs f =
    elim (cases_Bool (list_any (is_face f) fs)) [
      | inl holds ↦ let at = some_true (is_face f) fs holds in inl (subst (λ (g : Face). Contains fs g) (sym (face_same f at.0 at.2)) (contains_of fs at.0 at.1))
      | inr fails ↦ inr (λ c. true≢false (sym (any_true (is_face f) fs f (member_of fs f c) (face_itself f f refl)) ∙ fails))
    ]

-- the corner that a face of a row is opposite
pub corner_of : (t : Tet) (f : Face) → Contains (row_faces t) f → (k : ℕ) × (k < 4) × (face_in t k ≡ f)
corner_of t f (k, lt, e) = go k lt e
  where
    go : (k : ℕ) → k < 4 → slice_index_or (row_faces t) k f ≡ f → (k : ℕ) × (k < 4) × (face_in t k ≡ f)
    go zero lt e = (0, omega arith, e)
    go (suc zero) lt e = (1, omega arith, e)
    go (suc (suc zero)) lt e = (2, omega arith, e)
    go (suc (suc (suc zero))) lt e = (3, omega arith, e)
    go (suc (suc (suc (suc k)))) lt e = absurd (omega arith)

pub face_of_corner : (t : Tet) (k : ℕ) → k < 4 → Contains (row_faces t) (face_in t k)
face_of_corner t zero lt = (0, omega arith, refl)
face_of_corner t (suc zero) lt = (1, omega arith, refl)
face_of_corner t (suc (suc zero)) lt = (2, omega arith, refl)
face_of_corner t (suc (suc (suc zero))) lt = (3, omega arith, refl)
face_of_corner t (suc (suc (suc (suc k)))) lt = absurd (omega arith)

has_corner : (t : Tet) (f : Face) → has_face f t ≡ true → (k : ℕ) × (k < 4) × (face_in t k ≡ f)
has_corner t f h =
    elim (either_true (is_face (face_of t.b t.c t.d) f) _ h) [
      | inl e ↦ (0, omega arith, face_same _ _ e)
      | inr h1 ↦ elim (either_true (is_face (face_of t.a t.c t.d) f) _ h1) [
        | inl e ↦ (1, omega arith, face_same _ _ e)
        | inr h2 ↦ elim (either_true (is_face (face_of t.a t.b t.d) f) _ h2) [
          | inl e ↦ (2, omega arith, face_same _ _ e)
          | inr e ↦ (3, omega arith, face_same _ _ e)
        ]
      ]
    ]

-- ---- the other row that has a face

-- what is found stands in the list and passes
found_passes : (p : ℕ × Tet → Bool) (n : ℕ) (rows : List Tet) (j : ℕ) → option_map (λ r. r.0) (find p (enumerate_from n rows)) ≡ Some j → (k : ℕ) × (k < length rows) × (j ≡ n + k) × (p (j, row_at rows k) ≡ true)
found_passes p n [] j e = absurd (cc)
found_passes p n (t ∷ rows) j e =
    elim (cases_Bool (p (n, t))) [
      | inl holds ↦ here holds (ap (option_map (λ (r : ℕ × Tet). r.0)) (sym (cond-true _ _ _ holds)) ∙ e)
      | inr fails ↦ later (found_passes p (n + 1) rows j (ap (option_map (λ (r : ℕ × Tet). r.0)) (sym (cond-false _ _ _ fails)) ∙ e))
    ]
  where
    here : p (n, t) ≡ true → Some n ≡ Some j → (k : ℕ) × (k < suc (length rows)) × (j ≡ n + k) × (p (j, row_at (t ∷ rows) k) ≡ true)
    here holds same = let is : n ≡ j = cc in (0, omega arith, omega arith, subst (λ (m : ℕ). p (m, t) ≡ true) is holds)

    later : (k : ℕ) × (k < length rows) × (j ≡ n + 1 + k) × (p (j, row_at rows k) ≡ true) → (k : ℕ) × (k < suc (length rows)) × (j ≡ n + k) × (p (j, row_at (t ∷ rows) k) ≡ true)
    later (k, lt, is, holds) = (suc k, omega arith, omega arith, holds)

-- the partner is another row that has the face
pub partner_shares : (rows : List Tet) (i j : ℕ) (f : Face) → partner rows i f ≡ Some j → (j < length rows) × (i ≢ j) × ((q : ℕ) × (q < 4) × (face_in (row_at rows j) q ≡ f))
partner_shares rows i j f e =
    let found = found_passes (is_partner i f) 0 rows j e in
    let same : found.0 ≡ j = (let is = found.2 in omega arith) in
    let parts = both_true (not (eqb j i)) (has_face f (row_at rows found.0)) found.3 in
    (subst (λ (m : ℕ). m < length rows) same found.1, λ is. clash i j parts.0 is, has_corner (row_at rows j) f (subst (λ (m : ℕ). has_face f (row_at rows m) ≡ true) same parts.1))
  where
    clash : (i j : ℕ) → not (eqb j i) ≡ true → i ≡ j → ⊥
    clash i j h same = grind arith

-- ---- options of numbers

pub same_option : (x y : Option ℕ) → (x ≡ y) ⊎ (x ≢ y)
same_option None None = inl refl
same_option None (Some n) = inr (λ e. absurd (cc))
same_option (Some m) None = inr (λ e. absurd (cc))
same_option (Some m) (Some n) = elim (cases_eq m n) [ inl e ↦ inl (ap Some e) | inr ne ↦ inr (λ e. ne (cc)) ]
