-- A face of a row is opposite a corner where the face and the corner add up to the row.
use Rattle.std.proofs.Common.{◌≡◌, ◌⊎◌, inl, inr, ℕ, ◌+◌, Bool, true, false, ◌||◌, refl, sym, ap, ◌∙◌, arith}
use Rattle.std.specs.Prelude.{◌==◌}
use Rattle.std.proofs.lemmas.Bool.{eqb-true, eq-eqb, ne_eqb, or_cases, true≢false}
use Rattle.geo_laws.specs.Faces.{face_of}
use Rattle.geo_laws.specs.declared.faces.Face.{Face}
use Rattle.geo_laws.specs.declared.tetrahedra.Tet.{Tet}
use Rattle.incidence.specs.declared.half_faces.Corner.{Corner}
use Rattle.incidence.specs.declared.half_faces.Corner.TheVariants.{A, B, C, D}
use Rattle.incidence.specs.HalfFaces.{opposite_row_face, point_at, IsAscendingRow}
use Rattle.incidence.specs.Pairs.{is_face, has_face}
use Rattle.incidence.proofs.Orders.{face_by_numbers}
use Rattle.incidence.proofs.Partners.{face_same, face_itself, has_opposite}

abbrev pub total : Face → ℕ
total f = f.a + f.b + f.c

total-face_of : (i j k : ℕ) → total (face_of i j k) ≡ i + j + k
total-face_of i j k = omega arith

-- the corners of a face may come in any order
swap_first : (i j k : ℕ) → face_of i j k ≡ face_of j i k
swap_first i j k = face_by_numbers _ _ (omega arith) (omega arith) (omega arith)

swap_last : (i j k : ℕ) → face_of i j k ≡ face_of i k j
swap_last i j k = face_by_numbers _ _ (omega arith) (omega arith) (omega arith)

same_test : (f g : Face) (m n : ℕ) → (f ≡ g → m ≡ n) → (m ≡ n → f ≡ g) → (m == n) ≡ is_face f g
same_test f g m n there back = by (m == n) (is_face f g) refl refl
  where
    by : (p q : Bool) → (m == n) ≡ p → is_face f g ≡ q → p ≡ q
    by true true h k = refl
    by true false h k = absurd (true≢false (sym (face_itself f g (back (eqb-true m n h))) ∙ k))
    by false true h k = absurd (true≢false (sym (eq-eqb m n (there (face_same f g k))) ∙ h))
    by false false h k = refl

-- a face of a row is one of its four
four : (f : Face) (t : Tet) → has_face f t ≡ true → (face_of t.b t.c t.d ≡ f) ⊎ ((face_of t.a t.c t.d ≡ f) ⊎ ((face_of t.a t.b t.d ≡ f) ⊎ (face_of t.a t.b t.c ≡ f)))
four f t h = first (or_cases _ _ h)
  where
    third : (is_face (face_of t.a t.b t.d) f ≡ true) ⊎ (is_face (face_of t.a t.b t.c) f ≡ true) → (face_of t.a t.b t.d ≡ f) ⊎ (face_of t.a t.b t.c ≡ f)
    third (inl e) = inl (face_same _ _ e)
    third (inr e) = inr (face_same _ _ e)

    second : (is_face (face_of t.a t.c t.d) f ≡ true) ⊎ ((is_face (face_of t.a t.b t.d) f || is_face (face_of t.a t.b t.c) f) ≡ true) → (face_of t.a t.c t.d ≡ f) ⊎ ((face_of t.a t.b t.d ≡ f) ⊎ (face_of t.a t.b t.c ≡ f))
    second (inl e) = inl (face_same _ _ e)
    second (inr k) = inr (third (or_cases _ _ k))

    first : (is_face (face_of t.b t.c t.d) f ≡ true) ⊎ ((is_face (face_of t.a t.c t.d) f || (is_face (face_of t.a t.b t.d) f || is_face (face_of t.a t.b t.c) f)) ≡ true) → (face_of t.b t.c t.d ≡ f) ⊎ ((face_of t.a t.c t.d ≡ f) ⊎ ((face_of t.a t.b t.d ≡ f) ⊎ (face_of t.a t.b t.c ≡ f)))
    first (inl e) = inl (face_same _ _ e)
    first (inr k) = inr (second (or_cases _ _ k))

-- the two faces that leave out corners with the same number are one
abbrev Adds : ℕ → Face → Tet → Type 0
Adds corner f t = corner + total f ≡ t.a + t.b + t.c + t.d

-- the corner with which a face adds up, from the face's own corners
corner_of : (x y i j k s : ℕ) (f : Face) → face_of i j k ≡ f → x + total f ≡ s → s ≡ y + (i + j + k) → x ≡ y
corner_of x y i j k s f e h g = let p = ap total e in omega (arith, total-face_of i j k, p, h, g)

-- what adds up with the face opposite a corner
adds_up : (x i j k s : ℕ) (f : Face) → x + (i + j + k) ≡ s → face_of i j k ≡ f → x + total f ≡ s
adds_up x i j k s f g e = let p = ap total e in omega (arith, total-face_of i j k, p, g)

pub opposite_a : (f : Face) (t : Tet) → has_face f t ≡ true → (t.a + total f == t.a + t.b + t.c + t.d) ≡ is_face (face_of t.b t.c t.d) f
opposite_a f t h = same_test (face_of t.b t.c t.d) f _ _ (adds_up t.a t.b t.c t.d _ f (omega arith)) (λ k. by k (four f t h))
  where
    by : Adds t.a f t → (face_of t.b t.c t.d ≡ f) ⊎ ((face_of t.a t.c t.d ≡ f) ⊎ ((face_of t.a t.b t.d ≡ f) ⊎ (face_of t.a t.b t.c ≡ f))) → face_of t.b t.c t.d ≡ f
    by k (inl e) = e
    by k (inr (inl e)) = ap (λ x. face_of x t.c t.d) (sym (corner_of t.a t.b t.a t.c t.d _ f e k (omega arith))) ∙ e
    by k (inr (inr (inl e))) = ap (λ x. face_of t.b x t.d) (sym (corner_of t.a t.c t.a t.b t.d _ f e k (omega arith))) ∙ swap_first t.b t.a t.d ∙ e
    by k (inr (inr (inr e))) = ap (λ x. face_of t.b t.c x) (sym (corner_of t.a t.d t.a t.b t.c _ f e k (omega arith))) ∙ swap_last t.b t.c t.a ∙ swap_first t.b t.a t.c ∙ e

pub opposite_b : (f : Face) (t : Tet) → has_face f t ≡ true → (t.b + total f == t.a + t.b + t.c + t.d) ≡ is_face (face_of t.a t.c t.d) f
opposite_b f t h = same_test (face_of t.a t.c t.d) f _ _ (adds_up t.b t.a t.c t.d _ f (omega arith)) (λ k. by k (four f t h))
  where
    by : Adds t.b f t → (face_of t.b t.c t.d ≡ f) ⊎ ((face_of t.a t.c t.d ≡ f) ⊎ ((face_of t.a t.b t.d ≡ f) ⊎ (face_of t.a t.b t.c ≡ f))) → face_of t.a t.c t.d ≡ f
    by k (inl e) = ap (λ x. face_of x t.c t.d) (sym (corner_of t.b t.a t.b t.c t.d _ f e k (omega arith))) ∙ e
    by k (inr (inl e)) = e
    by k (inr (inr (inl e))) = ap (λ x. face_of t.a x t.d) (sym (corner_of t.b t.c t.a t.b t.d _ f e k (omega arith))) ∙ e
    by k (inr (inr (inr e))) = ap (λ x. face_of t.a t.c x) (sym (corner_of t.b t.d t.a t.b t.c _ f e k (omega arith))) ∙ swap_last t.a t.c t.b ∙ e

pub opposite_c : (f : Face) (t : Tet) → has_face f t ≡ true → (t.c + total f == t.a + t.b + t.c + t.d) ≡ is_face (face_of t.a t.b t.d) f
opposite_c f t h = same_test (face_of t.a t.b t.d) f _ _ (adds_up t.c t.a t.b t.d _ f (omega arith)) (λ k. by k (four f t h))
  where
    by : Adds t.c f t → (face_of t.b t.c t.d ≡ f) ⊎ ((face_of t.a t.c t.d ≡ f) ⊎ ((face_of t.a t.b t.d ≡ f) ⊎ (face_of t.a t.b t.c ≡ f))) → face_of t.a t.b t.d ≡ f
    by k (inl e) = ap (λ x. face_of x t.b t.d) (sym (corner_of t.c t.a t.b t.c t.d _ f e k (omega arith))) ∙ swap_first t.c t.b t.d ∙ e
    by k (inr (inl e)) = ap (λ x. face_of t.a x t.d) (sym (corner_of t.c t.b t.a t.c t.d _ f e k (omega arith))) ∙ e
    by k (inr (inr (inl e))) = e
    by k (inr (inr (inr e))) = ap (λ x. face_of t.a t.b x) (sym (corner_of t.c t.d t.a t.b t.c _ f e k (omega arith))) ∙ e

pub opposite_d : (f : Face) (t : Tet) → has_face f t ≡ true → (t.d + total f == t.a + t.b + t.c + t.d) ≡ is_face (face_of t.a t.b t.c) f
opposite_d f t h = same_test (face_of t.a t.b t.c) f _ _ (adds_up t.d t.a t.b t.c _ f (omega arith)) (λ k. by k (four f t h))
  where
    by : Adds t.d f t → (face_of t.b t.c t.d ≡ f) ⊎ ((face_of t.a t.c t.d ≡ f) ⊎ ((face_of t.a t.b t.d ≡ f) ⊎ (face_of t.a t.b t.c ≡ f))) → face_of t.a t.b t.c ≡ f
    by k (inl e) = ap (λ x. face_of x t.b t.c) (sym (corner_of t.d t.a t.b t.c t.d _ f e k (omega arith))) ∙ swap_first t.d t.b t.c ∙ swap_last t.b t.d t.c ∙ e
    by k (inr (inl e)) = ap (λ x. face_of t.a x t.c) (sym (corner_of t.d t.b t.a t.c t.d _ f e k (omega arith))) ∙ swap_last t.a t.d t.c ∙ e
    by k (inr (inr (inl e))) = ap (λ x. face_of t.a t.b x) (sym (corner_of t.d t.c t.a t.b t.d _ f e k (omega arith))) ∙ e
    by k (inr (inr (inr e))) = e

-- ---- by corners

-- a corner and the face opposite it add up to the row
adds : (t : Tet) (k : Corner) → point_at t k + total (opposite_row_face t k) ≡ t.a + t.b + t.c + t.d
adds t A = omega (arith, total-face_of t.b t.c t.d)
adds t B = omega (arith, total-face_of t.a t.c t.d)
adds t C = omega (arith, total-face_of t.a t.b t.d)
adds t D = omega (arith, total-face_of t.a t.b t.c)

same_sum : (m n f s : ℕ) → n + f ≡ s → (m == n) ≡ (m + f == s)
same_sum m n f s e = by (m == n) (m + f == s) refl refl
  where
    by : (p q : Bool) → (m == n) ≡ p → (m + f == s) ≡ q → p ≡ q
    by true true h k = refl
    by true false h k = absurd (true≢false (sym (eq-eqb (m + f) s (omega (arith, e, eqb-true m n h))) ∙ k))
    by false true h k = absurd (true≢false (sym (eq-eqb m n (omega (arith, e, eqb-true (m + f) s k))) ∙ h))
    by false false h k = refl

-- two faces of a row are one where the corners opposite them are at one point
pub opposite_same : (t : Tet) (k j : Corner) → (point_at t k == point_at t j) ≡ is_face (opposite_row_face t k) (opposite_row_face t j)
opposite_same t A j = same_sum t.a (point_at t j) (total (opposite_row_face t j)) _ (adds t j)
    ∙ opposite_a (opposite_row_face t j) t (has_opposite t j)
opposite_same t B j = same_sum t.b (point_at t j) (total (opposite_row_face t j)) _ (adds t j)
    ∙ opposite_b (opposite_row_face t j) t (has_opposite t j)
opposite_same t C j = same_sum t.c (point_at t j) (total (opposite_row_face t j)) _ (adds t j)
    ∙ opposite_c (opposite_row_face t j) t (has_opposite t j)
opposite_same t D j = same_sum t.d (point_at t j) (total (opposite_row_face t j)) _ (adds t j)
    ∙ opposite_d (opposite_row_face t j) t (has_opposite t j)

-- no two corners of an arranged row are at one point
apart : (t : Tet) (k j : Corner) → IsAscendingRow t → point_at t k ≡ point_at t j → k ≡ j
apart t A A h e = refl
apart t A B h e = absurd (omega (arith, h, e))
apart t A C h e = absurd (omega (arith, h, e))
apart t A D h e = absurd (omega (arith, h, e))
apart t B A h e = absurd (omega (arith, h, e))
apart t B B h e = refl
apart t B C h e = absurd (omega (arith, h, e))
apart t B D h e = absurd (omega (arith, h, e))
apart t C A h e = absurd (omega (arith, h, e))
apart t C B h e = absurd (omega (arith, h, e))
apart t C C h e = refl
apart t C D h e = absurd (h.3 e)
apart t D A h e = absurd (omega (arith, h, e))
apart t D B h e = absurd (omega (arith, h, e))
apart t D C h e = absurd (h.3 (sym e))
apart t D D h e = refl

-- so its faces are opposite one corner each
pub opposite_only : (t : Tet) (k j : Corner) → IsAscendingRow t → ¬ (k ≡ j) → is_face (opposite_row_face t k) (opposite_row_face t j) ≡ false
opposite_only t k j h n = sym (opposite_same t k j) ∙ ne_eqb (point_at t k) (point_at t j) (λ e. n (apart t k j h e))
