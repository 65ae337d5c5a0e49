-- The other row across a face.
use Rattle.std.proofs.Common.{◌≡◌, ◌≢◌, ℕ, zero, suc, ◌+◌, ◌<◌, ◌≤◌, ℤ, pos, ◌<ℤ◌, Bool, true, false, eqb, not, ◌||◌, ◌&&◌, List, [], ◌∷◌, length, Option, Some, None, refl, ap, sym, subst, ◌∙◌, arith, inl, inr, eqb-true}
use Rattle.std.specs.Prelude.{◌⊎◌, find, option_map}
use Rattle.std.specs.List.{enumerate_from}
use Rattle.std.proofs.lemmas.Int.{ints}
use Rattle.std.proofs.lemmas.Bool.{cases_Bool, cases_lt, cond-true, cond-false}
use Rattle.sign_predicates.specs.Point.{Point}
use Rattle.geo_laws.specs.Faces.{face_of}
use Rattle.geo_laws.specs.declared.faces.Face.{Face}
use Rattle.geo_laws.specs.declared.tetrahedra.Tet.{Tet}
use Rattle.geo_laws.proofs.Members.{both_true, either_true}
use Rattle.incidence.specs.Pairs.{is_face, has_face, is_partner, partner}
use Rattle.incidence.proofs.Partners.{face_same, face_itself, has_0, has_1, has_2, both}
use Rattle.mesh_check.specs.Corners.{point_in, face_in, IsShared}
use Rattle.mesh_check.specs.Defects.{point_side, AreOppositeSigns, LieOnOneSide, IsSameSide}
use Rattle.geo_laws.specs.Delaunay.{row_at}

-- ---- faces of rows

-- a face opposite a corner is a face of the row
has_of : (t : Tet) (k : ℕ) (f : Face) → k < 4 → face_in t k ≡ f → has_face f t ≡ true
has_of t zero f lt e = has_0 f t (face_itself _ _ e)
has_of t (suc zero) f lt e = has_1 f t (face_itself _ _ e)
has_of t (suc (suc zero)) f lt e = has_2 f t (left _ _ (face_itself _ _ e))
  where
    left : (a b : Bool) → a ≡ true → (a || b) ≡ true
    left a b h = ap (λ x. x || b) h
has_of t (suc (suc (suc zero))) f lt e = has_2 f t (right _ _ (face_itself _ _ e))
  where
    right : (a b : Bool) → b ≡ true → (a || b) ≡ true
    right true b h = refl
    right false b h = h
has_of t (suc (suc (suc (suc k)))) f lt e = absurd (omega arith)

-- and the other way round
corner_of : (t : Tet) (f : Face) → has_face f t ≡ true → (k : ℕ) × (k < 4) × (face_in t k ≡ f)
corner_of t f h =
    elim (either_true (is_face (face_of t.b t.c t.d) f) _ h) [
      | inl e ↦ (0, omega arith, face_same _ _ e)
      | inr h1 ↦ elim (either_true (is_face (face_of t.a t.c t.d) f) _ h1) [
        | inl e ↦ (1, omega arith, face_same _ _ e)
        | inr h2 ↦ elim (either_true (is_face (face_of t.a t.b t.d) f) _ h2) [
          | inl e ↦ (2, omega arith, face_same _ _ e)
          | inr e ↦ (3, omega arith, face_same _ _ e)
        ]
      ]
    ]

-- ---- the first other row

abbrev Finds : (ℕ × Tet → Bool) → ℕ → List Tet → Type 0
Finds p n rows = (k : ℕ) × (k < length rows) × (p (n + k, row_at rows k) ≡ true) × (find p (enumerate_from n rows) ≡ Some (n + k, row_at rows k))

found_here : (p : ℕ × Tet → Bool) (n : ℕ) (t : Tet) (rows : List Tet) → p (n, t) ≡ true → Finds p n (t ∷ rows)
found_here p n t rows here =
    let e : n ≡ n + 0 = omega arith in
    (0, omega arith, ap (λ (m : ℕ). p (m, t)) (sym e) ∙ here, cond-true _ _ _ here ∙ ap (λ (m : ℕ). Some (m, t)) e)

found_later : (p : ℕ × Tet → Bool) (n : ℕ) (t : Tet) (rows : List Tet) → p (n, t) ≡ false → Finds p (n + 1) rows → Finds p n (t ∷ rows)
found_later p n t rows fails (k, lt, holds, is) =
    let e : n + 1 + k ≡ n + suc k = omega arith in
    (suc k, omega arith, ap (λ (m : ℕ). p (m, row_at rows k)) (sym e) ∙ holds, cond-false _ _ _ fails ∙ is ∙ ap (λ (m : ℕ). Some (m, row_at rows k)) e)

finds : (p : ℕ × Tet → Bool) (n : ℕ) (rows : List Tet) (j : ℕ) → j < length rows → p (n + j, row_at rows j) ≡ true → Finds p n rows
finds p n [] j lt holds = absurd (omega arith)
finds p n (t ∷ rows) zero lt holds = let e : n ≡ n + 0 = omega arith in found_here p n t rows (ap (λ (m : ℕ). p (m, t)) e ∙ holds)
finds p n (t ∷ rows) (suc j) lt holds =
    let e : n + 1 + j ≡ n + suc j = omega arith in
    elim (cases_Bool (p (n, t))) [
      | inl here ↦ found_here p n t rows here
      | inr fails ↦ found_later p n t rows fails (finds p (n + 1) rows j (omega arith) (ap (λ (m : ℕ). p (m, row_at rows j)) e ∙ holds))
    ]

other : (i j : ℕ) → i ≢ j → not (eqb j i) ≡ true
other i j ne =
    elim (cases_Bool (eqb j i)) [
      | inl holds ↦ let e = eqb-true j i holds in absurd (ne (sym e))
      | inr fails ↦ ap not fails
    ]

-- where another row has the face, the partner is a row that has it
partner_has : (rows : List Tet) (i j : ℕ) (f : Face) → j < length rows → i ≢ j → has_face f (row_at rows j) ≡ true
    → (k : ℕ) × (k < length rows) × (i ≢ k) × (has_face f (row_at rows k) ≡ true) × (partner rows i f ≡ Some k)
partner_has rows i j f lt ne has =
    let z : 0 + j ≡ j = omega arith in
    let holds : is_partner i f (0 + j, row_at rows j) ≡ true = ap (λ (m : ℕ). is_partner i f (m, row_at rows j)) z ∙ both _ _ (other i j ne) has in
    let found = finds (is_partner i f) 0 rows j lt holds in
    let k = found.0 in
    let e : 0 + k ≡ k = omega arith in
    let parts = both_true (not (eqb (0 + k) i)) (has_face f (row_at rows k)) found.2 in
    (k, found.1, λ same. clash i k (ap (λ (m : ℕ). not (eqb m i)) (sym e) ∙ parts.0) same, parts.1, ap (option_map (λ (r : ℕ × Tet). r.0)) found.3 ∙ ap Some e)
  where
    clash : (i k : ℕ) → not (eqb k i) ≡ true → i ≡ k → ⊥
    clash i k h same = grind arith

-- ---- no three rows share a face

clash : (z : ℤ) → pos 0 <ℤ z → z <ℤ pos 0 → ⊥
clash z a b = omega (arith, ints)

three : (x y z : ℤ) → AreOppositeSigns x y → AreOppositeSigns x z → AreOppositeSigns y z → ⊥
three x y z (inl a) (inl b) (inl c) = clash y c.0 a.1
three x y z (inl a) (inl b) (inr c) = clash z c.1 b.1
three x y z (inl a) (inr b) c = clash x a.0 b.0
three x y z (inr a) (inl b) c = clash x b.0 a.0
three x y z (inr a) (inr b) (inl c) = clash z b.1 c.1
three x y z (inr a) (inr b) (inr c) = clash y a.1 c.0

turned : (x y : ℤ) → AreOppositeSigns x y → AreOppositeSigns y x
turned x y (inl a) = inr (a.1, a.0)
turned x y (inr a) = inl (a.1, a.0)

-- on which side of the face opposite it a corner lies
abbrev own_side : List Point → List Tet → ℕ → ℕ → ℤ
own_side ps rows i p = point_side ps (face_in (row_at rows i) p) (point_in (row_at rows i) p)

abbrev pub HasNoSameSide : List Point → List Tet → Type 0
HasNoSameSide ps rows = (i j : ℕ) → ¬ IsSameSide ps rows i j

-- two rows with a common face lie on different sides of it
opposed : (ps : List Point) (rows : List Tet) → HasNoSameSide ps rows → (i j p q : ℕ) → i < length rows → j < length rows → i ≢ j → p < 4 → q < 4 → face_in (row_at rows i) p ≡ face_in (row_at rows j) q
    → ¬ (¬ AreOppositeSigns (own_side ps rows i p) (own_side ps rows j q))
opposed ps rows none i j p q lt mt ne small less e apart =
    elim (cases_lt i j) [
      | inl before ↦ none i j (before, mt, (p, q, record { corner = small; other = less; same = e }, apart))
      | inr le ↦ none j i (after i j ne le, lt, (q, p, record { corner = less; other = small; same = sym e }, λ h. apart (turned _ _ h)))
    ]
  where
    after : (i j : ℕ) → i ≢ j → j ≤ i → j < i
    after i j ne le = grind arith

nat_self : (n : ℕ) → eqb n n ≡ true
nat_self n = grind arith

-- so the partner is the one other row that has the face
pub partner_is : (ps : List Point) (rows : List Tet) → HasNoSameSide ps rows → (i j p q : ℕ) → i < length rows → j < length rows → i ≢ j → p < 4 → q < 4 → face_in (row_at rows i) p ≡ face_in (row_at rows j) q
    → partner rows i (face_in (row_at rows i) p) ≡ Some j
partner_is ps rows none i j p q lt mt ne small less e =
    let f = face_in (row_at rows i) p in
    let found = partner_has rows i j f mt ne (has_of (row_at rows j) q f less (sym e)) in
    let k = found.0 in
    let corner = corner_of (row_at rows k) f found.3 in
    elim (cases_Bool (eqb k j)) [
      | inl holds ↦ found.4 ∙ ap Some (eqb-true k j holds)
      | inr fails ↦ absurd (opposed ps rows none i j p q lt mt ne small less e
          (λ a. opposed ps rows none i k p corner.0 lt found.1 found.2 small corner.1 (sym corner.2)
          (λ b. opposed ps rows none j k q corner.0 mt found.1 (differ j k fails) less corner.1 (sym e ∙ sym corner.2)
          (λ c. three _ _ _ a b c))))
    ]
  where
    differ : (j k : ℕ) → eqb k j ≡ false → j ≢ k
    differ j k fails same = let one : eqb k j ≡ true = ap (λ (n : ℕ). eqb k n) same ∙ nat_self k in absurd (cc)
