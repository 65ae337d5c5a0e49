-- Numbers that are renamed in their order.
use Rattle.std.proofs.Common.{◌≡◌, inl, inr, ℕ, zero, suc, ◌<◌, ◌≤◌, eqb, refl, ap, sym, ◌∙◌, arith}
use Rattle.std.specs.Prelude.{min, max}
use Rattle.std.proofs.lemmas.Bool.{cases_lt, cases_order, eq-eqb, ne_eqb, cases_eq}
use Rattle.geo_laws.specs.Faces.{face_of}
use Rattle.geo_laws.specs.declared.faces.Face.{Face}
use Rattle.geo_laws.specs.declared.tetrahedra.Tet.{Tet}
use Rattle.mesh_check.specs.Corners.{point_in, face_in}
use Rattle.run_laws.specs.Renamed.{renamed_row}

abbrev pub Rises : (ℕ → ℕ) → Type 0
Rises r = (i j : ℕ) → i < j → r i < r j

-- the face of the new numbers
abbrev pub renamed : (ℕ → ℕ) → Face → Face
renamed r f = record { a = r f.a; b = r f.b; c = r f.c }

weak : (r : ℕ → ℕ) → Rises r → (i j : ℕ) → i ≤ j → r i ≤ r j
weak r up i j le =
    elim (cases_order i j) [
      | inl e ↦ let same : r i ≡ r j = ap r e in omega arith
      | inr (inl lt) ↦ let h = up i j lt in omega arith
      | inr (inr gt) ↦ absurd (omega arith)
    ]

min_is : (r : ℕ → ℕ) → Rises r → (i j : ℕ) → r (min i j) ≡ min (r i) (r j)
min_is r up i j =
    elim (cases_lt i j) [
      | inl lt ↦ let h = up i j lt in ap r (let e : min i j ≡ i = omega arith in e) ∙ (let e : r i ≡ min (r i) (r j) = omega arith in e)
      | inr le ↦ let h = weak r up j i le in ap r (let e : min i j ≡ j = omega arith in e) ∙ (let e : r j ≡ min (r i) (r j) = omega arith in e)
    ]

max_is : (r : ℕ → ℕ) → Rises r → (i j : ℕ) → r (max i j) ≡ max (r i) (r j)
max_is r up i j =
    elim (cases_lt i j) [
      | inl lt ↦ let h = up i j lt in ap r (let e : max i j ≡ j = omega arith in e) ∙ (let e : r j ≡ max (r i) (r j) = omega arith in e)
      | inr le ↦ let h = weak r up j i le in ap r (let e : max i j ≡ i = omega arith in e) ∙ (let e : r i ≡ max (r i) (r j) = omega arith in e)
    ]

-- faces are renamed corner by corner
pub face_renamed : (r : ℕ → ℕ) → Rises r → (i j k : ℕ) → face_of (r i) (r j) (r k) ≡ renamed r (face_of i j k)
face_renamed r up i j k = λ n. record { a = least n; b = middle n; c = last n }
  where
    least : min (min (r i) (r j)) (r k) ≡ r (min (min i j) k)
    least = ap (λ (m : ℕ). min m (r k)) (sym (min_is r up i j)) ∙ sym (min_is r up (min i j) k)

    middle : max (min (r i) (r j)) (min (max (r i) (r j)) (r k)) ≡ r (max (min i j) (min (max i j) k))
    middle =
        (λ n. max (sym (min_is r up i j) n) (min (sym (max_is r up i j) n) (r k)))
        ∙ ap (λ (m : ℕ). max (r (min i j)) m) (sym (min_is r up (max i j) k)) ∙ sym (max_is r up (min i j) (min (max i j) k))

    last : max (max (r i) (r j)) (r k) ≡ r (max (max i j) k)
    last = ap (λ (m : ℕ). max m (r k)) (sym (max_is r up i j)) ∙ sym (max_is r up (max i j) k)

pub same_number : (r : ℕ → ℕ) → Rises r → (i j : ℕ) → r i ≡ r j → i ≡ j
same_number r up i j e =
    elim (cases_order i j) [
      | inl same ↦ same
      | inr (inl lt) ↦ let h = up i j lt in absurd (omega arith)
      | inr (inr gt) ↦ let h = up j i gt in absurd (omega arith)
    ]

pub same_face : (r : ℕ → ℕ) → Rises r → (f g : Face) → renamed r f ≡ renamed r g → f ≡ g
same_face r up f g e = λ n. record {
  a = same_number r up f.a g.a (ap (λ (h : Face). h.a) e) n;
  b = same_number r up f.b g.b (ap (λ (h : Face). h.b) e) n;
  c = same_number r up f.c g.c (ap (λ (h : Face). h.c) e) n;
}

pub same_test : (r : ℕ → ℕ) → Rises r → (i j : ℕ) → eqb (r i) (r j) ≡ eqb i j
same_test r up i j =
    elim (cases_eq i j) [
      | inl e ↦ eq-eqb (r i) (r j) (ap r e) ∙ sym (eq-eqb i j e)
      | inr ne ↦ ne_eqb (r i) (r j) (λ e. ne (same_number r up i j e)) ∙ sym (ne_eqb i j ne)
    ]

-- ---- rows

pub face_in_renamed : (r : ℕ → ℕ) → Rises r → (t : Tet) (k : ℕ) → k < 4 → face_in (renamed_row r t) k ≡ renamed r (face_in t k)
face_in_renamed r up t zero h = face_renamed r up t.b t.c t.d
face_in_renamed r up t (suc zero) h = face_renamed r up t.a t.c t.d
face_in_renamed r up t (suc (suc zero)) h = face_renamed r up t.a t.b t.d
face_in_renamed r up t (suc (suc (suc zero))) h = face_renamed r up t.a t.b t.c
face_in_renamed r up t (suc (suc (suc (suc k)))) h = absurd (omega arith)

pub point_in_renamed : (r : ℕ → ℕ) (t : Tet) (k : ℕ) → k < 4 → point_in (renamed_row r t) k ≡ r (point_in t k)
point_in_renamed r t zero h = refl
point_in_renamed r t (suc zero) h = refl
point_in_renamed r t (suc (suc zero)) h = refl
point_in_renamed r t (suc (suc (suc zero))) h = refl
point_in_renamed r t (suc (suc (suc (suc k)))) h = absurd (omega arith)
