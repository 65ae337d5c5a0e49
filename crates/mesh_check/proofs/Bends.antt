-- Rows that are bent across a face.
use Rattle.std.proofs.Common.{◌≡◌, ◌≢◌, ℕ, ◌+◌, ◌<◌, ◌≤◌, Bool, true, false, eqb, List, length, map, Option, Some, None, refl, ap, sym, subst, ◌∙◌, arith, inl, inr}
use Rattle.std.specs.Prelude.{◌⊎◌, IfSome, is_some}
use Rattle.std.specs.HashSet.{HashSet}
use Rattle.std.proofs.lemmas.Bool.{cases_lt, cond-true}
use Rattle.sign_predicates.specs.Point.{Point}
use Rattle.geo_laws.specs.declared.tetrahedra.Tet.{Tet}
use Rattle.incidence.specs.Pairs.{across_of, IsAcrossWithin}
use Rattle.incidence.specs.declared.pairs.Across.{Across}
use Rattle.mesh_files.specs.declared.markers.FaceRow.{FaceRow}
use Rattle.mesh_check.specs.Bending.{IsBentOnce, IsBentFrom, AreBentIn, IsBentAcross, MeetsBent}
use Rattle.mesh_check.specs.Corners.{entry_in, face_in, face_listed}
use Rattle.mesh_check.specs.Defects.{IsBent}
use Rattle.mesh_check.specs.FaceSets.{HasExactly}
use Rattle.mesh_check.specs.Searches.{IsLeastOf}
use Rattle.mesh_check.specs.Sides.{lesser_of}
use Rattle.mesh_check.specs.declared.face_set.FaceKey.{FaceKey}
use Rattle.mesh_check.proofs.Firsts.{first_of_either, first_as}
use Rattle.mesh_check.proofs.Partners.{HasNoSameSide, partner_is}
use Rattle.mesh_check.proofs.Rows.{either, entry_is}
use Rattle.geo_laws.specs.Delaunay.{row_at}

-- an entry is the place of a row
pub entry_within : (n : ℕ) (x : Across) (k : ℕ) → IsAcrossWithin n x → IfSome (entry_in x k) (λ j. j < n)
entry_within n x k h =
    let P : Option ℕ → Type 0 = λ o. IfSome o (λ j. j < n) in
    either P (eqb k 0) _ _ h.0 (either P (eqb k 1) _ _ h.1 (either P (eqb k 2) _ _ h.2 h.3))

pub entry_below : (n : ℕ) (x : Across) (k j : ℕ) → IsAcrossWithin n x → entry_in x k ≡ Some j → j < n
entry_below n x k j h e = subst (λ (o : Option ℕ). IfSome o (λ i. i < n)) e (entry_within n x k h)

-- ---- corner by corner

pub bent_none : {S : Type 0} (ps : List Point) (listed : HashSet FaceKey S) (rows : List Tet) (i : ℕ) (x : Across) → IsLeastOf (MeetsBent ps listed rows i x 0) None
bent_none ps listed rows i x j h = let lt = h.1 in absurd (omega arith)

pub bent_more : {S : Type 0} (ps : List Point) (listed : HashSet FaceKey S) (rows : List Tet) (i : ℕ) (x : Across) (n : ℕ) (o r : Option ℕ) → IsLeastOf (MeetsBent ps listed rows i x n) o → IsLeastOf (IsBentAcross ps listed rows i x n) r
    → IsLeastOf (MeetsBent ps listed rows i x (n + 1)) (lesser_of o r)
bent_more ps listed rows i x n o r before here = first_of_either (MeetsBent ps listed rows i x n) (IsBentAcross ps listed rows i x n) (MeetsBent ps listed rows i x (n + 1)) o r before here split left right
  where
    split : (j : ℕ) → MeetsBent ps listed rows i x (n + 1) j → MeetsBent ps listed rows i x n j ⊎ IsBentAcross ps listed rows i x n j
    split j (k, lt, h) =
        elim (cases_lt k n) [
          | inl less ↦ inl (k, less, h)
          | inr le ↦ let e : k ≡ n = omega arith in inr (subst (λ (m : ℕ). IsBentAcross ps listed rows i x m j) e h)
        ]

    left : (j : ℕ) → MeetsBent ps listed rows i x n j → MeetsBent ps listed rows i x (n + 1) j
    left j (k, lt, h) = (k, omega arith, h)

    right : (j : ℕ) → IsBentAcross ps listed rows i x n j → MeetsBent ps listed rows i x (n + 1) j
    right j h = (n, omega arith, h)

-- ---- what the partners show is all that is bent

pub bent_is : {S : Type 0} (ps : List Point) (listed : HashSet FaceKey S) (rows : List Tet) (faces : List FaceRow) (i : ℕ) (x : Across) (o : Option ℕ) → HasNoSameSide ps rows → HasExactly listed (map face_listed faces)
    → i < length rows → IsAcrossWithin (length rows) x → x ≡ across_of rows i (row_at rows i) → IsLeastOf (MeetsBent ps listed rows i x 4) o → IsLeastOf (IsBent ps rows faces i) o
bent_is ps listed rows faces i x o none exactly lt within is first = first_as (MeetsBent ps listed rows i x 4) (IsBent ps rows faces i) o first to from
  where
    to : (j : ℕ) → MeetsBent ps listed rows i x 4 j → IsBent ps rows faces i j
    to j (k, small, (e, before, (p, less, (q, little, (same, out, inside))))) =
        (before, entry_below (length rows) x k j within e, (p, q, record { corner = less; other = little; same = same }, λ l. out ((exactly (face_in (row_at rows i) p)).1 l), inside))

    from : (j : ℕ) → IsBent ps rows faces i j → MeetsBent ps listed rows i x 4 j
    from j (before, mt, (p, q, shared, out, inside)) =
        let ne : i ≢ j = omega arith in
        let e = ap (λ (y : Across). entry_in y p) is ∙ entry_is rows i (row_at rows i) p ∙ partner_is ps rows none i j p q lt mt ne shared.corner shared.other shared.same in
        (p, shared.corner, (e, before, (p, shared.corner, (q, shared.other, (shared.same, λ h. out ((exactly (face_in (row_at rows i) p)).0 h), inside)))))

-- ---- one corner

pub across_holds : {S : Type 0} (ps : List Point) (listed : HashSet FaceKey S) (rows : List Tet) (i : ℕ) (x : Across) (k two : ℕ) → entry_in x k ≡ Some two → i < two → AreBentIn ps listed (row_at rows i) (row_at rows two)
    → IsLeastOf (IsBentAcross ps listed rows i x k) (Some two)
across_holds ps listed rows i x k two e lt bent = ((e, lt, bent), λ j less h. same j less (sym h.0 ∙ e))
  where
    same : (j : ℕ) → j < two → Some j ≡ Some two → ⊥
    same j less is = let one : j ≡ two = cc in absurd (omega arith)

pub across_fails : {S : Type 0} (ps : List Point) (listed : HashSet FaceKey S) (rows : List Tet) (i : ℕ) (x : Across) (k two : ℕ) → entry_in x k ≡ Some two → (i < two → ¬ AreBentIn ps listed (row_at rows i) (row_at rows two))
    → IsLeastOf (IsBentAcross ps listed rows i x k) None
across_fails ps listed rows i x k two e none j h =
    let is : Some j ≡ Some two = sym h.0 ∙ e in
    let one : j ≡ two = cc in
    none (subst (λ (n : ℕ). i < n) one h.1) (subst (λ (n : ℕ). AreBentIn ps listed (row_at rows i) (row_at rows n)) one h.2)

pub corner_holds : {S : Type 0} (ps : List Point) (listed : HashSet FaceKey S) (s t : Tet) (o : Option ℕ) → IsLeastOf (λ p. (p < 4) × IsBentFrom ps listed s t p) o → is_some o ≡ true → AreBentIn ps listed s t
corner_holds ps listed s t None first is = absurd (cc)
corner_holds ps listed s t (Some p) first is = (p, first.0.0, first.0.1)

pub corner_fails : {S : Type 0} (ps : List Point) (listed : HashSet FaceKey S) (s t : Tet) (o : Option ℕ) → IsLeastOf (λ p. (p < 4) × IsBentFrom ps listed s t p) o → is_some o ≡ false → ¬ AreBentIn ps listed s t
corner_fails ps listed s t None first is = λ h. first h.0 (h.1, h.2)
corner_fails ps listed s t (Some p) first is = absurd (cc)

pub from_fails : {S : Type 0} (ps : List Point) (listed : HashSet FaceKey S) (s t : Tet) (p : ℕ) (o : Option ℕ) → IsLeastOf (λ q. (q < 4) × IsBentOnce ps listed s t p q) o → is_some o ≡ false → ¬ IsBentFrom ps listed s t p
from_fails ps listed s t p None first is = λ h. first h.0 (h.1, h.2)
from_fails ps listed s t p (Some q) first is = absurd (cc)
