-- What is listed of rows, place by place.
use Rattle.std.proofs.Common.{◌≡◌, ◌≢◌, ℕ, ◌<◌, List, length, map, Option, Some, None, refl, ap, sym, subst, ◌∙◌, arith}
use Rattle.std.specs.Prelude.{HoldsAt, slice_index_or}
use Rattle.std.specs.HashSet.{HashSet}
use Rattle.geo_laws.specs.declared.tetrahedra.Tet.{Tet}
use Rattle.incidence.specs.Pairs.{pairs_of, across_of, partner, across_at}
use Rattle.incidence.specs.declared.pairs.Across.{Across}
use Rattle.mesh_files.specs.declared.markers.FaceRow.{FaceRow}
use Rattle.mesh_check.specs.Corners.{entry_in, face_in, face_listed}
use Rattle.mesh_check.specs.Defects.{IsWrongNeighbor, IsUnlisted}
use Rattle.mesh_check.specs.FaceSets.{HasFace, HasExactly}
use Rattle.mesh_check.specs.Searches.{IsLeastOf, IsLeastPair}
use Rattle.mesh_check.specs.declared.face_set.FaceKey.{FaceKey}
use Rattle.mesh_check.proofs.Firsts.{first_as}
use Rattle.mesh_check.proofs.Rows.{row_is, across_is, entry_is, pairs_at, pairs_long}
use Rattle.geo_laws.specs.Delaunay.{row_at}

-- an entry of the pairs is the partner
pub entry_at : (rows : List Tet) (pairs : List Across) (i k : ℕ) (across : Across) → pairs ≡ pairs_of rows → i < length rows → HoldsAt (λ y. y ≡ across) pairs i → entry_in across k ≡ partner rows i (face_in (row_at rows i) k)
entry_at rows pairs i k across is lt at = ap (λ (y : Across). entry_in y k) (across_is rows pairs i across is lt at) ∙ entry_is rows i (row_at rows i) k

pub wrong_is : (rows : List Tet) (neighbors pairs : List Across) (i : ℕ) (listed across : Across) (o : Option ℕ) → pairs ≡ pairs_of rows → i < length rows → HoldsAt (λ y. y ≡ listed) neighbors i → HoldsAt (λ y. y ≡ across) pairs i
    → IsLeastOf (λ k. (k < 4) × (entry_in listed k ≢ entry_in across k)) o → IsLeastOf (IsWrongNeighbor rows neighbors i) o
wrong_is rows neighbors pairs i listed across o is lt at-listed at-across first =
    first_as (λ k. (k < 4) × (entry_in listed k ≢ entry_in across k)) (IsWrongNeighbor rows neighbors i) o first
    (λ k h. (lt, h.0, λ e. h.1 (sym (same k) ∙ e ∙ sym (entry_at rows pairs i k across is lt at-across))))
    (λ k h. (h.1, λ e. h.2 (same k ∙ e ∙ entry_at rows pairs i k across is lt at-across)))
  where
    same : (k : ℕ) → entry_in (across_at neighbors i) k ≡ entry_in listed k
    same k = ap (λ (y : Across). entry_in y k) (at-listed _)

pub unlisted_is : {S : Type 0} (rows : List Tet) (faces : List FaceRow) (pairs : List Across) (listed : HashSet FaceKey S) (i : ℕ) (row : Tet) (across : Across) (o : Option ℕ) → pairs ≡ pairs_of rows → i < length rows
    → HoldsAt (λ r. r ≡ row) rows i → HoldsAt (λ y. y ≡ across) pairs i → HasExactly listed (map face_listed faces)
    → IsLeastOf (λ k. (k < 4) × (entry_in across k ≡ None) × ¬ HasFace listed (face_in row k)) o → IsLeastOf (IsUnlisted rows faces i) o
unlisted_is rows faces pairs listed i row across o is lt at-row at-across exactly first =
    first_as (λ k. (k < 4) × (entry_in across k ≡ None) × ¬ HasFace listed (face_in row k)) (IsUnlisted rows faces i) o first
    (λ k h. (lt, h.0, sym (entry_at rows pairs i k across is lt at-across) ∙ h.1, λ l. h.2 (subst (λ (t : Tet). HasFace listed (face_in t k)) (row_is rows i row at-row) ((exactly (face_in (row_at rows i) k)).1 l))))
    (λ k h. (h.1, entry_at rows pairs i k across is lt at-across ∙ h.2, λ l. h.3 ((exactly (face_in (row_at rows i) k)).0 (subst (λ (t : Tet). HasFace listed (face_in t k)) (sym (row_is rows i row at-row)) l))))

-- the rows' own neighbors are not wrong
pub own_neighbors : (rows : List Tet) → IsLeastPair (IsWrongNeighbor rows (pairs_of rows)) None
own_neighbors rows i k h = h.2 (ap (λ (y : Across). entry_in y k) (pairs_at rows i _ h.0) ∙ entry_is rows i (row_at rows i) k)
