-- A mesh without a defect, and one whose files say the same of it.
use Rattle.std.proofs.Common.{◌≡◌, ◌≢◌, ◌⊎◌, inl, inr, ℕ, ◌<◌, ℤ, pos, ◌<ℤ◌, ◌≤ℤ◌, List, length, map, Option, Some, None, refl, ap, sym, subst, ◌∙◌, arith}
use Rattle.std.specs.Prelude.{All, AllPairs, Contains, slice_index_or}
use Rattle.std.proofs.lemmas.Int.{ints}
use Rattle.std.proofs.lemmas.Bool.{cases_eq, cases_order}
use Rattle.std.proofs.lemmas.List.{same_lists, get_or_default, get_or-map}
use Rattle.sign_predicates.specs.Point.{Point}
use Rattle.sign_predicates.specs.Orientation.{volume, IsPositive}
use Rattle.sign_predicates.specs.Sphere.{in_sphere}
use Rattle.geo_laws.specs.Delaunay.{point, corners, row_at}
use Rattle.geo_laws.specs.Faces.{row_faces, faces_of_rows, IsOfOneRow}
use Rattle.geo_laws.specs.declared.faces.Face.{Face}
use Rattle.geo_laws.specs.declared.tetrahedra.Tet.{Tet}
use Rattle.incidence.specs.Pairs.{partner, pairs_of, across_at}
use Rattle.incidence.specs.declared.pairs.Across.{Across}
use Rattle.mesh_files.specs.declared.markers.FaceRow.{FaceRow}
use Rattle.crossing_laws.specs.Crossing.{LieApart}
use Rattle.mesh_check.specs.Corners.{point_in, face_in, entry_in, face_listed, IsListed, IsShared}
use Rattle.mesh_check.specs.Defects.{ReadMesh, IsVerdict, IsNotPositive, IsWrongNeighbor, IsUnlisted, AreOppositeSigns, LieOnOneSide}
use Rattle.mesh_check.specs.declared.defect.Defect.TheVariants.{NotPositive, SameSide, NeighborCount, WrongNeighbor, Stray, Unlisted, Bent}
use Rattle.mesh_check.specs.declared.defect.Verdict.TheVariants.{Sound}
use Rattle.mesh_check.proofs.Partners.{HasNoSameSide, partner_is}
use Rattle.mesh_check.proofs.Rows.{entry_is, pairs_at, pairs_long}
use Rattle.run_laws.specs.SoundMesh.{AreDelaunayAcross, IsSoundMesh, RowsApartLaw, SoundMeshLaw}
use Rattle.run_laws.proofs.Opposed.{apart_of, none_of_apart}
use Rattle.run_laws.proofs.Listings.{contains_or_not, corner_of, face_of_corner, partner_shares, same_option}

-- ---- rows by place

no_row : Tet
no_row = record { a = 0; b = 0; c = 0; d = 0 }

above_or_not : (y : ℤ) → (pos 0 <ℤ y) ⊎ (y ≤ℤ pos 0)
above_or_not y = grind (arith, ints)

not_above : (y : ℤ) → y ≤ℤ pos 0 → pos 0 <ℤ y → ⊥
not_above y h k = omega (arith, ints)

positive_at : (ps : List Point) (rows : List Tet) → ((i : ℕ) → ¬ IsNotPositive ps rows i) → (i : ℕ) → i < length rows → IsPositive (corners ps (row_at rows i))
positive_at ps rows none i lt =
    elim (above_or_not (volume (corners ps (row_at rows i)))) [
      | inl positive ↦ positive
      | inr le ↦ absurd (none i (lt, λ positive. not_above _ le positive))
    ]

-- from the rows as the check reads them to any reading
any_row : (P : Tet → Type 0) (rows : List Tet) → ((i : ℕ) → i < length rows → P (row_at rows i)) → All P rows
any_row P rows h k d lt = subst P (get_or_default rows k _ d lt) (h k lt)

any_pair : (R : Tet → Tet → Type 0) (rows : List Tet) → ((i j : ℕ) → i < j → j < length rows → R (row_at rows i) (row_at rows j)) → AllPairs R rows
any_pair R rows h i j d lt mt =
    let before : i < length rows = omega arith in
    subst (λ (t : Tet). R t (slice_index_or rows j d)) (get_or_default rows i _ d before) (subst (R (row_at rows i)) (get_or_default rows j _ d mt) (h i j lt mt))

pub apart_rows : RowsApartLaw
apart_rows m positive none =
    let at = positive_at m.points m.rows positive in
    record {
      positive = any_row (λ t. IsPositive (corners m.points t)) m.rows at;
      apart = any_pair (LieApart m.points) m.rows
          (λ i j lt mt. apart_of m.points (row_at m.rows i) (row_at m.rows j) (at i (omega arith)) (λ same. none i j (lt, mt, same)));
    }

-- ---- neighbors

own_entry : (rows : List Tet) (i k : ℕ) → i < length rows → entry_in (across_at (pairs_of rows) i) k ≡ partner rows i (face_in (row_at rows i) k)
own_entry rows i k lt = ap (λ (x : Across). entry_in x k) (pairs_at rows i _ lt) ∙ entry_is rows i (row_at rows i) k

same_across : (x y : Across) → ((k : ℕ) → k < 4 → entry_in x k ≡ entry_in y k) → x ≡ y
same_across x y h = λ j. record { n0 = h 0 (omega arith) j; n1 = h 1 (omega arith) j; n2 = h 2 (omega arith) j; n3 = h 3 (omega arith) j }

neighbors_are : (rows : List Tet) (neighbors : List Across) → length neighbors ≡ length rows → ((i k : ℕ) → ¬ IsWrongNeighbor rows neighbors i k) → neighbors ≡ pairs_of rows
neighbors_are rows neighbors long right = same_lists neighbors (pairs_of rows) (long ∙ sym (pairs_long rows)) at
  where
    entry : (i k : ℕ) → i < length rows → k < 4 → entry_in (across_at neighbors i) k ≡ entry_in (across_at (pairs_of rows) i) k
    entry i k lt mt =
        elim (same_option (entry_in (across_at neighbors i) k) (partner rows i (face_in (row_at rows i) k))) [
          | inl e ↦ e ∙ sym (own_entry rows i k lt)
          | inr ne ↦ absurd (right i k (lt, mt, ne))
        ]

    at : (i : ℕ) (d : Across) → i < length neighbors → slice_index_or neighbors i d ≡ slice_index_or (pairs_of rows) i d
    at i d lt =
        let within : i < length rows = omega arith in
        let there : i < length (pairs_of rows) = (let l = pairs_long rows in omega arith) in
        get_or_default neighbors i d _ lt ∙ same_across _ _ (λ k mt. entry i k within mt) ∙ get_or_default (pairs_of rows) i _ d there

-- ---- faces of one row

-- a row that stands at two places lies on one side of its faces with itself
opposite_self : (x y : ℤ) → x ≡ y → AreOppositeSigns x y → ⊥
opposite_self x y e (inl h) = let k = h.0 in let l = h.1 in omega (arith, ints)
opposite_self x y e (inr h) = let k = h.0 in let l = h.1 in omega (arith, ints)

no_copy : (ps : List Point) (rows : List Tet) → HasNoSameSide ps rows → (i j : ℕ) → i < length rows → j < length rows → i ≢ j → row_at rows i ≢ row_at rows j
no_copy ps rows none i j lt mt ne e =
    elim (cases_order i j) [
      | inl same ↦ ne same
      | inr (inl before) ↦ none i j (before, mt, subst (λ (t : Tet). LieOnOneSide ps (row_at rows i) t) e (itself (row_at rows i)))
      | inr (inr after) ↦ none j i (after, lt, subst (λ (t : Tet). LieOnOneSide ps (row_at rows j) t) (sym e) (itself (row_at rows j)))
    ]
  where
    itself : (t : Tet) → LieOnOneSide ps t t
    itself t = (0, 0, record { corner = omega arith; other = omega arith; same = refl }, λ h. opposite_self _ _ refl h)

-- the face of one row only has no other row across it
alone : (ps : List Point) (rows : List Tet) → HasNoSameSide ps rows → (f : Face) (i k : ℕ) → i < length rows → k < 4 → face_in (row_at rows i) k ≡ f
    → ((t : Tet) → Contains rows t → Contains (row_faces t) f → t ≡ row_at rows i) → partner rows i f ≡ None
alone ps rows none f i k lt mt e only = go (partner rows i f) refl
  where
    go : (o : Option ℕ) → partner rows i f ≡ o → partner rows i f ≡ None
    go None is = is
    go (Some j) is =
        let other = partner_shares rows i j f is in
        let t = row_at rows j in
        let there : Contains rows t = (j, other.0, get_or_default rows j t _ other.0) in
        let has : Contains (row_faces t) f = subst (λ (g : Face). Contains (row_faces t) g) other.2.2 (face_of_corner t other.2.0 other.2.1) in
        absurd (no_copy ps rows none i j lt other.0 other.1 (sym (only t there has)))

hull_listed : (ps : List Point) (rows : List Tet) (faces : List FaceRow) → HasNoSameSide ps rows → ((i k : ℕ) → ¬ IsUnlisted rows faces i k) → (f : Face) → IsOfOneRow rows f → IsListed faces f
hull_listed ps rows faces none listed f one =
    let i = one.is_row.0 in
    let lt = one.is_row.1 in
    let is : row_at rows i ≡ one.row = get_or_default rows i _ one.row lt ∙ one.is_row.2 in
    let corner = corner_of one.row f one.has in
    let e : face_in (row_at rows i) corner.0 ≡ f = ap (λ (t : Tet). face_in t corner.0) is ∙ corner.2 in
    elim (contains_or_not (map face_listed faces) f) [
      | inl c ↦ c
      | inr n ↦ absurd (listed i corner.0 (
        lt,
        corner.1,
        ap (partner rows i) e ∙ alone ps rows none f i corner.0 lt corner.1 e (λ t there has. one.only t there has ∙ sym is),
        λ c. n (subst (IsListed faces) e c),
      ))
    ]

-- ---- no defect: sound

pub sound_of : (m : ReadMesh) → IsVerdict m Sound → IsSoundMesh m
sound_of m none = record {
  apart = apart_rows m (λ i. none (NotPositive i)) (λ i j. none (SameSide i j));
  neighbors = neighbors_are m.rows m.neighbors long (λ i k. none (WrongNeighbor i k));
  of_rows = λ k d lt. owned k d lt;
  hull_listed = hull_listed m.points m.rows m.faces (λ i j. none (SameSide i j)) (λ i k. none (Unlisted i k));
  locally_delaunay = any_pair (AreDelaunayAcross m.points m.faces) m.rows (λ i j lt mt. λ p q shared out. at i j lt mt p q shared out);
}
  where
    long : length m.neighbors ≡ length m.rows
    long = elim (cases_eq (length m.neighbors) (length m.rows)) [ inl e ↦ e | inr ne ↦ absurd (none NeighborCount ne) ]

    owned : (k : ℕ) (d : FaceRow) → k < length m.faces → Contains (faces_of_rows m.rows) (face_listed (slice_index_or m.faces k d))
    owned k d lt =
        elim (contains_or_not (faces_of_rows m.rows) (face_listed (slice_index_or m.faces k d))) [
          | inl c ↦ c
          | inr n ↦ absurd (none (Stray k) (lt, λ c. n (subst (Contains (faces_of_rows m.rows)) (get_or-map face_listed m.faces k d _ lt) c)))
        ]

    at : (i j : ℕ) → i < j → j < length m.rows → (p q : ℕ) → IsShared (row_at m.rows i) (row_at m.rows j) p q → ¬ IsListed m.faces (face_in (row_at m.rows i) p)
        → in_sphere (corners m.points (row_at m.rows i)) (point m.points (point_in (row_at m.rows j) q)) ≤ℤ pos 0
    at i j lt mt p q shared out =
        elim (above_or_not (in_sphere (corners m.points (row_at m.rows i)) (point m.points (point_in (row_at m.rows j) q)))) [
          | inl above ↦ absurd (none (Bent i j) (lt, mt, (p, q, shared, out, above)))
          | inr le ↦ le
        ]

-- ---- sound: no defect

one_side_none : (m : ReadMesh) → IsSoundMesh m → HasNoSameSide m.points m.rows
one_side_none m sound i j h =
    none_of_apart m.points (row_at m.rows i) (row_at m.rows j) (sound.apart.positive i _ (let lt = h.0 in let mt = h.1 in omega arith)) (sound.apart.apart i j _ h.0 h.1) h.2

-- a face with no other row across it is a face of one row only
one_row : (m : ReadMesh) → IsSoundMesh m → (i k : ℕ) → i < length m.rows → k < 4 → partner m.rows i (face_in (row_at m.rows i) k) ≡ None → IsOfOneRow m.rows (face_in (row_at m.rows i) k)
one_row m sound i k lt mt none = record {
  row = row_at m.rows i;
  is_row = (i, lt, get_or_default m.rows i (row_at m.rows i) _ lt);
  has = face_of_corner (row_at m.rows i) k mt;
  only = λ t there has. at t there has (cases_eq i there.0);
}
  where
    at : (t : Tet) (there : Contains m.rows t) → Contains (row_faces t) (face_in (row_at m.rows i) k) → (i ≡ there.0) ⊎ (i ≡ there.0 → ⊥) → t ≡ row_at m.rows i
    at t there has (inl e) = sym there.2 ∙ get_or_default m.rows there.0 t _ there.1 ∙ ap (row_at m.rows) (sym e)
    at t there has (inr ne) =
        let j = there.0 in
        let is : row_at m.rows j ≡ t = get_or_default m.rows j _ t there.1 ∙ there.2 in
        let corner = corner_of t (face_in (row_at m.rows i) k) has in
        let same : face_in (row_at m.rows i) k ≡ face_in (row_at m.rows j) corner.0 = sym (ap (λ (u : Tet). face_in u corner.0) is ∙ corner.2) in
        let some = partner_is m.points m.rows (one_side_none m sound) i j k corner.0 lt there.1 ne mt corner.1 same in
        let clash : None ≡ Some j = sym none ∙ some in
        absurd (cc)

pub none_of : (m : ReadMesh) → IsSoundMesh m → IsVerdict m Sound
none_of m sound (NotPositive i) h = h.1 (sound.apart.positive i _ h.0)
none_of m sound (SameSide i j) h = one_side_none m sound i j h
none_of m sound NeighborCount ne = ne (ap (λ (xs : List Across). length xs) sound.neighbors ∙ pairs_long m.rows)
none_of m sound (WrongNeighbor i k) h = h.2 (ap (λ (xs : List Across). entry_in (across_at xs i) k) sound.neighbors ∙ own_entry m.rows i k h.0)
none_of m sound (Stray k) h =
    let d : FaceRow = record { a = 0; b = 0; c = 0; marker = pos 0 } in
    h.1 (subst (Contains (faces_of_rows m.rows)) (sym (get_or-map face_listed m.faces k d _ h.0)) (sound.of_rows k d h.0))
none_of m sound (Unlisted i k) h = h.3 (sound.hull_listed (face_in (row_at m.rows i) k) (one_row m sound i k h.0 h.1 h.2))
none_of m sound (Bent i j) (lt, mt, (p, q, shared, out, above)) = not_above _ (sound.locally_delaunay i j _ lt mt p q shared out) above

pub sound_mesh : SoundMeshLaw
sound_mesh m = (sound_of m, none_of m)
