-- Meshes whose points are told by their places in another list.
use Rattle.std.proofs.Common.{◌≡◌, ◌⊎◌, inl, inr, ℕ, zero, suc, ◌+◌, ◌<◌, ◌≤◌, ℤ, pos, ◌<ℤ◌, ltb, cond, List, [], ◌∷◌, length, map, refl, ap, sym, subst, ◌∙◌, arith}
use Rattle.std.specs.Prelude.{max, All, AllPairs, Contains, slice_index, slice_index_or}
use Rattle.std.proofs.lemmas.Bool.{cases_lt, cond-true, cond-false, lt-ltb, le-ltb}
use Rattle.std.proofs.lemmas.List.{get_or-map, length-map}
use Rattle.sign_predicates.specs.Point.{Point}
use Rattle.sign_predicates.specs.Orientation.{orient, IsPositive}
use Rattle.sign_predicates.specs.Sphere.{in_sphere}
use Rattle.geo_laws.specs.Delaunay.{point, corners, IsOn, row_at}
use Rattle.geo_laws.specs.Faces.{row_faces, faces_of_rows}
use Rattle.geo_laws.specs.declared.faces.Face.{Face}
use Rattle.geo_laws.specs.declared.tetrahedra.Tet.{Tet}
use Rattle.geo_laws.proofs.Members.{IsMember, contains_of, member_of, in_map, map_cases, in_flat_map, flat_map_cases}
use Rattle.incidence.specs.Pairs.{partner}
use Rattle.incidence.specs.declared.pairs.Across.{Across}
use Rattle.mesh_files.specs.declared.markers.FaceRow.{FaceRow}
use Rattle.mesh_check.specs.Corners.{point_in, face_in, face_listed, listed_face_at, IsListed, IsShared}
use Rattle.mesh_check.specs.Defects.{HasDefect, AreOppositeSigns, point_side}
use Rattle.mesh_check.specs.declared.defect.Defect.{Defect}
use Rattle.mesh_check.specs.declared.defect.Defect.TheVariants.{NotPositive, SameSide, NeighborCount, WrongNeighbor, Stray, Unlisted, Bent}
use Rattle.mesh_check.proofs.Rows.{corner_on, face_on, IsFaceOn}
use Rattle.run_laws.specs.SoundMesh.{IsSoundMesh}
use Rattle.run_laws.proofs.Soundness.{sound_of}
use Rattle.run_laws.proofs.Listings.{corner_of, face_of_corner}
use Rattle.run_laws.specs.Renamed.{renamed_row, renamed_face, RenamedLaw}
use Rattle.run_laws.proofs.Renaming.{Rises, renamed, face_renamed, same_face, face_in_renamed, point_in_renamed}
use Rattle.run_laws.proofs.Partners.{partner_renamed}

-- each number names the same point
abbrev NamesSame : (ℕ → ℕ) → List Point → List Point → Type 0
NamesSame r ps qs = (i : ℕ) → i < length ps → point qs (r i) ≡ point ps i

row_renamed : (r : ℕ → ℕ) (rows : List Tet) (i : ℕ) → i < length rows → row_at (map (renamed_row r) rows) i ≡ renamed_row r (row_at rows i)
row_renamed r rows i lt = get_or-map (renamed_row r) rows i _ _ lt

on_row : (ps : List Point) (rows : List Tet) → All (IsOn ps) rows → (i : ℕ) → i < length rows → IsOn ps (row_at rows i)
on_row ps rows on i lt = on i _ lt

corners_renamed : (r : ℕ → ℕ) (ps qs : List Point) → NamesSame r ps qs → (t : Tet) → IsOn ps t → corners qs (renamed_row r t) ≡ corners ps t
corners_renamed r ps qs same t on = λ n. record {
  a = same t.a (on 0 0 (omega arith)) n;
  b = same t.b (on 1 0 (omega arith)) n;
  c = same t.c (on 2 0 (omega arith)) n;
  d = same t.d (on 3 0 (omega arith)) n;
}

side_renamed : (r : ℕ → ℕ) (ps qs : List Point) → NamesSame r ps qs → (f : Face) (e : ℕ) → IsFaceOn ps f → e < length ps → point_side qs (renamed r f) (r e) ≡ point_side ps f e
side_renamed r ps qs same f e on lt = λ n. orient (same f.a on.a n) (same f.b on.b n) (same f.c on.c n) (same e lt n)

-- ---- faces

listed_renamed : (r : ℕ → ℕ) → Rises r → (f : FaceRow) → face_listed (renamed_face r f) ≡ renamed r (face_listed f)
listed_renamed r up f = face_renamed r up f.a f.b f.c

is_listed : (r : ℕ → ℕ) → Rises r → (faces : List FaceRow) (f : Face) → IsListed faces f → IsListed (map (renamed_face r) faces) (renamed r f)
is_listed r up faces f c =
    let m = map_cases face_listed f faces (member_of (map face_listed faces) f c) in
    let there = in_map face_listed (renamed_face r m.0) (map (renamed_face r) faces) (in_map (renamed_face r) m.0 faces m.1) in
    contains_of (map face_listed (map (renamed_face r) faces)) (renamed r f)
    (subst (λ (g : Face). IsMember g (map face_listed (map (renamed_face r) faces))) (listed_renamed r up m.0 ∙ ap (renamed r) (sym m.2)) there)

of_rows : (r : ℕ → ℕ) → Rises r → (rows : List Tet) (f : Face) → Contains (faces_of_rows rows) f → Contains (faces_of_rows (map (renamed_row r) rows)) (renamed r f)
of_rows r up rows f c =
    let m = flat_map_cases row_faces f rows (member_of (faces_of_rows rows) f c) in
    let t = m.0 in
    let corner = corner_of t f (contains_of (row_faces t) f m.2) in
    let there = face_of_corner (renamed_row r t) corner.0 corner.1 in
    let is = face_in_renamed r up t corner.0 corner.1 ∙ ap (renamed r) corner.2 in
    let member = member_of (row_faces (renamed_row r t)) (renamed r f) (subst (λ (g : Face). Contains (row_faces (renamed_row r t)) g) is there) in
    contains_of (faces_of_rows (map (renamed_row r) rows)) (renamed r f) (in_flat_map row_faces (renamed_row r t) (renamed r f) (map (renamed_row r) rows) (in_map (renamed_row r) t rows m.1) member)

-- ---- defects

-- two renamed rows with a common face
shared_of : (r : ℕ → ℕ) → Rises r → (s t : Tet) (p q : ℕ) → IsShared (renamed_row r s) (renamed_row r t) p q → IsShared s t p q
shared_of r up s t p q shared = record {
  corner = shared.corner;
  other = shared.other;
  same = same_face r up (face_in s p) (face_in t q) (sym (face_in_renamed r up s p shared.corner) ∙ shared.same ∙ face_in_renamed r up t q shared.other);
}

own_side : (r : ℕ → ℕ) → Rises r → (ps qs : List Point) → NamesSame r ps qs → (t : Tet) → IsOn ps t → (p : ℕ) → p < 4
    → point_side qs (face_in (renamed_row r t) p) (point_in (renamed_row r t) p) ≡ point_side ps (face_in t p) (point_in t p)
own_side r up ps qs same t on p h =
    (λ n. point_side qs (face_in_renamed r up t p h n) (point_in_renamed r t p h n)) ∙ side_renamed r ps qs same (face_in t p) (point_in t p) (face_on ps t p on) (corner_on ps t p on)

opposite_same : (x y u v : ℤ) → x ≡ u → y ≡ v → AreOppositeSigns u v → AreOppositeSigns x y
opposite_same x y u v d e h = subst (λ (z : ℤ). AreOppositeSigns x z) (sym e) (subst (λ (z : ℤ). AreOppositeSigns z v) (sym d) h)

sphere_renamed : (r : ℕ → ℕ) (ps qs : List Point) → NamesSame r ps qs → (s t : Tet) → IsOn ps s → IsOn ps t → (q : ℕ) → q < 4
    → in_sphere (corners qs (renamed_row r s)) (point qs (point_in (renamed_row r t) q)) ≡ in_sphere (corners ps s) (point ps (point_in t q))
sphere_renamed r ps qs same s t on_s on_t q h =
    let e : point qs (point_in (renamed_row r t) q) ≡ point ps (point_in t q) = ap (point qs) (point_in_renamed r t q h) ∙ same (point_in t q) (corner_on ps t q on_t) in
    λ n. in_sphere (corners_renamed r ps qs same s on_s n) (e n)

no_face : FaceRow
no_face = record { a = 0; b = 0; c = 0; marker = pos 0 }

defect_of : (r : ℕ → ℕ) → Rises r → (ps qs : List Point) → NamesSame r ps qs → (rows : List Tet) (faces : List FaceRow) (neighbors : List Across) → All (IsOn ps) rows → (d : Defect)
    → HasDefect (record { points = qs; rows = map (renamed_row r) rows; faces = map (renamed_face r) faces; neighbors = neighbors }) d
    → HasDefect (record { points = ps; rows = rows; faces = faces; neighbors = neighbors }) d
defect_of r up ps qs same rows faces neighbors on (NotPositive i) (lt, not) =
    let l = length-map rows (renamed_row r) in
    let within : i < length rows = omega arith in
    let t = row_at rows i in
    let e = ap (corners qs) (row_renamed r rows i within) ∙ corners_renamed r ps qs same t (on_row ps rows on i within) in
    (within, λ positive. not (subst IsPositive (sym e) positive))
defect_of r up ps qs same rows faces neighbors on (SameSide i j) (lt, mt, (p, q, shared, none)) =
    let l = length-map rows (renamed_row r) in
    let there : j < length rows = omega arith in
    let here : i < length rows = omega arith in
    let s = row_at rows i in
    let t = row_at rows j in
    let es = row_renamed r rows i here in
    let et = row_renamed r rows j there in
    let both = subst (λ (u : Tet). IsShared (renamed_row r s) u p q) et (subst (λ (u : Tet). IsShared u (row_at (map (renamed_row r) rows) j) p q) es shared) in
    let first = ap (λ (u : Tet). point_side qs (face_in u p) (point_in u p)) es ∙ own_side r up ps qs same s (on_row ps rows on i here) p shared.corner in
    let second = ap (λ (u : Tet). point_side qs (face_in u q) (point_in u q)) et ∙ own_side r up ps qs same t (on_row ps rows on j there) q shared.other in
    (lt, there, (p, q, shared_of r up s t p q both, λ h. none (opposite_same _ _ _ _ first second h)))
defect_of r up ps qs same rows faces neighbors on NeighborCount ne = λ e. ne (e ∙ sym (length-map rows (renamed_row r)))
defect_of r up ps qs same rows faces neighbors on (WrongNeighbor i k) (lt, mt, ne) =
    let l = length-map rows (renamed_row r) in
    let within : i < length rows = omega arith in
    let f = face_in (row_at rows i) k in
    let face = ap (λ (u : Tet). face_in u k) (row_renamed r rows i within) ∙ face_in_renamed r up (row_at rows i) k mt in
    let other = ap (partner (map (renamed_row r) rows) i) face ∙ partner_renamed r up rows i f in
    (within, mt, λ e. ne (e ∙ sym other))
defect_of r up ps qs same rows faces neighbors on (Stray k) (lt, out) =
    let l = length-map faces (renamed_face r) in
    let within : k < length faces = omega arith in
    let is = get_or-map face_listed (map (renamed_face r) faces) k no_face _ lt ∙ ap face_listed (get_or-map (renamed_face r) faces k no_face no_face within) ∙ listed_renamed r up (slice_index_or faces k no_face)
    ∙ ap (renamed r) (sym (get_or-map face_listed faces k no_face _ within)) in
    (within, λ c. out (subst (Contains (faces_of_rows (map (renamed_row r) rows))) (sym is) (of_rows r up rows (listed_face_at faces k) c)))
defect_of r up ps qs same rows faces neighbors on (Unlisted i k) (lt, mt, none, out) =
    let l = length-map rows (renamed_row r) in
    let within : i < length rows = omega arith in
    let f = face_in (row_at rows i) k in
    let face = ap (λ (u : Tet). face_in u k) (row_renamed r rows i within) ∙ face_in_renamed r up (row_at rows i) k mt in
    let other = ap (partner (map (renamed_row r) rows) i) face ∙ partner_renamed r up rows i f in
    (within, mt, sym other ∙ none, λ c. out (subst (IsListed (map (renamed_face r) faces)) (sym face) (is_listed r up faces f c)))
defect_of r up ps qs same rows faces neighbors on (Bent i j) (lt, mt, (p, q, shared, out, inside)) =
    let l = length-map rows (renamed_row r) in
    let there : j < length rows = omega arith in
    let here : i < length rows = omega arith in
    let s = row_at rows i in
    let t = row_at rows j in
    let es = row_renamed r rows i here in
    let et = row_renamed r rows j there in
    let both = subst (λ (u : Tet). IsShared (renamed_row r s) u p q) et (subst (λ (u : Tet). IsShared u (row_at (map (renamed_row r) rows) j) p q) es shared) in
    let face = ap (λ (u : Tet). face_in u p) es ∙ face_in_renamed r up s p shared.corner in
    let sphere = (λ n. in_sphere (corners qs (es n)) (point qs (point_in (et n) q))) ∙ sphere_renamed r ps qs same s t (on_row ps rows on i here) (on_row ps rows on j there) q shared.other in
    (lt, there, (p, q, shared_of r up s t p q both, λ c. out (subst (IsListed (map (renamed_face r) faces)) (sym face) (is_listed r up faces (face_in s p) c)), subst (λ (z : ℤ). pos 0 <ℤ z) sphere inside))

-- ---- names in a list

total : List ℕ → ℕ
total [] = 0
total (n ∷ names) = n + total names

-- the names, and rising numbers behind them
following : List ℕ → ℕ → ℕ
following names i = cond (ltb i (length names)) (slice_index names i) (total names + i)

within_is : (names : List ℕ) (i : ℕ) → i < length names → following names i ≡ slice_index names i
unfolding following
within_is names i lt = cond-true _ _ _ (lt-ltb i (length names) lt)

past_is : (names : List ℕ) (i : ℕ) → length names ≤ i → following names i ≡ total names + i
unfolding following
past_is names i le = cond-false _ _ _ (le-ltb i (length names) le)

name_small : (names : List ℕ) (i : ℕ) → i < length names → slice_index names i ≤ total names
unfolding total
name_small [] i lt = absurd (omega arith)
name_small (n ∷ names) zero lt = let e : slice_index (n ∷ names) 0 ≡ n = refl in omega arith
name_small (n ∷ names) (suc i) lt =
    let e : slice_index (n ∷ names) (suc i) ≡ slice_index names i = refl in
    let rest = name_small names i (omega arith) in
    omega arith

rises : (names : List ℕ) → AllPairs (λ i j. i < j) names → Rises (following names)
rises names up i j lt = go (cases_lt i (length names)) (cases_lt j (length names))
  where
    go : (i < length names) ⊎ (length names ≤ i) → (j < length names) ⊎ (length names ≤ j) → following names i < following names j
    go (inl a) (inl b) = let p = within_is names i a in let q = within_is names j b in let h = up i j 0 lt b in omega arith
    go (inl a) (inr b) = let p = within_is names i a in let q = past_is names j b in let h = name_small names i a in omega arith
    go (inr a) (inl b) = absurd (omega arith)
    go (inr a) (inr b) = let p = past_is names i a in let q = past_is names j b in omega arith

-- rows on the points have the same names
row_same : (names : List ℕ) (ps : List Point) → length names ≡ length ps → (t : Tet) → IsOn ps t → renamed_row (following names) t ≡ renamed_row (slice_index names) t
row_same names ps long t on = λ n. record { a = at t.a (on 0 0 (omega arith)) n; b = at t.b (on 1 0 (omega arith)) n; c = at t.c (on 2 0 (omega arith)) n; d = at t.d (on 3 0 (omega arith)) n }
  where
    at : (i : ℕ) → i < length ps → following names i ≡ slice_index names i
    at i lt = within_is names i (let l = long in omega arith)

rows_same : (names : List ℕ) (ps : List Point) → length names ≡ length ps → (rows : List Tet) → All (IsOn ps) rows → map (renamed_row (following names)) rows ≡ map (renamed_row (slice_index names)) rows
rows_same names ps long [] on = refl
rows_same names ps long (t ∷ rows) on = λ n. row_same names ps long t (on 0 t (omega arith)) n ∷ rows_same names ps long rows (λ k d lt. on (suc k) d (omega arith)) n

-- and so have faces whose corners are on them
face_same : (names : List ℕ) (ps : List Point) → length names ≡ length ps → (f : FaceRow) → IsFaceOn ps (face_listed f) → renamed_face (following names) f ≡ renamed_face (slice_index names) f
face_same names ps long f on = λ n. record { a = at f.a (first f.a f.b f.c on.c) n; b = at f.b (second f.a f.b f.c on.c) n; c = at f.c (third f.a f.b f.c on.c) n; marker = f.marker }
  where
    at : (i : ℕ) → i < length ps → following names i ≡ slice_index names i
    at i lt = within_is names i (let l = long in omega arith)

    first : (i j k : ℕ) → max (max i j) k < length ps → i < length ps
    first i j k h = omega arith

    second : (i j k : ℕ) → max (max i j) k < length ps → j < length ps
    second i j k h = omega arith

    third : (i j k : ℕ) → max (max i j) k < length ps → k < length ps
    third i j k h = omega arith

faces_same : (names : List ℕ) (ps : List Point) → length names ≡ length ps → (faces : List FaceRow) → All (λ f. IsFaceOn ps (face_listed f)) faces → map (renamed_face (following names)) faces ≡ map (renamed_face (slice_index names)) faces
faces_same names ps long [] on = refl
faces_same names ps long (f ∷ faces) on = λ n. face_same names ps long f (on 0 f (omega arith)) n ∷ faces_same names ps long faces (λ k d lt. on (suc k) d (omega arith)) n

pub renamed_mesh : RenamedLaw
renamed_mesh names ps qs are rows faces neighbors on none d =
    subst (λ (new : List Tet). ¬ HasDefect (record { points = qs; rows = new; faces = map (renamed_face (slice_index names)) faces; neighbors = neighbors }) d) (rows_same names ps are.long rows on)
    (subst (λ (new : List FaceRow). ¬ HasDefect (record { points = qs; rows = map (renamed_row (following names)) rows; faces = new; neighbors = neighbors }) d) (faces_same names ps are.long faces faces_on)
    (λ h. none d (defect_of (following names) (rises names are.rising) ps qs same rows faces neighbors on d h)))
  where
    same : NamesSame (following names) ps qs
    same i lt = ap (point qs) (within_is names i (let l = are.long in omega arith)) ∙ are.same i lt

    sound : IsSoundMesh (record { points = ps; rows = rows; faces = faces; neighbors = neighbors })
    sound = sound_of (record { points = ps; rows = rows; faces = faces; neighbors = neighbors }) none

    faces_on : All (λ f. IsFaceOn ps (face_listed f)) faces
    faces_on k f lt =
        let g = face_listed (slice_index_or faces k f) in
        let m = flat_map_cases row_faces g rows (member_of (faces_of_rows rows) g (sound.of_rows k f lt)) in
        let corner = corner_of m.0 g (contains_of (row_faces m.0) g m.2) in
        let c = contains_of rows m.0 m.1 in
        subst (IsFaceOn ps) corner.2 (face_on ps m.0 corner.0 (subst (IsOn ps) c.2 (on c.0 m.0 c.1)))
