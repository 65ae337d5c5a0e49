-- The rows at places of a list, and that their corners are points.
use Rattle.std.proofs.Common.{◌≡◌, ℕ, zero, suc, ◌+◌, ◌<◌, ◌≤◌, Bool, true, false, cond, eqb, List, [], ◌∷◌, ◌++◌, length, take, map, refl, ap, sym, subst, ◌∙◌, arith, get_or}
use Rattle.std.specs.Prelude.{All, HoldsAt, slice_index_or}
use Rattle.std.specs.List.{flat_map, enumerate_from}
use Rattle.std.proofs.lemmas.List.{take_more, flat_map_more, map-append, get_or-map}
use Rattle.sign_predicates.specs.Point.{Point}
use Rattle.geo_laws.specs.Delaunay.{IsOn, numbers, row_at}
use Rattle.geo_laws.specs.Faces.{face_of, row_faces, faces_of_rows}
use Rattle.geo_laws.specs.declared.faces.Face.{Face}
use Rattle.geo_laws.specs.declared.tetrahedra.Tet.{Tet}
use Rattle.incidence.specs.Pairs.{pairs_of, across_of}
use Rattle.incidence.specs.declared.pairs.Across.{Across}
use Rattle.mesh_files.specs.declared.markers.FaceRow.{FaceRow}
use Rattle.mesh_check.specs.Corners.{point_in, face_in, face_listed, listed_face_at, entry_in}
use Rattle.incidence.specs.Pairs.{partner}

-- a row that was read at a place
pub row_is : (rows : List Tet) (i : ℕ) (row : Tet) → HoldsAt (λ r. r ≡ row) rows i → row_at rows i ≡ row
row_is rows i row at = at _

pub row_on : (ps : List Point) (rows : List Tet) (i : ℕ) (row : Tet) → All (IsOn ps) rows → i < length rows → HoldsAt (λ r. r ≡ row) rows i → IsOn ps row
row_on ps rows i row all lt at = subst (λ (t : Tet). IsOn ps t) (at row) (all i row lt)

-- one of two things, of which both are so
pub either : {X : Type 0} (P : X → Type 0) (b : Bool) (x y : X) → P x → P y → P (cond b x y)
either P true x y p q = p
either P false x y p q = q

-- ---- corners

pub corner_on : (ps : List Point) (t : Tet) (k : ℕ) → IsOn ps t → point_in t k < length ps
corner_on ps t k on =
    let P : ℕ → Type 0 = λ n. n < length ps in
    let a : t.a < length ps = on 0 0 (omega arith) in
    let b : t.b < length ps = on 1 0 (omega arith) in
    let c : t.c < length ps = on 2 0 (omega arith) in
    let d : t.d < length ps = on 3 0 (omega arith) in
    either P (eqb k 0) _ _ a (either P (eqb k 1) _ _ b (either P (eqb k 2) _ _ c d))

-- each number of a face is that of a point
pub record IsFaceOn (ps : List Point) (f : Face) : Type 0 where
  pub a : f.a < length ps
  pub b : f.b < length ps
  pub c : f.c < length ps

of_three : (ps : List Point) (i j k : ℕ) → i < length ps → j < length ps → k < length ps → IsFaceOn ps (face_of i j k)
of_three ps i j k p q r = record { a = omega arith; b = omega arith; c = omega arith }

pub face_on : (ps : List Point) (t : Tet) (k : ℕ) → IsOn ps t → IsFaceOn ps (face_in t k)
face_on ps t k on =
    let P : Face → Type 0 = λ f. IsFaceOn ps f in
    let a : t.a < length ps = on 0 0 (omega arith) in
    let b : t.b < length ps = on 1 0 (omega arith) in
    let c : t.c < length ps = on 2 0 (omega arith) in
    let d : t.d < length ps = on 3 0 (omega arith) in
    either P (eqb k 0) _ _ (of_three ps t.b t.c t.d b c d)
    (either P (eqb k 1) _ _ (of_three ps t.a t.c t.d a c d) (either P (eqb k 2) _ _ (of_three ps t.a t.b t.d a b d) (of_three ps t.a t.b t.c a b c)))

-- ---- one more row

pub taken_more : {X : Type 0} (xs : List X) (i : ℕ) (x : X) → i < length xs → HoldsAt (λ z. z ≡ x) xs i → take (i + 1) xs ≡ take i xs ++ x ∷ []
taken_more xs i x l h = take_more xs i x l ∙ ap (λ z. take i xs ++ z ∷ []) (h x)

pub faces_more : (rows : List Tet) (i : ℕ) (t : Tet) → i < length rows → HoldsAt (λ r. r ≡ t) rows i → faces_of_rows (take i rows) ++ row_faces t ≡ faces_of_rows (take (i + 1) rows)
faces_more rows i t lt at = flat_map_more row_faces [] (take i rows) t ∙ sym (ap faces_of_rows (taken_more rows i t lt at))

pub listed_more : (faces : List FaceRow) (i : ℕ) (f : FaceRow) → i < length faces → HoldsAt (λ r. r ≡ f) faces i → map face_listed (take i faces) ++ face_listed f ∷ [] ≡ map face_listed (take (i + 1) faces)
listed_more faces i f lt at = sym (ap (map face_listed) (taken_more faces i f lt at) ∙ map-append face_listed (take i faces) (f ∷ []))

pub listed_at : (faces : List FaceRow) (i : ℕ) (f : FaceRow) → i < length faces → HoldsAt (λ r. r ≡ f) faces i → listed_face_at faces i ≡ face_listed f
listed_at faces i f lt at = get_or-map face_listed faces i f _ lt ∙ ap face_listed (at f)

-- ---- what is across

at_numbered : (f : ℕ × Tet → Across) (from : ℕ) (rows : List Tet) (i : ℕ) (d : Across) (e : Tet) → i < length rows → slice_index_or (map f (enumerate_from from rows)) i d ≡ f (from + i, slice_index_or rows i e)
at_numbered f from [] i d e h = absurd (omega arith)
at_numbered f from (t ∷ rows) zero d e h = ap (λ n. f (n, t)) (let z : from ≡ from + 0 = omega arith in z)
at_numbered f from (t ∷ rows) (suc i) d e h = at_numbered f (from + 1) rows i d e (omega arith) ∙ ap (λ n. f (n, slice_index_or rows i e)) (let z : from + 1 + i ≡ from + suc i = omega arith in z)

map-length : (f : ℕ × Tet → Across) (from : ℕ) (rows : List Tet) → length (map f (enumerate_from from rows)) ≡ length rows
map-length f from [] = refl
map-length f from (t ∷ rows) = let r = map-length f (from + 1) rows in omega arith

pub pairs_at : (rows : List Tet) (i : ℕ) (d : Across) → i < length rows → slice_index_or (pairs_of rows) i d ≡ across_of rows i (row_at rows i)
pairs_at rows i d h = at_numbered (λ r. across_of rows r.0 r.1) 0 rows i d _ h ∙ ap (λ n. across_of rows n (row_at rows i)) (let z : 0 + i ≡ i = omega arith in z)

pub pairs_long : (rows : List Tet) → length (pairs_of rows) ≡ length rows
pairs_long rows = map-length (λ r. across_of rows r.0 r.1) 0 rows

-- the entry of what is across is the partner across the face
moved : {X Y : Type 0} (f : X → Y) (b : Bool) (x y : X) (u v : Y) → u ≡ f x → v ≡ f y → cond b u v ≡ f (cond b x y)
moved f true x y u v p q = p
moved f false x y u v p q = q

pub entry_is : (rows : List Tet) (i : ℕ) (t : Tet) (k : ℕ) → entry_in (across_of rows i t) k ≡ partner rows i (face_in t k)
entry_is rows i t k =
    let f = partner rows i in
    moved f (eqb k 0) _ _ _ _ refl (moved f (eqb k 1) _ _ _ _ refl (moved f (eqb k 2) _ _ _ _ refl refl))

-- what is read of the list of pairs
pub across_is : (rows : List Tet) (pairs : List Across) (i : ℕ) (x : Across) → pairs ≡ pairs_of rows → i < length rows → HoldsAt (λ y. y ≡ x) pairs i → x ≡ across_of rows i (row_at rows i)
across_is rows pairs i x is lt at = sym (at x) ∙ ap (λ (xs : List Across). slice_index_or xs i x) is ∙ pairs_at rows i x lt
