-- The texts of a mesh without a defect, read back.
use Rattle.std.proofs.Common.{◌≡◌, ℕ, ◌+◌, ◌<◌, List, ◌++◌, length, map, Option, Some, None, refl, ap, sym, subst, arith}
use Rattle.std.specs.Prelude.{All, Contains, IfSome, max, slice_index, slice_index_or}
use Rattle.std.proofs.lemmas.List.{length-map}
use Rattle.sign_predicates.specs.Point.{Point}
use Rattle.geo_laws.specs.Delaunay.{IsOn, row_at}
use Rattle.geo_laws.specs.Faces.{row_faces, faces_of_rows}
use Rattle.geo_laws.specs.declared.faces.Face.{Face}
use Rattle.geo_laws.specs.declared.tetrahedra.Tet.{Tet}
use Rattle.geo_laws.proofs.Members.{contains_of, member_of, flat_map_cases}
use Rattle.incidence.specs.Pairs.{partner, pairs_of, across_of}
use Rattle.mesh_files.specs.declared.markers.FaceRow.{FaceRow}
use Rattle.mesh_check.specs.Corners.{face_listed}
use Rattle.mesh_check.proofs.Rows.{face_on, IsFaceOn, pairs_at, pairs_long}
use Rattle.node_files.specs.LeastGrid.{coarsest, point_on}
use Rattle.run_laws.proofs.Listings.{corner_of, partner_shares}
use Rattle.run_laws.proofs.Soundness.{sound_of}
use Rattle.run_laws.proofs.Fitting.{fits}
use Rattle.run_laws.specs.Renamed.{renamed_row, renamed_face}
use Rattle.run_laws.specs.WrittenMesh.{written_mesh}
use Rattle.run_laws.proofs.LargerUnit.{larger_unit}
use Rattle.run_laws.proofs.Renamed.{renamed_mesh}
use Rattle.run_laws.specs.ReadBack.{ReadBackLaw}
use Rattle.run_laws.specs.Reread.{IsShortNumber, IsOneOf, HasNames, HasFaceNames, AreBelow}
use Rattle.run_laws.proofs.Points.{node_read}
use Rattle.run_laws.proofs.Rows.{ele_read, face_read, neigh_read}

-- ---- names

name_within : (names : List ℕ) (points : ℕ) → All (λ n. n < points) names → (i : ℕ) → i < length names → IsOneOf names points i
name_within names points within i lt = within i 0 lt

-- the corners of a listed face are points
face_within : (ps : List Point) (rows : List Tet) (faces : List FaceRow) → All (IsOn ps) rows → All (λ f. Contains (faces_of_rows rows) (face_listed f)) faces → All (λ f. IsFaceOn ps (face_listed f)) faces
face_within ps rows faces on owned k f lt =
    let g = face_listed (slice_index_or faces k f) in
    let m = flat_map_cases row_faces g rows (member_of (faces_of_rows rows) g (owned k f lt)) in
    let corner = corner_of m.0 g (contains_of (row_faces m.0) g m.2) in
    let c = contains_of rows m.0 m.1 in
    subst (IsFaceOn ps) corner.2 (face_on ps m.0 corner.0 (subst (IsOn ps) c.2 (on c.0 m.0 c.1)))

first_below : (i j k n : ℕ) → max (max i j) k < n → i < n
first_below i j k n h = omega arith

second_below : (i j k n : ℕ) → max (max i j) k < n → j < n
second_below i j k n h = omega arith

third_below : (i j k n : ℕ) → max (max i j) k < n → k < n
third_below i j k n h = omega arith

-- ---- neighbors

below : (rows : List Tet) (i : ℕ) (f : Face) → IfSome (partner rows i f) (λ j. j < length rows)
below rows i f = go (partner rows i f) refl
  where
    go : (o : Option ℕ) → partner rows i f ≡ o → IfSome o (λ j. j < length rows)
    go None e = tt
    go (Some j) e = (partner_shares rows i j f e).0

neighbors_below : (rows : List Tet) → All (AreBelow (length (pairs_of rows))) (pairs_of rows)
neighbors_below rows k d lt =
    let long = pairs_long rows in
    let within : k < length rows = omega arith in
    let t = row_at rows k in
    let is : AreBelow (length rows) (across_of rows k t) = record { n0 = below rows k _; n1 = below rows k _; n2 = below rows k _; n3 = below rows k _ } in
    subst (λ (n : ℕ). AreBelow n (slice_index_or (pairs_of rows) k d)) (sym long) (subst (AreBelow (length rows)) (sym (pairs_at rows k d within)) is)

-- ---- the mesh

pub read_back : ReadBackLaw
read_back wide table added names first ps marks regions rows faces is none =
    let read = node_read wide is.on_grid table added first is.plain is.one is.points_short is.legible in
    let text = read.0 in
    let long = read.2.decimals.long in
    let least = fits wide table.grid qs text.decimals read.2.decimals in
    let count : first + length qs ≡ first + length text.decimals = ap (λ (n : ℕ). first + n) (sym long) in
    record {
      points = text;
      tetrahedra = map (renamed_row (slice_index names)) rows;
      listed = map (renamed_face (slice_index names)) faces;
      neighbors = pairs_of rows;
      node_read = read.1;
      numbered = read.2.numbered;
      points_long = long;
      rows_long = length-map rows (renamed_row (slice_index names));
      fits = least.fits;
      ele_read = λ total. ele_read marks regions names first (length text.decimals) total rows is.attributed (subst IsShortNumber count is.points_short) is.rows_short (λ k d lt. row_names (length text.decimals) long k d lt);
      face_read = λ total. face_read names first (length text.decimals) total faces (subst IsShortNumber count is.points_short) is.faces_short (λ k d lt. listed_names (length text.decimals) long k d lt);
      neigh_read = λ total. neigh_read first total (pairs_of rows) (subst (λ (n : ℕ). IsShortNumber (first + n)) (sym (pairs_long rows)) is.rows_short) (neighbors_below rows);
      sound = larger_unit _ qs (map (point_on (coarsest text.decimals)) text.decimals) least.same _ _ _ (renamed_mesh names ps qs is.named rows faces (pairs_of rows) is.on none);
    }
  where
    qs : List Point
    qs = table.listed ++ added

    name : (points : ℕ) → points ≡ length qs → (i : ℕ) → i < length ps → IsOneOf names points i
    name points long i lt = subst (λ (n : ℕ). slice_index names i < n) (sym long) (name_within names (length qs) is.within i (let l = is.named.long in omega arith))

    row_names : (points : ℕ) → points ≡ length qs → (k : ℕ) (d : Tet) → k < length rows → HasNames names points (slice_index_or rows k d)
    row_names points long k d lt =
        let on = is.on k d lt in
        record { a = name points long _ (on 0 0 (omega arith)); b = name points long _ (on 1 0 (omega arith)); c = name points long _ (on 2 0 (omega arith)); d = name points long _ (on 3 0 (omega arith)) }

    listed_names : (points : ℕ) → points ≡ length qs → (k : ℕ) (d : FaceRow) → k < length faces → HasFaceNames names points (slice_index_or faces k d)
    listed_names points long k d lt =
        let f = slice_index_or faces k d in
        let on = face_within ps rows faces is.on (sound_of (written_mesh ps rows faces) none).of_rows k d lt in
        record {
          a = name points long f.a (first_below f.a f.b f.c (length ps) on.c);
          b = name points long f.b (second_below f.a f.b f.c (length ps) on.c);
          c = name points long f.c (third_below f.a f.b f.c (length ps) on.c);
          marker = is.markers_short k d lt;
        }
