-- A VTK text determines what it has of a mesh.
use Rattle.std.proofs.Common.{◌≡◌, ◌≢◌, inl, inr, ◌++◌, ◌+◌, ◌^◌, ◌<◌, ◌≤◌, ℕ, List, [], ◌∷◌, length, map, refl, sym, ap, subst, ◌∙◌, append_assoc, append-nil, length-append, arith, lit<}
use Rattle.std.specs.Prelude.{flat_map, unsigned_abs, codes, All, AllPairs}
use Rattle.std.specs.Fmt.{decimal, signed_decimal}
use Rattle.std.proofs.Math.Nat.{suc_inj}
use Rattle.std.proofs.lemmas.Bool.{cases_eq}
use Rattle.std.proofs.lemmas.List.{append_cancel_left, length-map}
use Rattle.std.proofs.lemmas.List.Elements.{All-head, All-tail}
use Rattle.geo_laws.specs.Delaunay.{numbers}
use Rattle.geo_laws.specs.declared.tetrahedra.Tet.{Tet}
use Rattle.mesh_files.specs.Texts.{file_number, marked_corners, AreNamed}
use Rattle.mesh_files.specs.declared.markers.FaceRow.{FaceRow}
use Rattle.solver_files.specs.Laws.{IsTold, VtkTextLaw}
use Rattle.solver_files.specs.Mesh.{Mesh, attribute_at, copies, mark_at, place_text, points_of, scalar_of}
use Rattle.solver_files.specs.Vtk.{cell_line, cell_count, cell_size, face_cell, tet_cell, place_line, scalar_line, marker_line, vtk_points, vtk_cells, vtk_types, vtk_regions, vtk_markers}
use Rattle.solver_files.proofs.Bytes.{place_line as place_in_line, scalar_in_line, signed_line}
use Rattle.solver_files.proofs.Cuts.{four_parts, heading_cut, line_cut, lines_cut, names_same, names_short, signed_same, text_line_cut}
use Rattle.solver_files.proofs.Parts.{numbered_texts}
use Rattle.solver_files.proofs.Rows.{faces_same, rows_same}

-- ---- points

points_cut : (m m' : Mesh) → IsTold m → IsTold m' → (s t : List ℕ) → vtk_points m ++ s ≡ vtk_points m' ++ t
    → (map (place_text m) (points_of m) ≡ map (place_text m') (points_of m')) × (s ≡ t)
points_cut m m' told told' s t e =
    let head = codes "# vtk DataFile Version 3.0\ntetgen\nASCII\nDATASET UNSTRUCTURED_GRID\nPOINTS " in
    let places = flat_map (place_line m) (points_of m) in
    let places' = flat_map (place_line m') (points_of m') in
    let whole = sym (append_assoc (head ++ decimal (length (points_of m)) ++ codes " double\n") places s) ∙ e
    ∙ append_assoc (head ++ decimal (length (points_of m')) ++ codes " double\n") places' t in
    let counts = heading_cut head 32 (codes "double\n") (length (points_of m)) (length (points_of m')) (places ++ s) (places' ++ t) (λ h. omega (arith, h)) (few m told) (few m' told') whole in
    lines_cut (place_text m) (place_text m') (place_in_line m.origin m.table.grid) (place_in_line m'.origin m'.table.grid) (points_of m) (points_of m') s t counts.0 counts.1
  where
    few : (m : Mesh) → IsTold m → length (points_of m) < 2 ^ 64
    few m told = omega (arith, length-append m.table.listed m.added, told.written.few, told.written.few_added)

-- ---- cells

-- as many cells whose lines are the same have the same corners
cells_cut : {X : Type 0} (names : List ℕ) → AllPairs ◌≢◌ names → All (λ n. n < 2 ^ 32) names → (words : X → List ℕ) → ((x : X) → length (words x) < 2 ^ 64)
    → (xs ys : List X) (s t : List ℕ) → All (λ x. AreNamed names (words x)) xs → All (λ x. AreNamed names (words x)) ys → length xs ≡ length ys
    → flat_map (λ x. cell_line names (words x)) xs ++ s ≡ flat_map (λ x. cell_line names (words x)) ys ++ t → (map words xs ≡ map words ys) × (s ≡ t)
cells_cut names apart small words few [] [] s t named named' long e = (refl, e)
cells_cut names apart small words few [] (y ∷ ys) s t named named' long e = absurd (omega (arith, long))
cells_cut names apart small words few (x ∷ xs) [] s t named named' long e = absurd (omega (arith, long))
cells_cut {X} names apart small words few (x ∷ xs) (y ∷ ys) s t named named' long e =
    let HasNames = λ (z : X). AreNamed names (words z) in
    let lines = flat_map (λ (z : X). cell_line names (words z)) in
    let own = All-head HasNames x xs named in
    let own' = All-head HasNames y ys named' in
    let short = λ (z : X) (n : AreNamed names (words z)). names_short names 0 (words z) small (lit< tt) n in
    let whole = sym (append_assoc (cell_line names (words x)) (lines xs) s) ∙ e ∙ append_assoc (cell_line names (words y)) (lines ys) t in
    let both = text_line_cut (length (words x)) (length (words y)) (map (file_number names 0) (words x)) (map (file_number names 0) (words y)) (lines xs ++ s) (lines ys ++ t)
    (few x) (few y) (short x own) (short y own') whole in
    let rest = cells_cut names apart small words few xs ys s t (All-tail HasNames x xs named) (All-tail HasNames y ys named') (suc_inj long) both.1 in
    let first : words x ≡ words y = names_same names 0 apart (words x) (words y) own own' both.0 in
    let others : map words xs ≡ map words ys = rest.0 in
    (cc, rest.1)

-- the two counts in front of the cells
counts_cut : (m m' : Mesh) → IsTold m → IsTold m' → (s t : List ℕ)
    → codes "CELLS " ++ decimal (cell_count m) ++ codes " " ++ (decimal (cell_size m) ++ codes "\n") ++ s ≡ codes "CELLS " ++ decimal (cell_count m') ++ codes " " ++ (decimal (cell_size m') ++ codes "\n") ++ t
    → (length m.rows ≡ length m'.rows) × (length m.faces ≡ length m'.faces) × (s ≡ t)
counts_cut m m' told told' s t e =
    let words = codes "CELLS " in
    let size = λ (k : Mesh). decimal (cell_size k) ++ codes "\n" in
    let apart = λ (k : Mesh) (r : List ℕ). append_assoc (words ++ decimal (cell_count k) ++ codes " ") (size k) r in
    let first = heading_cut words 32 [] (cell_count m) (cell_count m') (size m ++ s) (size m' ++ t) (λ h. omega (arith, h))
    (omega (arith, told.few_rows, told.few_faces)) (omega (arith, told'.few_rows, told'.few_faces)) (sym (apart m s) ∙ e ∙ apart m' t) in
    let second = heading_cut [] 10 [] (cell_size m) (cell_size m') s t (λ h. omega (arith, h))
    (omega (arith, told.few_rows, told.few_faces)) (omega (arith, told'.few_rows, told'.few_faces)) first.1 in
    (omega (arith, first.0, second.0), omega (arith, first.0, second.0), second.1)

record AreSameCells (m m' : Mesh) : Type 0 where
  rows : m.rows ≡ m'.rows
  corners : map marked_corners m.faces ≡ map marked_corners m'.faces

cells_part : (m m' : Mesh) → IsTold m → IsTold m' → m.names ≡ m'.names → (s t : List ℕ) → vtk_cells m ++ s ≡ vtk_cells m' ++ t → AreSameCells m m' × (s ≡ t)
cells_part m m' told told' same s t e =
    let heading = λ (k : Mesh). codes "CELLS " ++ decimal (cell_count k) ++ codes " " ++ (decimal (cell_size k) ++ codes "\n") in
    let tets = λ (names : List ℕ) (k : Mesh). flat_map (tet_cell names) k.rows in
    let faces = λ (names : List ℕ) (k : Mesh). flat_map (face_cell names) k.faces in
    let apart = λ (k : Mesh) (r : List ℕ). append_assoc (heading k ++ tets k.names k) (faces k.names k) r ∙ append_assoc (heading k) (tets k.names k) (faces k.names k ++ r) in
    let renamed = ap (λ (names : List ℕ). heading m' ++ (tets names m' ++ (faces names m' ++ t))) (sym same) in
    let counts = counts_cut m m' told told' (tets m.names m ++ (faces m.names m ++ s)) (tets m.names m' ++ (faces m.names m' ++ t)) (sym (apart m s) ∙ e ∙ apart m' t ∙ renamed) in
    let named = subst (λ (names : List ℕ). All (λ t. AreNamed names (numbers t)) m'.rows) (sym same) told'.written.named in
    let faces_named = subst (λ (names : List ℕ). All (λ f. AreNamed names (marked_corners f)) m'.faces) (sym same) told'.written.faces_named in
    let row-cells = cells_cut m.names told.apart told.names numbers (λ u. lit< tt) m.rows m'.rows (faces m.names m ++ s) (faces m.names m' ++ t) told.written.named named counts.0 counts.2 in
    let face-cells = cells_cut m.names told.apart told.names marked_corners (λ u. lit< tt) m.faces m'.faces s t told.written.faces_named faces_named counts.1 row-cells.1 in
    (record { rows = rows_same m.rows m'.rows row-cells.0; corners = face-cells.0 }, face-cells.1)

-- ---- types

types_part : (m m' : Mesh) → length m.rows ≡ length m'.rows → length m.faces ≡ length m'.faces → (s t : List ℕ) → vtk_types m ++ s ≡ vtk_types m' ++ t → s ≡ t
types_part m m' rows faces s t e =
    let text = λ (r f : ℕ). codes "CELL_TYPES " ++ decimal (r + f) ++ codes "\n" ++ copies r (codes "10\n") ++ copies f (codes "5\n") in
    let same : vtk_types m ≡ vtk_types m' = λ j. text (rows j) (faces j) in
    append_cancel_left (vtk_types m) s t (e ∙ ap (λ (r : List ℕ). r ++ t) (sym same))

-- ---- attributes and markers

scalars_cut : (m m' : Mesh) → IsTold m → IsTold m' → (k : ℕ) (xs ys : List Tet) (s t : List ℕ) → length xs ≡ length ys
    → numbered_texts (λ place u. scalar_line m place) k xs ++ s ≡ numbered_texts (λ place u. scalar_line m' place) k ys ++ t
    → ((place : ℕ) → k ≤ place → place < k + length xs → scalar_of (attribute_at m place) ≡ scalar_of (attribute_at m' place)) × (s ≡ t)
scalars_cut m m' told told' k [] [] s t long e = (λ place le lt. absurd (omega (arith, le, lt)), e)
scalars_cut m m' told told' k [] (y ∷ ys) s t long e = absurd (omega (arith, long))
scalars_cut m m' told told' k (x ∷ xs) [] s t long e = absurd (omega (arith, long))
scalars_cut m m' told told' k (x ∷ xs) (y ∷ ys) s t long e =
    let lines = λ (n : Mesh). numbered_texts (λ (place : ℕ) (u : Tet). scalar_line n place) (k + 1) in
    let scalar = λ (n : Mesh). scalar_of (attribute_at n k) in
    let line = λ (n : Mesh) (h : IsTold n). scalar_in_line n.regions h.lines (mark_at n.marks k) in
    let apart = λ (n : Mesh) (zs : List Tet) (r : List ℕ). append_assoc (scalar n ++ (10 ∷ [])) (lines n zs) r ∙ append_assoc (scalar n) (10 ∷ []) (lines n zs ++ r) in
    let both = line_cut (scalar m) (scalar m') (lines m xs ++ s) (lines m' ys ++ t) (line m told) (line m' told') (sym (apart m xs s) ∙ e ∙ apart m' ys t) in
    let rest = scalars_cut m m' told told' (k + 1) xs ys s t (suc_inj long) both.1 in
    (λ place le lt. pick place le lt both.0 rest.0, rest.1)
  where
    pick : (place : ℕ) → k ≤ place → place < k + length (x ∷ xs) → scalar_of (attribute_at m k) ≡ scalar_of (attribute_at m' k)
        → ((p : ℕ) → k + 1 ≤ p → p < k + 1 + length xs → scalar_of (attribute_at m p) ≡ scalar_of (attribute_at m' p)) → scalar_of (attribute_at m place) ≡ scalar_of (attribute_at m' place)
    pick place le lt here later =
        elim (cases_eq place k) [
          | inl is ↦ ap (λ (p : ℕ). scalar_of (attribute_at m p)) is ∙ here ∙ ap (λ (p : ℕ). scalar_of (attribute_at m' p)) (sym is)
          | inr not ↦ later place (omega (arith, le, not)) (omega (arith, lt))
        ]

pub regions_part : (m m' : Mesh) → IsTold m → IsTold m' → length m.rows ≡ length m'.rows → length m.faces ≡ length m'.faces → (s t : List ℕ) → vtk_regions m ++ s ≡ vtk_regions m' ++ t
    → ((place : ℕ) → place < length m.rows → scalar_of (attribute_at m place) ≡ scalar_of (attribute_at m' place)) × (s ≡ t)
regions_part m m' told told' rows faces s t e =
    let heading = λ (n : ℕ). codes "CELL_DATA " ++ decimal n ++ codes "\nSCALARS region double 1\nLOOKUP_TABLE default\n" in
    let lines = λ (n : Mesh). numbered_texts (λ (place : ℕ) (u : Tet). scalar_line n place) 0 n.rows in
    let zeros = λ (n : ℕ). copies n (codes "0\n") in
    let apart = λ (n : Mesh) (r : List ℕ). append_assoc (heading (cell_count n) ++ lines n) (zeros (length n.faces)) r ∙ append_assoc (heading (cell_count n)) (lines n) (zeros (length n.faces) ++ r) in
    let back = sym rows in
    let back-faces = sym faces in
    let counted : heading (cell_count m') ++ (lines m' ++ (zeros (length m'.faces) ++ t)) ≡ heading (cell_count m) ++ (lines m' ++ (zeros (length m.faces) ++ t)) =
    λ j. heading (back j + back-faces j) ++ (lines m' ++ (zeros (back-faces j) ++ t)) in
    let after = append_cancel_left (heading (cell_count m)) (lines m ++ (zeros (length m.faces) ++ s)) (lines m' ++ (zeros (length m.faces) ++ t)) (sym (apart m s) ∙ e ∙ apart m' t ∙ counted) in
    let both = scalars_cut m m' told told' 0 m.rows m'.rows (zeros (length m.faces) ++ s) (zeros (length m.faces) ++ t) rows after in
    (λ place lt. both.0 place (omega arith) (omega (arith, lt)), append_cancel_left (zeros (length m.faces)) s t both.1)

markers_same : (fs gs : List FaceRow) → All (λ f. unsigned_abs f.marker < 2 ^ 63) fs → All (λ f. unsigned_abs f.marker < 2 ^ 63) gs
    → map (λ f. signed_decimal f.marker) fs ≡ map (λ f. signed_decimal f.marker) gs → map (λ f. f.marker) fs ≡ map (λ f. f.marker) gs
markers_same [] [] short short' e = refl
markers_same [] (g ∷ gs) short short' e = let lengths = ap length e in absurd (omega (arith, lengths))
markers_same (f ∷ fs) [] short short' e = let lengths = ap length e in absurd (omega (arith, lengths))
markers_same (f ∷ fs) (g ∷ gs) short short' e =
    let Short = λ (h : FaceRow). unsigned_abs h.marker < 2 ^ 63 in
    let heads : signed_decimal f.marker ≡ signed_decimal g.marker = cc in
    let tails : map (λ (h : FaceRow). signed_decimal h.marker) fs ≡ map (λ (h : FaceRow). signed_decimal h.marker) gs = cc in
    let first : f.marker ≡ g.marker = signed_same f.marker g.marker (All-head Short f fs short) (All-head Short g gs short') heads in
    let others : map (λ (h : FaceRow). h.marker) fs ≡ map (λ (h : FaceRow). h.marker) gs = markers_same fs gs (All-tail Short f fs short) (All-tail Short g gs short') tails in
    cc

pub markers_part : (m m' : Mesh) → IsTold m → IsTold m' → length m.rows ≡ length m'.rows → length m.faces ≡ length m'.faces → vtk_markers m ≡ vtk_markers m'
    → map (λ f. f.marker) m.faces ≡ map (λ f. f.marker) m'.faces
markers_part m m' told told' rows faces e =
    let heading = λ (n : ℕ). codes "SCALARS marker long 1\nLOOKUP_TABLE default\n" ++ copies n (codes "0\n") in
    let lines = λ (n : Mesh). flat_map marker_line n.faces in
    let after = append_cancel_left (heading (length m.rows)) (lines m) (lines m') (e ∙ ap (λ (n : ℕ). heading n ++ lines m') (sym rows)) in
    let text = λ (f : FaceRow). signed_decimal f.marker in
    let both = lines_cut text text (λ f. signed_line f.marker) (λ f. signed_line f.marker) m.faces m'.faces [] [] faces (append-nil (lines m) ∙ after ∙ sym (append-nil (lines m'))) in
    markers_same m.faces m'.faces told.markers told'.markers both.0

pub law_vtk_text : VtkTextLaw
law_vtk_text m m' told told' same e =
    let apart = λ (n : Mesh). four_parts (vtk_points n) (vtk_cells n) (vtk_types n) (vtk_regions n) (vtk_markers n) in
    let rest = λ (n : Mesh). vtk_types n ++ (vtk_regions n ++ vtk_markers n) in
    let points = points_cut m m' told told' (vtk_cells m ++ rest m) (vtk_cells m' ++ rest m') (sym (apart m) ∙ e ∙ apart m') in
    let cells = cells_part m m' told told' same (rest m) (rest m') points.1 in
    let rows = ap length cells.0.rows in
    let faces = sym (length-map m.faces marked_corners) ∙ ap length cells.0.corners ∙ length-map m'.faces marked_corners in
    let types = types_part m m' rows faces (vtk_regions m ++ vtk_markers m) (vtk_regions m' ++ vtk_markers m') cells.1 in
    let regions = regions_part m m' told told' rows faces (vtk_markers m) (vtk_markers m') types in
    let markers = markers_part m m' told told' rows faces regions.1 in
    record { places = points.0; rows = cells.0.rows; faces = faces_same m.faces m'.faces cells.0.corners markers; attributes = regions.0 }
