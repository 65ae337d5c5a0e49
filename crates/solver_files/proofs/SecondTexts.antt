-- What the texts of a mesh of second order determine.
use Rattle.std.proofs.Common.{◌≡◌, inl, inr, ◌++◌, ◌+◌, ◌^◌, ◌<◌, ℕ, List, [], ◌∷◌, Option, Some, None, get_or, length, map, refl, sym, ap, ◌∙◌, append_assoc, append-nil, arith, lit<}
use Rattle.std.specs.Prelude.{codes, flat_map, unsigned_abs, All}
use Rattle.std.specs.Fmt.{decimal}
use Rattle.std.proofs.Math.Nat.{suc_inj}
use Rattle.std.proofs.lemmas.List.{append_cancel_left, length-append, length-map}
use Rattle.std.proofs.lemmas.List.Elements.{All-append, All-cons, All-head, All-nil, All-tail}
use Rattle.mesh_files.specs.Texts.{marked_corners}
use Rattle.mesh_files.specs.declared.markers.FaceRow.{FaceRow}
use Rattle.solver_files.specs.Mesh.{Mesh, copies, marker_tag, place_text, points_of}
use Rattle.solver_files.specs.Msh.{node_line}
use Rattle.solver_files.specs.Vtk.{cell_count, place_line, vtk_markers, vtk_regions}
use Rattle.solver_files.specs.Second.{Second, finer, middle_of, middle_text, second_count}
use Rattle.solver_files.specs.SecondLaws.{AreTold, IsSecondTold, SecondEleLaw, SecondFaceLaw, SecondMshLaw, SecondVtkLaw}
use Rattle.solver_files.specs.SecondRows.{face_rows, tet_rows}
use Rattle.solver_files.specs.SecondTexts.{ele_head, middle_node, middle_place_line, second_msh_elements, second_msh_nodes, second_size, second_vtk_cells, second_vtk_points, second_vtk_types}
use Rattle.solver_files.specs.declared.second_rows.Format.TheVariants.{Tetgen, Vtk, Gmsh}
use Rattle.solver_files.proofs.Bytes.{IsInField, IsInLine, place_line as place_in_line}
use Rattle.solver_files.proofs.Cuts.{Stops, four_parts, heading_cut, line_cut, number_cut}
use Rattle.solver_files.proofs.Edges.{sides_same}
use Rattle.solver_files.proofs.Parts.{numbered_both, numbered_texts}
use Rattle.solver_files.proofs.Rows.{faces_same, rows_same}
use Rattle.solver_files.proofs.SecondCuts.{behind_tets, faces_cut, mark_in, no_tet, tets_cut}
use Rattle.solver_files.proofs.VtkTexts.{markers_part, regions_part}

-- ---- `.ele` and `.face`

heads_cut : (o o' : Option (List (Option ℕ))) (s t : List ℕ) → ele_head o ++ s ≡ ele_head o' ++ t → s ≡ t
heads_cut None None s t e = append_cancel_left (codes " 10 0\n") s t e
heads_cut None (Some x) s t e = let marks = ap (λ (r : List ℕ). get_or r 4 0) e in absurd (omega (arith, marks))
heads_cut (Some x) None s t e = let marks = ap (λ (r : List ℕ). get_or r 4 0) e in absurd (omega (arith, marks))
heads_cut (Some x) (Some y) s t e = append_cancel_left (codes " 10 1\n") s t e

head_stop : (o : Option (List (Option ℕ))) (s : List ℕ) → Stops IsInField (ele_head o ++ s)
head_stop None s = λ h. omega (arith, h)
head_stop (Some x) s = λ h. omega (arith, h)

pub law_second_ele_text : SecondEleLaw
law_second_ele_text m m' first small are e =
    let told = are.one.told in
    let told' = are.other.told in
    let count = λ (n : Second). length n.mesh.rows in
    let lines = λ (n : Second). tet_rows Tetgen n first in
    let apart = λ (n : Second). append_assoc (decimal (count n)) (ele_head n.mesh.marks) (lines n) in
    let counts = number_cut (count m) (count m') (ele_head m.mesh.marks ++ lines m) (ele_head m'.mesh.marks ++ lines m') (omega (arith, told.few_rows)) (omega (arith, told'.few_rows))
    (head_stop m.mesh.marks (lines m)) (head_stop m'.mesh.marks (lines m')) (sym (apart m) ∙ e ∙ apart m') in
    let after = heads_cut m.mesh.marks m'.mesh.marks (lines m) (lines m') counts.1 in
    let tets = tets_cut Tetgen m m' first small are 0 m.mesh.rows m'.mesh.rows [] [] (omega (arith, told.few_rows)) (omega (arith, told'.few_rows)) told.written.named told'.written.named (inl counts.0) (append-nil (lines m) ∙ after ∙ sym (append-nil (lines m'))) in
    rows_same m.mesh.rows m'.mesh.rows tets.0.rows

pub law_second_face_text : SecondFaceLaw
law_second_face_text m m' first small are e =
    let told = are.one.told in
    let told' = are.other.told in
    let count = λ (n : Second). length n.mesh.faces in
    let lines = λ (n : Second). face_rows Tetgen n first in
    let counts = heading_cut [] 32 (codes "1\n") (count m) (count m') (lines m) (lines m') (λ h. omega (arith, h)) (omega (arith, told.few_faces)) (omega (arith, told'.few_faces)) e in
    let faces = faces_cut Tetgen m m' tt first small are 0 m.mesh.faces m'.mesh.faces [] [] told.written.faces_named told'.written.faces_named told.markers told'.markers counts.0
    (append-nil (lines m) ∙ counts.1 ∙ sym (append-nil (lines m'))) in
    faces_same m.mesh.faces m'.mesh.faces faces.0.corners faces.0.marks

-- ---- points and midpoints

-- the coordinates of points and midpoints, as they are printed
abbrev places_of : Second → List (List ℕ)
places_of m = map (place_text m.mesh) (points_of m.mesh) ++ map (middle_text m) m.sides

all_lines : {X : Type 0} (f : X → List ℕ) → ((x : X) → All IsInLine (f x)) → (xs : List X) → All (All IsInLine) (map f xs)
all_lines f one [] = All-nil (All IsInLine)
all_lines f one (x ∷ xs) = All-cons (All IsInLine) (f x) (map f xs) (one x) (all_lines f one xs)

places_in_lines : (m : Second) → All (All IsInLine) (places_of m)
places_in_lines m =
    let origin = m.mesh.origin in
    let grid = m.mesh.table.grid in
    All-append (All IsInLine) (map (place_text m.mesh) (points_of m.mesh)) (map (middle_text m) m.sides) (all_lines (place_text m.mesh) (place_in_line origin grid) (points_of m.mesh))
    (all_lines (middle_text m) (λ s. place_in_line origin (finer grid) (middle_of m.points s)) m.sides)

places_long : (m : Second) → length (places_of m) ≡ second_count m
places_long m =
    length-append (map (place_text m.mesh) (points_of m.mesh)) (map (middle_text m) m.sides)
    ∙ (λ i. length-map (points_of m.mesh) (place_text m.mesh) i + length-map m.sides (middle_text m) i)

count_small : (m : Second) → IsSecondTold m → second_count m < 2 ^ 64
count_small m told = omega (arith, told.few_sides, told.told.written.few, told.told.written.few_added, length-append m.mesh.table.listed m.mesh.added)

-- a text with its number, if it has one, and a line feed
abbrev line_by : (ℕ → List ℕ) → ℕ → List ℕ → List ℕ
line_by front k text = front k ++ text ++ (10 ∷ [])

lines_cut : (front : ℕ → List ℕ) (k : ℕ) (xs ys : List (List ℕ)) (s t : List ℕ) → All (All IsInLine) xs → All (All IsInLine) ys → length xs ≡ length ys
    → numbered_texts (line_by front) k xs ++ s ≡ numbered_texts (line_by front) k ys ++ t → (xs ≡ ys) × (s ≡ t)
lines_cut front k [] [] s t one one' long e = (refl, e)
lines_cut front k [] (y ∷ ys) s t one one' long e = absurd (omega (arith, long))
lines_cut front k (x ∷ xs) [] s t one one' long e = absurd (omega (arith, long))
lines_cut front k (x ∷ xs) (y ∷ ys) s t one one' long e =
    let rest = λ (zs : List (List ℕ)). numbered_texts (line_by front) (k + 1) zs in
    let apart = λ (z : List ℕ) (zs : List (List ℕ)) (r : List ℕ). append_assoc (line_by front k z) (rest zs) r ∙ append_assoc (front k ++ z) (10 ∷ []) (rest zs ++ r) ∙ append_assoc (front k) z (10 ∷ (rest zs ++ r)) in
    let after = append_cancel_left (front k) (x ++ (10 ∷ (rest xs ++ s))) (y ++ (10 ∷ (rest ys ++ t))) (sym (apart x xs s) ∙ e ∙ apart y ys t) in
    let both = line_cut x y (rest xs ++ s) (rest ys ++ t) (All-head (All IsInLine) x xs one) (All-head (All IsInLine) y ys one') after in
    let left = lines_cut front (k + 1) xs ys s t (All-tail (All IsInLine) x xs one) (All-tail (All IsInLine) y ys one') (suc_inj long) both.1 in
    let first : x ≡ y = both.0 in
    let others : xs ≡ ys = left.0 in
    (cc, left.1)

-- the lines of items are those of their texts
lines_are : {X : Type 0} (front : ℕ → List ℕ) (f : X → List ℕ) (k : ℕ) (xs : List X) → numbered_texts (line_by front) k (map f xs) ≡ numbered_texts (λ n x. line_by front n (f x)) k xs
lines_are front f k [] = refl
lines_are front f k (x ∷ xs) = ap (λ (r : List ℕ). line_by front k (f x) ++ r) (lines_are front f (k + 1) xs)

-- a list of points, and the edges behind it
both_are : (front : ℕ → List ℕ) (m : Second) (k n : ℕ) → n ≡ k + length (points_of m.mesh)
    → numbered_texts (line_by front) k (places_of m) ≡ numbered_texts (λ i p. line_by front i (place_text m.mesh p)) k (points_of m.mesh) ++ numbered_texts (λ i s. line_by front i (middle_text m s)) n m.sides
both_are front m k n is =
    let points = map (place_text m.mesh) (points_of m.mesh) in
    let behind : n ≡ k + length points = is ∙ ap (λ (l : ℕ). k + l) (sym (length-map (points_of m.mesh) (place_text m.mesh))) in
    numbered_both (line_by front) k n points (map (middle_text m) m.sides) behind
    ∙ (λ j. lines_are front (place_text m.mesh) k (points_of m.mesh) j ++ lines_are front (middle_text m) n m.sides j)

-- where as many edges follow, the points are the same
points_same : (xs xs' ys ys' : List (List ℕ)) → length ys ≡ length ys' → xs ++ ys ≡ xs' ++ ys' → xs ≡ xs'
points_same xs xs' ys ys' long e =
    let lengths = ap length e in
    let same : length xs ≡ length xs' = omega (arith, lengths, long, length-append xs ys, length-append xs' ys') in
    fronts xs xs' ys ys' same e
  where
    fronts : (xs xs' ys ys' : List (List ℕ)) → length xs ≡ length xs' → xs ++ ys ≡ xs' ++ ys' → xs ≡ xs'
    fronts [] [] ys ys' same e = refl
    fronts [] (x ∷ xs') ys ys' same e = absurd (omega (arith, same))
    fronts (x ∷ xs) [] ys ys' same e = absurd (omega (arith, same))
    fronts (x ∷ xs) (x' ∷ xs') ys ys' same e =
        let first : x ≡ x' = cc in
        let after : xs ++ ys ≡ xs' ++ ys' = cc in
        let rest : xs ≡ xs' = fronts xs xs' ys ys' (suc_inj same) after in
        cc

-- the points of meshes with the same tetrahedra
points_told : (m m' : Second) → AreTold m m' → m.mesh.rows ≡ m'.mesh.rows → places_of m ≡ places_of m' → map (place_text m.mesh) (points_of m.mesh) ≡ map (place_text m'.mesh) (points_of m'.mesh)
points_told m m' are rows e =
    let sides = ap length (sides_same m.mesh.rows m'.mesh.rows m.sides m'.sides rows are.one.sides are.other.sides) in
    points_same (map (place_text m.mesh) (points_of m.mesh)) (map (place_text m'.mesh) (points_of m'.mesh)) (map (middle_text m) m.sides) (map (middle_text m') m'.sides)
    (length-map m.sides (middle_text m) ∙ sides ∙ sym (length-map m'.sides (middle_text m'))) e

-- ---- `.vtk`

vtk_points_cut : (m m' : Second) → AreTold m m' → (s t : List ℕ) → second_vtk_points m ++ s ≡ second_vtk_points m' ++ t → (places_of m ≡ places_of m') × (s ≡ t)
vtk_points_cut m m' are s t e =
    let words = codes "# vtk DataFile Version 3.0\ntetgen\nASCII\nDATASET UNSTRUCTURED_GRID\nPOINTS " in
    let head = λ (n : Second). words ++ decimal (second_count n) ++ codes " double\n" in
    let none : ℕ → List ℕ = λ k. [] in
    let points = λ (n : Second). flat_map (place_line n.mesh) (points_of n.mesh) in
    let middles = λ (n : Second). flat_map (middle_place_line n) n.sides in
    let lines = λ (n : Second). numbered_texts (line_by none) 0 (places_of n) in
    let apart = λ (n : Second) (r : List ℕ). append_assoc (head n ++ points n) (middles n) r ∙ append_assoc (head n) (points n) (middles n ++ r)
    ∙ ap (λ (q : List ℕ). head n ++ q) (sym (append_assoc (points n) (middles n) r)) ∙ ap (λ (q : List ℕ). head n ++ (q ++ r)) (sym (plain n)) in
    let counts = heading_cut words 32 (codes "double\n") (second_count m) (second_count m') (lines m ++ s) (lines m' ++ t) (λ h. omega (arith, h)) (count_small m are.one) (count_small m' are.other)
    (sym (apart m s) ∙ e ∙ apart m' t) in
    lines_cut none 0 (places_of m) (places_of m') s t (places_in_lines m) (places_in_lines m') (places_long m ∙ counts.0 ∙ sym (places_long m')) counts.1
  where
    unnumbered : {X : Type 0} (f : X → List ℕ) (k : ℕ) (xs : List X) → numbered_texts (λ n x. f x) k xs ≡ flat_map f xs
    unnumbered f k [] = refl
    unnumbered f k (x ∷ xs) = ap (λ (r : List ℕ). f x ++ r) (unnumbered f (k + 1) xs)

    plain : (n : Second) → numbered_texts (line_by (λ k. [])) 0 (places_of n) ≡ flat_map (place_line n.mesh) (points_of n.mesh) ++ flat_map (middle_place_line n) n.sides
    plain n =
        both_are (λ k. []) n 0 (length (points_of n.mesh)) (omega arith)
        ∙ (λ i. unnumbered (place_line n.mesh) 0 (points_of n.mesh) i ++ unnumbered (middle_place_line n) (length (points_of n.mesh)) n.sides i)

record AreOneCells (m m' : Mesh) : Type 0 where
  rows : m.rows ≡ m'.rows
  corners : map marked_corners m.faces ≡ map marked_corners m'.faces

cells_cut : (m m' : Second) → AreTold m m' → (s t : List ℕ) → second_vtk_cells m ++ s ≡ second_vtk_cells m' ++ t → AreOneCells m.mesh m'.mesh × (s ≡ t)
cells_cut m m' are s t e =
    let told = are.one.told in
    let told' = are.other.told in
    let words = codes "CELLS " in
    let size = λ (n : Second). decimal (second_size n.mesh) ++ codes "\n" in
    let front = λ (n : Second). words ++ decimal (cell_count n.mesh) ++ codes " " in
    let tets = λ (n : Second). tet_rows Vtk n 0 in
    let faces = λ (n : Second). face_rows Vtk n 0 in
    let apart = λ (n : Second) (r : List ℕ). append_assoc (front n ++ size n ++ tets n) (faces n) r ∙ append_assoc (front n ++ size n) (tets n) (faces n ++ r) ∙ append_assoc (front n) (size n) (tets n ++ (faces n ++ r)) in
    let first = heading_cut words 32 [] (cell_count m.mesh) (cell_count m'.mesh) (size m ++ (tets m ++ (faces m ++ s))) (size m' ++ (tets m' ++ (faces m' ++ t))) (λ h. omega (arith, h))
    (omega (arith, told.few_rows, told.few_faces)) (omega (arith, told'.few_rows, told'.few_faces)) (sym (apart m s) ∙ e ∙ apart m' t) in
    let second = heading_cut [] 10 [] (second_size m.mesh) (second_size m'.mesh) (tets m ++ (faces m ++ s)) (tets m' ++ (faces m' ++ t)) (λ h. omega (arith, h))
    (omega (arith, told.few_rows, told.few_faces)) (omega (arith, told'.few_rows, told'.few_faces)) first.1 in
    let rows : length m.mesh.rows ≡ length m'.mesh.rows = omega (arith, first.0, second.0) in
    let long : length m.mesh.faces ≡ length m'.mesh.faces = omega (arith, first.0, second.0) in
    let tet-part = tets_cut Vtk m m' 0 (lit< tt) are 0 m.mesh.rows m'.mesh.rows (faces m ++ s) (faces m' ++ t) (omega (arith, told.few_rows)) (omega (arith, told'.few_rows))
    told.written.named told'.written.named (inl rows) second.1 in
    let face-part = faces_cut Vtk m m' tt 0 (lit< tt) are 0 m.mesh.faces m'.mesh.faces s t told.written.faces_named told'.written.faces_named told.markers told'.markers long tet-part.1 in
    (record { rows = rows_same m.mesh.rows m'.mesh.rows tet-part.0.rows; corners = face-part.0.corners }, face-part.1)

types_cut : (m m' : Mesh) → length m.rows ≡ length m'.rows → length m.faces ≡ length m'.faces → (s t : List ℕ) → second_vtk_types m ++ s ≡ second_vtk_types m' ++ t → s ≡ t
types_cut m m' rows faces s t e =
    let text = λ (r f : ℕ). codes "CELL_TYPES " ++ decimal (r + f) ++ codes "\n" ++ copies r (codes "24\n") ++ copies f (codes "22\n") in
    let same : second_vtk_types m ≡ second_vtk_types m' = λ j. text (rows j) (faces j) in
    append_cancel_left (second_vtk_types m) s t (e ∙ ap (λ (r : List ℕ). r ++ t) (sym same))

pub law_second_vtk_text : SecondVtkLaw
law_second_vtk_text m m' are e =
    let apart = λ (n : Second). four_parts (second_vtk_points n) (second_vtk_cells n) (second_vtk_types n.mesh) (vtk_regions n.mesh) (vtk_markers n.mesh) in
    let rest = λ (n : Second). second_vtk_types n.mesh ++ (vtk_regions n.mesh ++ vtk_markers n.mesh) in
    let points = vtk_points_cut m m' are (second_vtk_cells m ++ rest m) (second_vtk_cells m' ++ rest m') (sym (apart m) ∙ e ∙ apart m') in
    let cells = cells_cut m m' are (rest m) (rest m') points.1 in
    let rows = ap length cells.0.rows in
    let faces = sym (length-map m.mesh.faces marked_corners) ∙ ap length cells.0.corners ∙ length-map m'.mesh.faces marked_corners in
    let types = types_cut m.mesh m'.mesh rows faces (vtk_regions m.mesh ++ vtk_markers m.mesh) (vtk_regions m'.mesh ++ vtk_markers m'.mesh) cells.1 in
    let regions = regions_part m.mesh m'.mesh are.one.told are.other.told rows faces (vtk_markers m.mesh) (vtk_markers m'.mesh) types in
    let markers = markers_part m.mesh m'.mesh are.one.told are.other.told rows faces regions.1 in
    record {
      places = points_told m m' are cells.0.rows points.0;
      rows = cells.0.rows;
      faces = faces_same m.mesh.faces m'.mesh.faces cells.0.corners markers;
      attributes = regions.0;
    }

-- ---- `.msh`

nodes_cut : (m m' : Second) → AreTold m m' → (s t : List ℕ) → second_msh_nodes m ++ s ≡ second_msh_nodes m' ++ t → (places_of m ≡ places_of m') × (s ≡ t)
nodes_cut m m' are s t e =
    let words = codes "$MeshFormat\n2.2 0 8\n$EndMeshFormat\n$Nodes\n" in
    let front = λ (k : ℕ). decimal k ++ (32 ∷ []) in
    let head = λ (n : Second). words ++ decimal (second_count n) ++ codes "\n" in
    let points = λ (n : Second). numbered_texts (node_line n.mesh) 1 (points_of n.mesh) in
    let middles = λ (n : Second). numbered_texts (middle_node n) (length (points_of n.mesh) + 1) n.sides in
    let lines = λ (n : Second). numbered_texts (line_by front) 1 (places_of n) in
    let end = codes "$EndNodes\n" in
    let apart = λ (n : Second) (r : List ℕ). append_assoc (head n ++ points n ++ middles n) end r ∙ append_assoc (head n ++ points n) (middles n) (end ++ r) ∙ append_assoc (head n) (points n) (middles n ++ (end ++ r))
    ∙ ap (λ (q : List ℕ). head n ++ q) (sym (append_assoc (points n) (middles n) (end ++ r))) ∙ ap (λ (q : List ℕ). head n ++ (q ++ (end ++ r))) (sym (numbered n)) in
    let counts = heading_cut words 10 [] (second_count m) (second_count m') (lines m ++ (end ++ s)) (lines m' ++ (end ++ t)) (λ h. omega (arith, h)) (count_small m are.one) (count_small m' are.other)
    (sym (apart m s) ∙ e ∙ apart m' t) in
    let both = lines_cut front 1 (places_of m) (places_of m') (end ++ s) (end ++ t) (places_in_lines m) (places_in_lines m') (places_long m ∙ counts.0 ∙ sym (places_long m')) counts.1 in
    (both.0, append_cancel_left end s t both.1)
  where
    spaced_lines : {X : Type 0} (f : X → List ℕ) (k : ℕ) (xs : List X)
        → numbered_texts (λ n x. line_by (λ i. decimal i ++ (32 ∷ [])) n (f x)) k xs ≡ numbered_texts (λ n x. decimal n ++ (32 ∷ f x) ++ (10 ∷ [])) k xs
    spaced_lines f k [] = refl
    spaced_lines f k (x ∷ xs) = λ j. (append_assoc (decimal k) (32 ∷ []) (f x) j ++ (10 ∷ [])) ++ spaced_lines f (k + 1) xs j

    numbered : (n : Second) → numbered_texts (line_by (λ k. decimal k ++ (32 ∷ []))) 1 (places_of n)
        ≡ numbered_texts (node_line n.mesh) 1 (points_of n.mesh) ++ numbered_texts (middle_node n) (length (points_of n.mesh) + 1) n.sides
    numbered n =
        both_are (λ k. decimal k ++ (32 ∷ [])) n 1 (length (points_of n.mesh) + 1) (omega arith)
        ∙ (λ i. spaced_lines (place_text n.mesh) 1 (points_of n.mesh) i ++ spaced_lines (middle_text n) (length (points_of n.mesh) + 1) n.sides i)

pub law_second_msh_text : SecondMshLaw
law_second_msh_text m m' are e =
    let told = are.one.told in
    let told' = are.other.told in
    let nodes = nodes_cut m m' are (second_msh_elements m) (second_msh_elements m') e in
    let words = codes "$Elements\n" in
    let head = λ (n : Second). words ++ decimal (cell_count n.mesh) ++ codes "\n" in
    let tets = λ (n : Second). tet_rows Gmsh n 1 in
    let faces = λ (n : Second). face_rows Gmsh n 1 in
    let end = codes "$EndElements\n" in
    let apart = λ (n : Second). append_assoc (head n ++ tets n) (faces n) end ∙ append_assoc (head n) (tets n) (faces n ++ end) in
    let counts = heading_cut words 10 [] (cell_count m.mesh) (cell_count m'.mesh) (tets m ++ (faces m ++ end)) (tets m' ++ (faces m' ++ end)) (λ h. omega (arith, h))
    (omega (arith, told.few_rows, told.few_faces)) (omega (arith, told'.few_rows, told'.few_faces)) (sym (apart m) ∙ nodes.1 ∙ apart m') in
    let tet-part = tets_cut Gmsh m m' 1 (lit< tt) are 0 m.mesh.rows m'.mesh.rows (behind_tets m m.mesh.faces) (behind_tets m' m'.mesh.faces) (omega (arith, told.few_rows)) (omega (arith, told'.few_rows))
    told.written.named told'.written.named (inr (no_tet m told.few_rows m.mesh.faces, no_tet m' told'.few_rows m'.mesh.faces)) counts.1 in
    let rows = rows_same m.mesh.rows m'.mesh.rows tet-part.0.rows in
    let lengths = ap length rows in
    let long : length m.mesh.faces ≡ length m'.mesh.faces = omega (arith, counts.0, lengths) in
    let face-part = faces_cut Gmsh m m' lengths 1 (lit< tt) are 0 m.mesh.faces m'.mesh.faces end end told.written.faces_named told'.written.faces_named told.markers told'.markers long tet-part.1 in
    record {
      places = points_told m m' are rows nodes.0;
      rows = rows;
      faces = face-part.0.corners;
      tags = λ place lt. tet-part.0.tags place (omega arith) (omega (arith, lt));
      markers = sym (lowered m.mesh.faces) ∙ ap (map unsigned_abs) face-part.0.marks ∙ lowered m'.mesh.faces;
    }
  where
    lowered : (fs : List FaceRow) → map unsigned_abs (map (mark_in Gmsh) fs) ≡ map (λ f. marker_tag f.marker) fs
    lowered [] = refl
    lowered (f ∷ fs) = ap (λ (r : List ℕ). marker_tag f.marker ∷ r) (lowered fs)
