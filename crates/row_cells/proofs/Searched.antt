-- The first row that holds a point is found among those that reach into the point's cell.
use Rattle.std.proofs.Common.{◌≡◌, ℕ, ◌+◌, ◌<◌, pos, ◌<ℤ◌, Bool, true, false, cond, ◌&&◌, List, [], ◌∷◌, length, get_or, Option, Some, ◌⊎◌, inl, inr, ◌++◌, refl, sym, ap, subst, ◌∙◌, arith}
use Rattle.std.specs.Prelude.{map, filter, find, drop, All}
use Rattle.std.specs.Option.{option_map}
use Rattle.std.proofs.lemmas.List.{drop_more, map-append, same_lists, length_push, get_or_push, get_or_append_left}
use Rattle.std.specs.List.{range_with_len}
use Rattle.row_cells.specs.declared.boxes.Cell.{Cell}
use Rattle.std.proofs.lemmas.List.FromFn.{get_or-map-range_with_len, length-map-range_with_len, length-range_with_len, get_or-range_with_len}
use Rattle.std.proofs.lemmas.Bool.{cases_lt}
use Rattle.sign_predicates.specs.declared.tetrahedron.Corners.{Corners}
use Rattle.sign_predicates.specs.Point.{Point, RationalPoint}
use Rattle.sign_predicates.specs.Orientation.{InClosed, in_closed}
use Rattle.geo_laws.specs.Delaunay.{corners, numbers_below}
use Rattle.geo_laws.specs.declared.tetrahedra.Tet.{Tet}
use Rattle.geo_laws.proofs.Members.{IsMember, here, there, at_place, both_true, map_cases, filter_cases, range_bounds}
use Rattle.crossing_laws.proofs.Tests.{le_of}
use Rattle.row_cells.specs.declared.boxes.RowBox.{RowBox}
use Rattle.row_cells.specs.Boxes.{row, box_of, boxes_of, cell_of, is_near, AreOnGrid}
use Rattle.row_cells.specs.Parts.{reaches, mark, part_of, cut_parts, strips_of, cells_of, ArePositiveOn}
use Rattle.row_cells.specs.declared.parts.Axis.TheVariants.{X, Y, Z}
use Rattle.row_cells.specs.declared.parts.Cuts.{Cuts}
use Rattle.row_cells.specs.Where.{row_holds, first_holding, first_in}
use Rattle.row_cells.proofs.Near.{IsCellAt, reaches_cell, near_of, reach_of}

-- what passes the test is among those that are kept, and its box is taken
record Serves (test kept : RowBox → Bool) (made : ℕ → RowBox) (holds : ℕ → Bool) (i : ℕ) : Type 0 where
  same : test (made i) ≡ holds i
  reached : holds i ≡ true → kept (made i) ≡ true

searched : (test kept : RowBox → Bool) (made : ℕ → RowBox) (holds : ℕ → Bool) → ((i : ℕ) → (made i).row ≡ i) → (xs : List ℕ) → ((i : ℕ) → IsMember i xs → Serves test kept made holds i)
    → option_map (λ b. b.row) (find test (filter kept (map made xs))) ≡ find holds xs
searched test kept made holds places [] serves = refl
searched test kept made holds places (x ∷ xs) serves =
    let s = serves x here in
    let rest = searched test kept made holds places xs (λ i m. serves i (there m)) in
    go (kept (made x)) (holds x) refl (s.same) s.reached rest
  where
    go : (k h : Bool) → k ≡ kept (made x) → test (made x) ≡ h → (h ≡ true → kept (made x) ≡ true) → option_map (λ b. b.row) (find test (filter kept (map made xs))) ≡ find holds xs
        → option_map (λ b. b.row) (find test (cond k (made x ∷ filter kept (map made xs)) (filter kept (map made xs)))) ≡ cond h (Some x) (find holds xs)
    go true true e f g rest = ap (λ b. option_map (λ b. b.row) (cond b (Some (made x)) (find test (filter kept (map made xs))))) f ∙ ap (λ (i : ℕ). let found : Option ℕ = Some i in found) (places x)
    go true false e f g rest = ap (λ b. option_map (λ b. b.row) (cond b (Some (made x)) (find test (filter kept (map made xs))))) f ∙ rest
    go false true e f g rest = let d = e ∙ g refl in absurd cc
    go false false e f g rest = rest

and_is : (a b : Bool) → (b ≡ true → a ≡ true) → (a && b) ≡ b
and_is true b h = refl
and_is false true h = h refl
and_is false false h = refl

abbrev none : Tet
none = record { a = 0; b = 0; c = 0; d = 0 }

closed_of : (t : Corners) (x : RationalPoint) → in_closed t x ≡ true → InClosed t x
closed_of t x h =
    let a = both_true _ _ h in
    let b = both_true _ _ a.1 in
    let c = both_true _ _ b.1 in
    let d = both_true _ _ c.1 in
    (le_of _ _ a.0, (le_of _ _ b.0, (le_of _ _ c.0, (le_of _ _ d.0, tt))))

-- ---- what is kept of what is kept

kept_twice : {X : Type 0} (p q : X → Bool) (xs : List X) → filter p (filter q xs) ≡ filter (λ x. q x && p x) xs
kept_twice p q [] = refl
kept_twice p q (x ∷ xs) = go (q x) (p x) refl (kept_twice p q xs)
  where
    go : (a b : Bool) → p x ≡ b → filter p (filter q xs) ≡ filter (λ x. q x && p x) xs → filter p (cond a (x ∷ filter q xs) (filter q xs)) ≡ cond (a && p x) (x ∷ filter (λ x. q x && p x) xs) (filter (λ x. q x && p x) xs)
    go true b e h = ap (λ ys. cond (p x) (x ∷ ys) ys) h
    go false b e h = h

-- the rows of a cell
abbrev pub cell_list : Cuts → ℕ → ℕ → ℕ → List RowBox → List RowBox
cell_list cuts s t u boxes = part_of Z cuts.z u (part_of Y cuts.y t (part_of X cuts.x s boxes))

cell_is : (cuts : Cuts) (s t u : ℕ) (boxes : List RowBox) → cell_list cuts s t u boxes ≡ filter (reaches_cell cuts s t u) boxes
cell_is cuts s t u boxes =
    let rx = reaches X (mark cuts.x s) (mark cuts.x (s + 1)) in
    let ry = reaches Y (mark cuts.y t) (mark cuts.y (t + 1)) in
    let rz = reaches Z (mark cuts.z u) (mark cuts.z (u + 1)) in
    ap (filter rz) (kept_twice ry rx boxes) ∙ kept_twice rz (λ b. rx b && ry b) boxes

-- the point is sought among the rows of its cell
pub in_cell : (ps : List Point) (rows : List Tet) (x : RationalPoint) (cuts : Cuts) (s t u : ℕ) → pos 0 <ℤ x.w → ArePositiveOn ps rows → All (λ t. AreOnGrid (corners ps t)) rows
    → IsCellAt cuts s t u (cell_of x) → first_in ps rows (cell_of x) x (cell_list cuts s t u (boxes_of ps rows)) ≡ first_holding ps rows x
in_cell ps rows x cuts s t u w positive grid at =
    ap (first_in ps rows (cell_of x) x) (cell_is cuts s t u (boxes_of ps rows))
    ∙ searched (λ b. is_near b (cell_of x) && row_holds ps rows x b.row) (reaches_cell cuts s t u) (λ i. box_of i (corners ps (row rows i))) (row_holds ps rows x) (λ i. refl) (numbers_below (length rows))
    (λ i m.
    let lt = (range_bounds 0 (length rows) i m).1 in
    let on_grid = grid i none (omega (arith, lt)) in
    let near = λ (h : in_closed (corners ps (row rows i)) x ≡ true). near_of i (corners ps (row rows i)) x w (positive i none (omega (arith, lt))).1 on_grid (closed_of (corners ps (row rows i)) x h) in
    record {
      same = and_is (is_near (box_of i (corners ps (row rows i))) (cell_of x)) (in_closed (corners ps (row rows i)) x) near;
      reached = λ h. reach_of i (corners ps (row rows i)) (cell_of x) cuts s t u on_grid at (near h);
    })

-- the places of the rows of a cell
pub cell_rows : (ps : List Point) (rows : List Tet) (cuts : Cuts) (s t u : ℕ) → All (λ b. b.row < length rows) (cell_list cuts s t u (boxes_of ps rows))
cell_rows ps rows cuts s t u = subst (λ (bs : List RowBox). All (λ b. b.row < length rows) bs) (sym (cell_is cuts s t u (boxes_of ps rows))) (kept_rows (reaches_cell cuts s t u))
  where
    kept_rows : (kept : RowBox → Bool) → All (λ b. b.row < length rows) (filter kept (boxes_of ps rows))
    kept_rows kept k d lt =
        let among = (filter_cases kept (get_or (filter kept (boxes_of ps rows)) k d) (boxes_of ps rows) (at_place (filter kept (boxes_of ps rows)) k d lt)).0 in
        let made = map_cases (λ i. box_of i (corners ps (row rows i))) (get_or (filter kept (boxes_of ps rows)) k d) (numbers_below (length rows)) among in
        let bounds = (range_bounds 0 (length rows) made.0 made.1).1 in
        subst (λ (b : RowBox). b.row < length rows) (sym made.2) (omega (arith, bounds))

-- ---- what is made of each part, at its place

made_at : {A : Type 0} (f : ℕ → A) (xs : List A) (s : ℕ) (d made : A) → xs ≡ map f (numbers_below 32) → s < 32 → get_or xs s d ≡ made → made ≡ f s
made_at {A = A} f xs s d made are below is = sym is ∙ ap (λ (ys : List A). get_or ys s d) are ∙ get_or-map-range_with_len f 0 32 s s d below (omega arith)

made_count : {A : Type 0} (f : ℕ → A) (xs : List A) → xs ≡ map f (numbers_below 32) → length xs ≡ 32
made_count f xs are = ap length are ∙ length-map-range_with_len f 0 32

abbrev Strips : Type 0
Strips = List (List (List RowBox))

abbrev Cells : Type 0
Cells = List Strips

-- a way to a cell: the strips of its part along x, and the parts along z of its strip
pub record Way (cuts : Cuts) (boxes : List RowBox) (s t : ℕ) (cells : Cells) (strips : Strips) (parts : List (List RowBox)) : Type 0 where
  pub cells_are : cells ≡ cells_of cuts boxes
  pub s_there : s < 32
  pub strip_found : get_or cells s [] ≡ strips
  pub t_there : t < 32
  pub parts_found : get_or strips t [] ≡ parts

strips_are : (cuts : Cuts) (boxes : List RowBox) (s : ℕ) (cells : Cells) (strips : Strips) → cells ≡ cells_of cuts boxes → s < 32 → get_or cells s [] ≡ strips
    → strips ≡ strips_of cuts.y cuts.z (part_of X cuts.x s boxes)
strips_are cuts boxes s cells strips = made_at (λ s. strips_of cuts.y cuts.z (part_of X cuts.x s boxes)) cells s [] strips

pub strips_count : (cuts : Cuts) (boxes : List RowBox) (s : ℕ) (cells : Cells) (strips : Strips) → cells ≡ cells_of cuts boxes → s < 32 → get_or cells s [] ≡ strips
    → length strips ≡ 32
strips_count cuts boxes s cells strips are below is = made_count (λ t. cut_parts Z cuts.z (part_of Y cuts.y t (part_of X cuts.x s boxes))) strips (strips_are cuts boxes s cells strips are below is)

parts_are : (cuts : Cuts) (boxes : List RowBox) (s t : ℕ) (cells : Cells) (strips : Strips) (parts : List (List RowBox)) → Way cuts boxes s t cells strips parts
    → parts ≡ cut_parts Z cuts.z (part_of Y cuts.y t (part_of X cuts.x s boxes))
parts_are cuts boxes s t cells strips parts w =
    made_at (λ t. cut_parts Z cuts.z (part_of Y cuts.y t (part_of X cuts.x s boxes))) strips t [] parts (strips_are cuts boxes s cells strips w.cells_are w.s_there w.strip_found) w.t_there w.parts_found

pub parts_count : (cuts : Cuts) (boxes : List RowBox) (s t : ℕ) (cells : Cells) (strips : Strips) (parts : List (List RowBox)) → Way cuts boxes s t cells strips parts
    → length parts ≡ 32
parts_count cuts boxes s t cells strips parts w = made_count (λ u. part_of Z cuts.z u (part_of Y cuts.y t (part_of X cuts.x s boxes))) parts (parts_are cuts boxes s t cells strips parts w)

-- the way leads to the rows of the cell
pub cell_there : (cuts : Cuts) (boxes : List RowBox) (s t u : ℕ) (cells : Cells) (strips : Strips) (parts : List (List RowBox)) (cell : List RowBox)
    → Way cuts boxes s t cells strips parts → u < 32 → get_or parts u [] ≡ cell → cell ≡ cell_list cuts s t u boxes
cell_there cuts boxes s t u cells strips parts cell w below is =
    made_at (λ u. part_of Z cuts.z u (part_of Y cuts.y t (part_of X cuts.x s boxes))) parts u [] cell (parts_are cuts boxes s t cells strips parts w) below is

-- ---- numbers one after another

range_more : (a n : ℕ) → range_with_len a (n + 1) ≡ range_with_len a n ++ (a + n) ∷ []
range_more a n = same_lists _ _ (omega (arith, length-range_with_len a (n + 1), length-range_with_len a n, length_push (range_with_len a n) (a + n)))
    (λ k d lt. elim (cases_lt k n) [
      | inl before ↦ get_or-range_with_len a (n + 1) k d (omega arith) ∙ sym (get_or_append_left (range_with_len a n) ((a + n) ∷ []) d k (omega (arith, length-range_with_len a n)) ∙ get_or-range_with_len a n k d before)
      | inr after ↦
          let here : k ≡ n = omega (arith, length-range_with_len a (n + 1)) in
          get_or-range_with_len a (n + 1) k d (omega arith) ∙ ap (λ (j : ℕ). a + j) here ∙ sym (get_or_push (range_with_len a n) (a + n) d k (length-range_with_len a n ∙ sym here))
    ])

pub map_more : {A : Type 0} (f : ℕ → A) (n : ℕ) → map f (numbers_below (n + 1)) ≡ map f (numbers_below n) ++ f n ∷ []
map_more f n =
    let e : 0 + n ≡ n = omega arith in
    ap (map f) (range_more 0 n) ∙ map-append f (range_with_len 0 n) ((0 + n) ∷ []) ∙ ap (λ (m : ℕ). map f (range_with_len 0 n) ++ f m ∷ []) e

-- a loop that has made one more
pub one_more : {A : Type 0} (f : ℕ → A) (n : ℕ) (made : A) (xs ys : List A) → xs ≡ map f (numbers_below n) → made ≡ f n → ys ≡ xs ++ made ∷ [] → ys ≡ map f (numbers_below (n + 1))
one_more {A = A} f n made xs ys so_far is pushed = pushed ∙ ap (λ (x : A). xs ++ x ∷ []) is ∙ ap (λ (l : List A). l ++ f n ∷ []) so_far ∙ sym (map_more f n)

-- and one that has made all
pub all_made : {A : Type 0} (f : ℕ → A) (n : ℕ) (xs : List A) → xs ≡ map f (numbers_below n) → n ≡ 32 → xs ≡ map f (numbers_below 32)
all_made f n xs so_far all = so_far ∙ ap (λ (k : ℕ). map f (numbers_below k)) all

-- ---- a loop over the rows of a cell

taken : (ps : List Point) (rows : List Tet) (at : Cell) (x : RationalPoint) (b : RowBox) (rest : List RowBox) (t : Bool) → (is_near b at && row_holds ps rows x b.row) ≡ t
    → first_in ps rows at x (b ∷ rest) ≡ cond t (Some b.row) (first_in ps rows at x rest)
taken ps rows at x b rest true e = ap (λ t. option_map (λ b. b.row) (cond t (Some b) (find (λ b. is_near b at && row_holds ps rows x b.row) rest))) e
taken ps rows at x b rest false e = ap (λ t. option_map (λ b. b.row) (cond t (Some b) (find (λ b. is_near b at && row_holds ps rows x b.row) rest))) e

pub hit : (ps : List Point) (rows : List Tet) (at : Cell) (x : RationalPoint) (cell : List RowBox) (k : ℕ) (d : RowBox) → k < length cell → is_near (get_or cell k d) at ≡ true → row_holds ps rows x (get_or cell k d).row ≡ true
    → first_in ps rows at x (drop k cell) ≡ first_in ps rows at x cell → Some (get_or cell k d).row ≡ first_in ps rows at x cell
hit ps rows at x cell k d lt near holds so_far =
    let both : (is_near (get_or cell k d) at && row_holds ps rows x (get_or cell k d).row) ≡ true = λ i. near i && holds i in
    sym (ap (first_in ps rows at x) (drop_more cell k d lt) ∙ taken ps rows at x (get_or cell k d) (drop (k + 1) cell) true both) ∙ so_far

pub passed : (ps : List Point) (rows : List Tet) (at : Cell) (x : RationalPoint) (cell : List RowBox) (k : ℕ) (d : RowBox) → k < length cell
    → (is_near (get_or cell k d) at ≡ false) ⊎ (row_holds ps rows x (get_or cell k d).row ≡ false)
    → first_in ps rows at x (drop k cell) ≡ first_in ps rows at x cell → first_in ps rows at x (drop (k + 1) cell) ≡ first_in ps rows at x cell
passed ps rows at x cell k d lt why so_far =
    sym (ap (first_in ps rows at x) (drop_more cell k d lt) ∙ taken ps rows at x (get_or cell k d) (drop (k + 1) cell) false (neither (is_near (get_or cell k d) at) (row_holds ps rows x (get_or cell k d).row) why)) ∙ so_far
  where
    neither : (a b : Bool) → (a ≡ false) ⊎ (b ≡ false) → (a && b) ≡ false
    neither a b (inl e) = ap (λ c. c && b) e
    neither true b (inr e) = e
    neither false b (inr e) = refl
