-- What the lists of a mesh are made of: its corners have names, and few points are added.
use Rattle.std.proofs.Common.{◌≡◌, ℕ, ◌+◌, ◌-◌, ◌^◌, ◌<◌, ◌≤◌, Bool, List, length, length-drop, get_or, map, [], ◌∷◌, ◌++◌, Option, Some, None, IfSome, All, ap, sym, subst, ◌∙◌, arith}
use Rattle.std.specs.Prelude.{Contains}
use Rattle.std.specs.List.{enumerate_from}
use Rattle.std.proofs.lemmas.List.{get_or_default, length-map, map-append}
use Rattle.std.proofs.lemmas.List.FromFn.{length-enumerate_from}
use Rattle.complex_mesh.proofs.Added.{added}
use Rattle.complex_mesh.specs.Meshing.{IsComplexMesh}
use Rattle.complex_mesh.specs.declared.mesh.ComplexMesh.{ComplexMesh}
use Rattle.geo_laws.specs.Complex.{Complex}
use Rattle.geo_laws.specs.Delaunay.{numbers, numbers_below}
use Rattle.geo_laws.specs.Segment.{pieces}
use Rattle.geo_laws.specs.declared.complex.FacetTriangle.{FacetTriangle}
use Rattle.geo_laws.specs.declared.complex.Region.{Region}
use Rattle.geo_laws.specs.declared.tetrahedra.Tet.{Tet}
use Rattle.hole_carve.specs.Marks.{AreRegionMarks}
use Rattle.incidence.specs.Pairs.{across_of, pairs_of}
use Rattle.mesh_files.specs.FaceRows.{AreFaceRowsOf}
use Rattle.mesh_files.specs.Texts.{AreNamed, marked_corners}
use Rattle.mesh_files.specs.declared.markers.FaceRow.{FaceRow}
use Rattle.mesh_files.proofs.Named.{face_named, row_named}
use Rattle.node_files.proofs.Folds.{names_with_long, range_more}
use Rattle.node_files.specs.declared.table.NodeTable.{NodeTable}
use Rattle.sign_predicates.specs.Point.{Point}
use Rattle.array_meshes.proofs.Whole.{array_few}
use Rattle.array_meshes.specs.Arrays.{IsArrayTable}
use Rattle.array_meshes.specs.Complexes.{complex_on, mesh_options}
use Rattle.array_meshes.specs.Meshes.{added_to, names_of}
use Rattle.array_meshes.specs.declared.cells.Cell.{Cell}
use Rattle.array_meshes.specs.declared.complexes.ArrayComplex.{ArrayComplex}

-- each item is in the list
in_list : {X : Type 0} (xs : List X) (k : ℕ) (d : X) → k < length xs → Contains xs (get_or xs k d)
in_list xs k d l = (k, l, get_or_default xs k (get_or xs k d) d l)

module _ (c : ArrayComplex) (table : NodeTable) (mesh : ComplexMesh) (on : IsArrayTable c.options.halvings c.points.now table)
    (is : IsComplexMesh (mesh_options table c) table.points (complex_on table c) mesh) where
  grown : (length table.points ≤ length mesh.points) × (length mesh.points ≤ length table.points + c.options.budget)
  grown = added table.grid.halvings mesh.points is.rest c.options.budget table.points (pieces table.points is.segs) is.protected.ends

  -- no point is taken away
  pub begins : length table.points ≤ length mesh.points
  begins = grown.0

  -- and few are added
  pub few : c.options.budget ≤ 100000000 → length table.listed + length (added_to table mesh) < 2 ^ 32 - 1
  few budget =
      let counts = array_few c.options.halvings c.points.now table on in
      let less = length-drop (length table.points) mesh.points in
      let more = grown.1 in
      omega (arith, counts.1, on.few, less, more, budget)

  -- the corners of tetrahedra have names
  pub cells_named : All (λ t. AreNamed (names_of table mesh) (numbers t)) mesh.tetrahedra
  cells_named = λ k d l. subst (λ n. All (λ i. i < n) (numbers (get_or mesh.tetrahedra k d))) (sym long) ((is.mesh.positive k d l).0)
    where
      long : length (names_of table mesh) ≡ length mesh.points
      long =
          let less = length-drop (length table.points) mesh.points in
          omega (arith, names_with_long table (length (added_to table mesh)) on.folding, less, grown.0)

  -- and those of faces
  pub faces_named : (complex : Complex) (all : Bool) (found : List FaceRow) → AreFaceRowsOf mesh.points mesh.tetrahedra complex mesh.triangles all found
      → All (λ f. AreNamed (names_of table mesh) (marked_corners f)) found
  faces_named complex all found a = λ k d l.
      let r = get_or found k d in
      let of = (a.exactly r).0 (in_list found k d l) in
      row_named (names_of table mesh) of.0 r of.2.corners_are (face_named (names_of table mesh) mesh.tetrahedra cells_named of.0 of.1)

-- there is a mark for each tetrahedron
pub marks_long : (ps : List Point) (ts : List FacetTriangle) (rows : List Tet) (regions : List Region) (marks : Option (List (Option ℕ))) → IfSome marks (AreRegionMarks ps ts rows regions)
    → IfSome marks (λ ms. length ms ≡ length rows)
marks_long ps ts rows regions None h = tt
marks_long ps ts rows regions (Some ms) h = h.long

-- there are neighbors of each tetrahedron
pub pairs_long : (rows : List Tet) → length (pairs_of rows) ≡ length rows
pairs_long rows = length-map (enumerate_from 0 rows) (λ r. across_of rows r.0 r.1) ∙ length-enumerate_from 0 rows

-- with one more cell
pub cells_more : (f : ℕ → Cell) (i : ℕ) (cells new : List Cell) (v : Cell) → cells ≡ map f (numbers_below i) → v ≡ f i → new ≡ cells ++ v ∷ [] → new ≡ map f (numbers_below (i + 1))
cells_more f i cells new v e h p =
    let one : 0 + i ≡ i = omega arith in
    let more : numbers_below (i + 1) ≡ numbers_below i ++ i ∷ [] = range_more 0 i ∙ ap (λ (k : ℕ). numbers_below i ++ k ∷ []) one in
    let both : cells ++ v ∷ [] ≡ map f (numbers_below i) ++ f i ∷ [] = λ t. e t ++ h t ∷ [] in
    p ∙ both ∙ sym (ap (map f) more ∙ map-append f (numbers_below i) (i ∷ []))
