-- The text of the tetrahedra of a mesh determines them.
use Rattle.std.proofs.Common.{◌≡◌, ℕ, suc, ◌+◌, ◌-◌, ◌<◌, ◌≤◌, ◌^◌, ℤ, Bool, true, false, List, [], ◌∷◌, ◌++◌, length, Option, Some, None, Ok, refl, sym, subst, ap, ◌∙◌, arith}
use Rattle.std.specs.Prelude.{◌≢◌, All, AllPairs, IfSome, drop, get_or}
use Rattle.std.specs.List.{range_with_len}
use Rattle.std.proofs.lemmas.List.{length-drop, get_or_default}
use Rattle.std.proofs.lemmas.List.Elements.{All-append}
use Rattle.std.proofs.lemmas.List.FromFn.{length-range_with_len, get_or-range_with_len}
use Rattle.std.proofs.lemmas.List.Kept.{AllPairs-cons}
use Rattle.command_words.specs.declared.options.Options.{Options}
use Rattle.complex_laws.proofs.ComplexMesh.{law_hull_mesh}
use Rattle.complex_mesh.specs.Meshing.{IsComplexMesh}
use Rattle.complex_mesh.specs.declared.mesh.ComplexMesh.{ComplexMesh}
use Rattle.complex_mesh.specs.declared.mesh.MeshOptions.{MeshOptions}
use Rattle.geo_laws.specs.Delaunay.{numbers, all_numbers, delaunay_rows, IsOn}
use Rattle.geo_laws.specs.declared.tetrahedra.Tet.{Tet}
use Rattle.geo_laws.proofs.Corners.{on_of_among, all_within}
use Rattle.geo_laws.proofs.DelaunayList.{law_delaunay_list}
use Rattle.mesh_files.proofs.EleTexts.{law_ele_text}
use Rattle.mesh_files.specs.Texts.{AreNamed}
use Rattle.node_files.proofs.Folds.{names_with_long}
use Rattle.node_files.specs.Folding.{IsFolded, names_with}
use Rattle.node_files.specs.declared.limits.Limits.{Limits}
use Rattle.node_files.specs.declared.table.NodeTable.{NodeTable}
use Rattle.weighted_mesh.specs.Regular.{IsRegularList}
use Rattle.run_steps.proofs.Meshables.{begins}
use Rattle.run_steps.specs.Meshing.{BoundAnswer, MeshAnswer, MeshOf, PointsMeshOf, mesh_options, mesh_on, mesh_of_complex, without_decimals}
use Rattle.run_steps.specs.Outputs.{first_of}
use Rattle.run_steps.specs.declared.input.Input.{Input}
use Rattle.run_steps.specs.declared.mesh.Bound.{Bound}
use Rattle.run_steps.specs.declared.meshed.Meshed.{Meshed}
use Rattle.sign_predicates.specs.Point.{Point}
use Rattle.tetgen_run.specs.Run.{IsDetermined}
use Rattle.weighted_mesh.specs.Meshing.{kept_weights}

-- ---- names ascend

abbrev Climbs : List ℕ → Type 0
Climbs = AllPairs (λ i j. i < j)

range_climbs : (low n : ℕ) → Climbs (range_with_len low n)
range_climbs low n i j d l k =
    let long = length-range_with_len low n in
    let one = get_or-range_with_len low n i d (omega (arith, l, k, long)) in
    let two = get_or-range_with_len low n j d (omega (arith, k, long)) in
    omega (arith, l, one, two)

-- numbers that are below a limit, and then numbers from it on
both_climb : (limit : ℕ) (ns ms : List ℕ) → Climbs ns → Climbs ms → All (λ n. n < limit) ns → All (λ m. limit ≤ m) ms → Climbs (ns ++ ms)
both_climb limit [] ms up more below above = more
both_climb limit (n ∷ ns) ms up more below above =
    let later : All (λ m. n < m) ns = λ k d l. up 0 (suc k) d (omega arith) (omega (arith, l)) in
    let beyond : All (λ m. n < m) ms = λ k d l. (let one = below 0 d (omega arith) in let two = above k d l in omega (arith, one, two)) in
    AllPairs-cons (λ i j. i < j) n (ns ++ ms) (All-append (λ m. n < m) ns ms later beyond)
    (both_climb limit ns ms (λ i j d l k. up (suc i) (suc j) d (omega (arith, l)) (omega (arith, k))) more (λ k d l. below (suc k) d (omega (arith, l))) above)

module _ (table : NodeTable) (folded : IsFolded table.listed table.points table.names table.folded) where
  names_below : All (λ n. n < length table.listed) table.names
  names_below k d l =
      let n = get_or table.names k d in
      ((folded.kept n).0 (k, l, get_or_default table.names k n d l)).0

  added_from : (added : ℕ) → All (λ m. (length table.listed ≤ m) × (m < length table.listed + added)) (range_with_len (length table.listed) added)
  added_from added k d l =
      let inside : k < added = omega (arith, l, length-range_with_len (length table.listed) added) in
      let is = get_or-range_with_len (length table.listed) added k d inside in
      (omega (arith, is), omega (arith, is, inside))

  names_differ : (added : ℕ) → AllPairs ◌≢◌ (names_with table added)
  names_differ added i j d l k same =
      let up = both_climb (length table.listed) table.names (range_with_len (length table.listed) added) folded.ascending (range_climbs (length table.listed) added) names_below
      (λ k d l. (added_from added k d l).0) i j d l k in
      absurd (omega (arith, up, same))

  names_fit : (added first : ℕ) → first + (length table.listed + added) < 2 ^ 64 → All (λ n. n + first < 2 ^ 64) (names_with table added)
  names_fit added first few =
      All-append (λ n. n + first < 2 ^ 64) table.names (range_with_len (length table.listed) added)
      (λ k d l. (let below = names_below k d l in omega (arith, few, below)))
      (λ k d l. (let from = (added_from added k d l).1 in omega (arith, few, from)))

-- ---- the rows

always : {A : Type 0} {P : Type 0} (o : Option A) → P → IfSome o (λ _. P)
always None h = tt
always (Some a) h = h

named : (ps : List Point) (names : List ℕ) (rows : List Tet) → length names ≡ length ps → All (IsOn ps) rows → All (λ t. AreNamed names (numbers t)) rows
named ps names rows long on k d l = subst (λ n. All (λ i. i < n) (numbers (get_or rows k d))) (sym long) (on k d l)

determined : (options : Options) (mesh : Meshed) → IsFolded mesh.table.listed mesh.table.points mesh.table.names mesh.table.folded → mesh.names ≡ names_with mesh.table (length mesh.added)
    → length mesh.names ≡ length mesh.points → All (IsOn mesh.points) mesh.tetrahedra → IsDetermined options mesh
determined options mesh folded are long on few lines marks rows others same =
    let regions = mesh.complex.regions in
    let first = first_of options mesh in
    law_ele_text mesh.names first marks mesh.marks regions regions rows mesh.tetrahedra
    (subst (AllPairs ◌≢◌) (sym are) (names_differ mesh.table folded (length mesh.added)))
    (subst (All (λ n. n + first < 2 ^ 64)) (sym are) (names_fit mesh.table folded (length mesh.added) first few))
    others (named mesh.points mesh.names mesh.tetrahedra long on) (always marks lines) (always mesh.marks lines) same

-- ---- each mesh

rows_determined : (options : Options) (table : NodeTable) (rows : List Tet) (hidden : Option ℕ) → IsFolded table.listed table.points table.names table.folded → All (IsOn table.points) rows
    → IsDetermined options (mesh_on table rows hidden)
rows_determined options table rows hidden folded on =
    determined options (mesh_on table rows hidden) folded refl (names_with_long table 0 folded ∙ omega arith) on

-- the rows of a regular list are on its points
regular_on : (ps : List Point) (ws : List ℤ) (rows : List Tet) → IsRegularList ps ws rows → All (IsOn ps) rows
regular_on ps ws rows list k d l =
    let row = get_or rows k d in
    on_of_among ps (all_numbers ps) row (all_within ps) ((list.exactly row).0 (k, l, get_or_default rows k row d l)).is_on

points_determined : (options : Options) (bound : Bound) (weighted : Bool) (mesh : Meshed) → IsFolded bound.table.listed bound.table.points bound.table.names bound.table.folded
    → PointsMeshOf weighted options bound (Ok mesh) → IsDetermined options mesh
points_determined options bound false mesh folded h =
    let ps = bound.table.points in
    let positive = (law_hull_mesh ps (delaunay_rows ps) (law_delaunay_list ps)).positive in
    subst (IsDetermined options) (sym h.1) (rows_determined options (without_decimals bound.table) (delaunay_rows ps) None folded (λ k d l. (positive k d l).0))
points_determined options bound true mesh folded h =
    let ps = bound.table.points in
    subst (IsDetermined options) (sym h.2)
    (rows_determined options (without_decimals bound.table) h.0.rows (Some h.0.hidden) folded (regular_on ps (kept_weights bound.table h.1.weights) h.0.rows h.1.list))

-- so of the mesh of a complex, whatever points stand behind those of the table
pub complex_determined_on : (o : MeshOptions) (ps : List Point) (options : Options) (bound : Bound) (made : ComplexMesh) → IsFolded bound.table.listed bound.table.points bound.table.names bound.table.folded
    → length bound.table.points ≤ length made.points → IsComplexMesh o ps bound.complex made → IsDetermined options (mesh_of_complex bound made)
complex_determined_on o ps options bound made folded before m =
    let given = length bound.table.points in
    let count : length made.points - given ≡ length (drop given made.points) = sym (length-drop given made.points) in
    let long = names_with_long bound.table (length made.points - given) folded in
    determined options (mesh_of_complex bound made) folded (ap (λ (n : ℕ). names_with bound.table n) count) (omega (arith, long, before)) (λ k d l. (m.mesh.positive k d l).0)

complex_determined : (options : Options) (bound : Bound) (made : ComplexMesh) → IsFolded bound.table.listed bound.table.points bound.table.names bound.table.folded
    → IsComplexMesh (mesh_options options bound.table) bound.table.points bound.complex made → IsDetermined options (mesh_of_complex bound made)
complex_determined options bound made folded m =
    complex_determined_on (mesh_options options bound.table) bound.table.points options bound made folded (begins options bound made m) m

by_mesh : (piecewise : Bool) (options : Options) (bound : Bound) (mesh : Meshed) → IsFolded bound.table.listed bound.table.points bound.table.names bound.table.folded → MeshOf piecewise options bound (Ok mesh)
    → IsDetermined options mesh
by_mesh false options bound mesh folded h = points_determined options bound options.weighted mesh folded h
by_mesh true options bound mesh folded (made, m, is) = subst (IsDetermined options) (sym is) (complex_determined options bound made folded m)

-- so it is with the mesh of each input
pub mesh_determined : (limits : Limits) (options : Options) (input : Input) (bound : Bound) (mesh : Meshed) → BoundAnswer limits options input (Ok bound) → MeshAnswer options bound (Ok mesh) → IsDetermined options mesh
mesh_determined limits options input bound mesh on_grid made = by_mesh options.piecewise options bound mesh on_grid.0.folded made
