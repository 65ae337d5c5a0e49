-- What the mesh of a complex is made of, from its points and its facets on their grid.
use Rattle.std.proofs.Common.{length-drop, drop, get_or, ◌≡◌, ◌≤◌, ◌<◌, ◌+◌, ◌-◌, ◌^◌, pos, ℕ, List, length, map, Option, Some, None, IfSome, All, refl, sym, ap, subst, ◌∙◌, arith}
use Rattle.std.proofs.lemmas.List.{get_or-map, length-map, get_or_default}
use Rattle.std.specs.Prelude.{slice_index, slice_index_or, AllPairs}
use Rattle.command_words.specs.Meaning.{AreInRange}
use Rattle.command_words.specs.declared.options.Options.{Options}
use Rattle.complex_mesh.proofs.Added.{added}
use Rattle.complex_mesh.specs.Meshing.{IsComplexMesh}
use Rattle.complex_mesh.specs.Protection.{IsMeshable}
use Rattle.geo_laws.specs.Segment.{pieces}
use Rattle.complex_mesh.specs.declared.mesh.ComplexMesh.{ComplexMesh}
use Rattle.complex_mesh.specs.declared.mesh.MeshOptions.{MeshOptions}
use Rattle.hole_carve.specs.Marks.{AreRegionMarks, IsFirstOf, mark_at}
use Rattle.geo_laws.specs.Complex.{Complex}
use Rattle.complex_laws.proofs.ComplexMesh.{law_hull_mesh}
use Rattle.geo_laws.proofs.DelaunayList.{law_delaunay_list}
use Rattle.geo_laws.specs.Delaunay.{point, corners, numbers, delaunay_rows, IsOn, IsArranged, RowBefore}
use Rattle.geo_laws.specs.Faces.{AreHullFacesOf}
use Rattle.geo_laws.specs.declared.faces.Face.{Face}
use Rattle.geo_laws.specs.declared.tetrahedra.Tet.{Tet}
use Rattle.mesh_files.specs.Texts.{AreNamed}
use Rattle.node_files.proofs.Near.{near_grid}
use Rattle.node_files.proofs.Folds.{folded_distinct, folded_few, kept_at, names_with_long}
use Rattle.node_files.specs.Folding.{names_with}
use Rattle.plc_files.specs.Folding.{folded_complex}
use Rattle.sign_predicates.specs.Orientation.{IsPositive}
use Rattle.grid_coords.specs.Units.{grid_point}
use Rattle.grid_coords.specs.declared.points.DecimalPoint.{DecimalPoint}
use Rattle.node_files.specs.Settling.{IsSettled, rounded_points, rounded_point}
use Rattle.node_files.specs.Writing.{IsNodeTable}
use Rattle.node_files.specs.declared.limits.Limits.{Limits}
use Rattle.node_files.specs.declared.node_text.NodeText.{NodeText}
use Rattle.node_files.specs.declared.table.GridOptions.{GridOptions}
use Rattle.node_files.specs.declared.table.NodeTable.{NodeTable}
use Rattle.plc_files.specs.Folding.{HasCornersBelow}
use Rattle.plc_files.specs.Binding.{HasWeights}
use Rattle.recovery_laws.proofs.Start.{law_multiples}
use Rattle.segment_protect.specs.Protection.{IsMultiple}
use Rattle.sign_predicates.specs.Point.{Point}
use Rattle.run_steps.specs.Meshing.{grid_options, mesh_options, mesh_of_complex, mesh_of_points, mesh_on, without_decimals, IsMeshableBound}
use Rattle.run_steps.specs.Outputs.{IsWritable, IsHullOf}
use Rattle.run_steps.specs.declared.meshed.Meshed.{Meshed}
use Rattle.run_steps.specs.declared.mesh.Bound.{Bound}

rounded_long : (decimals : Option ℕ) (ps : List DecimalPoint) → length (rounded_points decimals ps) ≡ length ps
rounded_long None ps = refl
rounded_long (Some decimals) ps = length-map ps (rounded_point decimals)

module _ (limits : Limits) (text : NodeText) (options : GridOptions) (table : NodeTable) (s : IsSettled limits text options table) where
  listed_are : table.listed ≡ map (grid_point table.grid) (rounded_points options.decimals text.decimals)
  listed_are = ap (λ (t : NodeTable). t.listed) s.is

  pub as_many : length table.listed ≡ length text.decimals
  as_many = ap (λ (xs : List Point). length xs) listed_are ∙ length-map (rounded_points options.decimals text.decimals) (grid_point table.grid) ∙ rounded_long options.decimals text.decimals

  pub decimals_long : length table.decimals ≡ length table.listed
  decimals_long = ap (λ (t : NodeTable). length t.decimals) s.is ∙ rounded_long options.decimals text.decimals ∙ sym as_many

  listed_multiples : (i : ℕ) → i < length table.listed → IsMultiple (2 ^ table.grid.halvings) (point table.listed i)
  listed_multiples i h =
      let many : i < length (rounded_points options.decimals text.decimals) = omega (arith, as_many, rounded_long options.decimals text.decimals) in
      subst (IsMultiple (2 ^ table.grid.halvings))
      (sym (ap (λ (xs : List Point). point xs i) listed_are ∙ get_or-map (grid_point table.grid) (rounded_points options.decimals text.decimals) i none _ many))
      (law_multiples table.grid (slice_index_or (rounded_points options.decimals text.decimals) i none) table.grid.halvings (omega arith))
    where
      none : DecimalPoint
      none = record { x = record { value = pos 0; scale = 0 }; y = record { value = pos 0; scale = 0 }; z = record { value = pos 0; scale = 0 }; line = 0 }

  -- each kept point is one of the list
  multiples : (i : ℕ) → i < length table.points → IsMultiple (2 ^ table.grid.halvings) (point table.points i)
  multiples i h =
      let k = kept_at table.listed table.points table.names table.folded s.folded i h in
      subst (IsMultiple (2 ^ table.grid.halvings)) (sym k.1) (listed_multiples (slice_index table.names i) k.0)

  pub meshable : (budget : ℕ) (complex : Complex) → budget ≤ 100000 → length table.listed ≤ 2 ^ 31 → HasCornersBelow (length table.points) complex → HasWeights complex
      → IsMeshable table.grid.halvings budget table.points complex
  meshable budget complex h few corners weights = record {
    distinct = folded_distinct table.listed table.points table.names table.folded s.folded;
    multiples = multiples;
    few = omega (arith, folded_few table.listed table.points table.names table.folded s.folded);
    corners = corners;
    holes = weights.holes;
    regions = weights.regions;
  }

-- the points and the complex on their grid
pub meshable_bound : (limits : Limits) (options : Options) (text : NodeText) (table : NodeTable) (complex : Complex) → AreInRange options → IsSettled limits text (grid_options options) table → IsNodeTable table
    → length table.listed ≤ 2 ^ 31 → HasCornersBelow (length table.points) complex → HasWeights complex → IsMeshableBound options (record { table = table; complex = complex })
meshable_bound limits options text table complex ranges s h few corners weights =
    record { table = h; decimals = decimals_long limits text (grid_options options) table s; few = few; budget = ranges.budget; near = near_grid options.origin options.decimals limits.grid options.halvings text.decimals table.grid ranges.near s.on.on; meshable = meshable limits text (grid_options options) table s options.budget complex ranges.budget few corners weights }

-- folding changes no hole point and no region point
pub weights_folded : (folded : List ℕ) (raw complex : Complex) → complex ≡ folded_complex folded raw → HasWeights raw → HasWeights complex
weights_folded folded raw complex e h = subst HasWeights (sym e) (record { holes = h.holes; regions = h.regions; facet_holes = h.facet_holes })

-- ---- what is written of the mesh

-- decimals are no part of what a point list has to be
pub light : {table : NodeTable} → IsNodeTable table → IsNodeTable (without_decimals table)
light t = record { attributes = t.attributes; markers = t.markers; halvings = t.halvings; folded = t.folded }

-- corners of tetrahedra on points have names, where there is one for each point
on_named : (ps : List Point) (names : List ℕ) (rows : List Tet) → length names ≡ length ps → All (IsOn ps) rows → All (λ t. AreNamed names (numbers t)) rows
on_named ps names rows long on = λ k d l. subst (λ n. All (λ i. i < n) (numbers (get_or rows k d))) (sym long) (on k d l)

named : (ps : List Point) (names : List ℕ) (rows : List Tet) → length names ≡ length ps → All (λ t. IsOn ps t × IsPositive (corners ps t) × IsArranged t) rows → All (λ t. AreNamed names (numbers t)) rows
named ps names rows long on = on_named ps names rows long (λ k d l. (on k d l).0)

-- a mesh of points alone can be written
pub rows_writable : (options : Options) (bound : Bound) (rows : List Tet) (hidden : Option ℕ) → IsMeshableBound options bound → All (IsOn bound.table.points) rows → IsWritable (mesh_on bound.table rows hidden)
rows_writable options bound rows hidden b on =
    let ps = bound.table.points in
    let few = b.few in
    let long = names_with_long bound.table 0 b.table.folded in record {
      table = light b.table;
      few = omega arith;
      named = on_named ps (names_with bound.table 0) rows (omega arith) on;
      met = λ k d l. absurd (omega (arith, l));
      there = λ k d l. absurd (omega (arith, l));
      marks_long = tt;
      marks_there = tt;
    }

pub points_writable : (options : Options) (bound : Bound) → IsMeshableBound options bound → IsWritable (mesh_of_points bound.table)
points_writable options bound b =
    let ps = bound.table.points in
    let positive = (law_hull_mesh ps (delaunay_rows ps) (law_delaunay_list ps)).positive in
    rows_writable options bound (delaunay_rows ps) None b (λ k d l. (positive k d l).0)

-- the hull of its rows is that of the mesh, where it is known
pub with_hull : (table : NodeTable) (rows : List Tet) (hidden : Option ℕ) (hull : Option (List Face)) (mesh : Meshed) → mesh ≡ mesh_on table rows hidden → AllPairs RowBefore rows
    → IfSome hull (AreHullFacesOf rows) → IfSome hull (IsHullOf mesh)
with_hull table rows hidden None mesh is up h = tt
with_hull table rows hidden (Some faces) mesh is up h = subst (λ m. IsHullOf m faces) (sym is) (record { bare = refl; ascending = up; faces = h })

-- the mesh of a complex can be written, whatever points stand behind those of the table, where there are few
pub writable_on : (o : MeshOptions) (ps : List Point) (bound : Bound) (made : ComplexMesh) → IsNodeTable bound.table → length bound.table.points ≤ length made.points
    → length bound.table.listed + (length made.points - length bound.table.points) < 2 ^ 32 → IsComplexMesh o ps bound.complex made → IsWritable (mesh_of_complex bound made)
writable_on o ps bound made table before few m =
    let less = length-drop (length bound.table.points) made.points in
    let long = names_with_long bound.table (length made.points - length bound.table.points) table.folded in record {
      table = light table;
      few = omega (arith, less, few);
      named = named made.points (names_with bound.table (length made.points - length bound.table.points)) made.tetrahedra (omega (arith, long, before)) m.mesh.positive;
      met = m.faces_met;
      there = m.facets_there;
      marks_long = marks_long made.marks m.marks;
      marks_there = marks_there made.marks m.marks;
    }
  where
    below : (P : ℕ → Type 0) (mark : Option ℕ) → IsFirstOf P (length bound.complex.regions) mark → IfSome mark (λ region. region < length bound.complex.regions)
    below P None h = tt
    below P (Some k) h = h.0

    marks_long : (marks : Option (List (Option ℕ))) → IfSome marks (AreRegionMarks made.points made.triangles made.tetrahedra bound.complex.regions) → IfSome marks (λ ms. length ms ≡ length made.tetrahedra)
    marks_long None h = tt
    marks_long (Some ms) h = h.long

    marks_there : (marks : Option (List (Option ℕ))) → IfSome marks (AreRegionMarks made.points made.triangles made.tetrahedra bound.complex.regions)
        → IfSome marks (λ ms. All (λ mark. IfSome mark (λ region. region < length bound.complex.regions)) ms)
    marks_there None h = tt
    marks_there (Some ms) h = λ i d l. subst (λ mark. IfSome mark (λ region. region < length bound.complex.regions)) (get_or_default ms i None d l) (below _ (mark_at ms i) (h.each i (omega (arith, h.long))))

-- the mesh of a complex on its own points can be written
pub writable : (options : Options) (bound : Bound) (made : ComplexMesh) → IsMeshableBound options bound → options.budget ≤ 100000
    → IsComplexMesh (mesh_options options bound.table) bound.table.points bound.complex made → IsWritable (mesh_of_complex bound made)
writable options bound made b budget m =
    let more = added bound.table.grid.halvings made.points m.rest options.budget bound.table.points (pieces bound.table.points m.segs) m.protected.ends in
    let all = more.1 in
    let few = b.few in
    let fewer = folded_few bound.table.listed bound.table.points bound.table.names bound.table.folded b.table.folded in
    writable_on (mesh_options options bound.table) bound.table.points bound made b.table more.0 (omega (arith, all, few, fewer, budget)) m

-- no point is taken away
pub begins : (options : Options) (bound : Bound) (made : ComplexMesh) → IsComplexMesh (mesh_options options bound.table) bound.table.points bound.complex made → length bound.table.points ≤ length made.points
begins options bound made m = (added bound.table.grid.halvings made.points m.rest options.budget bound.table.points (pieces bound.table.points m.segs) m.protected.ends).0

drop_none : {A : Type 0} (xs : List A) → drop 0 xs ≡ xs
drop_none xs = refl

-- the mesh is made with these options, and of the points of the table
pub of_table : (options : Options) (bound : Bound) (o : MeshOptions) (ps : List Point) (made : ComplexMesh) → o ≡ mesh_options options bound.table → ps ≡ drop 0 bound.table.points
    → IsComplexMesh o ps bound.complex made → IsComplexMesh (mesh_options options bound.table) bound.table.points bound.complex made
of_table options bound o ps made e f m =
    subst (λ q. IsComplexMesh q bound.table.points bound.complex made) e (subst (λ qs. IsComplexMesh o qs bound.complex made) (f ∙ drop_none bound.table.points) m)

-- so few points are added
pub few_added : (options : Options) (bound : Bound) (made : ComplexMesh) → IsMeshableBound options bound → IsComplexMesh (mesh_options options bound.table) bound.table.points bound.complex made
    → length (drop (length bound.table.points) made.points) ≤ 100000
few_added options bound made b m =
    let all = (added bound.table.grid.halvings made.points m.rest options.budget bound.table.points (pieces bound.table.points m.segs) m.protected.ends).1 in
    let budget = b.budget in
    omega (arith, all, budget, length-drop (length bound.table.points) made.points)

-- the added points are those after the given ones, their names stand behind those of the table, and no decimals are kept
pub with_added : (bound : Bound) (made : ComplexMesh) (table : NodeTable) (more : List Point) (names : List ℕ) → table ≡ without_decimals bound.table
    → more ≡ drop (length bound.table.points) made.points → names ≡ names_with bound.table (length more) → record (mesh_of_complex bound made) { table = table; added = more; names = names } ≡ mesh_of_complex bound made
with_added bound made table more names e f g =
    let count : length more ≡ length made.points - length bound.table.points = ap (λ (xs : List Point). length xs) f ∙ length-drop (length bound.table.points) made.points in
    let all = g ∙ ap (λ (n : ℕ). names_with bound.table n) count in
    λ i. record (mesh_of_complex bound made) { table = e i; added = f i; names = all i }
