-- The points, names and tetrahedra of a run's mesh.
use Rattle.std.proofs.Common.{◌≡◌, ◌⊎◌, inl, inr, ℕ, zero, suc, ◌-◌, ◌<◌, ◌≤◌, ℤ, pos, unsigned_abs, Bool, true, false, List, [], ◌∷◌, ◌++◌, length, drop, Option, None, Some, Ok, refl, ap, sym, subst, ◌∙◌, arith, length-append}
use Rattle.std.specs.Prelude.{All, IfSome, slice_index, slice_index_or, if◌then◌else◌}
use Rattle.std.specs.List.{range_with_len}
use Rattle.std.proofs.lemmas.Bool.{cases_order}
use Rattle.std.proofs.lemmas.List.{append-nil, length-drop, get_or_default, get_or_past}
use Rattle.std.proofs.Math.Seq.{drop-append_seam}
use Rattle.std.proofs.lemmas.List.Elements.{All-append, All-drop}
use Rattle.sign_predicates.specs.Point.{Point, origin}
use Rattle.geo_laws.specs.Delaunay.{AreCoplanar}
use Rattle.geo_laws.specs.Segment.{pieces}
use Rattle.geo_laws.specs.declared.complex.Facet.{Facet}
use Rattle.mesh_files.specs.FaceRows.{IsFaceMarker, AreFaceRowsOf, marker_or_1}
use Rattle.mesh_files.specs.declared.markers.FaceRow.{FaceRow}
use Rattle.node_files.specs.Limits.{tetgen_limits}
use Rattle.node_files.specs.Folding.{IsFolded, names_with}
use Rattle.node_files.specs.Settling.{IsSettled}
use Rattle.node_files.specs.declared.node_text.NodeText.{NodeText}
use Rattle.node_files.specs.declared.table.NodeTable.{NodeTable}
use Rattle.node_files.proofs.Folds.{folded_few, kept_at}
use Rattle.geo_laws.specs.declared.complex.Region.{Region}
use Rattle.geo_laws.specs.declared.complex.FacetTriangle.{FacetTriangle}
use Rattle.geo_laws.specs.declared.tetrahedra.Tet.{Tet}
use Rattle.hole_carve.specs.Marks.{IsFirstOf, AreRegionMarks}
use Rattle.complex_mesh.specs.Meshing.{IsComplexMesh}
use Rattle.complex_mesh.specs.declared.mesh.ComplexMesh.{ComplexMesh}
use Rattle.run_laws.specs.Reread.{IsShortNumber}
use Rattle.run_laws.proofs.Grids.{IsWithin, settled_within}
use Rattle.command_words.specs.declared.options.Options.{Options}
use Rattle.run_steps.specs.Meshing.{BoundAnswer, MeshAnswer, MeshOf, PointsMeshOf, grid_options, mesh_options, mesh_of_points, mesh_of_complex}
use Rattle.run_steps.specs.declared.input.Input.{Input}
use Rattle.run_steps.specs.declared.mesh.Bound.{Bound}
use Rattle.run_steps.specs.declared.meshed.Meshed.{Meshed}
use Rattle.run_laws.proofs.Protections.{grown}

-- the points of a mesh are the kept ones of its table and the added ones, named so, and each lies within the grid of the program
pub record IsOfTable (mesh : Meshed) : Type 0 where
  pub halvings : mesh.table.grid.halvings ≤ 18
  pub folded : IsFolded mesh.table.listed mesh.table.points mesh.table.names mesh.table.folded
  pub points_are : mesh.points ≡ mesh.table.points ++ mesh.added
  pub names_are : mesh.names ≡ mesh.table.names ++ range_with_len (length mesh.table.listed) (length mesh.added)
  pub on_grid : All (IsWithin tetgen_limits.grid) (mesh.table.listed ++ mesh.added)
  pub some : 0 < length (mesh.table.listed ++ mesh.added)

some_of : (ps : List Point) → ¬ AreCoplanar ps → 0 < length ps
some_of [] apart = absurd (apart (λ i j k l li lj lk ll. absurd (omega arith)))
some_of (p ∷ ps) apart = omega arith

some_listed : (table : NodeTable) (added : List Point) → IsFolded table.listed table.points table.names table.folded → ¬ AreCoplanar table.points → 0 < length (table.listed ++ added)
some_listed table added folded apart =
    let some = some_of table.points apart in
    let few = folded_few table.listed table.points table.names table.folded folded in
    omega (arith, length-append table.listed added)

module _ (options : Options) (text : NodeText) (bound : Bound) (settled : IsSettled tetgen_limits text (grid_options options) bound.table) where
  of_points : ¬ AreCoplanar bound.table.points → IsOfTable (mesh_of_points bound.table)
  of_points apart =
      let within = settled_within tetgen_limits text (grid_options options) bound.table settled in record {
        halvings = within.0;
        folded = settled.folded;
        points_are = sym (append-nil bound.table.points);
        names_are = refl;
        on_grid = subst (All (IsWithin tetgen_limits.grid)) (sym (append-nil bound.table.listed)) within.1;
        some = some_listed bound.table [] settled.folded apart;
      }

  -- the kept points lie on the grid as the listed ones do
  kept_within : All (IsWithin tetgen_limits.grid) bound.table.points
  kept_within i d lt =
      let within = settled_within tetgen_limits text (grid_options options) bound.table settled in
      let at = kept_at bound.table.listed bound.table.points bound.table.names bound.table.folded settled.folded i lt in
      subst (IsWithin tetgen_limits.grid) (sym (get_or_default bound.table.points i d origin lt ∙ at.1)) (within.1 (slice_index bound.table.names i) origin at.0)

  of_complex : (made : ComplexMesh) → IsComplexMesh (mesh_options options bound.table) bound.table.points bound.complex made → IsOfTable (mesh_of_complex bound made)
  of_complex made m =
      let within = settled_within tetgen_limits text (grid_options options) bound.table settled in
      let g = grown bound.table.grid.halvings options.budget bound.table.points made.points (pieces bound.table.points m.segs) m.rest kept_within m.protected.ends in
      let more : drop (length bound.table.points) made.points ≡ g.more = ap (λ (xs : List Point). drop (length bound.table.points) xs) g.is ∙ drop-append_seam bound.table.points g.more in
      let count : length made.points - length bound.table.points ≡ length (drop (length bound.table.points) made.points) = sym (length-drop (length bound.table.points) made.points) in record {
        halvings = within.0;
        folded = settled.folded;
        points_are = g.is ∙ ap (λ (xs : List Point). bound.table.points ++ xs) (sym more);
        names_are = ap (λ (n : ℕ). names_with bound.table n) count;
        on_grid = All-append (IsWithin tetgen_limits.grid) bound.table.listed (drop (length bound.table.points) made.points) within.1 (added_within made.points g.on_grid);
        some = some_listed bound.table (drop (length bound.table.points) made.points) settled.folded m.protected.can_split.0;
      }
    where
      added_within : (qs : List Point) → All (IsWithin tetgen_limits.grid) qs → All (IsWithin tetgen_limits.grid) (drop (length bound.table.points) qs)
      added_within qs all = All-drop (IsWithin tetgen_limits.grid) (length bound.table.points) qs all

by_mesh : (piecewise : Bool) (options : Options) (text : NodeText) (bound : Bound) (mesh : Meshed) → options.weighted ≡ false → IsSettled tetgen_limits text (grid_options options) bound.table
    → MeshOf piecewise options bound (Ok mesh) → IsOfTable mesh
by_mesh false options text bound mesh plain settled answer =
    let points = subst (λ weighted. PointsMeshOf weighted options bound (Ok mesh)) plain answer in
    subst IsOfTable (sym points.1) (of_points options text bound settled points.0)
by_mesh true options text bound mesh plain settled (made, m, is) = subst IsOfTable (sym is) (of_complex options text bound settled made m)

pub of_table : (options : Options) (input : Input) (bound : Bound) (mesh : Meshed) → options.weighted ≡ false → BoundAnswer tetgen_limits options input (Ok bound) → MeshAnswer options bound (Ok mesh) → IsOfTable mesh
of_table options input bound mesh plain on_grid answer = by_mesh options.piecewise options input.nodes bound mesh plain on_grid.0 answer

-- ---- marks

-- each mark of a tetrahedron, where there are marks, is that of a region
abbrev pub HasRegionMarks : Meshed → Type 0
HasRegionMarks mesh = IfSome mesh.marks (λ ms. (i : ℕ) → IfSome (slice_index_or ms i None) (λ r. r < length mesh.complex.regions))

first_within : (P : ℕ → Type 0) (count : ℕ) (o : Option ℕ) → IsFirstOf P count o → IfSome o (λ r. r < count)
first_within P count None h = tt
first_within P count (Some k) h = h.0

marks_within : (ps : List Point) (ts : List FacetTriangle) (rows : List Tet) (regions : List Region) (ms : List (Option ℕ)) → AreRegionMarks ps ts rows regions ms → (i : ℕ) → IfSome (slice_index_or ms i None) (λ r. r < length regions)
marks_within ps ts rows regions ms are i = go (cases_order i (length rows))
  where
    past : length rows ≤ i → IfSome (slice_index_or ms i None) (λ r. r < length regions)
    past le = subst (λ o. IfSome o (λ r. r < length regions)) (sym (get_or_past ms i None (let long = are.long in omega arith))) tt

    go : (i ≡ length rows) ⊎ ((i < length rows) ⊎ (length rows < i)) → IfSome (slice_index_or ms i None) (λ r. r < length regions)
    go (inl same) = past (omega arith)
    go (inr (inl before)) = first_within _ (length regions) (slice_index_or ms i None) (are.each i before)
    go (inr (inr behind)) = past (omega arith)

pub region_marks : (options : Options) (bound : Bound) (mesh : Meshed) → options.weighted ≡ false → MeshAnswer options bound (Ok mesh) → HasRegionMarks mesh
region_marks options bound mesh plain answer = by_complex options.piecewise answer
  where
    marked : (ps : List Point) (ts : List FacetTriangle) (rows : List Tet) (o : Option (List (Option ℕ))) → IfSome o (AreRegionMarks ps ts rows bound.complex.regions) → IfSome o (λ ms. (i : ℕ) → IfSome (slice_index_or ms i None) (λ r. r < length bound.complex.regions))
    marked ps ts rows None h = tt
    marked ps ts rows (Some ms) h = marks_within ps ts rows bound.complex.regions ms h

    by_complex : (piecewise : Bool) → MeshOf piecewise options bound (Ok mesh) → HasRegionMarks mesh
    by_complex false points = subst HasRegionMarks (sym (subst (λ weighted. PointsMeshOf weighted options bound (Ok mesh)) plain points).1) tt
    by_complex true (made, m, is) = subst HasRegionMarks (sym is) (marked made.points made.triangles made.tetrahedra made.marks m.marks)

-- ---- markers

abbrev bare : Facet
bare = record { first = 0; past = 0; holes = []; marker = None }

-- the marker of a face is that of a facet, or 1 or 0
short_marker : (lies : ℕ → Type 0) (facets : List Facet) (on_hull : Bool) (marker : ℤ) → All (λ f. IfSome f.marker (λ m. IsShortNumber (unsigned_abs m))) facets
    → IsFaceMarker lies facets on_hull marker → IsShortNumber (unsigned_abs marker)
short_marker lies facets on_hull marker all (inr none) = subst (λ (z : ℤ). IsShortNumber (unsigned_abs z)) (sym none.1) (flag on_hull)
  where
    flag : (b : Bool) → IsShortNumber (unsigned_abs (if b then pos 1 else pos 0))
    flag true = omega arith
    flag false = omega arith
short_marker lies facets on_hull marker all (inl (facet, first, holds)) =
    subst (λ (z : ℤ). IsShortNumber (unsigned_abs z)) (sym (holds bare)) (shown (slice_index_or facets facet bare).marker (at facets facet all))
  where
    at : (fs : List Facet) (k : ℕ) → All (λ f. IfSome f.marker (λ m. IsShortNumber (unsigned_abs m))) fs → IfSome (slice_index_or fs k bare).marker (λ m. IsShortNumber (unsigned_abs m))
    at [] k all = tt
    at (f ∷ fs) zero all = all 0 f (omega arith)
    at (f ∷ fs) (suc k) all = at fs k (λ i d lt. all (suc i) d (omega arith))

    shown : (o : Option ℤ) → IfSome o (λ m. IsShortNumber (unsigned_abs m)) → IsShortNumber (unsigned_abs (marker_or_1 o))
    shown None h = omega arith
    shown (Some m) h = h

pub short_markers : (mesh : Meshed) (asked : Bool) (faces : List FaceRow) → All (λ f. IfSome f.marker (λ m. IsShortNumber (unsigned_abs m))) mesh.complex.facets
    → AreFaceRowsOf mesh.points mesh.tetrahedra mesh.complex mesh.triangles asked faces → All (λ f. IsShortNumber (unsigned_abs f.marker)) faces
short_markers mesh asked faces all are k d lt =
    let r = slice_index_or faces k d in
    let is = (are.exactly r).0 (k, lt, get_or_default faces k r d lt) in
    short_marker _ mesh.complex.facets _ r.marker all is.2.marker_is
