-- The complex of arrays on the kept points of a table can be meshed.
use Rattle.std.proofs.Common.{◌≡◌, ℕ, zero, suc, ◌^◌, ◌<◌, ◌≤◌, pos, ◌<ℤ◌, List, [], ◌∷◌, length, map, Some, refl, ap, sym, subst, ◌∙◌, arith}
use Rattle.std.specs.Prelude.{All, slice_index, slice_range}
use Rattle.std.specs.List.{fold}
use Rattle.std.proofs.lemmas.Int.{ints}
use Rattle.std.proofs.lemmas.List.{get_or-map}
use Rattle.std.proofs.lemmas.List.Elements.{All-map, All-push}
use Rattle.complex_mesh.specs.Protection.{IsMeshable}
use Rattle.geo_laws.specs.Complex.{Complex, Polygon as BoundPolygon, empty_complex, with_facet}
use Rattle.geo_laws.specs.Delaunay.{point}
use Rattle.geo_laws.specs.declared.complex.Region.{Region}
use Rattle.grid_coords.specs.declared.grid.Grid.{Grid}
use Rattle.node_files.proofs.Folds.{folded_distinct, kept_at}
use Rattle.node_files.specs.declared.table.NodeTable.{NodeTable}
use Rattle.segment_protect.specs.Protection.{IsMultiple}
use Rattle.sign_predicates.specs.Point.{Point, RationalPoint}
use Rattle.array_meshes.proofs.Whole.{array_few}
use Rattle.array_meshes.specs.Arrays.{IsArrayTable, halved_point}
use Rattle.array_meshes.specs.Complexes.{HasParts, IsFacetThere, IsPolygonThere, complex_on, drawn_facets, rational_place, with_drawn_facet, with_drawn_facet_hole, with_drawn_hole, with_drawn_polygon, with_drawn_polygons, with_drawn_region}
use Rattle.array_meshes.specs.declared.arrays.Place.{Place}
use Rattle.array_meshes.specs.declared.complexes.ArrayComplex.{ArrayComplex}
use Rattle.array_meshes.specs.declared.complexes.Facet.{Facet}
use Rattle.array_meshes.specs.declared.complexes.Polygon.{Polygon}

-- what each step keeps, all steps keep
keeps : {A B : Type 0} (P : A → Type 0) (Q : B → Type 0) (f : A → B → A) → ((a : A) (b : B) → P a → Q b → P (f a b)) → (a : A) (xs : List B) → P a → All Q xs → P (fold f a xs)
keeps P Q f step a [] p all = p
keeps P Q f step a (x ∷ xs) p all = keeps P Q f step (f a x) xs (step a x p (all zero x (omega arith))) (λ i d lt. all (suc i) d (omega (arith, lt)))

-- corners in range, and rational points with denominators above 0
record IsSoundOn (n : ℕ) (made : Complex) : Type 0 where
  corners : All (λ p. All (λ i. i < n) p.corners) made.polygons
  holes : All (λ h. pos 0 <ℤ h.w) made.holes
  regions : All (λ r. pos 0 <ℤ r.at.w) made.regions

million : pos 0 <ℤ pos 1000000
million = omega (arith, ints)

empty_sound : (n : ℕ) → IsSoundOn n empty_complex
empty_sound n = record { corners = λ i d lt. absurd (omega (arith, lt)); holes = λ i d lt. absurd (omega (arith, lt)); regions = λ i d lt. absurd (omega (arith, lt)) }

module _ (c : ArrayComplex) (table : NodeTable) (n : ℕ) (below : (i : ℕ) → i < length c.points.now → slice_index table.folded i < n) where
  polygon_step : (made : Complex) (p : Polygon) → IsSoundOn n made → IsPolygonThere c p → IsSoundOn n (with_drawn_polygon table.folded c made p)
  polygon_step made p s h =
      let corners = slice_range c.corners.now p.first p.past in
      let own : BoundPolygon = record { corners = map (slice_index table.folded) corners; line = 0 } in
      let kept : All (λ i. i < n) own.corners = All-map (λ i. i < n) (slice_index table.folded) corners (λ k d lt. below _ (h.corners k d lt)) in
      record { corners = All-push (λ (q : BoundPolygon). All (λ i. i < n) q.corners) made.polygons own s.corners kept; holes = s.holes; regions = s.regions }

  polygons_sound : (made : Complex) (f : Facet) → IsSoundOn n made → IsFacetThere c f → IsSoundOn n (with_drawn_polygons table.folded c made f)
  polygons_sound made f s h =
      keeps (IsSoundOn n) (IsPolygonThere c) (with_drawn_polygon table.folded c) polygon_step (with_facet (Some f.marker) made) (slice_range c.polygons.now f.first f.past)
      (record { corners = s.corners; holes = s.holes; regions = s.regions }) h.polygons

  facet_hole_step : (made : Complex) (p : Place) → IsSoundOn n made → Unit {0} → IsSoundOn n (with_drawn_facet_hole table.grid made p)
  facet_hole_step made p s h = record { corners = s.corners; holes = s.holes; regions = s.regions }

  facet_step : (made : Complex) (f : Facet) → IsSoundOn n made → IsFacetThere c f → IsSoundOn n (with_drawn_facet table c made f)
  facet_step made f s h =
      keeps (IsSoundOn n) (λ p. Unit {0}) (with_drawn_facet_hole table.grid) facet_hole_step (with_drawn_polygons table.folded c made f)
      (slice_range c.facet_holes.now f.first_hole f.past_hole) (polygons_sound made f s h) (λ i d lt. tt)

  facets_sound : HasParts c → IsSoundOn n (drawn_facets table c)
  facets_sound h = keeps (IsSoundOn n) (IsFacetThere c) (with_drawn_facet table c) facet_step empty_complex c.facets.now (empty_sound n) h

module _ (grid : Grid) (n : ℕ) where
  hole_step : (made : Complex) (p : Place) → IsSoundOn n made → Unit {0} → IsSoundOn n (with_drawn_hole grid made p)
  hole_step made p s h =
      record { corners = s.corners; holes = All-push (λ (q : RationalPoint). pos 0 <ℤ q.w) made.holes (rational_place grid p) s.holes million; regions = s.regions }

  region_step : (made : Complex) (p : Place) → IsSoundOn n made → Unit {0} → IsSoundOn n (with_drawn_region grid made p)
  region_step made p s h =
      let own : Region = record { at = rational_place grid p; attribute = [] } in
      record { corners = s.corners; holes = s.holes; regions = All-push (λ (r : Region). pos 0 <ℤ r.at.w) made.regions own s.regions million }

  points_sound : (made : Complex) (holes regions : List Place) → IsSoundOn n made → IsSoundOn n (fold (with_drawn_region grid) (fold (with_drawn_hole grid) made holes) regions)
  points_sound made holes regions s =
      keeps (IsSoundOn n) (λ p. Unit {0}) (with_drawn_region grid) region_step (fold (with_drawn_hole grid) made holes) regions
      (keeps (IsSoundOn n) (λ p. Unit {0}) (with_drawn_hole grid) hole_step made holes s (λ i d lt. tt)) (λ i d lt. tt)

module _ (c : ArrayComplex) (table : NodeTable) (on : IsArrayTable c.options.halvings c.points.now table) (there : HasParts c) where
  long : length table.listed ≡ length c.points.now
  long = (array_few c.options.halvings c.points.now table on).1

  below : (i : ℕ) → i < length c.points.now → slice_index table.folded i < length table.points
  below i lt = (on.folding.equal i (omega (arith, lt, long))).0

  sound : IsSoundOn (length table.points) (complex_on table c)
  sound = points_sound table.grid (length table.points) (drawn_facets table c) c.holes.now c.regions.now (facets_sound c table (length table.points) below there)

  listed_multiples : (i : ℕ) → i < length table.listed → IsMultiple (2 ^ table.grid.halvings) (point table.listed i)
  listed_multiples i lt =
      let many : i < length c.points.now = omega (arith, lt, long) in
      subst (IsMultiple (2 ^ table.grid.halvings))
      (sym (ap (λ (xs : List Point). point xs i) on.listed_are ∙ get_or-map (halved_point table.grid.halvings) c.points.now i none _ many)) (own _)
    where
      none : Place
      none = record { x = pos 0; y = pos 0; z = pos 0 }

      own : (p : Place) → IsMultiple (2 ^ table.grid.halvings) (halved_point table.grid.halvings p)
      own p = record { x = p.x; y = p.y; z = p.z; x_is = refl; y_is = refl; z_is = refl }

  -- each kept point is one of the list
  multiples : (i : ℕ) → i < length table.points → IsMultiple (2 ^ table.grid.halvings) (point table.points i)
  multiples i lt =
      let k = kept_at table.listed table.points table.names table.folded on.folding i lt in
      subst (IsMultiple (2 ^ table.grid.halvings)) (sym k.1) (listed_multiples (slice_index table.names i) k.0)

  pub meshable : c.options.budget ≤ 100000000 → IsMeshable table.grid.halvings c.options.budget table.points (complex_on table c)
  meshable budget =
      let few = (array_few c.options.halvings c.points.now table on).0 in
      record {
        distinct = folded_distinct table.listed table.points table.names table.folded on.folding;
        multiples = multiples;
        few = omega (arith, few, budget);
        corners = sound.corners;
        holes = sound.holes;
        regions = sound.regions;
      }
