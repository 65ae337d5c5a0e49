-- Complexes whose points are measured from an origin have the same corners.
use Rattle.std.proofs.Common.{◌≡◌, ℕ, ◌<◌, ◌^◌, ◌-◌, List, [], ◌∷◌, ◌++◌, length, map, refl, sym, ap, subst}
use Rattle.std.proofs.lemmas.List.{length-map}
use Rattle.grid_coords.specs.declared.origin.WholePoint.{WholePoint}
use Rattle.plc_files.specs.Text.{ReadFacet, Plc}
use Rattle.plc_files.specs.declared.parts.PolygonText.{PolygonText}
use Rattle.plc_files.specs.Checks.{all_polygons, corners_check, facet_check, first_fault, unless_fault, HasFewParts}
use Rattle.plc_files.specs.Measuring.{measured_facet, measured_plc, measured_region}

same_polygons : (w : WholePoint) (m : ℕ) (fs : List ReadFacet) → all_polygons (map (measured_facet w m) fs) ≡ all_polygons fs
same_polygons w m [] = refl
same_polygons w m (f ∷ fs) = ap (λ (ps : List PolygonText). f.polygons ++ ps) (same_polygons w m fs)

same_check : (w : WholePoint) (m first count : ℕ) (fs : List ReadFacet) → first_fault (facet_check first count) (map (measured_facet w m) fs) ≡ first_fault (facet_check first count) fs
unfolding first_fault
same_check w m first count [] = refl
same_check w m first count (f ∷ fs) = ap (unless_fault (facet_check first count f)) (same_check w m first count fs)

pub still_few : (w : WholePoint) (m : ℕ) (t : Plc) → HasFewParts t → HasFewParts (measured_plc w m t)
still_few w m t few = record {
  polygons = subst (λ (ps : List PolygonText). length ps < 2 ^ 32 - 1) (sym (same_polygons w m t.facets)) few.polygons;
  regions = subst (λ (n : ℕ). n < 2 ^ 32 - 1) (sym (length-map t.regions (measured_region w m))) few.regions;
}

pub same_corners : (w : WholePoint) (m : ℕ) (t : Plc) (first count : ℕ) → corners_check first count (measured_plc w m t) ≡ corners_check first count t
same_corners w m t first count = same_check w m first count t.facets
