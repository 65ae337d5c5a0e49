-- What a bound complex has: corners in range, and rational points with denominators above 0.
use Rattle.std.proofs.Common.{◌≡◌, ℕ, zero, suc, ◌+◌, List, [], ◌∷◌, length, sym, subst, arith, Result, Ok, Err}
use Rattle.std.specs.Prelude.{All, IfOk, map, pos, ◌<ℤ◌}
use Rattle.std.proofs.lemmas.List.Elements.{All-map}
use Rattle.std.proofs.lemmas.Int.{ints}
use Rattle.sign_predicates.specs.Point.{RationalPoint}
use Rattle.grid_coords.specs.declared.grid.Grid.{Grid}
use Rattle.grid_coords.specs.declared.points.DecimalPoint.{DecimalPoint}
use Rattle.grid_coords.specs.Units.{rational_point}
use Rattle.geo_laws.specs.declared.complex.Region.{Region}
use Rattle.geo_laws.specs.declared.complex.Complex.{Complex as BoundComplex}
use Rattle.geo_laws.specs.Complex.{Complex}
use Rattle.node_files.specs.declared.limits.Limits.{Limits}
use Rattle.plc_files.specs.declared.fault.PlcFault.{PlcFault}
use Rattle.tet_text.specs.Lines.{IsField}
use Rattle.plc_files.specs.Text.{AreWritten, ReadFacet, Plc}
use Rattle.plc_files.specs.Checks.{corners_check}
use Rattle.plc_files.specs.Folding.{HasCornersBelow}
use Rattle.plc_files.specs.Binding.{bound_facets, bound_region, complex_of, HasWeights, Binds}
use Rattle.plc_files.proofs.Ranges.{corners_below}

million : pos 0 <ℤ pos 1000000
million = omega (arith, ints)

points_weigh : (grid : Grid) (hs : List DecimalPoint) → All (λ h. pos 0 <ℤ h.w) (map (rational_point grid) hs)
points_weigh grid hs =
    let P : RationalPoint → Type 0 = λ h. pos 0 <ℤ h.w in
    All-map P (rational_point grid) hs (λ k d lt. million)

facets_weigh : (grid : Grid) (from : ℕ) (fs : List ReadFacet) → All (λ f. All (λ h. pos 0 <ℤ h.w) f.holes) (bound_facets grid from fs)
facets_weigh grid from [] k d lt = absurd (omega (arith, lt))
facets_weigh grid from (f ∷ fs) zero d lt = points_weigh grid f.holes
facets_weigh grid from (f ∷ fs) (suc k) d lt = facets_weigh grid (from + length f.polygons) fs k d (omega (arith, lt))

weights : (first : ℕ) (grid : Grid) (t : Plc) → HasWeights (complex_of first grid t)
weights first grid t =
    let AtWeighs : Region → Type 0 = λ r. pos 0 <ℤ r.at.w in
    record { holes = points_weigh grid t.holes; regions = All-map AtWeighs (bound_region grid) t.regions (λ k d lt. million); facet_holes = facets_weigh grid 0 t.facets }

pub has_corners : (limits : Limits) (first count : ℕ) (grid : Grid) (t : Plc) (r : Result BoundComplex PlcFault) → corners_check first count t ≡ Ok tt → Binds limits t first grid r → IfOk r (λ complex. HasCornersBelow count complex)
has_corners limits first count grid t (Ok complex) is binds =
    let P : Complex → Type 0 = HasCornersBelow count in
    subst P (sym binds.is) (corners_below first count t is)
has_corners limits first count grid t (Err fault) is binds = tt

pub has_weights : (limits : Limits) (first : ℕ) (grid : Grid) (t : Plc) (r : Result BoundComplex PlcFault) → Binds limits t first grid r → IfOk r (λ complex. HasWeights complex)
has_weights limits first grid t (Ok complex) binds =
    let P : Complex → Type 0 = HasWeights in
    subst P (sym binds.is) (weights first grid t)
has_weights limits first grid t (Err fault) binds = tt

pub has_attributes : (limits : Limits) (first : ℕ) (grid : Grid) (t : Plc) (r : Result BoundComplex PlcFault) → Binds limits t first grid r → IfOk r (λ complex. AreWritten t.regions → All (λ r. IsField r.attribute) complex.regions)
has_attributes limits first grid t (Ok complex) binds =
    let P : Complex → Type 0 = λ c. All (λ r. IsField r.attribute) c.regions in
    let IsWritten : Region → Type 0 = λ r. IsField r.attribute in
    λ h. subst P (sym binds.is) (All-map IsWritten (bound_region grid) t.regions h)
has_attributes limits first grid t (Err fault) binds = tt
