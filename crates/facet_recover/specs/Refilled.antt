-- The result of refilling where no tetrahedron is crossed by two facets, and the refusal where one is.
use Rattle.std.specs.Prelude.{List, All, Contains}
use Rattle.sign_predicates.specs.Point.{Point}
use Rattle.geo_laws.specs.Faces.{sides_of_rows, side_numbers}
use Rattle.geo_laws.specs.Facet.{IsTangled, corner_numbers}
use Rattle.geo_laws.specs.Simplex.{ProperlyMet}
use Rattle.geo_laws.specs.declared.faces.Side.{Side}
use Rattle.geo_laws.specs.declared.tetrahedra.Tet.{Tet}
use Rattle.geo_laws.specs.declared.complex.FacetTriangle.{FacetTriangle}
use Rattle.refill_laws.specs.Refill.{IsRefill}
use Rattle.tangle_laws.specs.Tangle.{AnomalyHolds}
use Rattle.tangle_fill.specs.declared.fault.FillFault.{FillFault}
use Rattle.tangle_fill.specs.declared.fault.FillFault.TheVariants as filling
use Rattle.facet_recover.specs.declared.recover.RecoverFault.{RecoverFault}
use Rattle.facet_recover.specs.declared.recover.RecoverFault.TheVariants.{NoFill, NoMemory}

-- two facets cross a tetrahedron of the list
pub record HasTangle (ps : List Point) (ts : List FacetTriangle) (rows : List Tet) : Type 0 where
  pub row : Tet
  pub is_row : Contains rows row
  pub is_tangled : IsTangled ps ts row

-- no two facets cross one tetrahedron of the list
abbrev pub AreUntangled : List Point → List FacetTriangle → List Tet → Type 0
AreUntangled ps ts rows = (t : Tet) → Contains rows t → ¬ IsTangled ps ts t

-- the list has exactly the tetrahedra that no facet crosses and, on both sides of each facet, those that fill its
-- cavity
pub record IsRefilledBySides (ps : List Point) (ts : List FacetTriangle) (rows whole : List Tet) : Type 0 where
  pub refill : IsRefill ps ts rows whole
  -- an edge of the old list that meets no triangle but in its own corners stays
  pub sides_kept : (s : Side) → Contains (sides_of_rows rows) s → All (λ t. ProperlyMet ps (corner_numbers t) (side_numbers s)) ts
      → Contains (sides_of_rows whole) s

-- the fault of filling tangles, as one of refilling
abbrev pub fault_of_filling : FillFault → RecoverFault
fault_of_filling (filling.NoFill anomaly) = NoFill anomaly
fault_of_filling filling.NoMemory = NoMemory

-- the refusal comes where two facets cross a tetrahedron, with an anomaly that holds
abbrev pub IsCause : List Point → List FacetTriangle → List Tet → RecoverFault → Type 0
IsCause ps ts rows (NoFill anomaly) = HasTangle ps ts rows × AnomalyHolds ps ts anomaly
IsCause ps ts rows NoMemory = Unit {0}
