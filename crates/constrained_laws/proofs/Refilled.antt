-- In a refilled list each point is a corner: a tetrahedron that fills a cavity is Delaunay among the points on its side of the facet, and holds no
-- others.
use Rattle.std.proofs.Common.{ℕ, ◌<◌, pos, ◌≤ℤ◌, List, length, sym, subst, ◌∙◌, arith}
use Rattle.std.specs.Prelude.{Contains, IsTrue}
use Rattle.std.proofs.lemmas.Int.{ints}
use Rattle.sign_predicates.specs.Point.{Point, as_rational}
use Rattle.sign_predicates.specs.Orientation.{InClosed}
use Rattle.geo_laws.specs.Delaunay.{point, corners, numbers, is_outside_of, IsDelaunayList}
use Rattle.geo_laws.specs.OrientedFace.{triangle}
use Rattle.geo_laws.specs.declared.tetrahedra.Tet.{Tet}
use Rattle.geo_laws.specs.declared.complex.FacetTriangle.{FacetTriangle}
use Rattle.geo_laws.proofs.Determinants.{side_rational-as_rational}
use Rattle.geo_laws.proofs.Corners.{contains_below}
use Rattle.crossing_laws.proofs.Tests.{never}
use Rattle.refill_laws.specs.Refill.{IsNewRow, kept_row, fill_row}
use Rattle.refill_laws.proofs.Cavity.{in_side}
use Rattle.refill_laws.proofs.NewMeet.{closed_above}
use Rattle.constrained_laws.specs.Constrained.{RefilledPointsLaw}
use Rattle.constrained_laws.proofs.EachPoint.{each_point}

-- the further points of a closed tetrahedron of the list are outside of its circumsphere
outside_new : (ps : List Point) (ts : List FacetTriangle) (old : List Tet) → IsDelaunayList ps old → (u : Tet) → IsNewRow ps ts old u → (i : ℕ) → i < length ps → ¬ Contains (numbers u) i
    → InClosed (corners ps u) (as_rational (point ps i)) → IsTrue (is_outside_of ps u i)
outside_new ps ts old list u (kept_row c free) i within further closed = ((list.exactly u).0 c).others i (contains_below (length ps) i within) further
outside_new ps ts old list u (fill_row facet h fill) i within further closed =
    fill.is_delaunay.others i (in_side ps h i (contains_below (length ps) i within)
    (subst (λ a. pos 0 ≤ℤ a) (side_rational-as_rational (triangle ps h) (point ps i)) (closed_above ps h u fill.is_delaunay (as_rational (point ps i)) (omega (arith, ints)) closed))) further

pub law_refilled_points : RefilledPointsLaw
law_refilled_points ps ts old rows distinct some list whole refill = each_point ps ts rows distinct some whole.filling
    (λ u in_u i within further closed not_outside. never (sym not_outside ∙ outside_new ps ts old list u ((refill.exactly u).0 in_u) i within further closed))
