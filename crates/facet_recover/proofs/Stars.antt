-- Rows in a box that is apart from all triangles.
use Rattle.std.proofs.Common.{◌≡◌, ◌⊎◌, inl, inr, ℕ, ◌+◌, ◌<◌, List, length, get_or, None, sym, subst, ap, ◌∙◌, arith}
use Rattle.std.specs.List.{HoldsAt}
use Rattle.sign_predicates.specs.Point.{Point}
use Rattle.sign_predicates.specs.Orientation.{IsPositive}
use Rattle.geo_laws.specs.Delaunay.{corners, numbers}
use Rattle.geo_laws.specs.declared.tetrahedra.Tet.{Tet}
use Rattle.geo_laws.specs.declared.complex.FacetTriangle.{FacetTriangle}
use Rattle.box_tree.specs.declared.bounds.Bounds.{Bounds}
use Rattle.box_tree.specs.declared.tree.Node.{Node}
use Rattle.box_tree.specs.Bounds.{IsBoxWithin, HoldsCorners}
use Rattle.box_tree.specs.Bodies.{IsTriangleTree}
use Rattle.box_tree.specs.Tree.{AreApartBetween}
use Rattle.box_tree.proofs.Boxes.{held_larger}
use Rattle.box_tree.proofs.Lists.{less_or_more}
use Rattle.facet_recover.specs.declared.cavity.Star.{Star}
use Rattle.facet_recover.specs.Stars.{HoldsRows, IsStarFrom}
use Rattle.facet_recover.proofs.Entering.{uncrossed_of}
use Rattle.facet_recover.proofs.Near.{least_start, least_further, least_of_all}
use Rattle.geo_laws.specs.Facet.{IsUncrossed}

-- no facet crosses a row of such a box
pub clear_row : (ps : List Point) (ts : List FacetTriangle) (t : Tet) (nodes : List Node) (b : Bounds) → IsPositive (corners ps t) → IsTriangleTree ps ts nodes → HoldsCorners ps (numbers t) b → AreApartBetween nodes b 0 (length nodes)
    → IsUncrossed ps ts t
clear_row ps ts t nodes b p tree h apart facet =
    uncrossed_of ps ts t 0
    (least_of_all ps ts t 0 None nodes (length nodes) tree (omega arith) (least_further ps ts t 0 None nodes b 0 (length nodes) p tree h (least_start ps ts t 0 nodes) apart (omega arith)))
    facet (omega arith)

-- one row in its box
pub rows_one : (ps : List Point) (rows : List Tet) (i : ℕ) (t : Tet) (b : Bounds) → HoldsAt (λ u. u ≡ t) rows i → HoldsCorners ps (numbers t) b → HoldsRows ps rows i (i + 1) b
rows_one ps rows i t b at h j d l m =
    let same : j ≡ i = omega arith in
    subst (λ u. HoldsCorners ps (numbers u) b) (sym (ap (λ n. get_or rows n d) same ∙ at d)) h

-- one row more in a box round both
pub rows_more : (ps : List Point) (rows : List Tet) (first i : ℕ) (t : Tet) (old b new : Bounds) → HoldsRows ps rows first i old → IsBoxWithin old new → HoldsAt (λ u. u ≡ t) rows i → HoldsCorners ps (numbers t) b → IsBoxWithin b new
    → HoldsRows ps rows first (i + 1) new
rows_more ps rows first i t old b new h w at c v j d l m = held (less_or_more j i)
  where
    held : (j < i) ⊎ ((j ≡ i) ⊎ (i < j)) → HoldsCorners ps (numbers (get_or rows j d)) new
    held (inl a) = λ k is. held_larger old new _ w (h j d l a k is)
    held (inr (inl a)) = subst (λ u. HoldsCorners ps (numbers u) new) (sym (ap (λ n. get_or rows n d) a ∙ at d)) (λ k is. held_larger b new _ v (c k is))
    held (inr (inr a)) = absurd (omega arith)

-- a star serves for the next row too
pub star_on : (ps : List Point) (rows : List Tet) (nodes : List Node) (i : ℕ) (s : Star) → IsStarFrom ps rows nodes i s → IsStarFrom ps rows nodes (i + 1) s
star_on ps rows nodes i s h = record { holds = λ j d l m. h.holds j d (omega arith) m; clear = h.clear }
