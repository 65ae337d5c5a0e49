-- Trees of the boxes of bodies.
use Rattle.std.specs.Prelude.{List, length, slice_index_or}
use Rattle.sign_predicates.specs.Point.{Point}
use Rattle.geo_laws.specs.Delaunay.{numbers, point}
use Rattle.geo_laws.specs.Facet.{corner_numbers}
use Rattle.geo_laws.specs.declared.complex.FacetTriangle.{FacetTriangle}
use Rattle.geo_laws.specs.declared.tetrahedra.Tet.{Tet}
use Rattle.box_tree.specs.declared.tree.Node.{Node}
use Rattle.box_tree.specs.Bounds.{HoldsPoint, HoldsCorners}
use Rattle.box_tree.specs.Tree.{IsTreeOver}

-- the tree has a box for each point, which holds it
abbrev pub IsPointTree : List Point → List Node → Type 0
IsPointTree ps nodes = IsTreeOver (length ps) (λ i b. HoldsPoint b (point ps i)) nodes

-- the tree has the boxes of the triangles
abbrev pub IsTriangleTree : List Point → List FacetTriangle → List Node → Type 0
IsTriangleTree ps ts nodes =
    IsTreeOver (length ts) (λ i b. (d : FacetTriangle) → HoldsCorners ps (corner_numbers (slice_index_or ts i d)) b) nodes

-- the tree has the boxes of the rows
abbrev pub IsRowTree : List Point → List Tet → List Node → Type 0
IsRowTree ps rows nodes = IsTreeOver (length rows) (λ i b. (d : Tet) → HoldsCorners ps (numbers (slice_index_or rows i d)) b) nodes
