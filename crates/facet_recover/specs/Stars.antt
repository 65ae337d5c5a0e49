-- Consecutive tetrahedra of a list, with a box round them.
use Rattle.std.specs.Prelude.{ℕ, ◌<◌, ◌≤◌, List, IsTrue, length, slice_index_or}
use Rattle.sign_predicates.specs.Point.{Point}
use Rattle.geo_laws.specs.Delaunay.{numbers}
use Rattle.geo_laws.specs.declared.tetrahedra.Tet.{Tet}
use Rattle.box_tree.specs.declared.bounds.Bounds.{Bounds}
use Rattle.box_tree.specs.declared.tree.Node.{Node}
use Rattle.box_tree.specs.Bounds.{HoldsCorners}
use Rattle.box_tree.specs.Tree.{AreApartBetween}
use Rattle.facet_recover.specs.declared.cavity.Star.{Star}

-- the box holds the corners of the tetrahedra at the places from `first` to before `past`
abbrev pub HoldsRows : List Point → List Tet → ℕ → ℕ → Bounds → Type 0
HoldsRows ps rows first past b = (j : ℕ) (d : Tet) → first ≤ j → j < past → HoldsCorners ps (numbers (slice_index_or rows j d)) b

-- a star that is marked as clear is apart from the boxes of all nodes
abbrev pub IsClearOf : List Node → Star → Type 0
IsClearOf nodes s = IsTrue s.clear → AreApartBetween nodes s.bounds 0 (length nodes)

-- the star's box holds its tetrahedra from this place on
pub record IsStarFrom (ps : List Point) (rows : List Tet) (nodes : List Node) (i : ℕ) (s : Star) : Type 0 where
  pub holds : HoldsRows ps rows i s.past s.bounds
  pub clear : IsClearOf nodes s
