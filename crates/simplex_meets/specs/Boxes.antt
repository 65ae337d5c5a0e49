-- The boxes of parts.
use Rattle.std.specs.Prelude.{ℕ, ◌<◌, List, length, All, slice_index_or}
use Rattle.sign_predicates.specs.Point.{Point}
use Rattle.box_tree.specs.declared.bounds.Bounds.{Bounds}
use Rattle.box_tree.specs.declared.tree.Node.{Node}
use Rattle.box_tree.specs.Bounds.{HoldsCorners}
use Rattle.box_tree.specs.Tree.{IsTree, IsTreeOver}
use Rattle.simplex_meets.specs.declared.complex_parts.Part.{Part}
use Rattle.simplex_meets.specs.Parts.{part_numbers}

-- the box holds the corners of the part at this place
abbrev pub HoldsPart : List Point → List Part → ℕ → Bounds → Type 0
HoldsPart ps parts i b = (d : Part) → HoldsCorners ps (part_numbers (slice_index_or parts i d)) b

-- the tree has for each part a box that holds it
abbrev pub IsPartTree : List Point → List Part → List Node → Type 0
IsPartTree ps parts nodes = IsTreeOver (length parts) (HoldsPart ps parts) nodes

-- each box of the tree is that of a part, and holds it
pub record HasPartBoxes (ps : List Point) (parts : List Part) (nodes : List Node) : Type 0 where
  pub tree : IsTree nodes
  pub listed : All (λ n. (n.own.place < length parts) × HoldsPart ps parts n.own.place n.own.bounds) nodes
