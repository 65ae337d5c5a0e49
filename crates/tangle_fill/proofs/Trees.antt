-- Of a tree of boxes, a proof that there is one gives one: a node for each place is found by a search.
use Rattle.std.proofs.Common.{◌≡◌, ℕ, true, List}
use Rattle.std.specs.Prelude.{◌==◌, Any}
use Rattle.std.specs.List.{list_any}
use Rattle.std.proofs.Math.Bool.{Bool-set}
use Rattle.std.proofs.Math.Logic.{∥∥₁_elim, ∥∥₁_map}
use Rattle.std.proofs.Props.{props}
use Rattle.std.proofs.lemmas.Bool.{eqb-true, eq-eqb}
use Rattle.std.proofs.lemmas.List.Folds.{Any-from_list_any, list_any-from_Any}
use Rattle.sign_predicates.specs.Point.{Point}
use Rattle.geo_laws.specs.declared.complex.FacetTriangle.{FacetTriangle}
use Rattle.box_tree.specs.declared.bounds.Bounds.{Bounds}
use Rattle.box_tree.specs.declared.tree.Node.{Node}
use Rattle.box_tree.specs.Bodies.{IsPointTree, IsTriangleTree}
use Rattle.box_tree.specs.Tree.{IsTree, IsTreeOver}

-- a node has this place
place_had : (nodes : List Node) (i : ℕ) → ∥ Any (λ n. n.own.place ≡ i) nodes ∥₁ → Any (λ n. n.own.place ≡ i) nodes
place_had nodes i there =
    let test = λ (n : Node). n.own.place == i in
    let found : list_any test nodes ≡ true = ∥∥₁_elim there (Bool-set _ _) (λ a. list_any-from_Any test nodes (a.0, a.1, a.2, a.3, eq-eqb _ _ a.4)) in
    let a = Any-from_list_any test nodes found in
    (a.0, a.1, a.2, a.3, eqb-true _ _ a.4)

-- nodes are a tree in one way
tree-prop : (nodes : List Node) → IsProp (IsTree nodes)
tree-prop nodes = hlevel props

-- a tree over what boxes hold in one way
tree_had : (count : ℕ) (holds : ℕ → Bounds → Type 0) (nodes : List Node) → ((i : ℕ) (b : Bounds) → IsProp (holds i b)) → ∥ IsTreeOver count holds nodes ∥₁ → IsTreeOver count holds nodes
tree_had count holds nodes prop there = record {
  tree = ∥∥₁_elim there (tree-prop nodes) (λ t. t.tree);
  listed = ∥∥₁_elim there (hlevel (props, prop)) (λ t. t.listed);
  each = λ i l. place_had nodes i (∥∥₁_map there (λ t. t.each i l));
}

-- that of the points
pub point_tree_had : (ps : List Point) (nodes : List Node) → ∥ IsPointTree ps nodes ∥₁ → IsPointTree ps nodes
point_tree_had ps nodes there = tree_had _ _ nodes (λ i b. hlevel props) there

-- that of the triangles
pub triangle_tree_had : (ps : List Point) (ts : List FacetTriangle) (nodes : List Node) → ∥ IsTriangleTree ps ts nodes ∥₁ → IsTriangleTree ps ts nodes
triangle_tree_had ps ts nodes there = tree_had _ _ nodes (λ i b. hlevel props) there
