-- Triangles that are passed by, by the tree of their boxes.
use Rattle.std.proofs.Common.{◌≡◌, ◌⊎◌, inl, inr, ℕ, ◌+◌, ◌<◌, ◌≤◌, List, length, get_or, ap, sym, subst, ◌∙◌, arith}
use Rattle.std.specs.Prelude.{Contains, Any}
use Rattle.std.specs.List.{HoldsAt}
use Rattle.std.proofs.lemmas.List.Elements.{Contains-get_or}
use Rattle.sign_predicates.specs.Point.{Point}
use Rattle.geo_laws.specs.Facet.{corner_numbers}
use Rattle.geo_laws.specs.declared.complex.FacetTriangle.{FacetTriangle}
use Rattle.box_tree.specs.declared.bounds.Bounds.{Bounds}
use Rattle.box_tree.specs.declared.tree.Node.{Node}
use Rattle.box_tree.specs.Bounds.{AreBoundsApart, HoldsCorners}
use Rattle.box_tree.specs.Bodies.{IsTriangleTree}
use Rattle.box_tree.specs.Tree.{AreApartBetween}
use Rattle.box_tree.proofs.Lists.{less_or_more}

-- the triangles of the nodes before this place have the property
pub record AreDone (P : FacetTriangle → Type 0) (ts : List FacetTriangle) (nodes : List Node) (i : ℕ) : Type 0 where
  pub done : (j : ℕ) (d : Node) → j < i → (e : FacetTriangle) → P (get_or ts (get_or nodes j d).own.place e)

pub none_done : (P : FacetTriangle → Type 0) (ts : List FacetTriangle) (nodes : List Node) → AreDone P ts nodes 0
none_done P ts nodes = record { done = λ j d l. absurd (omega arith) }

-- so have those whose boxes are apart from the box, where each such triangle has it
pub done_further : (P : FacetTriangle → Type 0) (ps : List Point) (ts : List FacetTriangle) (nodes : List Node) (b : Bounds) (i k : ℕ) → IsTriangleTree ps ts nodes
    → ((u : FacetTriangle) (c : Bounds) → Contains ts u → HoldsCorners ps (corner_numbers u) c → AreBoundsApart c b → P u)
    → AreDone P ts nodes i → AreApartBetween nodes b i k → k ≤ length nodes → AreDone P ts nodes k
done_further P ps ts nodes b i k tree pass h apart l = record { done = λ j d m. go j d m (less_or_more j i) }
  where
    passed : (j : ℕ) (d : Node) → j < length nodes → AreBoundsApart (get_or nodes j d).own.bounds b → (e : FacetTriangle) → P (get_or ts (get_or nodes j d).own.place e)
    passed j d m a e =
        let n = get_or nodes j d in
        let at = tree.listed j d m in
        pass (get_or ts n.own.place e) n.own.bounds (Contains-get_or ts n.own.place e at.0) (at.1 e) a

    go : (j : ℕ) (d : Node) → j < k → (j < i) ⊎ ((j ≡ i) ⊎ (i < j)) → (e : FacetTriangle) → P (get_or ts (get_or nodes j d).own.place e)
    go j d m (inl a) = h.done j d a
    go j d m (inr (inl a)) = passed j d (omega arith) (apart j d (omega arith) m)
    go j d m (inr (inr a)) = passed j d (omega arith) (apart j d (omega arith) m)

-- and the one of the next node, where it has it
pub done_more : (P : FacetTriangle → Type 0) (ts : List FacetTriangle) (nodes : List Node) (i : ℕ) (n : Node) (k : FacetTriangle) → HoldsAt (λ m. m ≡ n) nodes i → HoldsAt (λ u. u ≡ k) ts n.own.place
    → AreDone P ts nodes i → P k → AreDone P ts nodes (i + 1)
done_more P ts nodes i n k at is h p = record { done = λ j d m. go j d m (less_or_more j i) }
  where
    go : (j : ℕ) (d : Node) → j < i + 1 → (j < i) ⊎ ((j ≡ i) ⊎ (i < j)) → (e : FacetTriangle) → P (get_or ts (get_or nodes j d).own.place e)
    go j d m (inl a) e = h.done j d a e
    go j d m (inr (inl a)) e = subst P (sym (ap (λ (m : Node). get_or ts m.own.place e) (ap (λ x. get_or nodes x d) a ∙ at d) ∙ is e)) p
    go j d m (inr (inr a)) e = absurd (omega arith)

-- at the end all triangles have it
pub all_done : (P : FacetTriangle → Type 0) (ps : List Point) (ts : List FacetTriangle) (nodes : List Node) (i : ℕ) → IsTriangleTree ps ts nodes → length nodes ≤ i → AreDone P ts nodes i → (u : FacetTriangle) → Contains ts u → P u
all_done P ps ts nodes i tree l h u m = at_node m.0 m.2 (tree.each m.0 m.1)
  where
    at_node : (k : ℕ) → get_or ts k u ≡ u → Any (λ n. n.own.place ≡ k) nodes → P u
    at_node k e a =
        let low = a.2 in
        subst P (ap (λ (n : Node). get_or ts n.own.place u) a.3 ∙ ap (λ x. get_or ts x u) a.4 ∙ e) (h.done a.0 a.1 (omega arith) u)
