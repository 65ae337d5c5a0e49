-- The least facet that has a triangle that enters a row, by the tree of the triangles' boxes.
use Rattle.std.proofs.Common.{◌≡◌, ◌⊎◌, inl, inr, ℕ, ◌+◌, ◌<◌, ◌≤◌, List, length, get_or, ap, sym, subst, ◌∙◌, arith}
use Rattle.std.specs.Prelude.{Contains, Option, Some, None, IfSome, Any}
use Rattle.std.specs.List.{HoldsAt}
use Rattle.sign_predicates.specs.Point.{Point}
use Rattle.sign_predicates.specs.Orientation.{IsPositive}
use Rattle.geo_laws.specs.Delaunay.{corners, numbers}
use Rattle.geo_laws.specs.declared.tetrahedra.Tet.{Tet}
use Rattle.geo_laws.specs.declared.complex.FacetTriangle.{FacetTriangle}
use Rattle.simplex_meets.specs.Proper.{FaceEnters, triangle_face}
use Rattle.box_tree.specs.declared.bounds.Bounds.{Bounds}
use Rattle.box_tree.specs.declared.tree.Node.{Node}
use Rattle.box_tree.specs.Bounds.{AreBoundsApart, HoldsCorners}
use Rattle.box_tree.specs.Bodies.{IsTriangleTree}
use Rattle.facet_recover.specs.Crossed.{IsBetter, IsLeastEntering}
use Rattle.box_tree.specs.Tree.{AreApartBetween}
use Rattle.box_tree.proofs.Lists.{less_or_more}
use Rattle.facet_recover.proofs.Boxes.{not_entering}

-- the triangle that was found enters the row
abbrev pub IsFound : List Point → List FacetTriangle → Tet → ℕ → Option FacetTriangle → Type 0
IsFound ps ts t after None = Unit {0}
IsFound ps ts t after (Some k) = Contains ts k × (after ≤ k.facet) × FaceEnters ps t (triangle_face k)

-- the triangle at the place of a node is not better than the one that was found
abbrev pub IsPassed : List Point → List FacetTriangle → Tet → ℕ → Option FacetTriangle → Node → Type 0
IsPassed ps ts t after found n = (d : FacetTriangle) → ¬ IsBetter ps t after found (get_or ts n.own.place d)

-- what is known when the nodes before place i are done with
pub record IsLeastBefore (ps : List Point) (ts : List FacetTriangle) (t : Tet) (after : ℕ) (nodes : List Node) (i : ℕ) (found : Option FacetTriangle) : Type 0 where
  pub is_found : IsFound ps ts t after found
  pub passed : (j : ℕ) (d : Node) → j < i → IsPassed ps ts t after found (get_or nodes j d)

-- nodes whose boxes are apart from that of the row are passed
apart_passed : (ps : List Point) (ts : List FacetTriangle) (t : Tet) (after : ℕ) (found : Option FacetTriangle) (nodes : List Node) (b : Bounds) → IsPositive (corners ps t) → IsTriangleTree ps ts nodes → HoldsCorners ps (numbers t) b
    → (j : ℕ) (d : Node) → j < length nodes → AreBoundsApart (get_or nodes j d).own.bounds b → IsPassed ps ts t after found (get_or nodes j d)
apart_passed ps ts t after found nodes b p tree h j d l apart e better =
    let n = get_or nodes j d in
    not_entering ps t (get_or ts n.own.place e) n.own.bounds b p ((tree.listed j d l).1 e) h apart better.2

pub least_further : (ps : List Point) (ts : List FacetTriangle) (t : Tet) (after : ℕ) (found : Option FacetTriangle) (nodes : List Node) (b : Bounds) (i k : ℕ) → IsPositive (corners ps t) → IsTriangleTree ps ts nodes → HoldsCorners ps (numbers t) b
    → IsLeastBefore ps ts t after nodes i found → AreApartBetween nodes b i k → k ≤ length nodes → IsLeastBefore ps ts t after nodes k found
least_further ps ts t after found nodes b i k p tree hold h apart l = record { is_found = h.is_found; passed = λ j d m. go j d m (less_or_more j i) }
  where
    go : (j : ℕ) (d : Node) → j < k → (j < i) ⊎ ((j ≡ i) ⊎ (i < j)) → IsPassed ps ts t after found (get_or nodes j d)
    go j d m (inl a) = h.passed j d a
    go j d m (inr (inl a)) = apart_passed ps ts t after found nodes b p tree hold j d (omega arith) (apart j d (omega arith) m)
    go j d m (inr (inr a)) = apart_passed ps ts t after found nodes b p tree hold j d (omega arith) (apart j d (omega arith) m)

pub least_start : (ps : List Point) (ts : List FacetTriangle) (t : Tet) (after : ℕ) (nodes : List Node) → IsLeastBefore ps ts t after nodes 0 None
least_start ps ts t after nodes = record { is_found = tt; passed = λ j d l. absurd (omega arith) }

-- the triangle at a node is better, and is taken
pub near_taken : (ps : List Point) (ts : List FacetTriangle) (t : Tet) (after : ℕ) (found : Option FacetTriangle) (nodes : List Node) (i : ℕ) (n : Node) (k : FacetTriangle) → HoldsAt (λ m. m ≡ n) nodes i → n.own.place < length ts → HoldsAt (λ u. u ≡ k) ts n.own.place
    → IsLeastBefore ps ts t after nodes i found → IsBetter ps t after found k → IsLeastBefore ps ts t after nodes (i + 1) (Some k)
near_taken ps ts t after found nodes i n k at l is h b = record {
  is_found = ((n.own.place, l, is k), b.0, b.2);
  passed = λ j d m. go j d m (less_or_more j i);
}
  where
    lesser : (found : Option FacetTriangle) → IfSome found (λ s. k.facet < s.facet) → (u : FacetTriangle) → u.facet < k.facet → IfSome found (λ s. u.facet < s.facet)
    lesser None c u m = tt
    lesser (Some s) c u m = omega arith

    not_self : (u : FacetTriangle) → u ≡ k → ¬ IsBetter ps t after (Some k) u
    not_self u e c = let f = ap (λ (v : FacetTriangle). v.facet) e in let m = c.1 in omega arith

    go : (j : ℕ) (d : Node) → j < i + 1 → (j < i) ⊎ ((j ≡ i) ⊎ (i < j)) → IsPassed ps ts t after (Some k) (get_or nodes j d)
    go j d m (inl a) e c = h.passed j d a e (c.0, lesser found b.1 (get_or ts (get_or nodes j d).own.place e) c.1, c.2)
    go j d m (inr (inl a)) e c =
        not_self (get_or ts (get_or nodes j d).own.place e) (ap (λ (m : Node). get_or ts m.own.place e) (ap (λ x. get_or nodes x d) a ∙ at d) ∙ is e) c
    go j d m (inr (inr a)) e c = absurd (omega arith)

-- it is not, and is left
pub near_left : (ps : List Point) (ts : List FacetTriangle) (t : Tet) (after : ℕ) (found : Option FacetTriangle) (nodes : List Node) (i : ℕ) (n : Node) (k : FacetTriangle) → HoldsAt (λ m. m ≡ n) nodes i → HoldsAt (λ u. u ≡ k) ts n.own.place
    → IsLeastBefore ps ts t after nodes i found → ¬ IsBetter ps t after found k → IsLeastBefore ps ts t after nodes (i + 1) found
near_left ps ts t after found nodes i n k at is h b = record { is_found = h.is_found; passed = λ j d m. go j d m (less_or_more j i) }
  where
    go : (j : ℕ) (d : Node) → j < i + 1 → (j < i) ⊎ ((j ≡ i) ⊎ (i < j)) → IsPassed ps ts t after found (get_or nodes j d)
    go j d m (inl a) e c = h.passed j d a e c
    go j d m (inr (inl a)) e c =
        b (subst (IsBetter ps t after found) (ap (λ (m : Node). get_or ts m.own.place e) (ap (λ x. get_or nodes x d) a ∙ at d) ∙ is e) c)
    go j d m (inr (inr a)) e c = absurd (omega arith)

-- when all nodes are done with
pub least_of_all : (ps : List Point) (ts : List FacetTriangle) (t : Tet) (after : ℕ) (found : Option FacetTriangle) (nodes : List Node) (i : ℕ) → IsTriangleTree ps ts nodes → length nodes ≤ i → IsLeastBefore ps ts t after nodes i found
    → IsLeastEntering ps ts t after found
least_of_all ps ts t after found nodes i tree l h = go found h.is_found none_better
  where
    at_node : (u : FacetTriangle) (k : ℕ) → k < length ts → get_or ts k u ≡ u → Any (λ n. n.own.place ≡ k) nodes → ¬ IsBetter ps t after found u
    at_node u k m e a c =
        let low = a.2 in
        h.passed a.0 a.1 (omega arith) u
        (subst (IsBetter ps t after found) (sym (ap (λ (n : Node). get_or ts n.own.place u) a.3 ∙ ap (λ x. get_or ts x u) a.4 ∙ e)) c)

    none_better : (u : FacetTriangle) → Contains ts u → ¬ IsBetter ps t after found u
    none_better u m = at_node u m.0 m.1 m.2 (tree.each m.0 m.1)

    go : (found : Option FacetTriangle) → IsFound ps ts t after found → ((u : FacetTriangle) → Contains ts u → ¬ IsBetter ps t after found u) → IsLeastEntering ps ts t after found
    go None f none = λ u m a c. none u m (a, tt, c)
    go (Some k) f none = (f.0, f.1, f.2, λ u m a c e. none u m (a, c, e))
