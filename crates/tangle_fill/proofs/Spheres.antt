-- Points that a box round a row's sphere leaves out.
use Rattle.std.proofs.Common.{◌≡◌, ◌⊎◌, inl, inr, ℕ, ◌+◌, ◌<◌, ◌≤◌, pos, Bool, true, false, ◌||◌, List, length, get_or, refl, ap, sym, subst, ◌∙◌, arith}
use Rattle.std.specs.Prelude.{◌<ℤ◌, ◌≤ℤ◌, neg_ℤ, Any}
use Rattle.std.specs.List.{HoldsAt}
use Rattle.std.proofs.lemmas.Int.{ints}
use Rattle.exact_algebra.proofs.Signs.{sign_of, test_neg}
use Rattle.sign_predicates.specs.Point.{Point, as_rational}
use Rattle.sign_predicates.specs.Sphere.{in_sphere}
use Rattle.geo_laws.specs.Delaunay.{point, corners, numbers}
use Rattle.geo_laws.specs.Simplex.{has_number}
use Rattle.geo_laws.specs.declared.tetrahedra.Tet.{Tet}
use Rattle.geo_laws.specs.declared.complex.FacetTriangle.{FacetTriangle}
use Rattle.box_tree.specs.declared.bounds.Bounds.{Bounds}
use Rattle.box_tree.specs.declared.tree.Node.{Node}
use Rattle.box_tree.specs.Bounds.{AreBoundsApart, HoldsPoint}
use Rattle.box_tree.specs.Bodies.{IsPointTree}
use Rattle.box_tree.specs.Tree.{AreApartBetween}
use Rattle.box_tree.proofs.Lists.{less_or_more}
use Rattle.tangle_fill.specs.Fill.{is_corner_or_outside, Passes}
use Rattle.tangle_fill.specs.Sphere.{HoldsSphere}
use Rattle.tangle_fill.proofs.Boxed.{common_point, held_point}
use Rattle.tangle_fill.proofs.Trees.{point_tree_had}

or_yes : (a : Bool) → (a || true) ≡ true
or_yes true = refl
or_yes false = refl

-- a point in a box apart from that round the sphere is outside of the row
pub far_passes : (ps : List Point) (ts : List FacetTriangle) (t : Tet) (i : ℕ) (b c : Bounds) → HoldsSphere (corners ps t) b → HoldsPoint c (point ps i) → AreBoundsApart c b → Passes ps ts t i
far_passes ps ts t i b c sphere holds apart = record { either = inl (by (sign_of (in_sphere (corners ps t) (point ps i)))) }
  where
    within : pos 0 ≤ℤ in_sphere (corners ps t) (point ps i) → ⊥
    within h =
        let one : pos 0 <ℤ pos 1 = omega (arith, ints) in
        common_point c b (as_rational (point ps i)) one (held_point c (point ps i) holds) (held_point b (point ps i) (sphere (point ps i) h)) apart

    by : (pos 0 <ℤ in_sphere (corners ps t) (point ps i)) ⊎ ((in_sphere (corners ps t) (point ps i) ≡ pos 0) ⊎ (pos 0 <ℤ neg_ℤ (in_sphere (corners ps t) (point ps i)))) → is_corner_or_outside ps t i ≡ true
    by (inl h) = absurd (within (omega (arith, ints)))
    by (inr (inl h)) = absurd (within (omega (arith, ints)))
    by (inr (inr h)) = rw (test_neg (in_sphere (corners ps t) (point ps i)) h) (or_yes (has_number (numbers t) i))

-- the points of the nodes before this place pass
abbrev pub ArePassed : List Point → List FacetTriangle → Tet → List Node → ℕ → Type 0
ArePassed ps ts t nodes i = (j : ℕ) (d : Node) → j < i → Passes ps ts t (get_or nodes j d).own.place

pub passed_further : (ps : List Point) (ts : List FacetTriangle) (t : Tet) (nodes : List Node) (b : Bounds) (i k : ℕ) → ∥ IsPointTree ps nodes ∥₁ → HoldsSphere (corners ps t) b → ArePassed ps ts t nodes i → AreApartBetween nodes b i k → k ≤ length nodes
    → ArePassed ps ts t nodes k
passed_further ps ts t nodes b i k tree sphere h apart l j d m = go (less_or_more j i)
  where
    far : i ≤ j → Passes ps ts t (get_or nodes j d).own.place
    far a = far_passes ps ts t (get_or nodes j d).own.place b (get_or nodes j d).own.bounds sphere ((point_tree_had ps nodes tree).listed j d (omega arith)).1 (apart j d a m)

    go : (j < i) ⊎ ((j ≡ i) ⊎ (i < j)) → Passes ps ts t (get_or nodes j d).own.place
    go (inl a) = h j d a
    go (inr (inl a)) = far (omega arith)
    go (inr (inr a)) = far (omega arith)

pub passed_more : (ps : List Point) (ts : List FacetTriangle) (t : Tet) (nodes : List Node) (i : ℕ) (n : Node) → HoldsAt (λ m. m ≡ n) nodes i → ArePassed ps ts t nodes i → Passes ps ts t n.own.place → ArePassed ps ts t nodes (i + 1)
passed_more ps ts t nodes i n at h p j d m = go (less_or_more j i)
  where
    go : (j < i) ⊎ ((j ≡ i) ⊎ (i < j)) → Passes ps ts t (get_or nodes j d).own.place
    go (inl a) = h j d a
    go (inr (inl a)) = subst (λ (m : Node). Passes ps ts t m.own.place) (sym (ap (λ x. get_or nodes x d) a ∙ at d)) p
    go (inr (inr a)) = absurd (omega arith)

pub all_passed : (ps : List Point) (ts : List FacetTriangle) (t : Tet) (nodes : List Node) (i : ℕ) → ∥ IsPointTree ps nodes ∥₁ → length nodes ≤ i → ArePassed ps ts t nodes i → (k : ℕ) → k < length ps → Passes ps ts t k
all_passed ps ts t nodes i tree l h k m = at_node ((point_tree_had ps nodes tree).each k m)
  where
    at_node : Any (λ n. n.own.place ≡ k) nodes → Passes ps ts t k
    at_node a =
        let low = a.2 in
        subst (Passes ps ts t) (ap (λ (n : Node). n.own.place) a.3 ∙ a.4) (h a.0 a.1 (omega arith))

pub place_of : (ps : List Point) (nodes : List Node) (k : ℕ) (n : Node) → ∥ IsPointTree ps nodes ∥₁ → k < length nodes → HoldsAt (λ m. m ≡ n) nodes k → n.own.place < length ps
place_of ps nodes k n tree l at = subst (λ (m : Node). m.own.place < length ps) (at n) ((point_tree_had ps nodes tree).listed k n l).0
