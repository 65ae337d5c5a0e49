-- A list that was found in any way, and its rows across the faces.
use Rattle.std.proofs.Common.{◌≡◌, ◌⊎◌, inl, inr, ℕ, ◌<◌, true, false, not, ◌&&◌, List, [], ◌∷◌, ◌++◌, length, map, refl, eq-eqb}
use Rattle.std.specs.Prelude.{◌==◌, filter, Contains}
use Rattle.std.specs.List.{HoldsAt, slice_index_or}
use Rattle.std.specs.Ordering.{nat_cmp, ordering_then, MatchOrdering}
use Rattle.std.specs.declared.cmp.Ordering.{Ordering}
use Rattle.std.specs.declared.cmp.Ordering.TheVariants.{Less, Equal, Greater}
use Rattle.std.proofs.lemmas.Cmp.{ranked}
use Rattle.std.proofs.lemmas.List.Elements.{Contains-push_cases}
use Rattle.sign_predicates.specs.Point.{Point}
use Rattle.sign_predicates.specs.Orientation.{IsPositive}
use Rattle.geo_laws.specs.Delaunay.{corners, numbers, IsDelaunay}
use Rattle.geo_laws.specs.Simplex.{has_number}
use Rattle.geo_laws.specs.Faces.{row_faces}
use Rattle.geo_laws.specs.Mesh.{IsOutsideOf, IsLocallyDelaunay}
use Rattle.geo_laws.specs.OrientedFace.{reversed}
use Rattle.geo_laws.specs.declared.faces.Face.{Face}
use Rattle.geo_laws.specs.declared.tetrahedra.Tet.{Tet}
use Rattle.geo_laws.specs.declared.complex.FacetTriangle.{FacetTriangle}
use Rattle.geo_laws.proofs.Members.{at_place, contains_of, member_of, filter_cases, any_true}
use Rattle.crossing_laws.proofs.Tests.{both, all_at, decided}
use Rattle.crossing_laws.proofs.Faces.{eq_of}
use Rattle.tangle_laws.specs.Tangle.{lies_on}
use Rattle.tangle_laws.specs.Growth.{ShareNoSide, sorted_triangle}
use Rattle.tangle_laws.proofs.Apart.{fails_true}
use Rattle.tangle_laws.proofs.Sides.{side_of_face}
use Rattle.tangle_laws.proofs.Sorted.{row_face}
use Rattle.tangle_fill.specs.Fill.{as_oriented}
use Rattle.tangle_fill.specs.Accept.{AreTriangleFaces, IsEven, IsEvenAcross, IsEvenRow}
use Rattle.tangle_fill.proofs.Joined.{is_not, triangle_found}
use Rattle.tangle_fill.proofs.Smoothed.{not_both}

-- ---- what compares as equal

equal_first : (m n : ℕ) (rest : Ordering) → ordering_then (nat_cmp m n) rest ≡ Equal → (m ≡ n) × (rest ≡ Equal)
equal_first m n rest = at (nat_cmp m n) (ranked m n (nat_cmp m n) refl)
  where
    at : (r : Ordering) → MatchOrdering r (m < n) (m ≡ n) (n < m) → ordering_then r rest ≡ Equal → (m ≡ n) × (rest ≡ Equal)
    at Less k h = cc
    at Equal k h = (k, h)
    at Greater k h = cc

equal_last : (m n : ℕ) → nat_cmp m n ≡ Equal → m ≡ n
equal_last m n = at (nat_cmp m n) (ranked m n (nat_cmp m n) refl)
  where
    at : (r : Ordering) → MatchOrdering r (m < n) (m ≡ n) (n < m) → r ≡ Equal → m ≡ n
    at Less k h = cc
    at Equal k h = k
    at Greater k h = cc

pub equal_faces : (f g : Face) → ordering_then (nat_cmp f.a g.a) (ordering_then (nat_cmp f.b g.b) (nat_cmp f.c g.c)) ≡ Equal → f ≡ g
equal_faces f g h =
    let one = equal_first f.a g.a (ordering_then (nat_cmp f.b g.b) (nat_cmp f.c g.c)) h in
    let two = equal_first f.b g.b (nat_cmp f.c g.c) one.1 in
    let three = equal_last f.c g.c two.1 in
    λ j. record { a = one.0 j; b = two.0 j; c = three j }

pub equal_rows : (s t : Tet) → ordering_then (nat_cmp s.a t.a) (ordering_then (nat_cmp s.b t.b) (ordering_then (nat_cmp s.c t.c) (nat_cmp s.d t.d))) ≡ Equal → s ≡ t
equal_rows s t h =
    let one = equal_first s.a t.a (ordering_then (nat_cmp s.b t.b) (ordering_then (nat_cmp s.c t.c) (nat_cmp s.d t.d))) h in
    let two = equal_first s.b t.b (ordering_then (nat_cmp s.c t.c) (nat_cmp s.d t.d)) one.1 in
    let three = equal_first s.c t.c (nat_cmp s.d t.d) two.1 in
    let four = equal_last s.d t.d three.1 in
    λ j. record { a = one.0 j; b = two.0 j; c = three.0 j; d = four j }

pub same_rows : (s t : Tet) → (s.a == t.a && (s.b == t.b && (s.c == t.c && s.d == t.d))) ≡ true → s ≡ t
same_rows s t e =
    let one = both (s.a == t.a) (s.b == t.b && (s.c == t.c && s.d == t.d)) e in
    let two = both (s.b == t.b) (s.c == t.c && s.d == t.d) one.1 in
    let three = both (s.c == t.c) (s.d == t.d) two.1 in
    λ j. record { a = eq_of s.a t.a one.0 j; b = eq_of s.b t.b two.0 j; c = eq_of s.c t.c three.0 j; d = eq_of s.d t.d three.1 j }

-- ---- facet triangles

pub more_faces : (ts : List FacetTriangle) (faces : List Face) (k : FacetTriangle) (i : ℕ) → i < length ts → HoldsAt (λ u. u ≡ k) ts i → AreTriangleFaces ts faces → AreTriangleFaces ts (faces ++ sorted_triangle k ∷ [])
more_faces ts faces k i l is before face m = go (Contains-push_cases faces (sorted_triangle k) face m)
  where
    go : Contains faces face ⊎ (sorted_triangle k ≡ face) → Contains (map sorted_triangle ts) face
    go (inl c) = before face c
    go (inr e) = triangle_found ts k i face l is e

-- ---- rows that are locally Delaunay

-- two Delaunay rows are
pub outside_row : (ps : List Point) (s t : Tet) → IsDelaunay ps s → IsDelaunay ps t → IsOutsideOf ps s t
outside_row ps s t ds dt k d l =
    let others = filter (λ i. not (has_number (numbers s) i)) (numbers t) in
    let i = slice_index_or others k d in
    let m = filter_cases (λ i. not (has_number (numbers s) i)) i (numbers t) (at_place others k d l) in
    ds.others i (dt.is_on i (contains_of (numbers t) i m.0)) (λ c. fails_true (has_number (numbers s) i) (is_not (has_number (numbers s) i) m.1) (any_true (λ j. j == i) (numbers s) i (member_of (numbers s) i c) (eq-eqb i i refl)))

-- a row with the face lies on one of its sides
pub on_sides : (ps : List Point) (t : Tet) (face : Face) → IsPositive (corners ps t) → Contains (row_faces t) face → (lies_on (as_oriented face) t ≡ true) ⊎ (lies_on (reversed (as_oriented face)) t ≡ true)
on_sides ps t face p c = side_of_face (as_oriented face) t (row_face ps t p face (member_of (row_faces t) face c)).has

-- a row that is so with each across its face, and another row with the face
with_row : (ps : List Point) (rows : List Tet) (faces : List Face) (face : Face) (u v : Tet) → Contains rows v → ShareNoSide u v
    → (lies_on (as_oriented face) u ≡ true) ⊎ (lies_on (reversed (as_oriented face)) u ≡ true) → (lies_on (as_oriented face) v ≡ true) ⊎ (lies_on (reversed (as_oriented face)) v ≡ true)
    → IsEvenAcross ps faces rows u face → IsEven ps faces face u v
with_row ps rows faces face u v cv apart (inl a) (inl b) e = absurd (not_both u v apart (as_oriented face) a b)
with_row ps rows faces face u v cv apart (inl a) (inr b) e = e.0 a v cv b
with_row ps rows faces face u v cv apart (inr a) (inr b) e = absurd (not_both u v apart (reversed (as_oriented face)) a b)
with_row ps rows faces face u v cv apart (inr a) (inl b) e = by (decided (lies_on (as_oriented face) u))
  where
    by : (lies_on (as_oriented face) u ≡ true) ⊎ (lies_on (as_oriented face) u ≡ false) → IsEven ps faces face u v
    by (inl on) = absurd (not_both u v apart (as_oriented face) on b)
    by (inr off) = e.1 off v cv b

-- a row that is so with each across its faces, and one of these with a common face
pub even_pair : (ps : List Point) (rows : List Tet) (faces : List Face) (s t : Tet) → IsPositive (corners ps s) → IsPositive (corners ps t) → ShareNoSide s t
    → (face : Face) → Contains (row_faces s) face → Contains (row_faces t) face → ¬ Contains faces face → Contains rows t → IsEvenRow ps faces rows s → IsLocallyDelaunay ps s t
even_pair ps rows faces s t ps_s ps_t apart face fs ft open_face ct e =
    with_row ps rows faces face s t ct apart (on_sides ps s face ps_s fs) (on_sides ps t face ps_t ft) (all_at (IsEvenAcross ps faces rows s) face (row_faces s) e (member_of (row_faces s) face fs)) open_face
