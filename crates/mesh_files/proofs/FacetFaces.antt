-- Facet triangles as faces: their list, its order, and the first facet of a face.
use Rattle.std.proofs.Common.{◌≡◌, ◌⊎◌, inl, inr, ℕ, zero, suc, ◌+◌, ◌<◌, ◌≤◌, List, [], ◌∷◌, length, map, refl, ap, sym, subst, ◌∙◌, arith}
use Rattle.std.specs.Prelude.{Contains, ◌↔◌, take, All, AllPairs, slice_index_or}
use Rattle.std.specs.Ordering.{nat_cmp, ordering_then}
use Rattle.std.specs.declared.cmp.Ordering.{Ordering}
use Rattle.std.specs.declared.cmp.Ordering.TheVariants.{Less, Equal, Greater}
use Rattle.std.proofs.lemmas.Bool.{cases_order}
use Rattle.std.proofs.lemmas.List.{get_or_default}
use Rattle.std.proofs.lemmas.List.Elements.{All-contains}
use Rattle.facet_laws.specs.Faces.{as_triangle}
use Rattle.geo_laws.specs.Complex.{Complex}
use Rattle.geo_laws.specs.Faces.{FaceBefore}
use Rattle.geo_laws.specs.declared.complex.FacetTriangle.{FacetTriangle}
use Rattle.geo_laws.specs.declared.faces.Face.{Face}
use Rattle.geo_laws.proofs.Members.{IsMember, contains_of, member_of, in_map, map_cases, at_place}
use Rattle.geo_laws.proofs.RowOrder.{by_last, face_before}
use Rattle.incidence.proofs.Orders.{face_cmp, same_face, face_not_before}
use Rattle.mesh_files.specs.FaceRows.{IsFirstLying, AreFacetsThere}
use Rattle.mesh_files.specs.FacetFaces.{IsTriangleIn, FacetFaceBefore, AreFacetFaces}
use Rattle.mesh_files.specs.declared.facet_faces.FacetFace.{FacetFace}

-- ---- the list

abbrev pub as_facet_face : FacetTriangle → FacetFace
as_facet_face t = record { face = record { a = t.a; b = t.b; c = t.c }; facet = t.facet }

take_all : (ts : List FacetTriangle) (k : ℕ) → length ts ≤ k → take k ts ≡ ts
take_all [] zero h = refl
take_all [] (suc k) h = refl
take_all (t ∷ ts) zero h = absurd (omega arith)
take_all (t ∷ ts) (suc k) h = ap (λ s. t ∷ s) (take_all ts k (omega arith))

-- the triangles as faces
pub faces_are : (ts : List FacetTriangle) (faces : List FacetFace) (k : ℕ) → faces ≡ map as_facet_face (take k ts) → length ts ≤ k → (face : Face) (facet : ℕ) → IsTriangleIn faces face facet ↔ Contains ts (as_triangle facet face)
faces_are ts faces k e h face facet = (to, from)
  where
    x : FacetFace
    x = record { face = face; facet = facet }

    all : faces ≡ map as_facet_face ts
    all = e ∙ ap (map as_facet_face) (take_all ts k h)

    to : Contains faces x → Contains ts (as_triangle facet face)
    to c =
        let t = map_cases as_facet_face x ts (subst (IsMember x) all (member_of faces x c)) in
        contains_of ts (as_triangle facet face) (subst (λ u. IsMember u ts) (sym (ap (λ y. as_triangle y.facet y.face) t.2)) t.1)

    from : Contains ts (as_triangle facet face) → Contains faces x
    from c = contains_of faces x (subst (IsMember x) (sym all) (in_map as_facet_face (as_triangle facet face) ts (member_of ts (as_triangle facet face) c)))

-- the derived order
pub facet_face_before : (x y : FacetFace) → ordering_then (face_cmp x.face y.face) (nat_cmp x.facet y.facet) ≡ Less → FacetFaceBefore x y
facet_face_before x y = at (face_cmp x.face y.face) refl
  where
    at : (o : Ordering) → face_cmp x.face y.face ≡ o → ordering_then o (nat_cmp x.facet y.facet) ≡ Less → FacetFaceBefore x y
    at Less e h = inl (face_before x.face y.face e)
    at Equal e h = inr (same_face x.face y.face e, by_last x.facet y.facet h)
    at Greater e h = cc

-- the facets are those of triangles
pub facets_there : (ts : List FacetTriangle) (faces : List FacetFace) (complex : Complex) → AreFacetFaces ts faces → AreFacetsThere ts complex → All (λ x. x.facet < length complex.facets) faces
facets_there ts faces complex a there k d l =
    let x = slice_index_or faces k d in
    All-contains (λ t. t.facet < length complex.facets) ts (as_triangle x.facet x.face) there ((a.exactly x.face x.facet).0 (contains_of faces x (at_place faces k d l)))

-- ---- halving

before_trans : (f g h : Face) → FaceBefore f g → FaceBefore g h → FaceBefore f h
before_trans f g h a b = grind (arith, a, b)

-- what stands before one whose face stands before another has such a face too
carried : (x y : FacetFace) (f : Face) → FacetFaceBefore x y → FaceBefore y.face f → FaceBefore x.face f
carried x y f (inl h) k = before_trans x.face y.face f h k
carried x y f (inr h) k = subst (λ g. FaceBefore g f) (sym h.0) k

module _ (faces : List FacetFace) (ascending : AllPairs FacetFaceBefore faces) (f : Face) where
  -- where the one in the middle stands before the face, so do all up to it
  pub all_before : (x : FacetFace) (m : ℕ) → m < length faces → ((d : FacetFace) → slice_index_or faces m d ≡ x) → FaceBefore x.face f → (i : ℕ) (d : FacetFace) → i < m + 1 → FaceBefore (slice_index_or faces i d).face f
  all_before x m below at h i d l = go (cases_order i m)
    where
      go : (i ≡ m) ⊎ ((i < m) ⊎ (m < i)) → FaceBefore (slice_index_or faces i d).face f
      go (inl e) = subst (λ y. FaceBefore y.face f) (sym (ap (λ n. slice_index_or faces n d) e ∙ at d)) h
      go (inr (inl k)) = carried (slice_index_or faces i d) x f (subst (FacetFaceBefore (slice_index_or faces i d)) (at d) (ascending i m d k below)) h
      go (inr (inr k)) = absurd (omega (arith, l, k))

  -- and where it doesn't, none from it on does
  pub none_before : (x : FacetFace) (m : ℕ) → ((d : FacetFace) → slice_index_or faces m d ≡ x) → ¬ FaceBefore x.face f → (i : ℕ) (d : FacetFace) → m ≤ i → i < length faces → ¬ FaceBefore (slice_index_or faces i d).face f
  none_before x m at n i d l below b = go (cases_order i m)
    where
      go : (i ≡ m) ⊎ ((i < m) ⊎ (m < i)) → ⊥
      go (inl e) = n (subst (λ y. FaceBefore y.face f) (ap (λ j. slice_index_or faces j d) e ∙ at d) b)
      go (inr (inl k)) = omega (arith, l, k)
      go (inr (inr k)) = n (carried x (slice_index_or faces i d) f (subst (λ y. FacetFaceBefore y (slice_index_or faces i d)) (at d) (ascending m i d k below)) b)

  -- ---- after the halving: all before a place stand before the face, and none from there on does

  module _ (low : ℕ) (before : (i : ℕ) (d : FacetFace) → i < low → FaceBefore (slice_index_or faces i d).face f) (after : (i : ℕ) (d : FacetFace) → low ≤ i → i < length faces → ¬ FaceBefore (slice_index_or faces i d).face f) where
    -- so a triangle with the face stands at that place or after one with the face
    stands : (g : ℕ) → IsTriangleIn faces f g → (low < length faces) × ((d : FacetFace) → (slice_index_or faces low d ≡ record { face = f; facet = g }) ⊎ ((slice_index_or faces low d).face ≡ f) × ((slice_index_or faces low d).facet < g))
    stands g (k, below, at) = (place (cases_order k low), λ d. go d (cases_order k low))
      where
        x : FacetFace
        x = record { face = f; facet = g }

        early : k < low → ⊥
        early h = face_not_before f f (subst (λ y. FaceBefore y.face f) at (before k x h)) refl

        place : (k ≡ low) ⊎ ((k < low) ⊎ (low < k)) → low < length faces
        place (inl e) = omega (arith, e, below)
        place (inr (inl h)) = absurd (early h)
        place (inr (inr h)) = omega (arith, h, below)

        go : (d : FacetFace) → (k ≡ low) ⊎ ((k < low) ⊎ (low < k)) → (slice_index_or faces low d ≡ x) ⊎ ((slice_index_or faces low d).face ≡ f) × ((slice_index_or faces low d).facet < g)
        go d (inl e) = inl (ap (λ i. slice_index_or faces i d) (sym e) ∙ get_or_default faces k d x below ∙ at)
        go d (inr (inl h)) = absurd (early h)
        go d (inr (inr h)) = from (subst (FacetFaceBefore (slice_index_or faces low d)) (get_or_default faces k d x below ∙ at) (ascending low k d h below))
          where
            from : FacetFaceBefore (slice_index_or faces low d) x → (slice_index_or faces low d ≡ x) ⊎ ((slice_index_or faces low d).face ≡ f) × ((slice_index_or faces low d).facet < g)
            from (inl b) = absurd (after low d (omega arith) (omega (arith, h, below)) b)
            from (inr b) = inr b

    pub first_there : (x : FacetFace) → low < length faces → ((d : FacetFace) → slice_index_or faces low d ≡ x) → x.face ≡ f → IsFirstLying (IsTriangleIn faces f) x.facet
    first_there x there at e = (contains_of faces (record { face = f; facet = x.facet }) (subst (λ h. IsMember (record { face = h; facet = x.facet }) faces) e (subst (λ y. IsMember y faces) (at x) (at_place faces low x there))), none)
      where
        none : (g : ℕ) → g < x.facet → ¬ IsTriangleIn faces f g
        none g less c = go ((stands g c).1 x)
          where
            go : (slice_index_or faces low x ≡ record { face = f; facet = g }) ⊎ ((slice_index_or faces low x).face ≡ f) × ((slice_index_or faces low x).facet < g) → ⊥
            go (inl p) = let q : x.facet ≡ g = ap (λ y. y.facet) (sym (at x) ∙ p) in omega (arith, q, less)
            go (inr p) = let q : (slice_index_or faces low x).facet ≡ x.facet = ap (λ y. y.facet) (at x) in omega (arith, q, less, p.1)

    pub none_there : (low < length faces → (d : FacetFace) → ¬ ((slice_index_or faces low d).face ≡ f)) → ¬ ((facet : ℕ) × IsTriangleIn faces f facet)
    none_there n (g, c) = let s = stands g c in let d : FacetFace = record { face = f; facet = g } in go d s.0 (s.1 d)
      where
        go : (d : FacetFace) → low < length faces → (slice_index_or faces low d ≡ record { face = f; facet = g }) ⊎ ((slice_index_or faces low d).face ≡ f) × ((slice_index_or faces low d).facet < g) → ⊥
        go d l (inl p) = n l d (ap (λ y. y.face) p)
        go d l (inr p) = n l d p.0
