-- A facet triangle that is a face of the Delaunay list enters none of its rows, so the others alone decide which facets cross a row.
use Rattle.std.proofs.Common.{ℕ, pos, ◌<ℤ◌, List, ◌∷◌, [], subst}
use Rattle.std.specs.Prelude.{Contains, All, Option, Some, None, MatchOption}
use Rattle.std.specs.List.{AllByRecursion, slice_index_or}
use Rattle.sign_predicates.specs.Point.{Point, RationalPoint, EachRational}
use Rattle.sign_predicates.specs.Orientation.{StrictlyInside}
use Rattle.geo_laws.specs.Delaunay.{corners, numbers, all_numbers, IsDelaunayList}
use Rattle.geo_laws.specs.Faces.{face_of, face_numbers, row_faces, faces_of_rows}
use Rattle.geo_laws.specs.Facet.{IsCrossed, corner_numbers}
use Rattle.geo_laws.specs.Height.{lifted, IsLowest}
use Rattle.geo_laws.specs.Simplex.{InSimplex}
use Rattle.geo_laws.specs.declared.faces.Face.{Face}
use Rattle.geo_laws.specs.declared.tetrahedra.Tet.{Tet}
use Rattle.geo_laws.specs.declared.complex.FacetTriangle.{FacetTriangle}
use Rattle.geo_laws.proofs.Members.{IsMember, here, there, member_of, contains_of, at_place, flat_map_cases}
use Rattle.geo_laws.proofs.Simplices.{simplex_of_members}
use Rattle.simplex_meets.specs.Proper.{FaceEnters, triangle_face}
use Rattle.crossing_laws.specs.Crossing.{faces_of}
use Rattle.crossing_laws.proofs.Part.{law_part}
use Rattle.refill_laws.proofs.Region.{lowest_row}
use Rattle.geo_laws.proofs.RowFaces.{in_face_of, of_face_of}
use Rattle.facet_recover.specs.declared.cavity.Crossed.{Crossed}
use Rattle.facet_recover.specs.declared.cavity.Parted.{Parted}
use Rattle.incidence.specs.Chains.{face_of_triangle}
use Rattle.facet_recover.specs.Missing.{AreMissing}
use Rattle.facet_recover.specs.Parted.{IsParted, AreByFacet}
use Rattle.facet_recover.specs.Refilled.{HasTangle}
use Rattle.facet_recover.proofs.Lists.{all_in}
use Rattle.facet_recover.proofs.Entering.{crossed_by_triangle, enters_of}

-- ---- a face of the list

swap_last : (i j k l : ℕ) → IsMember i (j ∷ k ∷ l ∷ []) → IsMember i (j ∷ l ∷ k ∷ [])
swap_last i j k l here = here
swap_last i j k l (there here) = there (there here)
swap_last i j k l (there (there here)) = there here
swap_last i j k l (there (there (there n))) = elim n [ ]

-- no point of a face of a lowest row is strictly inside a lowest row
face_apart : (ps : List Point) (r q : Tet) → IsLowest ps (lifted ps) r → IsLowest ps (lifted ps) q → (f : Face) → IsMember f (row_faces q)
    → (x : RationalPoint) → pos 0 <ℤ x.w → InSimplex ps (face_numbers f) x → ¬ StrictlyInside (corners ps r) x
face_apart ps r q low_r low_q f m x w s inside = go f m s
  where
    law : AllByRecursion (λ h. Contains (all_numbers ps) h.a → Contains (all_numbers ps) h.b → Contains (all_numbers ps) h.c
        → EachRational (λ y. InSimplex ps (h.a ∷ h.b ∷ h.c ∷ []) y → ¬ StrictlyInside (corners ps r) y)) (faces_of q)
    law = law_part ps (all_numbers ps) (all_numbers ps) (λ i c. c) (lifted ps) r q low_r low_q

    on : (i : ℕ) → IsMember i (numbers q) → Contains (all_numbers ps) i
    on i n = low_q.is_on i (contains_of (numbers q) i n)

    on_a : Contains (all_numbers ps) q.a
    on_a = on q.a here

    on_b : Contains (all_numbers ps) q.b
    on_b = on q.b (there here)

    on_c : Contains (all_numbers ps) q.c
    on_c = on q.c (there (there here))

    on_d : Contains (all_numbers ps) q.d
    on_d = on q.d (there (there (there here)))

    unsorted : (i j k : ℕ) → InSimplex ps (face_numbers (face_of i j k)) x → InSimplex ps (i ∷ j ∷ k ∷ []) x
    unsorted i j k p = simplex_of_members ps (i ∷ j ∷ k ∷ []) (face_numbers (face_of i j k)) (λ l n. of_face_of i j k l n) x w p

    swapped : (i j k : ℕ) → InSimplex ps (face_numbers (face_of i j k)) x → InSimplex ps (i ∷ k ∷ j ∷ []) x
    swapped i j k p = simplex_of_members ps (i ∷ k ∷ j ∷ []) (face_numbers (face_of i j k)) (λ l n. swap_last l i j k (of_face_of i j k l n)) x w p

    go : (g : Face) → IsMember g (row_faces q) → InSimplex ps (face_numbers g) x → ⊥
    go g here p = law.0 on_b on_d on_c x w (swapped q.b q.c q.d p) inside
    go g (there here) p = law.1.0 on_a on_c on_d x w (unsorted q.a q.c q.d p) inside
    go g (there (there here)) p = law.1.1.0 on_a on_d on_b x w (swapped q.a q.b q.d p) inside
    go g (there (there (there here))) p = law.1.1.1.0 on_a on_b on_c x w (unsorted q.a q.b q.c p) inside
    go g (there (there (there (there n)))) p = elim n [ ]

-- a triangle that is a face of the list enters none of its rows
pub face_enters_none : (ps : List Point) (rows : List Tet) → IsDelaunayList ps rows → (r : Tet) → Contains rows r → (t : FacetTriangle) → Contains (faces_of_rows rows) (face_of_triangle t) → ¬ FaceEnters ps r (triangle_face t)
face_enters_none ps rows list r m t is_face (x, w, e) =
    let q = flat_map_cases row_faces (face_of_triangle t) rows (member_of (faces_of_rows rows) (face_of_triangle t) is_face) in
    face_apart ps r q.0 (lowest_row ps rows list r (member_of rows r m)) (lowest_row ps rows list q.0 q.1) (face_of_triangle t) q.2 x w
    (simplex_of_members ps (face_numbers (face_of_triangle t)) (corner_numbers t) (λ i n. in_face_of t.a t.b t.c i n) x w e.1) e.0

-- ---- the missing triangles alone

module _ (ps : List Point) (ts missing : List FacetTriangle) (rows : List Tet) (list : IsDelaunayList ps rows) (are : AreMissing ts rows missing) where
  -- a facet that crosses a row does so by a missing triangle
  crossed_by_missing : (t : Tet) → Contains rows t → (facet : ℕ) → IsCrossed ps ts t facet → IsCrossed ps missing t facet
  crossed_by_missing t m facet c =
      let e = enters_of ps ts t facet c in
      subst (IsCrossed ps missing t) e.is_of (crossed_by_triangle ps missing t e.by ((are e.by).1 (e.listed, λ f. face_enters_none ps rows list t m e.by f e.enters)) e.enters)

  crossed_by_listed : (t : Tet) (facet : ℕ) → IsCrossed ps missing t facet → IsCrossed ps ts t facet
  crossed_by_listed t facet c =
      let e = enters_of ps missing t facet c in
      subst (IsCrossed ps ts t) e.is_of (crossed_by_triangle ps ts t e.by ((are e.by).0 e.listed).0 e.enters)

  tangle_of_missing : HasTangle ps missing rows → HasTangle ps ts rows
  tangle_of_missing h =
      let (f, g, l, cf, cg) = h.is_tangled in
      record { row = h.row; is_row = h.is_row; is_tangled = (f, g, l, crossed_by_listed h.row f cf, crossed_by_listed h.row g cg) }

  -- so the rows are parted by all triangles as by these
  parted_by_missing : (kept : List Tet) (crossed : List Crossed) → IsParted ps missing rows kept crossed → IsParted ps ts rows kept crossed
  parted_by_missing kept crossed h = record {
    keeps = λ t. (
      λ m. (let k = (h.keeps t).0 m in (k.0, λ facet c. k.1 facet (crossed_by_missing t k.0 facet c))),
      λ m. (h.keeps t).1 (m.0, λ facet c. m.1 facet (crossed_by_listed t facet c)),
    );
    entries = λ c m. (let e = h.entries c m in record { row = e.row; listed = ((are c.by).0 e.listed).0; crosses = crossed_by_listed c.tet c.by.facet e.crosses });
    each = λ t facet m c. h.each t facet m (crossed_by_missing t m facet c);
    untangled = λ t m (f, g, l, cf, cg). h.untangled t m (f, g, l, crossed_by_missing t m f cf, crossed_by_missing t m g cg);
  }

  pub found_by_missing : (found : Option Parted) → MatchOption found (HasTangle ps missing rows) (λ p. AreByFacet p.crossed × IsParted ps missing rows p.kept p.crossed)
      → MatchOption found (HasTangle ps ts rows) (λ p. AreByFacet p.crossed × IsParted ps ts rows p.kept p.crossed)
  found_by_missing None h = tangle_of_missing h
  found_by_missing (Some p) h = (h.0, parted_by_missing p.kept p.crossed h.1)

-- what holds of all triangles holds of the missing ones
pub missing_too : (P : FacetTriangle → Type 0) (ts missing : List FacetTriangle) (rows : List Tet) → AreMissing ts rows missing → All P ts → All P missing
missing_too P ts missing rows are h k d l = let t = slice_index_or missing k d in all_in P ts t h ((are t).0 (contains_of missing t (at_place missing k d l))).0
