-- Rows that are locally Delaunay across each face that two of them share.
use Rattle.std.proofs.Common.{◌≡◌, ◌⊎◌, inl, inr, ℕ, ◌<◌, true, false, List, length, sym, subst, ◌∙◌, ap, arith}
use Rattle.std.specs.Prelude.{All, AllPairs, Contains}
use Rattle.std.specs.List.{AllByRecursion, slice_index_or}
use Rattle.std.proofs.lemmas.List.Elements.{Contains-get_or}
use Rattle.sign_predicates.specs.Point.{Point}
use Rattle.geo_laws.specs.Faces.{row_faces}
use Rattle.geo_laws.specs.Mesh.{IsLocallyDelaunay}
use Rattle.geo_laws.specs.OrientedFace.{Face, reversed}
use Rattle.geo_laws.specs.declared.faces.Face as sorted_face
use Rattle.geo_laws.specs.declared.tetrahedra.Tet.{Tet}
use Rattle.geo_laws.specs.declared.complex.FacetTriangle.{FacetTriangle}
use Rattle.geo_laws.proofs.Members.{Found, found_of, member_of, some_true, any_true}
use Rattle.geo_laws.proofs.Ties.{order}
use Rattle.crossing_laws.specs.Crossing.{faces_of, is_same}
use Rattle.crossing_laws.proofs.Tests.{all_at}
use Rattle.crossing_laws.proofs.Faces.{same_of, same_test}
use Rattle.tangle_laws.specs.Tangle.{lies_on, IsAdmissible}
use Rattle.tangle_laws.specs.Growth.{ShareNoSide, IsSmooth}
use Rattle.tangle_laws.proofs.Apart.{fails_true}
use Rattle.tangle_laws.proofs.Sides.{same_alike, side_of_face}
use Rattle.tangle_laws.proofs.Sorted.{row_face}
use Rattle.tangle_fill.specs.Fill.{as_oriented, AreSmooth}
use Rattle.tangle_fill.specs.Smooth.{IsSmoothAt, IsSmoothBelow, IsWholeGrowth}
use Rattle.tangle_fill.specs.declared.growth.Growth.{Growth}

-- ---- one row on a side

pub not_both : (s t : Tet) → ShareNoSide s t → (f : Face) → lies_on f s ≡ true → lies_on f t ≡ true → ⊥
not_both s t apart f on_s on_t =
    let g = some_true (is_same f) (faces_of s) on_s in
    let h = some_true (is_same f) (faces_of t) on_t in
    fails_true (lies_on g.0 t) (all_at (λ g. lies_on g t ≡ false) g.0 (faces_of s) apart g.1) (any_true (is_same g.0) (faces_of t) h.0 h.1 (same_test g.0 h.0 (same_alike f g.0 h.0 (same_of f g.0 g.2) (same_of f h.0 h.2))))

pub only_one : (rows : List Tet) → AllPairs ShareNoSide rows → (s t : Tet) → Contains rows s → Contains rows t → (f : Face) → lies_on f s ≡ true → lies_on f t ≡ true → s ≡ t
only_one rows apart s t cs ct f on_s on_t = go (found_of rows s (member_of rows s cs)) (found_of rows t (member_of rows t ct))
  where
    pair : (i j : ℕ) (u v : Tet) → i < j → j < length rows → slice_index_or rows i s ≡ u → slice_index_or rows j s ≡ v → lies_on f u ≡ true → lies_on f v ≡ true → ⊥
    pair i j u v l k eu ev hu hv = not_both u v (subst (λ (w : Tet). ShareNoSide w v) eu (subst (ShareNoSide (slice_index_or rows i s)) ev (apart i j s l k))) f hu hv

    go : Found rows s → Found rows t → s ≡ t
    go a b = by (order a.place b.place)
      where
        by : (a.place < b.place) ⊎ ((a.place ≡ b.place) ⊎ (b.place < a.place)) → s ≡ t
        by (inl l) = absurd (pair a.place b.place s t l b.within (a.is s) (b.is s) on_s on_t)
        by (inr (inl e)) = sym (a.is s) ∙ ap (λ k. slice_index_or rows k s) e ∙ b.is s
        by (inr (inr l)) = absurd (pair b.place a.place t s l a.within (b.is s) (a.is s) on_t on_s)

-- ---- the rows on the two sides of a face

-- those that are found are all
pub smooth_pair : (ps : List Point) (ts : List FacetTriangle) (g : Growth) (face : sorted_face.Face) (s t : Tet) → IsWholeGrowth ps ts g → Contains g.rows s × (lies_on (as_oriented face) s ≡ true) → Contains g.rows t × (lies_on (reversed (as_oriented face)) t ≡ true)
    → AreSmooth ps ts s t → IsSmoothAt ps ts g.rows face
smooth_pair ps ts g face s t whole hs ht smooth u v cu cv on_u on_v =
    subst (λ (w : Tet). AreSmooth ps ts w v) (only_one g.rows whole.one_a_side s u hs.0 cu (as_oriented face) hs.1 on_u)
    (subst (AreSmooth ps ts s) (only_one g.rows whole.one_a_side t v ht.0 cv (reversed (as_oriented face)) ht.1 on_v) smooth)

-- ---- all rows

turned : (ps : List Point) (ts : List FacetTriangle) (s t : Tet) → AreSmooth ps ts s t → AreSmooth ps ts t s
turned ps ts s t h = record { smooth = λ o. let l = h.smooth (o.0, o.2, o.1, o.3) in (l.1, l.0) }

pub all_smooth : (ps : List Point) (ts : List FacetTriangle) (g : Growth) → IsWholeGrowth ps ts g → All (λ t. AllByRecursion (IsSmoothBelow ps ts g.rows t) (row_faces t)) g.rows → IsSmooth ps ts g.rows
all_smooth ps ts g whole all i j d l k face fs ft none = go (side_of_face (as_oriented face) s (row_face ps s s_row.is_positive face (member_of (row_faces s) face fs)).has) (side_of_face (as_oriented face) t (row_face ps t t_row.is_positive face (member_of (row_faces t) face ft)).has)
  where
    rows : List Tet
    rows = g.rows

    s : Tet
    s = slice_index_or g.rows i d

    t : Tet
    t = slice_index_or g.rows j d

    i_in : i < length g.rows
    i_in = omega arith

    s_row : IsAdmissible ps ts (slice_index_or g.rows i d)
    s_row = whole.whole.admissible i d i_in

    t_row : IsAdmissible ps ts (slice_index_or g.rows j d)
    t_row = whole.whole.admissible j d k

    below_s : IsSmoothBelow ps ts g.rows (slice_index_or g.rows i d) face
    below_s = all_at (IsSmoothBelow ps ts g.rows (slice_index_or g.rows i d)) face (row_faces (slice_index_or g.rows i d)) (all i d i_in) (member_of (row_faces (slice_index_or g.rows i d)) face fs)

    below_t : IsSmoothBelow ps ts g.rows (slice_index_or g.rows j d) face
    below_t = all_at (IsSmoothBelow ps ts g.rows (slice_index_or g.rows j d)) face (row_faces (slice_index_or g.rows j d)) (all j d k) (member_of (row_faces (slice_index_or g.rows j d)) face ft)

    apart : ShareNoSide (slice_index_or g.rows i d) (slice_index_or g.rows j d)
    apart = whole.one_a_side i j d l k

    cs : Contains g.rows (slice_index_or g.rows i d)
    cs = Contains-get_or g.rows i d i_in

    ct : Contains g.rows (slice_index_or g.rows j d)
    ct = Contains-get_or g.rows j d k

    smooth : AreSmooth ps ts (slice_index_or g.rows i d) (slice_index_or g.rows j d) → IsLocallyDelaunay ps (slice_index_or g.rows i d) (slice_index_or g.rows j d)
    smooth h = h.smooth (face, fs, ft, none)

    go : (lies_on (as_oriented face) (slice_index_or g.rows i d) ≡ true) ⊎ (lies_on (reversed (as_oriented face)) (slice_index_or g.rows i d) ≡ true)
        → (lies_on (as_oriented face) (slice_index_or g.rows j d) ≡ true) ⊎ (lies_on (reversed (as_oriented face)) (slice_index_or g.rows j d) ≡ true) → IsLocallyDelaunay ps (slice_index_or g.rows i d) (slice_index_or g.rows j d)
    go (inl a) (inl b) = absurd (not_both _ _ apart (as_oriented face) a b)
    go (inl a) (inr b) = smooth (below_s a _ _ cs ct a b)
    go (inr a) (inl b) = smooth (turned ps ts _ _ (below_t b _ _ ct cs b a))
    go (inr a) (inr b) = absurd (not_both _ _ apart (reversed (as_oriented face)) a b)
