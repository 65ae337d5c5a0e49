-- The laws from a complex with merged facets to its mesh.
use Rattle.std.proofs.Common.{◌≡◌, ◌≢◌, inl, inr, ℕ, zero, suc, ◌+◌, ◌<◌, List, [], ◌∷◌, map, length, refl, ap, sym, subst, ◌∙◌, arith}
use Rattle.std.specs.Prelude.{Contains, not, ◌==◌, Bool, flat_map}
use Rattle.std.specs.List.{AllByRecursion, slice_index_or, range_with_len}
use Rattle.std.proofs.lemmas.List.FromFn.{length-map-range_with_len}
use Rattle.sign_predicates.specs.Point.{Point}
use Rattle.geo_laws.specs.Delaunay.{numbers_below}
use Rattle.geo_laws.specs.Segment.{sides, segments}
use Rattle.geo_laws.specs.Facet.{Facet, IsFlat, areas, all_corners}
use Rattle.geo_laws.specs.Complex.{Complex}
use Rattle.geo_laws.specs.declared.complex.Piece.{Piece}
use Rattle.geo_laws.proofs.Members.{IsMember, here, there, contains_of, member_of, filter_cases, flat_map_cases, in_flat_map}
use Rattle.facet_laws.specs.Region.{IsBounded}
use Rattle.facet_laws.proofs.Chains.{all_at, all_sides}
use Rattle.facet_laws.proofs.InnerCover.{law_bounded_cover}
use Rattle.facet_laws.proofs.Pieces.{all_sides_tested, area_listed}
use Rattle.segment_protect.specs.Spots.{HasTwoEnds}
use Rattle.segment_protect.proofs.PieceLaws.{from_first}
use Rattle.segment_protect.proofs.Splits.{all_members}
use Rattle.complex_laws.specs.SoundComplex.{IsSoundFacet, facet_numbered}
use Rattle.recovery_laws.proofs.Pieces.{by_members}
use Rattle.merged_facets.specs.Merged.{members, merged_facet, merged_segments, outer_sides}
use Rattle.merged_facets.specs.Merged as merged
use Rattle.merged_facets.specs.Facets.{HasCornersOn, AreFlat}
use Rattle.merged_facets.proofs.Members.{Member, member_is, all_numbered, facet_of}
use Rattle.merged_facets.proofs.Planes.{law_merged_flat, law_merged_bounded, outer_segment}
use Rattle.recovery_laws.proofs.Chain.{law_recoverable, law_recovery_mesh, law_piece_of_rest}
use Rattle.recovery_laws.specs.MergedMesh.{merged_facets, IsUnmerged, IsGrouping, IsMergedRecovery, MergedSoundLaw, MergedEndsLaw, MergedRecoveryLaw, MergedMeshLaw, MergedPieceLaw, MergedCoverLaw}

-- ---- merged facets are sound

-- a corner of a merged facet is one of a member
record CornerOf (group : ℕ → ℕ) (c : Complex) (k i : ℕ) : Type 0 where
  e : ℕ × Facet
  member : IsMember e (all_numbered c)
  is : Member group c k e
  corner : Contains (all_corners (merged.facet_at c e.0)) i

corner_of : (group : ℕ → ℕ) (c : Complex) (k i : ℕ) → IsMember i (all_corners (merged_facet group c k)) → CornerOf group c k i
corner_of group c k i m =
    let q = flat_map_cases (λ p. p) i (merged_facet group c k).polygons m in
    let e = flat_map_cases (λ (e : ℕ × Facet). e.1.polygons) q.0 (members group c k) q.1 in
    let r = member_is group c k e.0 e.1 in
    record {
      e = e.0;
      member = (filter_cases (λ (g : ℕ × Facet). group g.0 == k) e.0 (all_numbered c) e.1).0;
      is = r;
      corner = contains_of (all_corners (merged.facet_at c e.0.0)) i (subst (λ f. IsMember i (all_corners f)) r.is (in_flat_map (λ p. p) q.0 i e.0.1.polygons e.2 q.2));
    }

-- where nothing is merged, that of its number
unmerged_flat : (ps : List Point) (c : Complex) (group : ℕ → ℕ) (inner : ℕ → Piece → Bool) → AreFlat ps c → IsUnmerged group inner → (k : ℕ) → IsFlat ps (merged_facet group c k)
unmerged_flat ps c group inner flat h k x y z w cx cy cz cw = flat k below x y z w (own x cx) (own y cy) (own z cz) (own w cw)
  where
    own : (i : ℕ) → Contains (all_corners (merged_facet group c k)) i → Contains (all_corners (merged.facet_at c k)) i
    own i ci = let o = corner_of group c k i (member_of (all_corners (merged_facet group c k)) i ci) in subst (λ n. Contains (all_corners (merged.facet_at c n)) i) (sym (h.alone o.e.0) ∙ o.is.grouped) o.corner

    below : k < length c.facets
    below = let o = corner_of group c k x (member_of (all_corners (merged_facet group c k)) x cx) in subst (λ n. n < length c.facets) (sym (h.alone o.e.0) ∙ o.is.grouped) o.is.below

unmerged_bounded : (ps : List Point) (c : Complex) (group : ℕ → ℕ) (inner : ℕ → Piece → Bool) → IsUnmerged group inner → (k : ℕ) → IsBounded ps (merged_segments inner c) (merged_facet group c k)
unmerged_bounded ps c group inner h k q cq s cs =
    let mq = area_listed (merged_facet group c k) q (member_of (areas (merged_facet group c k)) q cq) in
    let e = flat_map_cases (λ (e : ℕ × Facet). e.1.polygons) q (members group c k) mq in
    inl (outer_segment c inner e.0 q s (filter_cases (λ (g : ℕ × Facet). group g.0 == k) e.0 (all_numbered c) e.1).0 e.2 (member_of (sides q) s cs) (h.none e.0.0 s))

pub law_merged_sound : MergedSoundLaw
law_merged_sound ps c group inner distinct on flat grouping k = by grouping
  where
    corner : (i : ℕ) → IsMember i (all_corners (merged_facet group c k)) → i < length ps
    corner i m = let o = corner_of group c k i m in on o.e.0 i o.is.below o.corner

    by : IsGrouping ps c group inner → IsSoundFacet ps (merged_segments inner c) (merged_facet group c k)
    by (inl merging) = record {
      on = by_members (λ i. i < length ps) (all_corners (merged_facet group c k)) corner;
      flat = law_merged_flat ps c group inner flat merging k;
      bounded = law_merged_bounded ps c group inner distinct on merging k;
    }
    by (inr unmerged) = record {
      on = by_members (λ i. i < length ps) (all_corners (merged_facet group c k)) corner;
      flat = unmerged_flat ps c group inner flat unmerged k;
      bounded = unmerged_bounded ps c group inner unmerged k;
    }

pub law_merged_ends : MergedEndsLaw
law_merged_ends ps c inner on = all_members (HasTwoEnds (length ps)) (merged_segments inner c) each
  where
    each : (s : Piece) → IsMember s (merged_segments inner c) → HasTwoEnds (length ps) s
    each s m =
        let e = flat_map_cases (outer_sides inner) s (all_numbered c) (from_first s (flat_map (outer_sides inner) (all_numbered c)) m) in
        let q = flat_map_cases sides s e.0.1.polygons (filter_cases (λ s. not (inner e.0.0 s)) s (flat_map sides e.0.1.polygons) e.2).0 in
        let f = facet_of c e.0 e.1 in
        let ends = all_at (λ s. (s.a < length ps) × (s.b < length ps)) s (sides q.0)
        (all_sides (λ i. i < length ps) q.0 (by_members (λ i. i < length ps) q.0
        (λ i n. on e.0.0 i f.0 (contains_of (all_corners (merged.facet_at c e.0.0)) i (subst (λ g. IsMember i (all_corners g)) f.1 (in_flat_map (λ p. p) q.0 i e.0.1.polygons q.1 n)))))) q.2 in
        (ends.0, ends.1, all_at (λ s. s.a ≢ s.b) s (sides q.0) (all_sides_tested q.0) q.2)

-- ---- by their numbers

item_at : {X : Type 0} (f : ℕ → X) (low n k : ℕ) (d : X) → k < n → slice_index_or (map f (range_with_len low n)) k d ≡ f (low + k)
item_at f low zero k d h = absurd (omega arith)
item_at f low (suc n) zero d h = ap f first
  where
    first : low ≡ low + 0
    first = omega arith
item_at f low (suc n) (suc k) d h = item_at f (low + 1) n k d (omega arith) ∙ ap f next
  where
    next : low + 1 + k ≡ low + suc k
    next = omega arith

pub facet_is : (group : ℕ → ℕ) (c : Complex) (k : ℕ) → k < length (merged_facets group c) → facet_numbered (merged_facets group c) k ≡ merged_facet group c k
facet_is group c k h = item_at (merged_facet group c) 0 (length c.facets) k (record { polygons = []; holes = [] }) (subst (λ n. k < n) (length-map-range_with_len (merged_facet group c) 0 (length c.facets)) h) ∙ ap (merged_facet group c) zero_first
  where
    zero_first : 0 + k ≡ k
    zero_first = omega arith

-- ---- the mesh

pub law_merged_recovery : MergedRecoveryLaw
law_merged_recovery depth splits ps c group inner qs rest ts r = record {
  on = law_merged_ends ps c inner r.corners;
  start = r.start;
  can_split = r.can_split;
  ends = r.ends;
  sound = λ k h. subst (IsSoundFacet ps (merged_segments inner c)) (sym (facet_is group c k h)) (law_merged_sound ps c group inner r.start.distinct r.corners r.flat r.grouping k);
  has_triangles = r.has_triangles;
  met = r.met;
}

pub law_merged_mesh : MergedMeshLaw
law_merged_mesh depth splits ps c group inner qs rest ts r = law_recovery_mesh depth splits ps (merged_segments inner c) (merged_facets group c) qs rest ts (law_merged_recovery depth splits ps c group inner qs rest ts r)

pub law_merged_piece : MergedPieceLaw
law_merged_piece depth splits ps c group inner qs rest ts r = law_piece_of_rest depth splits ps (merged_segments inner c) (merged_facets group c) qs rest ts (law_merged_recovery depth splits ps c group inner qs rest ts r)

pub law_merged_cover : MergedCoverLaw
law_merged_cover depth splits ps c group inner qs rest ts r k h p has =
    let after = law_recoverable depth splits ps (merged_segments inner c) (merged_facets group c) qs rest ts (law_merged_recovery depth splits ps c group inner qs rest ts r) in
    let below = subst (λ n. k < n) (sym (length-map-range_with_len (merged_facet group c) 0 (length c.facets))) h in
    let sound = subst (IsSoundFacet qs (merged_segments inner c)) (facet_is group c k below) (after.sound k below) in
    law_bounded_cover qs k (merged_facet group c k) p (merged_segments inner c) after.distinct sound.on has sound.flat sound.bounded after.has_pieces
