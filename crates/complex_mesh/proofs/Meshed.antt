-- The complex of the merged facets, as what is meshed.
use Rattle.std.proofs.Common.{◌≡◌, ℕ, ◌<◌, ◌≤◌, Bool, true, false, List, length, refl, sym, subst}
use Rattle.std.specs.Prelude.{All}
use Rattle.std.specs.List.{slice_index_or}
use Rattle.sign_predicates.specs.Point.{Point}
use Rattle.geo_laws.specs.Complex.{Complex, corner_lists, facets, HasCornersOf}
use Rattle.geo_laws.specs.Segment.{segments}
use Rattle.geo_laws.specs.declared.complex.Piece.{Piece}
use Rattle.geo_laws.proofs.Members.{member_of}
use Rattle.segment_protect.proofs.Splits.{each_member}
use Rattle.merged_facets.specs.Merged.{IsMerging, alone, merged_segments}
use Rattle.merged_facets.specs.MergedComplex.{IsMergedComplex}
use Rattle.complex_mesh.specs.Protection.{AreMeshed}

-- each of its polygons is one that was read
pub merged_corners : (ps : List Point) (group : ℕ → ℕ) (c d : Complex) → HasCornersOf ps c → IsMergedComplex group c d → HasCornersOf ps d
merged_corners ps group c d on m k e l =
    each_member (λ p. All (λ i. i < length ps) p.corners) c.polygons on (slice_index_or d.polygons k e) (member_of c.polygons (slice_index_or d.polygons k e) (m.polygons k e l))

-- a group has its least number
pub least_first : (ps : List Point) (c : Complex) (group : ℕ → ℕ) (inner : ℕ → Piece → Bool) → IsMerging ps c group inner → (f : ℕ) → f < length c.facets → group f ≤ f
least_first ps c group inner m f h = (m.groups f h).below_all f (alone f)

pub meshed_merged : (keep : Bool) (ps : List Point) (c d : Complex) (group : ℕ → ℕ) (inner : ℕ → Piece → Bool) (segs : List Piece) → keep ≡ false → IsMerging ps c group inner → segs ≡ merged_segments inner c
    → IsMergedComplex group c d → AreMeshed keep ps c segs (facets d)
meshed_merged keep ps c d group inner segs e merging are made =
    subst (λ k. AreMeshed k ps c segs (facets d)) (sym e) (record { group = group; inner = inner; merging = merging; segments_are = are; facets_are = made.facets_are })

pub meshed_kept : (keep : Bool) (ps : List Point) (c : Complex) (segs : List Piece) → keep ≡ true → segs ≡ segments (corner_lists c.polygons) → AreMeshed keep ps c segs (facets c)
meshed_kept keep ps c segs e are = subst (λ k. AreMeshed k ps c segs (facets c)) (sym e) (are, refl)
