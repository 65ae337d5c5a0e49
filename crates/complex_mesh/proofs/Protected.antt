-- What protection leaves, from what it begins with.
use Rattle.std.proofs.Common.{◌≡◌, inl, Bool, true, false, not, None, ℕ, ◌+◌, ◌-◌, ◌^◌, ◌<◌, ◌≤◌, List, [], ◌∷◌, length, refl, ap, sym, subst, ◌∙◌, arith}
use Rattle.std.specs.Prelude.{All}
use Rattle.std.specs.List.{slice_index_or}
use Rattle.sign_predicates.specs.Point.{Point}
use Rattle.geo_laws.specs.Complex.{Complex, corner_lists, facets, HasCornersOf}
use Rattle.geo_laws.specs.Delaunay.{delaunay_rows, AreCoplanar, HasDistinctPoints}
use Rattle.geo_laws.specs.Segment.{segments, pieces, protect, Protected, is_side, first_missing}
use Rattle.geo_laws.specs.declared.complex.Piece.{Piece}
use Rattle.geo_laws.specs.declared.complex.FacetTriangle.{FacetTriangle}
use Rattle.geo_laws.proofs.Members.{IsMember, here, there, at_place}
use Rattle.complex_laws.specs.SoundComplex.{IsSoundFacet, HasTriangles, facet_numbered}
use Rattle.refill_laws.specs.Protected.{IsProtected}
use Rattle.simplex_meets.specs.Proper.{IsSegment}
use Rattle.simplex_meets.specs.Parts.{piece_side}
use Rattle.simplex_meets.specs.declared.complex_parts.Part.TheVariants.{Segment}
use Rattle.simplex_meets.specs.Crossing.{AreTrianglesMet}
use Rattle.segment_protect.specs.Spots.{HasTwoEnds}
use Rattle.segment_protect.specs.Ends.{IsStart, CanSplit}
use Rattle.segment_protect.proofs.PieceLaws.{pieces_cut}
use Rattle.segment_protect.proofs.Splits.{all_members}
use Rattle.segment_protect.proofs.Start.{protectable_start}
use Rattle.segment_protect.proofs.Crossings.{are_parts}
use Rattle.recovery_laws.specs.Pieces.{HasProtected}
use Rattle.recovery_laws.proofs.Start.{law_corners}
use Rattle.recovery_laws.proofs.Ended.{IsKept, ended, none_found}
use Rattle.recovery_laws.proofs.Pieces.{law_protected_pieces, law_two_ends}
use Rattle.recovery_laws.proofs.ProtectedComplex.{law_sound, law_protected_complex}
use Rattle.recovery_laws.specs.Recovery.{IsRecovery}
use Rattle.recovery_laws.proofs.Chain.{law_recoverable}
use Rattle.complex_mesh.specs.Protection.{IsMeshable, AreMeshed, IsProtectedComplex, complex_triangles}
use Rattle.complex_mesh.specs.Steps.{HasSoundFacets}
use Rattle.complex_mesh.proofs.Added.{added}
use Rattle.complex_mesh.specs.declared.mesh.MeshOptions.{MeshOptions}
use Rattle.complex_mesh.proofs.Triangles.{corners_on, sound_facet, has_triangles}
use Rattle.std.proofs.lemmas.List.FromFn.{length-map-range_with_len}
use Rattle.geo_laws.specs.Facet.{Facet, IsFlat, all_corners}
use Rattle.geo_laws.proofs.Members.{member_of}
use Rattle.facet_laws.proofs.Chains.{all_at}
use Rattle.facet_plane.proofs.FlatFacets.{facet_count}
use Rattle.merged_facets.specs.Merged.{merged_facet, merged_segments}
use Rattle.merged_facets.specs.Facets.{HasCornersOn, AreFlat}
use Rattle.recovery_laws.specs.MergedMesh.{merged_facets}
use Rattle.recovery_laws.proofs.MergedMesh.{facet_is, law_merged_sound, law_merged_ends}

not_false : (b : Bool) → not b ≡ false → b ≡ true
not_false true e = refl
not_false false e = sym e

less_most : (i j k : ℕ) → i < j → j ≤ k → i < k
less_most i j k h l = omega arith

most_less : (i j k : ℕ) → i ≤ j → j < k → i < k
most_less i j k h l = omega arith

-- a piece with two ends is a segment between different points
segment_of : (ps : List Point) (p : Piece) → HasDistinctPoints ps → HasTwoEnds (length ps) p → IsSegment ps (piece_side p)
segment_of ps p distinct two = are_parts ps (p ∷ []) distinct (all_members (HasTwoEnds (length ps)) (p ∷ []) each) 0 (Segment p) (omega arith)
  where
    each : (q : Piece) → IsMember q (p ∷ []) → HasTwoEnds (length ps) q
    each q here = two
    each q (there m) = elim m [ ]

pub are_segments : (ps : List Point) (pieces : List Piece) → HasDistinctPoints ps → All (HasTwoEnds (length ps)) pieces → All (λ p. IsSegment ps (piece_side p)) pieces
are_segments ps pieces distinct two = λ k d l. segment_of ps (slice_index_or pieces k d) distinct (two k d l)

-- ---- before protection

-- the segments have two ends
pub segments_two_ends : (ps : List Point) (c : Complex) → HasCornersOf ps c → All (HasTwoEnds (length ps)) (segments (corner_lists c.polygons))
segments_two_ends ps c on = law_two_ends ps (corner_lists c.polygons) (law_corners ps c.polygons on)

-- ---- what is meshed

-- the facets as read are on the points, in the words of the merging
pub corners_on_points : (ps : List Point) (c : Complex) → HasCornersOf ps c → HasCornersOn ps c
corners_on_points ps c on f i l m =
    let g = facet_numbered (facets c) f in
    all_at (λ i. i < length ps) i (all_corners g) (corners_on ps c on f (subst (λ n. f < n) (sym (facet_count c)) l)) (member_of (all_corners g) i m)

pub meshed_two_ends : (keep : Bool) (ps : List Point) (c : Complex) (segs : List Piece) (fs : List Facet) → HasCornersOf ps c → AreMeshed keep ps c segs fs → All (HasTwoEnds (length ps)) segs
meshed_two_ends true ps c segs fs on m = subst (All (HasTwoEnds (length ps))) (sym m.0) (segments_two_ends ps c on)
meshed_two_ends false ps c segs fs on m = subst (All (HasTwoEnds (length ps))) (sym m.segments_are) (law_merged_ends ps c m.inner (corners_on_points ps c on))

abbrev AreSound : List Point → List Piece → List Facet → Type 0
AreSound ps segs fs = (k : ℕ) → k < length fs → IsSoundFacet ps segs (facet_numbered fs k)

pub meshed_sound : (keep : Bool) (ps : List Point) (c : Complex) (segs : List Piece) (fs : List Facet) → HasDistinctPoints ps → HasCornersOf ps c → All (IsFlat ps) (facets c) → AreMeshed keep ps c segs fs
    → (k : ℕ) → k < length fs → IsSoundFacet ps segs (facet_numbered fs k)
meshed_sound true ps c segs fs distinct on flat m = subst (λ gs. AreSound ps segs gs) (sym m.1) (subst (λ ss. AreSound ps ss (facets c)) (sym m.0) (sound_facet ps c on flat))
meshed_sound false ps c segs fs distinct on flat m =
    subst (λ gs. AreSound ps segs gs) (sym m.facets_are)
    (subst (λ ss. AreSound ps ss (merged_facets m.group c)) (sym m.segments_are)
    (λ k l. subst (IsSoundFacet ps (merged_segments m.inner c)) (sym (facet_is m.group c k l)) (law_merged_sound ps c m.group m.inner distinct (corners_on_points ps c on) as_read (inl m.merging) k)))
  where
    as_read : AreFlat ps c
    as_read f l = flat f (record { polygons = []; holes = [] }) (subst (λ n. f < n) (sym (facet_count c)) l)

-- there are as many facets as in the complex
pub meshed_count : (keep : Bool) (ps : List Point) (c : Complex) (segs : List Piece) (fs : List Facet) → AreMeshed keep ps c segs fs → length fs ≡ length c.facets
meshed_count true ps c segs fs m = ap (λ (gs : List Facet). length gs) m.1 ∙ facet_count c
meshed_count false ps c segs fs m = ap (λ (gs : List Facet). length gs) m.facets_are ∙ length-map-range_with_len (merged_facet m.group c) 0 (length c.facets)

-- what protection says, as it is made
pub protected_by : (o : MeshOptions) (ps : List Point) (c : Complex) (segs : List Piece) (fs : List Facet) (made : List Piece) (qs : List Point) (rest : List Piece) → All (IsFlat ps) (facets c)
    → AreMeshed o.keep_facets ps c segs fs → made ≡ pieces ps segs → CanSplit ps made → protect o.halvings o.budget ps made ≡ Protected qs rest → IsProtectedComplex o ps c segs fs qs rest
protected_by o ps c segs fs made qs rest flat meshed e can ends =
    record { flat = flat; meshed = meshed; can_split = subst (CanSplit ps) e can; ends = sym (ap (protect o.halvings o.budget ps) e) ∙ ends }

-- ---- after protection

module _ (o : MeshOptions) (ps : List Point) (c : Complex) (segs : List Piece) (fs : List Facet) (qs : List Point) (rest : List Piece) (given : IsMeshable o.halvings o.budget ps c)
    (protected : IsProtectedComplex o ps c segs fs qs rest) where
  on : All (HasTwoEnds (length ps)) segs
  on = meshed_two_ends o.keep_facets ps c segs fs given.corners protected.meshed

  start : IsStart ps (pieces ps segs) o.halvings
  start = record { distinct = given.distinct; multiples = given.multiples; cut = pieces_cut ps segs given.distinct on }

  after : HasProtected ps qs segs
  after = law_protected_pieces o.halvings o.budget ps qs segs rest on start protected.can_split protected.ends

  sound : (k : ℕ) → k < length fs → IsSoundFacet ps segs (facet_numbered fs k)
  sound = meshed_sound o.keep_facets ps c segs fs given.distinct given.corners protected.flat protected.meshed

  none : (s : Piece) → IsMember s [] → ⊥
  none s m = elim m [ ]

  self_most : (n : ℕ) → n ≤ n
  self_most n = omega arith

  at_end : IsKept ps o.halvings [] qs rest × (first_missing qs rest ≡ None)
  at_end = ended ps o.halvings [] (λ s m. absurd (none s m)) qs rest o.budget ps (pieces ps segs) protected.ends (record {
    can = protectable_start ps (pieces ps segs) o.halvings start protected.can_split.1;
    begins = record { long = self_most (length ps); same = λ i h. refl };
    covered = λ s m. absurd (none s m);
  })

  kept : IsKept ps o.halvings [] qs rest
  kept = at_end.0

  pub still_few : length qs < 2 ^ 32 - 2
  still_few = most_less (length qs) (length ps + o.budget) (2 ^ 32 - 2) (added o.halvings qs rest o.budget ps (pieces ps segs) protected.ends).1 given.few

  pub still_distinct : HasDistinctPoints qs
  still_distinct = after.distinct

  -- a piece that is left is a side of a Delaunay row
  side : (p : Piece) → IsMember p rest → is_side (delaunay_rows qs) p ≡ true
  side p m = not_false (is_side (delaunay_rows qs) p) (none_found (λ q. not (is_side (delaunay_rows qs) q)) rest at_end.1 p m)

  -- what the facets of a complex ask for
  pub sound_facets : (d : Complex) → HasCornersOf ps d → fs ≡ facets d → HasSoundFacets qs rest d
  sound_facets d corners are = record {
    segs = segs;
    distinct = after.distinct;
    few = still_few;
    corners = λ k e l i x m. less_most (slice_index_or (slice_index_or d.polygons k e).corners i x) (length ps) (length qs) (corners k e l i x m) after.begins.long;
    sound = subst (λ gs. AreSound qs segs gs) are (λ k l. law_sound ps qs segs (facet_numbered fs k) after.begins (sound k l));
    has_pieces = after.has_pieces;
    two_ends = λ k d l. (kept.can.each k d l).ends;
    are_sides = λ k d l. side (slice_index_or rest k d) (at_place rest k d l);
  }

  module _ (ts : List FacetTriangle) (triangles : ts ≡ complex_triangles qs fs) (met : AreTrianglesMet qs ts rest) where
    has : HasTriangles qs fs ts
    has = subst (HasTriangles qs fs) (sym triangles) (has_triangles qs fs)

    pub recovery : IsRecovery o.halvings o.budget ps segs fs qs rest ts
    recovery = record {
      on = on;
      start = start;
      can_split = protected.can_split;
      ends = protected.ends;
      sound = sound;
      has_triangles = has;
      met = met.triangles_meet;
    }

    -- what refilling asks for
    pub protected_triangles : IsProtected qs ts (delaunay_rows qs)
    protected_triangles = law_protected_complex o.halvings o.budget ps qs segs rest fs ts on start protected.can_split protected.ends sound has met.triangles_meet

    pub solid : ¬ AreCoplanar qs
    solid = (law_recoverable o.halvings o.budget ps segs fs qs rest ts recovery).solid
