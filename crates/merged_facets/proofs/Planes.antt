-- A merged facet is flat, as its members lie in one plane, and bounded by the sides that are not inner.
use Rattle.std.proofs.Common.{◌≡◌, ◌⊎◌, inl, inr, ℕ, ◌<◌, pos, Bool, true, false, List, [], ◌∷◌, length, refl, ap, sym, subst, ◌∙◌}
use Rattle.std.specs.Prelude.{Contains, not, nat_lt, ◌==◌, flat_map}
use Rattle.sign_predicates.specs.Point.{Point}
use Rattle.sign_predicates.specs.Orientation.{Triangle, SpansPlane, normal, orient, side}
use Rattle.geo_laws.specs.Delaunay.{point, HasDistinctPoints}
use Rattle.geo_laws.specs.Segment.{sides}
use Rattle.geo_laws.specs.Facet.{Facet, IsFlat, areas, all_corners, spans_plane}
use Rattle.geo_laws.specs.Complex.{Complex}
use Rattle.geo_laws.specs.declared.complex.Piece.{Piece}
use Rattle.geo_laws.proofs.Members.{IsMember, in_filter, filter_cases, in_flat_map, flat_map_cases, in_append_left, in_append_right, contains_of, member_of}
use Rattle.facet_laws.specs.Inner.{IsInnerSide}
use Rattle.facet_laws.specs.Region.{IsAmongSegments, through}
use Rattle.facet_laws.proofs.Facets.{spans_of}
use Rattle.facet_laws.proofs.Pieces.{area_listed, first_place, ends_same}
use Rattle.facet_laws.proofs.SamePlane.{Within, point_to_triangle, point_from_triangle}
use Rattle.merged_facets.specs.Merged.{together, only_polygon, facet_at, marker_at, AreJoined, AreChained, alone, onward, IsMerging, outer_sides, merged_segments, members, merged_facet}
use Rattle.merged_facets.specs.Facets.{HasCornersOn, AreFlat, MergedFlatLaw, MergedBoundedLaw}
use Rattle.merged_facets.proofs.FacetGroups.{chain_back, law_joined_back}
use Rattle.merged_facets.proofs.Inner.{Span, span_of, joined_only, law_inner}
use Rattle.merged_facets.proofs.Members.{Member, member_is, only_corner, all_numbered, facet_of}

-- ---- one plane

-- three corners of a facet that span a plane
record HasSpan (ps : List Point) (f : Facet) : Type 0 where
  p : ℕ × ℕ × ℕ
  first : IsMember p.0 (all_corners f)
  second : IsMember p.1 (all_corners f)
  third : IsMember p.2 (all_corners f)
  spans : SpansPlane (through ps p)

-- a joined facet has them
joined_span : (ps : List Point) (c : Complex) (s : Piece) (f g : ℕ) → AreJoined ps c s f g → HasSpan ps (facet_at c f)
joined_span ps c s f g j =
    let r = span_of ps (only_polygon (facet_at c f)) j.over.first_spans in
    let only = joined_only ps s (facet_at c f) (facet_at c g) (marker_at c f) (marker_at c g) j.over in
    record {
      p = (r.a, r.b, r.c);
      first = only_corner (facet_at c f) r.a only r.a_in;
      second = only_corner (facet_at c f) r.b only r.b_in;
      third = only_corner (facet_at c f) r.c only r.c_in;
      spans = spans_of (normal (through ps (r.a, r.b, r.c))) r.spans;
    }

in_first : (f g : Facet) (i : ℕ) → IsMember i (all_corners f) → Contains (all_corners (together f g)) i
in_first f g i m = let q = flat_map_cases (λ p. p) i f.polygons m in contains_of (all_corners (together f g)) i (in_flat_map (λ p. p) q.0 i (together f g).polygons (in_append_left q.0 f.polygons g.polygons q.1) q.2)

in_second : (f g : Facet) (i : ℕ) → IsMember i (all_corners g) → Contains (all_corners (together f g)) i
in_second f g i m = let q = flat_map_cases (λ p. p) i g.polygons m in contains_of (all_corners (together f g)) i (in_flat_map (λ p. p) q.0 i (together f g).polygons (in_append_right q.0 f.polygons g.polygons q.1) q.2)

-- the corners of the last of a chain lie in the plane of the first
in_plane : (ps : List Point) (c : Complex) (k g : ℕ) → AreChained ps c k g → IsFlat ps (facet_at c k) → (h : HasSpan ps (facet_at c k)) → (i : ℕ) → IsMember i (all_corners (facet_at c g)) → side (through ps h.p) (point ps i) ≡ pos 0
in_plane ps c _ _ (alone k) flat h i m = flat h.p.0 h.p.1 h.p.2 i (contains_of _ h.p.0 h.first) (contains_of _ h.p.1 h.second) (contains_of _ h.p.2 h.third) (contains_of _ i m)
in_plane ps c _ _ (onward k n g s j r) flat h i m =
    point_from_triangle (through ps h.p) (through ps next.p) (point ps i) h.spans next.spans
    (record { at_a = shared next.p.0 next.first; at_b = shared next.p.1 next.second; at_c = shared next.p.2 next.third })
    (in_plane ps c n g r (λ a b d e ca cb cd ce. j.over.flat a b d e (second a ca) (second b cb) (second d cd) (second e ce)) next i m)
  where
    next : HasSpan ps (facet_at c n)
    next = joined_span ps c s n k (law_joined_back ps c s k n j)

    second : (a : ℕ) → Contains (all_corners (facet_at c n)) a → Contains (all_corners (together (facet_at c k) (facet_at c n))) a
    second a ca = in_second (facet_at c k) (facet_at c n) a (member_of (all_corners (facet_at c n)) a ca)

    shared : (a : ℕ) → IsMember a (all_corners (facet_at c n)) → side (through ps h.p) (point ps a) ≡ pos 0
    shared a ma = j.over.flat h.p.0 h.p.1 h.p.2 a (in_first (facet_at c k) (facet_at c n) h.p.0 h.first) (in_first (facet_at c k) (facet_at c n) h.p.1 h.second) (in_first (facet_at c k) (facet_at c n) h.p.2 h.third) (in_second (facet_at c k) (facet_at c n) a ma)

-- the first of a chain is the last, or it is joined
same_or_span : (ps : List Point) (c : Complex) (k g : ℕ) → AreChained ps c k g → (k ≡ g) ⊎ HasSpan ps (facet_at c k)
same_or_span ps c _ _ (alone k) = inl refl
same_or_span ps c _ _ (onward k n g s j r) = inr (joined_span ps c s k n j)

-- ---- the merged facet

-- a corner of the merged facet is one of a member, which is in a chain with the least
record CornerOf (ps : List Point) (c : Complex) (k i : ℕ) : Type 0 where
  g : ℕ
  below : k < length c.facets
  chain : AreChained ps c k g
  corner : IsMember i (all_corners (facet_at c g))

chain_below : (ps : List Point) (c : Complex) (g k : ℕ) → AreChained ps c g k → g < length c.facets → k < length c.facets
chain_below ps c _ _ (alone g) h = h
chain_below ps c _ _ (onward g n k s j r) h = chain_below ps c n k r j.has_second

corner_of : (ps : List Point) (c : Complex) (group : ℕ → ℕ) (inner : ℕ → Piece → Bool) → IsMerging ps c group inner → (k i : ℕ) → IsMember i (all_corners (merged_facet group c k)) → CornerOf ps c k i
corner_of ps c group inner merging k i m =
    let q = flat_map_cases (λ p. p) i (merged_facet group c k).polygons m in
    let e = flat_map_cases (λ (e : ℕ × Facet). e.1.polygons) q.0 (members group c k) q.1 in
    let r = member_is group c k e.0 e.1 in
    let chain = subst (λ n. AreChained ps c e.0.0 n) r.grouped (merging.groups e.0.0 r.below).chained in
    record {
      g = e.0.0;
      below = chain_below ps c e.0.0 k chain r.below;
      chain = chain_back ps c e.0.0 k chain;
      corner = subst (λ f. IsMember i (all_corners f)) r.is (in_flat_map (λ p. p) q.0 i e.0.1.polygons e.2 q.2);
    }

pub law_merged_flat : MergedFlatLaw
law_merged_flat ps c group inner flat merging k x y z w cx cy cz cw =
    go (same_or_span ps c k a.g a.chain) (same_or_span ps c k b.g b.chain) (same_or_span ps c k d.g d.chain) (same_or_span ps c k e.g e.chain)
  where
    a : CornerOf ps c k x
    a = corner_of ps c group inner merging k x (member_of (all_corners (merged_facet group c k)) x cx)

    b : CornerOf ps c k y
    b = corner_of ps c group inner merging k y (member_of (all_corners (merged_facet group c k)) y cy)

    d : CornerOf ps c k z
    d = corner_of ps c group inner merging k z (member_of (all_corners (merged_facet group c k)) z cz)

    e : CornerOf ps c k w
    e = corner_of ps c group inner merging k w (member_of (all_corners (merged_facet group c k)) w cw)

    in_own : (i : ℕ) (o : CornerOf ps c k i) → k ≡ o.g → Contains (all_corners (facet_at c k)) i
    in_own i o s = contains_of (all_corners (facet_at c k)) i (subst (λ n. IsMember i (all_corners (facet_at c n))) (sym s) o.corner)

    one_plane : HasSpan ps (facet_at c k) → orient (point ps x) (point ps y) (point ps z) (point ps w) ≡ pos 0
    one_plane h = point_to_triangle (through ps h.p) (record { a = point ps x; b = point ps y; c = point ps z }) (point ps w) h.spans
        (record { at_a = lies x a; at_b = lies y b; at_c = lies z d }) (lies w e)
      where
        lies : (i : ℕ) (o : CornerOf ps c k i) → side (through ps h.p) (point ps i) ≡ pos 0
        lies i o = in_plane ps c k o.g o.chain (flat k a.below) h i o.corner

    go : (k ≡ a.g) ⊎ HasSpan ps (facet_at c k) → (k ≡ b.g) ⊎ HasSpan ps (facet_at c k) → (k ≡ d.g) ⊎ HasSpan ps (facet_at c k) → (k ≡ e.g) ⊎ HasSpan ps (facet_at c k) → orient (point ps x) (point ps y) (point ps z) (point ps w) ≡ pos 0
    go (inr h) _ _ _ = one_plane h
    go (inl _) (inr h) _ _ = one_plane h
    go (inl _) (inl _) (inr h) _ = one_plane h
    go (inl _) (inl _) (inl _) (inr h) = one_plane h
    go (inl p) (inl q) (inl r) (inl s) = flat k a.below x y z w (in_own x a p) (in_own y b q) (in_own z d r) (in_own w e s)

-- a side that is not inner is one of the segments
pub outer_segment : (c : Complex) (inner : ℕ → Piece → Bool) (e : ℕ × Facet) (q : List ℕ) (s : Piece) → IsMember e (all_numbered c) → IsMember q e.1.polygons → IsMember s (sides q) → inner e.0 s ≡ false → IsAmongSegments (merged_segments inner c) s
outer_segment c inner e q s me mq ms outer =
    let fp = first_place s (flat_map (outer_sides inner) (all_numbered c))
    (in_flat_map (outer_sides inner) e s (all_numbered c) me (in_filter (λ s. not (inner e.0 s)) s (flat_map sides e.1.polygons) (in_flat_map sides q s e.1.polygons mq ms) (ap not outer))) in
    (fp.other, contains_of (merged_segments inner c) fp.other fp.stands, ends_same fp.other s fp.ends)

pub law_merged_bounded : MergedBoundedLaw
law_merged_bounded ps c group inner distinct on merging k q cq s cs =
    let mq = area_listed (merged_facet group c k) q (member_of (areas (merged_facet group c k)) q cq) in
    let e = flat_map_cases (λ (e : ℕ × Facet). e.1.polygons) q (members group c k) mq in
    go e.0 (filter_cases (λ (g : ℕ × Facet). group g.0 == k) e.0 (all_numbered c) e.1).0 (member_is group c k e.0 e.1) e.2 (inner e.0.0 s) refl
  where
    go : (e : ℕ × Facet) → IsMember e (all_numbered c) → Member group c k e → IsMember q e.1.polygons → (b : Bool) → inner e.0 s ≡ b → IsAmongSegments (merged_segments inner c) s ⊎ IsInnerSide ps (merged_facet group c k) q s
    go e me r mq false i = inl (outer_segment c inner e q s me mq (member_of (sides q) s cs) i)
    go e me r mq true i = inr (subst (λ n. IsInnerSide ps (merged_facet group c n) q s) r.grouped
        (law_inner ps c group inner distinct on merging e.0 q s r.below
        (contains_of (areas (facet_at c e.0)) q (subst (λ f. IsMember q (areas f)) r.is (in_filter (λ p. nat_lt 2 (length p)) q e.1.polygons mq long))) cs i))
      where
        long : nat_lt 2 (length q) ≡ true
        long = (filter_cases (λ p. nat_lt 2 (length p)) q (merged_facet group c k).polygons (member_of (areas (merged_facet group c k)) q cq)).1
