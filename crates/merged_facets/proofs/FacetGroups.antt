-- Joined facets, in either order and in chains, and the plane upright on the side that joins them.
use Rattle.std.proofs.Common.{inl, inr, [], ◌++◌, ◌≡◌, ℕ, List, sym, subst, arith}
use Rattle.std.specs.Prelude.{pos, ◌≤ℤ◌, ◌≤◌, ◌⊎◌, Contains}
use Rattle.exact_algebra.proofs.Ring.{ring, same, ◌⊕◌}
use Rattle.sign_predicates.specs.Point.{Point}
use Rattle.sign_predicates.specs.Orientation.{orient, det}
use Rattle.sign_predicates.proofs.Terms.{PointE, TriangleE, pointE, of_point, sideE, crossE, dotE, from_toE}
use Rattle.geo_laws.specs.Delaunay.{point}
use Rattle.geo_laws.specs.Facet.{Facet, all_corners}
use Rattle.geo_laws.specs.Complex.{Complex}
use Rattle.geo_laws.specs.declared.complex.Piece.{Piece}
use Rattle.geo_laws.proofs.Members.{IsMember, member_of, contains_of, flat_map_cases, in_flat_map, append_cases, in_append_left, in_append_right}
use Rattle.facet_laws.proofs.SamePlane.{own_a, own_c}
use Rattle.merged_facets.specs.Merged.{alike_turned, together, facet_at, AreChained, alone, onward}
use Rattle.merged_facets.specs.Groups.{wall, EitherHandLaw, WallLaw, JoinedBackLaw, GroupLaw}

-- ---- the wall

abbrev nE : PointE
nE = crossE (from_toE (pointE 0) (pointE 3)) (from_toE (pointE 0) (pointE 6))

abbrev wallE : TriangleE
wallE = record { a = pointE 0; b = record { x = (pointE 0).x ⊕ nE.x; y = (pointE 0).y ⊕ nE.y; z = (pointE 0).z ⊕ nE.z }; c = pointE 3 }

pub law_wall : WallLaw
unfolding same det orient
law_wall ps s i j =
    ring (sideE wallE (pointE 9)) (dotE nE (crossE (from_toE (pointE 0) (pointE 3)) (from_toE (pointE 0) (pointE 9)))) tt
    (of_point (point ps s.a) (of_point (point ps s.b) (of_point (point ps i) (of_point (point ps j) []))))

pub law_either_hand : EitherHandLaw
law_either_hand ps s p q i one two has = record {
  a_on = own_a (wall ps s i);
  b_on = own_c (wall ps s i);
  first = λ j c. subst (λ n. pos 0 ≤ℤ n) (sym (law_wall ps s i j)) (one i j has c);
  second = λ j c. subst (λ n. n ≤ℤ pos 0) (sym (law_wall ps s i j)) (two i j has c);
}

-- ---- in either order

turned_alike : (ps : List Point) (s : Piece) (i j : ℕ) → alike_turned ps s i j ≡ alike_turned ps s j i
unfolding same
turned_alike ps s i j =
    ring (dotE nE (crossE (from_toE (pointE 0) (pointE 3)) (from_toE (pointE 0) (pointE 9)))) (dotE (crossE (from_toE (pointE 0) (pointE 3)) (from_toE (pointE 0) (pointE 9))) nE) tt
    (of_point (point ps s.a) (of_point (point ps s.b) (of_point (point ps i) (of_point (point ps j) []))))

other_way : (f g : Facet) (i : ℕ) → Contains (all_corners (together g f)) i → Contains (all_corners (together f g)) i
other_way f g i c =
    let p = flat_map_cases (λ p. p) i (all_polygons g f) (member_of (all_corners (together g f)) i c) in
    contains_of (all_corners (together f g)) i (in_flat_map (λ p. p) p.0 i (all_polygons f g) (swapped p.0 (append_cases p.0 g.polygons f.polygons p.1)) p.2)
  where
    all_polygons : Facet → Facet → List (List ℕ)
    all_polygons f g = f.polygons ++ g.polygons

    swapped : (p : List ℕ) → IsMember p g.polygons ⊎ IsMember p f.polygons → IsMember p (f.polygons ++ g.polygons)
    swapped p (inl m) = in_append_right p f.polygons g.polygons m
    swapped p (inr m) = in_append_left p f.polygons g.polygons m

pub law_joined_back : JoinedBackLaw
law_joined_back ps c s f g h = record {
  has_first = h.has_second;
  has_second = h.has_first;
  over = record {
    first_spans = h.over.second_spans;
    second_spans = h.over.first_spans;
    marked_alike = sym h.over.marked_alike;
    flat = λ i j k l ci cj ck cl. h.over.flat i j k l (turn i ci) (turn j cj) (turn k ck) (turn l cl);
    once_in_first = h.over.once_in_second;
    once_in_second = h.over.once_in_first;
    first_beside = h.over.second_beside;
    second_beside = h.over.first_beside;
    either_side = λ i j ci cj. subst (λ n. n ≤ℤ pos 0) (turned_alike ps s j i) (h.over.either_side j i cj ci);
    first_met = h.over.second_met;
    second_met = h.over.first_met;
  };
}
  where
    turn : (i : ℕ) → Contains (all_corners (together (facet_at c g) (facet_at c f))) i → Contains (all_corners (together (facet_at c f) (facet_at c g))) i
    turn i k = other_way (facet_at c f) (facet_at c g) i k

-- ---- chains

pub joined_chains : (ps : List Point) (c : Complex) (f g h : ℕ) → AreChained ps c f g → AreChained ps c g h → AreChained ps c f h
joined_chains ps c _ _ h (alone f) k = k
joined_chains ps c _ _ h (onward f m g s j r) k = onward f m h s j (joined_chains ps c m g h r k)

pub chain_back : (ps : List Point) (c : Complex) (f g : ℕ) → AreChained ps c f g → AreChained ps c g f
chain_back ps c _ _ (alone f) = alone f
chain_back ps c _ _ (onward f m g s j r) = joined_chains ps c g m f (chain_back ps c m g r) (onward m f f s (law_joined_back ps c s f m j) (alone f))

pub law_group : GroupLaw
law_group ps c f g m n k hm hn =
    equal (hm.below_all n (joined_chains ps c f g n k hn.chained)) (hn.below_all m (joined_chains ps c g f m (chain_back ps c f g k) hm.chained))
  where
    equal : m ≤ n → n ≤ m → m ≡ n
    equal h k = omega arith
