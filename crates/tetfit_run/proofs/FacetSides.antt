-- The sides of facets, and whether one covers another.
use Rattle.std.proofs.Common.{◌≡◌, ◌⊎◌, inl, inr, ℕ, ◌+◌, ◌-◌, ◌<◌, ◌≤◌, List, [], ◌∷◌, ◌++◌, length, get_or, take, drop, refl, ap, sym, subst, ◌∙◌, arith, w32, to_z, of_z, None}
use Rattle.std.specs.Prelude.{All, IfOk, Result, Ok, Err, HoldsAt, map, filter, flat_map, not, slice_range}
use Rattle.std.proofs.Math.Nat.{zero-add}
use Rattle.std.proofs.lemmas.List.{append-nil, get_or-drop, get_or-map, get_or-take, length-drop, length-map, length-take-le, take-append-drop, take_all}
use Rattle.std.proofs.lemmas.List.Folds.{flat_map-map}
use Rattle.std.proofs.lemmas.List.FromFn.{map-range_with_len_more}
use Rattle.std.proofs.lemmas.Grind.{flat_map-append}
use Rattle.sign_predicates.specs.Point.{Point, IsOnGrid}
use Rattle.sign_predicates.proofs.Vectors.{grid_back}
use Rattle.complex_laws.specs.SoundComplex.{facet_numbered}
use Rattle.geo_laws.specs.Complex.{Complex, Polygon, HasCornersOf, corner_lists, facets, flat_facet}
use Rattle.geo_laws.specs.Delaunay.{numbers_below}
use Rattle.geo_laws.specs.Facet.{Facet as FlatFacet}
use Rattle.geo_laws.specs.Segment.{first_places, same_ends, segments, sides}
use Rattle.geo_laws.specs.declared.complex.Facet.{Facet}
use Rattle.geo_laws.specs.declared.complex.Piece.{Piece}
use Rattle.geo_laws.proofs.Members.{IsMember, there, at_place, contains_of, filter_cases, flat_map_cases, in_append_left, in_append_right, in_cons, in_head, map_cases, range_bounds}
use Rattle.merged_facets.proofs.Once.{side_ends}
use Rattle.incidence.specs.Found.{with_pieces}
use Rattle.incidence.proofs.Polygons.{segments_more, all_segments}
use Rattle.tet_ports.specs.declared.NoMemory.{NoMemory}
use Rattle.tetfit_run.specs.Sides.{all_sides, first_sides, side_of, sides_at, IsSideOn}
use Rattle.tetfit_run.specs.declared.sides.FacetSide.{FacetSide}

-- ---- points as they are stored

abbrev pub as_stored : Point → Point
as_stored p = record { x = to_z w32 (of_z w32 p.x); y = to_z w32 (of_z w32 p.y); z = to_z w32 (of_z w32 p.z) }

pub stored : (p : Point) → IsOnGrid p → as_stored p ≡ p
stored p h = λ j. record { x = grid_back p.x h.x_low h.x_high j; y = grid_back p.y h.y_low h.y_high j; z = grid_back p.z h.z_low h.z_high j }

-- ---- the sides of a facet

-- the corners of the polygons of a facet from its first one on
abbrev pub lists_of : Complex → ℕ → ℕ → List (List ℕ)
lists_of c first past = corner_lists (slice_range c.polygons first past)

slice_length : (ps : List Polygon) (first past : ℕ) → first ≤ past → past ≤ length ps → length (slice_range ps first past) ≡ past - first
slice_length ps first past order within =
    let l = length-drop first ps in
    length-take-le (past - first) (drop first ps) (omega (arith, l))

slice_at : (ps : List Polygon) (first past i : ℕ) (d : Polygon) → first ≤ i → i < past → past ≤ length ps → get_or (slice_range ps first past) (i - first) d ≡ get_or ps i d
slice_at ps first past i d low lt within =
    let e : first + (i - first) ≡ i = omega arith in
    get_or-take (past - first) (drop first ps) (i - first) d (omega arith) ∙ get_or-drop first ps (i - first) d ∙ ap (λ k. get_or ps k d) e

-- with one polygon more
pub sides_more : (c : Complex) (first past i : ℕ) (corners : List ℕ) (old new : List Piece) → first ≤ i → i < past → past ≤ length c.polygons
    → HoldsAt (λ (p : Polygon). p.corners ≡ corners) c.polygons i → old ≡ with_pieces [] (flat_map sides (take (i - first) (lists_of c first past)))
    → new ≡ with_pieces old (sides corners) → new ≡ with_pieces [] (flat_map sides (take (i + 1 - first) (lists_of c first past)))
sides_more c first past i corners old new low lt within is before put =
    let ps = slice_range c.polygons first past in
    let d : Polygon = record { corners = []; line = 0 } in
    let long : length ps ≡ past - first = slice_length c.polygons first past (omega arith) within in
    let many : length (lists_of c first past) ≡ length ps = length-map ps (λ (p : Polygon). p.corners) in
    let here : i - first < length ps = omega arith in
    let e : i + 1 - first ≡ i - first + 1 = omega arith in
    let at : (d : List ℕ) → get_or (lists_of c first past) (i - first) d ≡ corners =
    λ q. get_or-map (λ (p : Polygon). p.corners) ps (i - first) d q here ∙ ap (λ (p : Polygon). p.corners) (slice_at c.polygons first past i d low lt within) ∙ is d in
    segments_more (lists_of c first past) (i - first) corners old new (omega arith) at before put
    ∙ ap (λ n. with_pieces [] (flat_map sides (take n (lists_of c first past)))) (sym e)

-- all of them
pub sides_whole : (c : Complex) (first past i : ℕ) (found : List Piece) (r : Result (List Piece) NoMemory) → first ≤ past → past ≤ i → past ≤ length c.polygons
    → found ≡ with_pieces [] (flat_map sides (take (i - first) (lists_of c first past))) → IfOk r (λ pieces. pieces ≡ found) → IfOk r (λ pieces. pieces ≡ segments (lists_of c first past))
sides_whole c first past i found r order le within is told =
    let ls = lists_of c first past in
    let n = length ls in
    let many = length-map (slice_range c.polygons first past) (λ (p : Polygon). p.corners) in
    let long = slice_length c.polygons first past order within in
    let all : take (i - first) ls ≡ ls = take_all (i - first) ls (omega (arith, many, long)) in
    let whole : take n ls ≡ ls = take_all n ls (omega arith) in
    subst (λ ps. IfOk r (λ pieces. pieces ≡ ps)) (all_segments ls n found refl (is ∙ ap (λ qs. with_pieces [] (flat_map sides qs)) (all ∙ sym whole))) told

-- of the facet at a place
pub sides_there : (c : Complex) (k : ℕ) (f : Facet) (r : Result (List Piece) NoMemory) → HoldsAt (λ g. g ≡ f) c.facets k → IfOk r (λ pieces. pieces ≡ segments (flat_facet c.polygons f).polygons)
    → IfOk r (λ pieces. HoldsAt (λ g. pieces ≡ segments (flat_facet c.polygons g).polygons) c.facets k)
sides_there c k f (Ok pieces) at is = λ d. subst (λ g. pieces ≡ segments (flat_facet c.polygons g).polygons) (sym (at d)) is
sides_there c k f (Err e) at is = is

-- ---- the sides of all facets

no_facet : Facet
no_facet = record { first = 0; past = 0; holes = []; marker = None }

facet_is : (c : Complex) (k : ℕ) (d : Facet) → k < length c.facets → facet_numbered (facets c) k ≡ flat_facet c.polygons (get_or c.facets k d)
facet_is c k d lt = get_or-map (flat_facet c.polygons) c.facets k d (record { polygons = []; holes = [] }) lt

-- one facet more
pub first_more : (c : Complex) (k : ℕ) (found slice : List Piece) (old new : List FacetSide) → k < length c.facets → old ≡ first_sides c k
    → HoldsAt (λ f. found ≡ segments (flat_facet c.polygons f).polygons) c.facets k → slice ≡ found → new ≡ old ++ map (side_of k) slice → new ≡ first_sides c (k + 1)
first_more c k found slice old new lt before at same put =
    put ∙ (λ j. before j ++ map (side_of k) (same j)) ∙ sym more
  where
    one : sides_at c k ++ [] ≡ map (side_of k) found
    one = append-nil (sides_at c k) ∙ ap (λ (f : FlatFacet). map (side_of k) (segments f.polygons)) (facet_is c k no_facet lt) ∙ ap (map (side_of k)) (sym (at no_facet))

    more : first_sides c (k + 1) ≡ first_sides c k ++ map (side_of k) found
    more =
        sym (flat_map-map (sides_at c) (λ i. i) (numbers_below (k + 1)))
        ∙ ap (flat_map (sides_at c)) (map-range_with_len_more (λ i. i) 0 k k (zero-add k))
        ∙ flat_map-append (sides_at c) (map (λ i. i) (numbers_below k)) (k ∷ [])
        ∙ (λ j. flat_map-map (sides_at c) (λ i. i) (numbers_below k) j ++ one j)

-- ---- the ends of sides

-- what stands at its first place stood in the list
from_first : (u : Piece) (xs : List Piece) → IsMember u (first_places xs) → IsMember u xs
from_first u [] m = m
from_first u (p ∷ xs) m = go (in_cons u p (filter (λ q. not (same_ends p q)) (first_places xs)) m) (from_first u xs)
  where
    go : (u ≡ p) ⊎ IsMember u (filter (λ q. not (same_ends p q)) (first_places xs)) → (IsMember u (first_places xs) → IsMember u xs) → IsMember u (p ∷ xs)
    go (inl e) rest = in_head u p xs e
    go (inr k) rest = there (rest (filter_cases (λ q. not (same_ends p q)) u (first_places xs) k).0)

-- a polygon of a facet is one of the complex
of_slice : (ps : List Polygon) (first past : ℕ) (p : Polygon) → IsMember p (slice_range ps first past) → IsMember p ps
of_slice ps first past p m =
    let kept = subst (IsMember p) (take-append-drop (past - first) (drop first ps)) (in_append_left p (take (past - first) (drop first ps)) (drop (past - first) (drop first ps)) m) in
    subst (IsMember p) (take-append-drop first ps) (in_append_right p (take first ps) (drop first ps) kept)

-- what holds of all holds of a member
of_all : {X : Type 0} (P : X → Type 0) (xs : List X) (x : X) → All P xs → IsMember x xs → P x
of_all P xs x all m = let t = contains_of xs x m in subst P t.2 (all t.0 x t.1)

-- the ends of a side of a facet are points of the list
side_on : (ps : List Point) (c : Complex) → HasCornersOf ps c → (f : Facet) (p : Piece) → IsMember p (segments (flat_facet c.polygons f).polygons) → (p.a < length ps) × (p.b < length ps)
side_on ps c on f p m =
    let q = flat_map_cases sides p (flat_facet c.polygons f).polygons (from_first p (flat_map sides (flat_facet c.polygons f).polygons) m) in
    let polygon = map_cases (λ (p : Polygon). p.corners) q.0 (slice_range c.polygons f.first f.past) q.1 in
    let among = of_slice c.polygons f.first f.past polygon.0 polygon.1 in
    let corners = subst (λ cs. All (λ i. i < length ps) cs) (sym polygon.2) (of_all (λ (p : Polygon). All (λ i. i < length ps) p.corners) c.polygons polygon.0 on among) in
    let ends = side_ends q.0 p q.2 in
    (of_all (λ i. i < length ps) q.0 p.a corners ends.0, of_all (λ i. i < length ps) q.0 p.b corners ends.1)

-- all sides are on the points
pub sides_on : (ps : List Point) (c : Complex) → HasCornersOf ps c → All (IsSideOn ps) (all_sides c)
sides_on ps c on = λ k d lt. each (get_or (all_sides c) k d) (at_place (all_sides c) k d lt)
  where
    each : (s : FacetSide) → IsMember s (all_sides c) → IsSideOn ps s
    each s m =
        let r = flat_map_cases (sides_at c) s (numbers_below (length c.facets)) m in
        let p = map_cases (side_of r.0) s (segments (facet_numbered (facets c) r.0).polygons) r.2 in
        let b = range_bounds 0 (length c.facets) r.0 r.1 in
        let f = get_or c.facets r.0 no_facet in
        let ends = side_on ps c on f p.0 (subst (λ (g : FlatFacet). IsMember p.0 (segments g.polygons)) (facet_is c r.0 no_facet (omega (arith, b.1))) p.1) in
        subst (IsSideOn ps) (sym p.2) (record { a_on = ends.0; b_on = ends.1 })
