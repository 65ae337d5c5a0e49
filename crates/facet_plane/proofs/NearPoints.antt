-- Boxes round facets, and the points of a plane that the tree of all points finds.
use Rattle.std.proofs.Common.{◌≡◌, ◌⊎◌, inl, inr, ℕ, ◌+◌, ◌<◌, ◌≤◌, ℤ, pos, ◌<ℤ◌, ◌≤ℤ◌, true, List, [], ◌∷◌, ◌++◌, length, take, get_or}
use Rattle.std.proofs.Common.{refl, ap, sym, subst, ◌∙◌, arith}
use Rattle.std.specs.Prelude.{◌↔◌, Any, AllPairs, Contains, Some, flat_map}
use Rattle.std.specs.List.{HoldsAt, slice_index_or}
use Rattle.std.specs.Ordering.{nat_cmp, MatchOrdering}
use Rattle.std.specs.declared.cmp.Ordering.{Ordering}
use Rattle.std.specs.declared.cmp.Ordering.TheVariants.{Less, Equal, Greater}
use Rattle.std.proofs.lemmas.Cmp.{ranked}
use Rattle.std.proofs.lemmas.Int.{ints}
use Rattle.std.proofs.lemmas.List.Elements.{All-more, All-append, recursion_from_All}
use Rattle.sign_predicates.specs.Point.{Point, as_rational}
use Rattle.sign_predicates.specs.Orientation.{Triangle, normal, side, side_rational}
use Rattle.geo_laws.specs.Complex.{Polygon}
use Rattle.geo_laws.specs.Delaunay.{point}
use Rattle.geo_laws.specs.Segment.{is_zero}
use Rattle.geo_laws.specs.Facet.{Facet, IsFlat, all_corners, plane, axis_of, is_within, in_region}
use Rattle.geo_laws.proofs.Ascending.{Rises, more}
use Rattle.geo_laws.proofs.Determinants.{side_rational-as_rational}
use Rattle.geo_laws.proofs.Members.{IsMember, here, there, contains_of, member_of, both_true}
use Rattle.facet_laws.specs.Box.{in_box}
use Rattle.facet_laws.specs.PlaneRows.{ArePlaneNumbers}
use Rattle.facet_laws.specs.Region.{through}
use Rattle.facet_laws.proofs.Chains.{all_at}
use Rattle.facet_laws.proofs.Boxes.{inside, is_inside, law_box}
use Rattle.facet_laws.proofs.Facets.{plane_corners, corner_flat, region_is}
use Rattle.facet_laws.proofs.OnPiece.{zero_test}
use Rattle.facet_laws.proofs.Sublist.{rises_of_pairs}
use Rattle.box_tree.specs.declared.bounds.Bounds.{Bounds}
use Rattle.box_tree.specs.declared.bounds.Interval.{Interval}
use Rattle.box_tree.specs.declared.tree.Node.{Node}
use Rattle.box_tree.specs.Bodies.{IsPointTree}
use Rattle.box_tree.specs.Bounds.{IsIn, AreDisjoint, AreBoundsApart, IsBoxWithin, HoldsPoint}
use Rattle.box_tree.specs.Tree.{AreApartBetween}
use Rattle.box_tree.proofs.Boxes.{held_larger, within_more, within_self}
use Rattle.box_tree.proofs.Lists.{less_or_more, more_cases, in_more, in_last}
use Rattle.facet_plane.specs.Corners.{lists_between}
use Rattle.facet_plane.specs.NearPoints.{HoldsAll, ArePlaneNumbersIn, AreNumbersNear}
use Rattle.facet_plane.proofs.Polygons.{lists_next, lists_none}

-- ---- boxes that grow

all_wider : (ps : List Point) (b c : Bounds) (cs : List ℕ) → IsBoxWithin b c → HoldsAll ps b cs → HoldsAll ps c cs
all_wider ps b c cs w h k d l = held_larger b c (point ps (slice_index_or cs k d)) w (h k d l)

-- one corner more
pub corner_more : (ps : List Point) (b p c : Bounds) (cs : List ℕ) (i : ℕ) → i < length cs → IsBoxWithin b c → IsBoxWithin p c
    → HoldsPoint p (point ps (slice_index_or cs i 0)) → HoldsAll ps b (take i cs) → HoldsAll ps c (take (i + 1) cs)
corner_more ps b p c cs i l w v h all =
    All-more (λ j. HoldsPoint c (point ps j)) cs i 0 l (all_wider ps b c (take i cs) w all)
    (held_larger p c (point ps (slice_index_or cs i 0)) v h)

-- whatever box has this one in it and holds the polygons from q on holds all polygons
abbrev pub IsLeft : List Point → List Polygon → ℕ → ℕ → ℕ → Bounds → Type 0
IsLeft ps polygons first past q bounds =
    (b : Bounds) → IsBoxWithin bounds b → HoldsAll ps b (flat_map (λ p. p) (lists_between polygons q past))
    → HoldsAll ps b (flat_map (λ p. p) (lists_between polygons first past))

pub polygon_more : (ps : List Point) (polygons : List Polygon) (first past q : ℕ) (cs : List ℕ) (b c : Bounds) → q < past
    → past ≤ length polygons → HoldsAt (λ p. p.corners ≡ cs) polygons q → IsBoxWithin b c → HoldsAll ps c cs
    → IsLeft ps polygons first past q b → IsLeft ps polygons first past (q + 1) c
polygon_more ps polygons first past q cs b c l h at w all left d wider rest =
    left d (within_more b c d w wider)
    (subst (λ ls. HoldsAll ps d (flat_map (λ p. p) ls)) (sym (lists_next polygons q past cs l h at))
    (All-append (λ i. HoldsPoint d (point ps i)) cs (flat_map (λ p. p) (lists_between polygons (q + 1) past))
    (all_wider ps c d cs wider all) rest))

pub polygons_done : (ps : List Point) (polygons : List Polygon) (first past q : ℕ) (b : Bounds) → past ≤ q
    → IsLeft ps polygons first past q b → HoldsAll ps b (flat_map (λ p. p) (lists_between polygons first past))
polygons_done ps polygons first past q b l left =
    left b (within_self b)
    (subst (λ ls. HoldsAll ps b (flat_map (λ p. p) ls)) (sym (lists_none polygons q past l)) (λ k d m. absurd (omega arith)))

-- ---- the points that the tree finds

apart_never : (i j : Interval) (z : ℤ) → AreDisjoint i j → IsIn i z → IsIn j z → ⊥
apart_never i j z (inl h) p q = go i.high j.low h p.1 q.0
  where
    go : (a b : ℤ) → a <ℤ b → z ≤ℤ a → b ≤ℤ z → ⊥
    go a b h p q = omega (arith, ints)
apart_never i j z (inr h) p q = go j.high i.low h q.1 p.0
  where
    go : (a b : ℤ) → a <ℤ b → z ≤ℤ a → b ≤ℤ z → ⊥
    go a b h p q = omega (arith, ints)

-- boxes that are apart have no common point
held_never : (b c : Bounds) (p : Point) → AreBoundsApart b c → HoldsPoint b p → HoldsPoint c p → ⊥
held_never b c p (inl h) k l = apart_never b.x c.x p.x h k.x l.x
held_never b c p (inr (inl h)) k l = apart_never b.y c.y p.y h k.y l.y
held_never b c p (inr (inr h)) k l = apart_never b.z c.z p.z h k.z l.z

-- the number is found if its point lies in the plane and the box
abbrev pub IsSettled : List Point → Triangle → Bounds → List ℕ → ℕ → Type 0
IsSettled ps f b ns k = side f (point ps k) ≡ pos 0 → HoldsPoint b (point ps k) → Contains ns k

-- what is known when the nodes before place i are done with
pub record AreFoundBefore (ps : List Point) (f : Triangle) (nodes : List Node) (b : Bounds) (i : ℕ) (ns : List ℕ) : Type 0 where
  pub there : i ≤ length nodes
  pub below : (k : ℕ) → Contains ns k → k < length ps
  pub flat : (k : ℕ) → Contains ns k → side f (point ps k) ≡ pos 0
  pub settled : (j : ℕ) (d : Node) → j < i → IsSettled ps f b ns (get_or nodes j d).own.place

pub found_none : (ps : List Point) (f : Triangle) (nodes : List Node) (b : Bounds) → AreFoundBefore ps f nodes b 0 []
found_none ps f nodes b = record {
  there = omega arith;
  below = λ k m. absurd (let l = m.1 in omega arith);
  flat = λ k m. absurd (let l = m.1 in omega arith);
  settled = λ j d l. absurd (omega arith);
}

-- nodes whose boxes are apart from this one
pub found_further : (ps : List Point) (f : Triangle) (nodes : List Node) (b : Bounds) (i k : ℕ) (ns : List ℕ) → IsPointTree ps nodes
    → AreFoundBefore ps f nodes b i ns → AreApartBetween nodes b i k → k ≤ length nodes → AreFoundBefore ps f nodes b k ns
found_further ps f nodes b i k ns tree h apart l = record {
  there = l;
  below = h.below;
  flat = h.flat;
  settled = λ j d m. go j d m (less_or_more j i);
}
  where
    not_held : (j : ℕ) (d : Node) → i ≤ j → j < k → IsSettled ps f b ns (get_or nodes j d).own.place
    not_held j d o m e held =
        let n = get_or nodes j d in
        absurd (held_never n.own.bounds b (point ps n.own.place) (apart j d o m) (tree.listed j d (omega arith)).1 held)

    go : (j : ℕ) (d : Node) → j < k → (j < i) ⊎ ((j ≡ i) ⊎ (i < j)) → IsSettled ps f b ns (get_or nodes j d).own.place
    go j d m (inl a) = h.settled j d a
    go j d m (inr (inl a)) = not_held j d (omega arith) m
    go j d m (inr (inr a)) = not_held j d (omega arith) m

-- a point in the plane is taken
pub found_taken : (ps : List Point) (f : Triangle) (nodes : List Node) (b : Bounds) (i : ℕ) (ns : List ℕ) (n : Node) → i < length nodes
    → HoldsAt (λ m. m ≡ n) nodes i → n.own.place < length ps → side f (point ps n.own.place) ≡ pos 0
    → AreFoundBefore ps f nodes b i ns → AreFoundBefore ps f nodes b (i + 1) (ns ++ n.own.place ∷ [])
found_taken ps f nodes b i ns n l at on_list flat h = record {
  there = omega arith;
  below = λ k m. below k (more_cases k n.own.place ns m);
  flat = λ k m. on k (more_cases k n.own.place ns m);
  settled = λ j d m. go j d m (less_or_more j i);
}
  where
    below : (k : ℕ) → Contains ns k ⊎ (k ≡ n.own.place) → k < length ps
    below k (inl m) = h.below k m
    below k (inr e) = subst (λ x. x < length ps) (sym e) on_list

    on : (k : ℕ) → Contains ns k ⊎ (k ≡ n.own.place) → side f (point ps k) ≡ pos 0
    on k (inl m) = h.flat k m
    on k (inr e) = subst (λ x. side f (point ps x) ≡ pos 0) (sym e) flat

    go : (j : ℕ) (d : Node) → j < i + 1 → (j < i) ⊎ ((j ≡ i) ⊎ (i < j))
        → IsSettled ps f b (ns ++ n.own.place ∷ []) (get_or nodes j d).own.place
    go j d m (inl a) e held = in_more (get_or nodes j d).own.place n.own.place ns (h.settled j d a e held)
    go j d m (inr (inl a)) e held =
        subst (λ (r : Node). Contains (ns ++ n.own.place ∷ []) r.own.place) (sym (ap (λ x. get_or nodes x d) a ∙ at d))
        (in_last n.own.place ns)
    go j d m (inr (inr a)) e held = absurd (omega arith)

-- and one off it is left
pub found_left : (ps : List Point) (f : Triangle) (nodes : List Node) (b : Bounds) (i : ℕ) (ns : List ℕ) (n : Node) → i < length nodes
    → HoldsAt (λ m. m ≡ n) nodes i → ¬ (side f (point ps n.own.place) ≡ pos 0)
    → AreFoundBefore ps f nodes b i ns → AreFoundBefore ps f nodes b (i + 1) ns
found_left ps f nodes b i ns n l at off h = record {
  there = omega arith;
  below = h.below;
  flat = h.flat;
  settled = λ j d m. go j d m (less_or_more j i);
}
  where
    go : (j : ℕ) (d : Node) → j < i + 1 → (j < i) ⊎ ((j ≡ i) ⊎ (i < j)) → IsSettled ps f b ns (get_or nodes j d).own.place
    go j d m (inl a) e held = h.settled j d a e held
    go j d m (inr (inl a)) e held =
        absurd (off (subst (λ (r : Node). side f (point ps r.own.place) ≡ pos 0) (ap (λ x. get_or nodes x d) a ∙ at d) e))
    go j d m (inr (inr a)) e held = absurd (omega arith)

pub by_last : (m n : ℕ) → nat_cmp m n ≡ Less → m < n
by_last m n = at (nat_cmp m n) (ranked m n (nat_cmp m n) refl)
  where
    at : (r : Ordering) → MatchOrdering r (m < n) (m ≡ n) (n < m) → r ≡ Less → m < n
    at Less k h = k
    at Equal k h = cc
    at Greater k h = cc

-- when all nodes are done with, the numbers sorted
pub found_all : (ps : List Point) (f : Triangle) (nodes : List Node) (b : Bounds) (i : ℕ) (ns sorted : List ℕ) → IsPointTree ps nodes
    → length nodes ≤ i → AreFoundBefore ps f nodes b i ns → ((k : ℕ) → Contains sorted k ↔ Contains ns k)
    → AllPairs (λ m n. nat_cmp m n ≡ Less) sorted → ArePlaneNumbersIn ps f b sorted
found_all ps f nodes b i ns sorted tree l h same ascending = record {
  numbers = record {
    rising = λ j k d o m. by_last (slice_index_or sorted j d) (slice_index_or sorted k d) (ascending j k d o m);
    below = λ k m. h.below k ((same k).0 m);
    flat = λ k m. h.flat k ((same k).0 m);
  };
  held = λ k m e holds. (same k).1 (at_node k e holds (tree.each k m));
}
  where
    at_node : (k : ℕ) → side f (point ps k) ≡ pos 0 → HoldsPoint b (point ps k) → Any (λ n. n.own.place ≡ k) nodes → Contains ns k
    at_node k e holds a =
        let low = a.2 in
        let is : (get_or nodes a.0 a.1).own.place ≡ k = ap (λ (n : Node). n.own.place) a.3 ∙ a.4 in
        subst (Contains ns) is
        (h.settled a.0 a.1 (omega arith) (subst (λ x. side f (point ps x) ≡ pos 0) (sym is) e)
        (subst (λ x. HoldsPoint b (point ps x)) (sym is) holds))

-- ---- those that a facet needs

abbrev least : Bounds → Point
least b = record { x = b.x.low; y = b.y.low; z = b.z.low }

abbrev greatest : Bounds → Point
greatest b = record { x = b.x.high; y = b.y.high; z = b.z.high }

held_in_box : (b : Bounds) (p : Point) → HoldsPoint b p → in_box (least b) (greatest b) p ≡ true
held_in_box b p h = is_inside (least b) (greatest b) p (record {
  x_from = h.x.0;
  x_to = h.x.1;
  y_from = h.y.0;
  y_to = h.y.1;
  z_from = h.z.0;
  z_to = h.z.1;
})

held_of_box : (b : Bounds) (p : Point) → in_box (least b) (greatest b) p ≡ true → HoldsPoint b p
held_of_box b p e =
    let h = inside (least b) (greatest b) p e in
    record { x = (h.x_from, h.x_to); y = (h.y_from, h.y_to); z = (h.z_from, h.z_to) }

-- the box of the corners holds the region
pub near_of : (ps : List Point) (f : Facet) (p : ℕ × ℕ × ℕ) (b : Bounds) (ns : List ℕ) → plane ps f ≡ Some p → IsFlat ps f
    → p.0 < length ps → p.1 < length ps → p.2 < length ps → HoldsAll ps b (all_corners f) → ArePlaneNumbersIn ps (through ps p) b ns
    → AreNumbersNear ps f p ns
near_of ps f p b ns spans flat la lb lc holds h = record {
  numbers = h.numbers;
  spanning = (let c = (plane_corners ps f p spans).0 in (corner p.0 la c.in_0, corner p.1 lb c.in_1, corner p.2 lc c.in_2));
  region = λ i l r. h.held i l (in_plane i r) (held_of_box b (point ps i) (law_box ps f p (least b) (greatest b) spans flat each i r));
}
  where
    corner_held : (i : ℕ) → IsMember i (all_corners f) → HoldsPoint b (point ps i)
    corner_held i m =
        all_at (λ j. HoldsPoint b (point ps j)) i (all_corners f)
        (recursion_from_All (λ j. HoldsPoint b (point ps j)) (all_corners f) holds) m

    each : (i : ℕ) → Contains (all_corners f) i → in_box (least b) (greatest b) (point ps i) ≡ true
    each i m = held_in_box b (point ps i) (corner_held i (member_of (all_corners f) i m))

    corner : (i : ℕ) → i < length ps → IsMember i (all_corners f) → Contains ns i
    corner i l m = h.held i l (corner_flat ps f p spans flat i m) (corner_held i m)

    in_plane : (i : ℕ) → in_region ps f (as_rational (point ps i)) ≡ true → side (through ps p) (point ps i) ≡ pos 0
    in_plane i r =
        let x = as_rational (point ps i) in
        sym (side_rational-as_rational (through ps p) (point ps i))
        ∙ zero_test (side_rational (through ps p) x)
        (both_true (is_zero (side_rational (through ps p) x)) (is_within ps (axis_of (normal (through ps p))) f x)
        (sym (region_is ps f p x spans) ∙ r)).0

-- rising numbers from low to before top are no more than these
few_rising : (low top : ℕ) (ns : List ℕ) → low ≤ top → Rises ◌<◌ ns → ((i : ℕ) → IsMember i ns → (low ≤ i) × (i < top))
    → length ns + low ≤ top
few_rising low top [] l h within = omega arith
few_rising low top (n ∷ ns) l (more first rest) within =
    let k = within n here in
    let a = k.0 in
    let b = k.1 in
    let r = few_rising (n + 1) top ns (omega arith) rest (λ i m. (let c = first i m in omega arith, (within i (there m)).1)) in
    omega arith

pub few_near : (ps : List Point) (f : Triangle) (ns : List ℕ) → ArePlaneNumbers ps f ns → length ns ≤ length ps
few_near ps f ns h =
    let r =
    few_rising 0 (length ps) ns (omega arith) (rises_of_pairs ◌<◌ ns h.rising)
    (λ i m. (omega arith, h.below i (contains_of ns i m))) in
    omega arith
