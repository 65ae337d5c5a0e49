-- Joined facets: over a side in either direction, never with themselves, and by their polygons.
use Rattle.std.proofs.Common.{◌≡◌, ◌≢◌, ◌⊎◌, inl, inr, ℕ, zero, suc, ◌-◌, ◌<◌, Bool, true, false, cond, List, [], ◌∷◌, ◌++◌, drop, length, refl, ap, sym, ◌∙◌, subst, arith, eqb-true}
use Rattle.std.specs.Prelude.{◌==◌, ◌&&◌, nat_lt, ℤ, pos, ◌<ℤ◌, ◌≤ℤ◌, IsTrue, ◌↔◌, All, Contains, count_by, flat_map, slice_range, None, HoldsAt}
use Rattle.std.proofs.lemmas.Int.{ints}
use Rattle.std.proofs.lemmas.List.{length-map, get_or-map}
use Rattle.exact_algebra.proofs.Ring.{ring, same}
use Rattle.sign_predicates.specs.Point.{Point, RationalPoint}
use Rattle.sign_predicates.proofs.Terms.{pointE, of_point, crossE, dotE, from_toE}
use Rattle.geo_laws.specs.Delaunay.{point, HasDistinctPoints}
use Rattle.geo_laws.specs.Complex.{Complex, Polygon, flat_facet, facets, HasCornersOf}
use Rattle.geo_laws.specs.Facet.{Facet, IsFlat, all_corners}
use Rattle.geo_laws.specs.Segment.{sides, same_ends}
use Rattle.geo_laws.specs.declared.complex.Piece.{Piece}
use Rattle.geo_laws.specs.declared.complex.Facet.{Facet as StoredFacet}
use Rattle.geo_laws.proofs.Members.{IsMember, found_of, at_place, in_cons, here, there, member_of, contains_of, both_true, in_append_left, flat_map_cases, map_cases}
use Rattle.facet_laws.specs.Faces.{SameNumbers}
use Rattle.facet_laws.proofs.Constant.{all_map}
use Rattle.facet_laws.proofs.FaceIn.{law_meet_order}
use Rattle.facet_laws.proofs.Chains.{all_at}
use Rattle.facet_laws.proofs.Pieces.{points_differ, all_sides_tested}
use Rattle.merged_facets.specs.Merged.{has_span, only_polygon, facet_at, marker_at, no_facet, alike_turned, places_of, MeetsOthers, AreJoined}
use Rattle.incidence.proofs.Found.{SameEnds, same_of, of_same, same_sym, same_trans, same_test}
use Rattle.merged_facets.specs.Beside.{one_facet, is_off, AreBeside, IsSideAmong}
use Rattle.merged_facets.specs.FacetSides.{IsFacetSideOf}
use Rattle.merged_facets.specs.declared.sides.FacetSide.{FacetSide}
use Rattle.merged_facets.proofs.Hands.{no_span, spans_off}
use Rattle.merged_facets.proofs.OnlyPolygons.{flat}
use Rattle.merged_facets.proofs.BesideOf.{all_of_members, member_of_all}
use Rattle.merged_facets.proofs.Once.{IsMetApart, side_ends, taken}

-- ---- in the other direction

alike_back : (ps : List Point) (s r : Piece) (i j : ℕ) → r.a ≡ s.b → r.b ≡ s.a → alike_turned ps s i j ≡ alike_turned ps r i j
unfolding same
alike_back ps s r i j e f =
    ring (dotE (crossE (from_toE (pointE 0) (pointE 3)) (from_toE (pointE 0) (pointE 6))) (crossE (from_toE (pointE 0) (pointE 3)) (from_toE (pointE 0) (pointE 9))))
    (dotE (crossE (from_toE (pointE 3) (pointE 0)) (from_toE (pointE 3) (pointE 6))) (crossE (from_toE (pointE 3) (pointE 0)) (from_toE (pointE 3) (pointE 9)))) tt
    (of_point (point ps s.a) (of_point (point ps s.b) (of_point (point ps i) (of_point (point ps j) []))))
    ∙ (λ k. alike_turned ps (record { a = sym e k; b = sym f k; halvings = 0 }) i j)

alike_either : (ps : List Point) (s r : Piece) (i j : ℕ) → SameEnds s r → alike_turned ps s i j ≡ alike_turned ps r i j
alike_either ps s r i j (inl h) = λ k. alike_turned ps (record { a = h.0 k; b = h.1 k; halvings = 0 }) i j
alike_either ps s r i j (inr h) = alike_back ps s r i j (sym h.1) (sym h.0)

ends_alike : (s r x : Piece) → SameEnds s r → same_ends s x ≡ same_ends r x
ends_alike s r x h =
    same_test (same_ends s x) (same_ends r x) (λ e. of_same r x (same_trans r s x (same_sym s r h) (same_of s x e))) (λ e. of_same s x (same_trans s r x h (same_of r x e)))

pub places_alike : (s r : Piece) (p : List ℕ) → SameEnds s r → places_of s p ≡ places_of r p
places_alike s r p h = ap (λ (t : Piece → Bool). count_by t (sides p)) (λ j x. ends_alike s r x h j)

same_numbers : (a b c d : ℕ) → ((a ≡ c) × (b ≡ d)) ⊎ ((a ≡ d) × (b ≡ c)) → SameNumbers (a ∷ b ∷ []) (c ∷ d ∷ [])
same_numbers a b c d (inl h) i = (λ m. subst (λ (xs : List ℕ). Contains xs i) (λ k. h.0 k ∷ h.1 k ∷ []) m, λ m. subst (λ (xs : List ℕ). Contains xs i) (λ k. sym h.0 k ∷ sym h.1 k ∷ []) m)
same_numbers a b c d (inr h) i =
    (λ m. turned c d i (subst (λ (xs : List ℕ). Contains xs i) (λ k. h.0 k ∷ h.1 k ∷ []) m), λ m. subst (λ (xs : List ℕ). Contains xs i) (λ k. sym h.0 k ∷ sym h.1 k ∷ []) (turned d c i m))
  where
    last : (x y i : ℕ) → IsMember i (x ∷ []) → IsMember i (x ∷ y ∷ [])
    last x y i m = go (in_cons i x [] m)
      where
        go : (i ≡ x) ⊎ IsMember i [] → IsMember i (x ∷ y ∷ [])
        go (inl e) = subst (λ (z : ℕ). IsMember z (x ∷ y ∷ [])) (sym e) here
        go (inr n) = elim n [ ]

    turned : (x y i : ℕ) → Contains (y ∷ x ∷ []) i → Contains (x ∷ y ∷ []) i
    turned x y i m = contains_of (x ∷ y ∷ []) i (go (in_cons i y (x ∷ []) (member_of (y ∷ x ∷ []) i m)))
      where
        go : (i ≡ y) ⊎ IsMember i (x ∷ []) → IsMember i (x ∷ y ∷ [])
        go (inl e) = subst (λ (z : ℕ). IsMember z (x ∷ y ∷ [])) (sym e) (there here)
        go (inr n) = last x y i n

met_alike : (ps : List Point) (s r : Piece) (p : List ℕ) → SameEnds s r → MeetsOthers ps s p → MeetsOthers ps r p
met_alike ps s r p h m = all_map (IsMetApart ps s) (IsMetApart ps r) (sides p) each m
  where
    each : (x : Piece) → IsMetApart ps s x → IsMetApart ps r x
    each x k e =
        law_meet_order.reordered ps (s.a ∷ s.b ∷ []) (r.a ∷ r.b ∷ []) (x.a ∷ x.b ∷ []) (x.a ∷ x.b ∷ []) (same_numbers s.a s.b r.a r.b h) (λ i. (λ c. c, λ c. c)) (k (ends_alike s r x h ∙ e))

pub joined_alike : (ps : List Point) (c : Complex) (s r : Piece) (f g : ℕ) → SameEnds s r → AreJoined ps c s f g → AreJoined ps c r f g
joined_alike ps c s r f g e h = record {
  has_first = h.has_first;
  has_second = h.has_second;
  over = record {
    first_spans = h.over.first_spans;
    second_spans = h.over.second_spans;
    marked_alike = h.over.marked_alike;
    flat = h.over.flat;
    once_in_first = sym (places_alike s r (only_polygon (facet_at c f)) e) ∙ h.over.once_in_first;
    once_in_second = sym (places_alike s r (only_polygon (facet_at c g)) e) ∙ h.over.once_in_second;
    first_beside = λ i j ci cj. subst (λ n. pos 0 ≤ℤ n) (alike_either ps s r i j e) (h.over.first_beside i j ci cj);
    second_beside = λ i j ci cj. subst (λ n. pos 0 ≤ℤ n) (alike_either ps s r i j e) (h.over.second_beside i j ci cj);
    either_side = λ i j ci cj. subst (λ n. n ≤ℤ pos 0) (alike_either ps s r i j e) (h.over.either_side i j ci cj);
    first_met = met_alike ps s r (only_polygon (facet_at c f)) e h.over.first_met;
    second_met = met_alike ps s r (only_polygon (facet_at c g)) e h.over.second_met;
  };
}

-- ---- never with itself

pub not_alone : (ps : List Point) (c : Complex) (s : Piece) (f : ℕ) → HasDistinctPoints ps → IsSideAmong ps s → AreJoined ps c s f f → ⊥
not_alone ps c s f distinct side h =
    no_span ps s (only_polygon (facet_at c f)) (points_differ ps distinct s.a s.b side.a_there side.b_there side.two) (λ i m. on i m (is_off ps s i) refl) h.over.first_spans
  where
    low : (n : ℤ) → pos 0 <ℤ n → n ≤ℤ pos 0 → ⊥
    low n h k = omega (arith, ints)

    on : (i : ℕ) → IsMember i (only_polygon (facet_at c f)) → (b : Bool) → is_off ps s i ≡ b → is_off ps s i ≡ false
    on i m false e = e
    on i m true e =
        let k = contains_of (only_polygon (facet_at c f)) i m in
        absurd (low (alike_turned ps s i i) (spans_off ps s i e) (h.over.either_side i i k k))

-- ---- the one polygon's corners

only_in : (qs : List (List ℕ)) (hs : List RationalPoint) (i : ℕ) → IsMember i (only_polygon (flat qs hs)) → IsMember i (flat_map (λ p. p) qs)
only_in [] hs i m = m
only_in (p ∷ ps) hs i m = go (length ps == 0 && length hs == 0 && nat_lt 2 (length p)) m
  where
    go : (b : Bool) → IsMember i (cond b p []) → IsMember i (flat_map (λ q. q) (p ∷ ps))
    go true m = in_append_left i p (flat_map (λ q. q) ps) m
    go false m = elim m [ ]

pub facet_member : (c : Complex) (f : ℕ) → f < length c.facets → IsMember (facet_at c f) (facets c)
facet_member c f l = at_place (facets c) f no_facet (omega (arith, length-map c.facets (flat_facet c.polygons)))

dropped : {X : Type 0} (x : X) (k : ℕ) (xs : List X) → IsMember x (drop k xs) → IsMember x xs
dropped x zero [] m = m
dropped x zero (y ∷ xs) m = m
dropped x (suc k) [] m = m
dropped x (suc k) (y ∷ xs) m = there (dropped x k xs m)

pub corner_there : (ps : List Point) (c : Complex) (f i : ℕ) → HasCornersOf ps c → f < length c.facets → IsMember i (only_polygon (facet_at c f)) → i < length ps
corner_there ps c f i h l m =
    let w = map_cases (flat_facet c.polygons) (facet_at c f) c.facets (facet_member c f l) in
    let r = only_in (flat_facet c.polygons w.0).polygons w.0.holes i (subst (λ (g : Facet). IsMember i (only_polygon g)) w.2 m) in
    let q = flat_map_cases (λ p. p) i (flat_facet c.polygons w.0).polygons r in
    let p = map_cases (λ (p : Polygon). p.corners) q.0 (slice_range c.polygons w.0.first w.0.past) q.1 in
    let n = dropped p.0 w.0.first c.polygons (taken p.0 (w.0.past - w.0.first) (drop w.0.first c.polygons) p.1) in
    member_of_all (λ i. i < length ps) p.0.corners i (at_all (λ (p : Polygon). All (λ i. i < length ps) p.corners) c.polygons p.0 h n) (subst (λ (xs : List ℕ). IsMember i xs) p.2 q.2)
  where
    at_all : (P : Polygon → Type 0) (xs : List Polygon) (x : Polygon) → All P xs → IsMember x xs → P x
    at_all P xs x h m = let f = found_of xs x m in subst P (f.is x) (h f.place x f.within)

pub flat_only : (ps : List Point) (c : Complex) (f : ℕ) → All (IsFlat ps) (facets c) → f < length c.facets → IsFlat ps (one_facet (only_polygon (facet_at c f)))
flat_only ps c f h l = own (facet_at c f) (h f no_facet (omega (arith, length-map c.facets (flat_facet c.polygons))))
  where
    append_nil : (xs : List ℕ) → xs ++ [] ≡ xs
    append_nil [] = refl
    append_nil (x ∷ xs) = ap (λ zs. x ∷ zs) (append_nil xs)

    among : (g : Facet) (i : ℕ) → Contains (all_corners (one_facet (only_polygon g))) i → Contains (all_corners g) i
    among g i k =
        contains_of (all_corners g) i (only_in g.polygons g.holes i (subst (λ (xs : List ℕ). IsMember i xs) (append_nil (only_polygon g)) (member_of (all_corners (one_facet (only_polygon g))) i k)))

    own : (g : Facet) → IsFlat ps g → IsFlat ps (one_facet (only_polygon g))
    own g k a b c d ca cb cc' cd = k a b c d (among g a ca) (among g b cb) (among g c cc') (among g d cd)

-- ---- by the polygons

no_length : {X : Type 0} (xs : List X) → length xs ≡ 0 → xs ≡ []
no_length [] e = refl
no_length (x ∷ xs) e = absurd (omega arith)

alone_is : (qs : List (List ℕ)) (hs : List RationalPoint) → (only_polygon (flat qs hs) ≡ [] → ⊥) → qs ≡ only_polygon (flat qs hs) ∷ []
alone_is [] hs n = absurd (n refl)
alone_is (p ∷ ps) hs n = go (length ps == 0 && length hs == 0 && nat_lt 2 (length p)) refl n
  where
    go : (b : Bool) → (length ps == 0 && length hs == 0 && nat_lt 2 (length p)) ≡ b → (cond b p [] ≡ [] → ⊥) → p ∷ ps ≡ cond b p [] ∷ []
    go true e n =
        let r = both_true (length ps == 0 && length hs == 0) (nat_lt 2 (length p)) e in
        let q = both_true (length ps == 0) (length hs == 0) r.0 in
        ap (λ xs. p ∷ xs) (no_length ps (eqb-true (length ps) 0 q.0))
    go false e n = absurd (n refl)

span_some : (ps : List Point) (p : List ℕ) → IsTrue (has_span ps p) → p ≡ [] → ⊥
span_some ps p h e = never (ap (has_span ps) (sym e) ∙ h)
  where
    never : false ≡ true → ⊥
    never e = cc

both_polygons : (ps : List Point) (f g : Facet) → IsTrue (has_span ps (only_polygon f)) → IsTrue (has_span ps (only_polygon g)) → f.polygons ++ g.polygons ≡ only_polygon f ∷ only_polygon g ∷ []
both_polygons ps f g hf hg = λ j. alone_is f.polygons f.holes (span_some ps (only_polygon f) hf) j ++ alone_is g.polygons g.holes (span_some ps (only_polygon g) hg) j

pub joined_by : (ps : List Point) (c : Complex) (s : Piece) (f g : ℕ) → f < length c.facets → g < length c.facets → marker_at c f ≡ marker_at c g
    → AreBeside ps s (only_polygon (facet_at c f)) (only_polygon (facet_at c g)) → AreJoined ps c s f g
joined_by ps c s f g lf lg mark h = record {
  has_first = lf;
  has_second = lg;
  over = record {
    first_spans = h.first_spans;
    second_spans = h.second_spans;
    marked_alike = mark;
    flat = subst (λ (qs : List (List ℕ)). IsFlat ps (flat qs [])) (sym (both_polygons ps (facet_at c f) (facet_at c g) h.first_spans h.second_spans)) h.flat;
    once_in_first = h.once_in_first;
    once_in_second = h.once_in_second;
    first_beside = h.first_beside;
    second_beside = h.second_beside;
    either_side = h.either_side;
    first_met = h.first_met;
    second_met = h.second_met;
  };
}

pub beside_in : (ps : List Point) (c : Complex) (s : Piece) (f g : ℕ) → AreJoined ps c s f g → AreBeside ps s (only_polygon (facet_at c f)) (only_polygon (facet_at c g))
beside_in ps c s f g h = record {
  first_spans = h.over.first_spans;
  second_spans = h.over.second_spans;
  flat = subst (λ (qs : List (List ℕ)). IsFlat ps (flat qs [])) (both_polygons ps (facet_at c f) (facet_at c g) h.over.first_spans h.over.second_spans) h.over.flat;
  once_in_first = h.over.once_in_first;
  once_in_second = h.over.once_in_second;
  first_beside = h.over.first_beside;
  second_beside = h.over.second_beside;
  either_side = h.over.either_side;
  first_met = h.over.first_met;
  second_met = h.over.second_met;
}

-- the test of the polygons, where the markers are alike
pub joined_iff : (ps : List Point) (c : Complex) (s : Piece) (f g : ℕ) (p q : List ℕ) (r : Bool) → f < length c.facets → g < length c.facets → marker_at c f ≡ marker_at c g
    → p ≡ only_polygon (facet_at c f) → q ≡ only_polygon (facet_at c g) → IsTrue r ↔ AreBeside ps s p q → IsTrue r ↔ AreJoined ps c s f g
joined_iff ps c s f g p q r lf lg mark ep eq h =
    (λ t. joined_by ps c s f g lf lg mark (k.0 t), λ j. k.1 (beside_in ps c s f g j))
  where
    k : IsTrue r ↔ AreBeside ps s (only_polygon (facet_at c f)) (only_polygon (facet_at c g))
    k = subst (λ (p : List ℕ). IsTrue r ↔ AreBeside ps s p (only_polygon (facet_at c g))) ep (subst (λ (q : List ℕ). IsTrue r ↔ AreBeside ps s p q) eq h)

-- ---- what the test needs

pub side_among : (ps : List Point) (c : Complex) (e : FacetSide) → HasCornersOf ps c → IsFacetSideOf c e → IsSideAmong ps e.side
side_among ps c e h is =
    let m = member_of (sides (only_polygon (facet_at c e.facet))) e.side is.side_of in
    let r = side_ends (only_polygon (facet_at c e.facet)) e.side m in
    record {
      a_there = corner_there ps c e.facet e.side.a h is.there r.0;
      b_there = corner_there ps c e.facet e.side.b h is.there r.1;
      two = all_at (λ (s : Piece). s.a ≢ s.b) e.side (sides (only_polygon (facet_at c e.facet))) (all_sides_tested (only_polygon (facet_at c e.facet))) m;
    }

pub corners_there : (ps : List Point) (c : Complex) (f : ℕ) (p : List ℕ) → HasCornersOf ps c → f < length c.facets → p ≡ only_polygon (facet_at c f) → All (λ i. i < length ps) p
corners_there ps c f p h l e =
    all_of_members (λ i. i < length ps) p (λ i m. corner_there ps c f i h l (subst (λ (xs : List ℕ). IsMember i xs) e m))

pub flat_polygon : (ps : List Point) (c : Complex) (f : ℕ) (p : List ℕ) → All (IsFlat ps) (facets c) → f < length c.facets → p ≡ only_polygon (facet_at c f) → IsFlat ps (one_facet p)
flat_polygon ps c f p h l e = subst (λ (q : List ℕ). IsFlat ps (one_facet q)) (sym e) (flat_only ps c f h l)

pub marker_is : (c : Complex) (f : ℕ) (x : StoredFacet) → f < length c.facets → HoldsAt (λ g. g ≡ x) c.facets f → x.marker ≡ marker_at c f
marker_is c f x l is = sym (get_or-map (λ (g : StoredFacet). g.marker) c.facets f x None l ∙ ap (λ (g : StoredFacet). g.marker) (is x))
