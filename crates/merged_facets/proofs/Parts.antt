-- Parts put behind those of the last facet of a complex.
use Rattle.std.proofs.Common.{◌≡◌, ℕ, ℤ, ◌+◌, ◌-◌, ◌<◌, ◌≤◌, List, [], ◌∷◌, ◌++◌, map, take, drop, length, get_or, refl, ap, sym, subst, ◌∙◌, arith, append_assoc, length-drop}
use Rattle.std.specs.Prelude.{Contains, HoldsAt, slice_range, Option}
use Rattle.std.proofs.lemmas.List.{take-append-le, drop-append-le, map-append, length-append, length-map, take_more, take_all, get_or-map}
use Rattle.std.proofs.lemmas.List.Elements.{All-push}
use Rattle.std.proofs.lemmas.List.FromFn.{map-range_with_len_more}
use Rattle.sign_predicates.specs.Point.{RationalPoint}
use Rattle.geo_laws.specs.Delaunay.{numbers_below}
use Rattle.geo_laws.specs.Facet.{Facet}
use Rattle.geo_laws.specs.Complex.{Polygon, Complex, corner_lists, flat_facet, facets, AreFollowing, change_last, with_facet, with_polygon, with_facet_hole}
use Rattle.geo_laws.specs.declared.complex.Facet.{Facet as StoredFacet}
use Rattle.geo_laws.proofs.Members.{contains_of, at_place}
use Rattle.geo_laws.proofs.Complexes.{length_change_last, facet_follows, last_follows, last_stays, ends_at}
use Rattle.merged_facets.specs.Merged.{no_facet, merged_facet}
use Rattle.merged_facets.specs.MergedComplex.{with_parts, with_polygons, with_holes, markers, IsMergedComplex, IsMaking, HasParts}
use Rattle.merged_facets.proofs.Outer.{append_nil, no_polygon, run_none, run_more}

abbrev pub raised : StoredFacet → StoredFacet
raised f = record f { past = f.past + 1 }

abbrev pub holed : RationalPoint → StoredFacet → StoredFacet
holed at f = record f { holes = f.holes ++ at ∷ [] }

abbrev one_polygon : List ℕ → Facet
one_polygon cs = record { polygons = cs ∷ []; holes = [] }

-- ---- the last item of a list

behind : {X : Type 0} (change : X → X) (x : X) (xs : List X) → 0 < length xs → change_last change (x ∷ xs) ≡ x ∷ change_last change xs
behind change x [] some = absurd (omega arith)
behind change x (y ∷ ys) some = refl

same_facet : (p q : List (List ℕ)) (g h : List RationalPoint) → p ≡ q → g ≡ h → (let f : Facet = record { polygons = p; holes = g } in f) ≡ record { polygons = q; holes = h }
same_facet p q g h e f = λ j. record { polygons = e j; holes = f j }

parts_fused : (g h f : Facet) → with_parts h (with_parts g f) ≡ with_parts (with_parts h g) f
parts_fused g h f = same_facet _ _ _ _ (append_assoc f.polygons g.polygons h.polygons) (append_assoc f.holes g.holes h.holes)

last_fused : (g h : Facet) (fs : List Facet) → change_last (with_parts h) (change_last (with_parts g) fs) ≡ change_last (with_parts (with_parts h g)) fs
last_fused g h [] = refl
last_fused g h (f ∷ []) = ap (λ (x : Facet). x ∷ []) (parts_fused g h f)
last_fused g h (f ∷ k ∷ fs) =
    let n = length_change_last (with_parts g) (k ∷ fs) in
    behind (with_parts h) f (change_last (with_parts g) (k ∷ fs)) (omega arith) ∙ ap (λ (xs : List Facet). f ∷ xs) (last_fused g h (k ∷ fs))

last_same : (fs : List Facet) → change_last (with_parts no_facet) fs ≡ fs
last_same [] = refl
last_same (f ∷ []) = ap (λ (x : Facet). x ∷ []) (same_facet _ _ _ _ (append_nil f.polygons) (append_nil f.holes))
last_same (f ∷ k ∷ fs) = ap (λ (xs : List Facet). f ∷ xs) (last_same (k ∷ fs))

last_pushed : (g : Facet) (fs : List Facet) → change_last (with_parts g) (fs ++ no_facet ∷ []) ≡ fs ++ g ∷ []
last_pushed g [] = refl
last_pushed g (f ∷ fs) =
    let n = length-append fs (no_facet ∷ []) in
    behind (with_parts g) f (fs ++ no_facet ∷ []) (omega arith) ∙ ap (λ (xs : List Facet). f ∷ xs) (last_pushed g fs)

-- a change that keeps markers keeps all of them
markers_stay : (change : StoredFacet → StoredFacet) (fs : List StoredFacet) → ((f : StoredFacet) → (change f).marker ≡ f.marker)
    → map (λ f. f.marker) (change_last change fs) ≡ map (λ f. f.marker) fs
markers_stay change [] same = refl
markers_stay change (f ∷ []) same = ap (λ (m : Option ℤ). m ∷ []) (same f)
markers_stay change (f ∷ g ∷ fs) same = ap (λ (ms : List (Option ℤ)). f.marker ∷ ms) (markers_stay change (g ∷ fs) same)

-- ---- a polygon or a hole point more

slice_kept : (ps : List Polygon) (p : Polygon) (a b : ℕ) → a ≤ b → b ≤ length ps → slice_range (ps ++ p ∷ []) a b ≡ slice_range ps a b
slice_kept ps p a b l u =
    let d = length-drop a ps in
    ap (take (b - a)) (drop-append-le a ps (p ∷ []) (omega arith)) ∙ take-append-le (b - a) (drop a ps) (p ∷ []) (omega arith)

facet_kept : (ps : List Polygon) (p : Polygon) (f : StoredFacet) → f.first ≤ f.past → f.past ≤ length ps → flat_facet (ps ++ p ∷ []) f ≡ flat_facet ps f
facet_kept ps p f l u = ap (λ (qs : List Polygon). let g : Facet = record { polygons = corner_lists qs; holes = f.holes } in g) (slice_kept ps p f.first f.past l u)

polygon_added : (ps : List Polygon) (p : Polygon) (f : StoredFacet) → f.first ≤ f.past → f.past ≡ length ps → flat_facet (ps ++ p ∷ []) (raised f) ≡ with_parts (one_polygon p.corners) (flat_facet ps f)
polygon_added ps p f l e =
    let n = length-append ps (p ∷ []) in
    same_facet _ _ _ _ (run_more (ps ++ p ∷ []) f.first f.past p.corners l (omega arith) last ∙ ap (λ (qs : List Polygon). corner_lists qs ++ p.corners ∷ []) (slice_kept ps p f.first f.past l (omega arith))) (sym (append_nil f.holes))
  where
    pushed : (qs : List Polygon) (d : Polygon) → get_or (qs ++ p ∷ []) (length qs) d ≡ p
    pushed [] d = refl
    pushed (q ∷ qs) d = pushed qs d

    last : HoldsAt (λ x. x.corners ≡ p.corners) (ps ++ p ∷ []) f.past
    last d = subst (λ n. (get_or (ps ++ p ∷ []) n d).corners ≡ p.corners) (sym e) (ap (λ (x : Polygon). x.corners) (pushed ps d))

polygon_facets : (ps : List Polygon) (p : Polygon) (from : ℕ) (fs : List StoredFacet) → AreFollowing from fs (length ps)
    → map (flat_facet (ps ++ p ∷ [])) (change_last raised fs) ≡ change_last (with_parts (one_polygon p.corners)) (map (flat_facet ps) fs)
polygon_facets ps p from [] follow = refl
polygon_facets ps p from (f ∷ []) follow = ap (λ (x : Facet). x ∷ []) (polygon_added ps p f follow.1 follow.2)
polygon_facets ps p from (f ∷ g ∷ fs) follow =
    let e = ends_at f.past (length ps) (g ∷ fs) follow.2 in
    ap (λ (x : Facet). x ∷ map (flat_facet (ps ++ p ∷ [])) (change_last raised (g ∷ fs))) (facet_kept ps p f follow.1 e)
    ∙ ap (λ (xs : List Facet). flat_facet ps f ∷ xs) (polygon_facets ps p f.past (g ∷ fs) follow.2)

hole_facets : (ps : List Polygon) (at : RationalPoint) (fs : List StoredFacet)
    → map (flat_facet ps) (change_last (holed at) fs) ≡ change_last (with_parts (with_holes (at ∷ []))) (map (flat_facet ps) fs)
hole_facets ps at [] = refl
hole_facets ps at (f ∷ []) = ap (λ (x : Facet). x ∷ []) (same_facet _ _ _ _ (sym (append_nil (flat_facet ps f).polygons)) refl)
hole_facets ps at (f ∷ g ∷ fs) = ap (λ (xs : List Facet). flat_facet ps f ∷ xs) (hole_facets ps at (g ∷ fs))

-- ---- parts

pub no_parts : (ps : List Polygon) (d : Complex) → IsMaking ps d → HasParts ps d no_facet d
no_parts ps d making = record { making = making; count = refl; markers_are = refl; facets_are = sym (last_same (facets d)) }

pub parts_then : (ps : List Polygon) (c d e : Complex) (g h : Facet) → HasParts ps c g d → HasParts ps d h e → HasParts ps c (with_parts h g) e
parts_then ps c d e g h one two = record {
  making = two.making;
  count = two.count ∙ one.count;
  markers_are = two.markers_are ∙ one.markers_are;
  facets_are = two.facets_are ∙ ap (change_last (with_parts h)) one.facets_are ∙ last_fused g h (facets c);
}

polygon_put : (ps : List Polygon) (d : Complex) (q : ℕ) (cs : List ℕ) (line : ℕ) → IsMaking ps d → 0 < length d.facets → q < length ps → HoldsAt (λ x. x.corners ≡ cs) ps q → HoldsAt (λ x. line ≡ x.line) ps q
    → HasParts ps d (one_polygon cs) (with_polygon cs line d)
polygon_put ps d q cs line making some l corners lines = record {
  making = record {
    following = subst (AreFollowing 0 (change_last raised d.facets)) (sym (length-append d.polygons (new ∷ []))) (last_follows 0 (length d.polygons) d.facets raised (λ f. (refl, refl)) some making.following);
    among = All-push (Contains ps) d.polygons new making.among (subst (Contains ps) is (contains_of ps (get_or ps q no_polygon) (at_place ps q no_polygon l)));
  };
  count = length_change_last raised d.facets;
  markers_are = markers_stay raised d.facets (λ f. refl);
  facets_are = polygon_facets d.polygons new 0 d.facets making.following;
}
  where
    new : Polygon
    new = record { corners = cs; line = line }

    is : get_or ps q no_polygon ≡ new
    is = λ j. record { corners = corners no_polygon j; line = sym (lines no_polygon) j }

pub hole_put : (ps : List Polygon) (d : Complex) (at : RationalPoint) → IsMaking ps d → HasParts ps d (with_holes (at ∷ [])) (with_facet_hole at d)
hole_put ps d at making = record {
  making = record { following = last_stays 0 (length d.polygons) d.facets (holed at) (λ f. (refl, refl)) making.following; among = making.among };
  count = length_change_last (holed at) d.facets;
  markers_are = markers_stay (holed at) d.facets (λ f. refl);
  facets_are = hole_facets d.polygons at d.facets;
}

-- ---- the polygons of a facet, and its hole points

pub polygons_none : (ps : List Polygon) (a : ℕ) (d : Complex) → IsMaking ps d → HasParts ps d (with_polygons ps a a) d
polygons_none ps a d making = subst (λ g. HasParts ps d g d) (same_facet _ _ _ _ (sym (run_none ps a a refl)) refl) (no_parts ps d making)

pub polygons_more : (ps : List Polygon) (a q : ℕ) (start d new : Complex) (cs : List ℕ) (line : ℕ) → a ≤ q → q < length ps → HoldsAt (λ x. x.corners ≡ cs) ps q → HoldsAt (λ x. line ≡ x.line) ps q → 0 < length start.facets
    → HasParts ps start (with_polygons ps a q) d → new ≡ with_polygon cs line d → HasParts ps start (with_polygons ps a (q + 1)) new
polygons_more ps a q start d new cs line le l corners lines some has put =
    let n = has.count in
    subst (HasParts ps start (with_polygons ps a (q + 1))) (sym put)
    (subst (λ g. HasParts ps start g (with_polygon cs line d)) (same_facet _ _ _ _ (sym (run_more ps a q cs le l corners)) refl)
    (parts_then ps start d (with_polygon cs line d) (with_polygons ps a q) (one_polygon cs) has (polygon_put ps d q cs line has.making (omega arith) l corners lines)))

pub holes_more : (ps : List Polygon) (hs : List RationalPoint) (i : ℕ) (start d new : Complex) (at : RationalPoint) → i < length hs → HoldsAt (λ h. h ≡ at) hs i
    → HasParts ps start (with_holes (take i hs)) d → new ≡ with_facet_hole at d → HasParts ps start (with_holes (take (i + 1) hs)) new
holes_more ps hs i start d new at l is has put =
    subst (HasParts ps start (with_holes (take (i + 1) hs))) (sym put)
    (subst (λ g. HasParts ps start g (with_facet_hole at d)) (same_facet _ _ _ _ refl (sym (take_more hs i at l ∙ ap (λ (h : RationalPoint). take i hs ++ h ∷ []) (is at))))
    (parts_then ps start d (with_facet_hole at d) (with_holes (take i hs)) (with_holes (at ∷ [])) has (hole_put ps d at has.making)))

pub holes_all : (ps : List Polygon) (hs : List RationalPoint) (i : ℕ) (start d : Complex) → length hs ≤ i → HasParts ps start (with_holes (take i hs)) d → HasParts ps start (with_holes hs) d
holes_all ps hs i start d l has = subst (λ xs. HasParts ps start (with_holes xs) d) (take_all i hs l) has

-- both
pub facet_parts : (ps : List Polygon) (f : StoredFacet) (start d new : Complex) → HasParts ps start (with_polygons ps f.first f.past) d → HasParts ps d (with_holes f.holes) new → HasParts ps start (flat_facet ps f) new
facet_parts ps f start d new one two =
    subst (λ g. HasParts ps start g new) (same_facet _ _ _ _ (append_nil (flat_facet ps f).polygons) refl) (parts_then ps start d new (with_polygons ps f.first f.past) (with_holes f.holes) one two)

-- ---- a facet more

pub facet_making : (ps : List Polygon) (m : Option ℤ) (d new : Complex) → IsMaking ps d → new ≡ with_facet m d → IsMaking ps new
facet_making ps m d new making put = subst (IsMaking ps) (sym put) (record {
  following = facet_follows 0 (length d.polygons) d.facets (record { first = length d.polygons; past = length d.polygons; holes = []; marker = m }) making.following refl refl;
  among = making.among;
})

facet_put : (m : Option ℤ) (d : Complex) → facets (with_facet m d) ≡ facets d ++ no_facet ∷ []
facet_put m d =
    map-append (flat_facet d.polygons) d.facets (record { first = length d.polygons; past = length d.polygons; holes = []; marker = m } ∷ [])
    ∙ ap (λ (qs : List (List ℕ)). facets d ++ record { polygons = qs; holes = [] } ∷ []) (run_none d.polygons (length d.polygons) (length d.polygons) refl)

-- the merged facets so far
pub record AreMerged (group : ℕ → ℕ) (c : Complex) (f : ℕ) (d : Complex) : Type 0 where
  pub making : IsMaking c.polygons d
  pub count : length d.facets ≡ f
  pub facets_are : facets d ≡ map (merged_facet group c) (numbers_below f)
  pub markers_are : markers d ≡ take f (markers c)

pub merged_more : (group : ℕ → ℕ) (c : Complex) (f : ℕ) (x : StoredFacet) (d e new : Complex) → f < length c.facets → HoldsAt (λ g. g ≡ x) c.facets f → AreMerged group c f d → e ≡ with_facet x.marker d → HasParts c.polygons e (merged_facet group c f) new → AreMerged group c (f + 1) new
merged_more group c f x d e new l is so put parts = record {
  making = parts.making;
  count = parts.count ∙ ap (λ (x : Complex). length x.facets) put ∙ length-append d.facets _ ∙ ap (λ n. n + 1) so.count;
  facets_are =
      parts.facets_are ∙ ap (λ (x : Complex). change_last (with_parts (merged_facet group c f)) (facets x)) put ∙ ap (change_last (with_parts (merged_facet group c f))) (facet_put x.marker d)
      ∙ last_pushed (merged_facet group c f) (facets d) ∙ ap (λ (xs : List Facet). xs ++ merged_facet group c f ∷ []) so.facets_are
      ∙ sym (map-range_with_len_more (merged_facet group c) 0 f f zero_first);
  markers_are =
      parts.markers_are ∙ ap markers put ∙ map-append (λ (g : StoredFacet). g.marker) d.facets _ ∙ ap (λ (ms : List (Option ℤ)). ms ++ x.marker ∷ []) so.markers_are
      ∙ sym (one_more c.facets f x l is);
}
  where
    one_more : (fs : List StoredFacet) (n : ℕ) (y : StoredFacet) → n < length fs → HoldsAt (λ g. g ≡ y) fs n
        → take (n + 1) (map (λ g. g.marker) fs) ≡ take n (map (λ g. g.marker) fs) ++ y.marker ∷ []
    one_more fs n y k at =
        let long = length-map fs (λ (g : StoredFacet). g.marker) in
        take_more (map (λ (g : StoredFacet). g.marker) fs) n y.marker (omega arith)
        ∙ ap (λ (m : Option ℤ). take n (map (λ (g : StoredFacet). g.marker) fs) ++ m ∷ []) (get_or-map (λ (g : StoredFacet). g.marker) fs n y y.marker k ∙ ap (λ (g : StoredFacet). g.marker) (at y))

    zero_first : 0 + f ≡ f
    zero_first = omega arith

-- all of them
pub merged_all : (group : ℕ → ℕ) (c : Complex) (f : ℕ) (d : Complex) → f ≡ length c.facets → AreMerged group c f d → IsMergedComplex group c d
merged_all group c f d e so = record {
  facets_are = so.facets_are ∙ ap (λ n. map (merged_facet group c) (numbers_below n)) e;
  markers_are = so.markers_are ∙ take_all f (markers c) (omega (arith, e, length-map c.facets (λ (g : StoredFacet). g.marker)));
  polygons = so.making.among;
}
