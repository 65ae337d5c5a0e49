-- A complex that is folded facet by facet.
use Rattle.std.proofs.Common.{◌≡◌, ℕ, ◌+◌, ◌-◌, ◌<◌, ◌≤◌, List, [], ◌∷◌, ◌++◌, length, get_or, drop, take, refl, sym, ap, subst, ◌∙◌, arith, append_assoc, length-append}
use Rattle.std.specs.Prelude.{map, slice_index, All}
use Rattle.std.proofs.lemmas.List.{append-nil, drop_all, get_or-take, get_or_default, length-drop, length-map, length-take-le, map-append, take-append-drop, take-take, take_all, take_more}
use Rattle.std.proofs.lemmas.List.Elements.{All-map}
use Rattle.sign_predicates.specs.Point.{RationalPoint}
use Rattle.geo_laws.specs.declared.complex.Facet.{Facet}
use Rattle.geo_laws.specs.declared.complex.Region.{Region}
use Rattle.geo_laws.specs.Complex.{Polygon, Complex, AreFollowing, empty_complex, with_hole, with_facet_hole, with_region}
use Rattle.plc_files.specs.Folding.{HasCornersBelow, folded_polygon, folded_complex, polygons_between, plus_folded, IsFoldedTo}
use Rattle.plc_files.specs.Appending.{plus_facet_holes, plus_holes, plus_regions}
use Rattle.plc_files.proofs.Appended.{from_here, facet_made, holes_step, holes_end}

-- ---- hole points and regions, as loops append them

pub holes_more : (hs : List RationalPoint) (i : ℕ) (h : RationalPoint) (old new whole : Complex) → i < length hs → h ≡ get_or hs i h → new ≡ with_hole h old → plus_holes (drop i hs) old ≡ whole
    → plus_holes (drop (i + 1) hs) new ≡ whole
holes_more hs i h old new whole lt is made so_far =
    let rest = drop (i + 1) hs in
    ap (plus_holes rest) made ∙ ap (λ (gs : List RationalPoint). let c : Complex = record old { holes = gs } in c) (append_assoc old.holes (h ∷ []) rest)
    ∙ ap (λ gs. plus_holes gs old) (sym (from_here hs i h lt is)) ∙ so_far

pub holes_all : (hs : List RationalPoint) (i : ℕ) (old whole : Complex) → length hs ≤ i → plus_holes (drop i hs) old ≡ whole → old ≡ whole
holes_all hs i old whole le so_far =
    ap (λ (gs : List RationalPoint). let c : Complex = record old { holes = gs } in c) (sym (append-nil old.holes)) ∙ ap (λ gs. plus_holes gs old) (sym (drop_all i hs le)) ∙ so_far

pub facet_holes_more : (hs : List RationalPoint) (i : ℕ) (h : RationalPoint) (old new whole : Complex) → i < length hs → h ≡ get_or hs i h → new ≡ with_facet_hole h old → plus_facet_holes (drop i hs) old ≡ whole
    → plus_facet_holes (drop (i + 1) hs) new ≡ whole
facet_holes_more hs i h old new whole lt is made so_far =
    let rest = drop (i + 1) hs in
    ap (plus_facet_holes rest) made ∙ holes_step old h rest ∙ ap (λ gs. plus_facet_holes gs old) (sym (from_here hs i h lt is)) ∙ so_far

pub facet_holes_all : (hs : List RationalPoint) (i : ℕ) (old whole : Complex) → length hs ≤ i → plus_facet_holes (drop i hs) old ≡ whole → old ≡ whole
facet_holes_all hs i old whole le so_far = sym (holes_end old) ∙ ap (λ gs. plus_facet_holes gs old) (sym (drop_all i hs le)) ∙ so_far

pub regions_more : (rs : List Region) (i : ℕ) (r : Region) (old new whole : Complex) → i < length rs → r ≡ get_or rs i r → new ≡ with_region r.at r.attribute old → plus_regions (drop i rs) old ≡ whole
    → plus_regions (drop (i + 1) rs) new ≡ whole
regions_more rs i r old new whole lt is made so_far =
    let rest = drop (i + 1) rs in
    ap (plus_regions rest) made ∙ ap (λ (gs : List Region). let c : Complex = record old { regions = gs } in c) (append_assoc old.regions (r ∷ []) rest)
    ∙ ap (λ gs. plus_regions gs old) (sym (from_here rs i r lt is)) ∙ so_far

pub regions_all : (rs : List Region) (i : ℕ) (old whole : Complex) → length rs ≤ i → plus_regions (drop i rs) old ≡ whole → old ≡ whole
regions_all rs i old whole le so_far =
    ap (λ (gs : List Region). let c : Complex = record old { regions = gs } in c) (sym (append-nil old.regions)) ∙ ap (λ gs. plus_regions gs old) (sym (drop_all i rs le)) ∙ so_far

-- ---- polygons

no_polygon : Polygon
no_polygon = record { corners = []; line = 0 }

-- the polygon at a place is the one there before a later place
pub polygon_there : (ps : List Polygon) (i past : ℕ) → i < past → past ≤ length ps → (p : Polygon) × ((d : Polygon) → get_or ps i d ≡ p) × (i < length (take past ps)) × (p ≡ get_or (take past ps) i p)
polygon_there ps i past lt there =
    let p = get_or ps i no_polygon in
    let here : i < length ps = omega arith in
    (p, (λ d. get_or_default ps i d no_polygon here), omega (arith, length-take-le past ps there), get_or_default ps i no_polygon p here ∙ sym (get_or-take past ps i p lt))

pub between_long : (first past : ℕ) (ps : List Polygon) → past ≤ length ps → length (polygons_between first past ps) ≡ past - first
between_long first past ps there = length-drop first (take past ps) ∙ ap (λ (n : ℕ). n - first) (length-take-le past ps there)

joined : (first past : ℕ) (ps : List Polygon) → first ≤ past → take first ps ++ polygons_between first past ps ≡ take past ps
joined first past ps le = ap (λ (qs : List Polygon). qs ++ drop first (take past ps)) (sym (take-take first past ps le)) ∙ take-append-drop first (take past ps)

-- ---- facets

pub to_none : (folded : List ℕ) (c : Complex) → AreFollowing 0 c.facets (length c.polygons) → IsFoldedTo folded c 0 empty_complex
to_none folded c follow = record { facets = refl; polygons = refl; following = follow; no_holes = refl; no_regions = refl }

-- the next facet begins where the polygons so far end
pub next_begins : (folded : List ℕ) (c : Complex) (i : ℕ) (f : Facet) (made : Complex) → i < length c.facets → f ≡ get_or c.facets i f → IsFoldedTo folded c i made
    → (f.first ≡ length made.polygons) × (f.first ≤ f.past) × AreFollowing f.past (drop (i + 1) c.facets) (length c.polygons)
next_begins folded c i f made lt is h = subst (λ fs. AreFollowing (length made.polygons) fs (length c.polygons)) (from_here c.facets i f lt is) h.following

-- one facet more
pub to_more : (folded : List ℕ) (c : Complex) (i : ℕ) (f : Facet) (old new : Complex) → i < length c.facets → f ≡ get_or c.facets i f → f.past ≤ length c.polygons
    → new ≡ plus_folded folded c.polygons f old → IsFoldedTo folded c i old → IsFoldedTo folded c (i + 1) new
to_more folded c i f old new lt is there made h = record {
  facets = ap (λ (v : Complex). v.facets) whole ∙ ap (λ (g : Facet). old.facets ++ g ∷ []) same ∙ ap (λ (fs : List Facet). fs ++ f ∷ []) h.facets
      ∙ ap (λ (g : Facet). take i c.facets ++ g ∷ []) is ∙ sym (take_more c.facets i f lt);
  polygons = ap (λ (v : Complex). v.polygons) whole ∙ ap (λ (ps : List Polygon). ps ++ own) h.polygons ∙ sym (map-append r (take (length old.polygons) c.polygons) (polygons_between f.first f.past c.polygons))
      ∙ ap (map r) (ap (λ (n : ℕ). take n c.polygons ++ polygons_between f.first f.past c.polygons) (sym begins.0) ∙ joined f.first f.past c.polygons begins.1) ∙ ap (λ (n : ℕ). map r (take n c.polygons)) (sym longer);
  following = subst (λ n. AreFollowing n (drop (i + 1) c.facets) (length c.polygons)) (sym longer) begins.2;
  no_holes = ap (λ (v : Complex). v.holes) whole ∙ h.no_holes;
  no_regions = ap (λ (v : Complex). v.regions) whole ∙ h.no_regions;
}
  where
    r : Polygon → Polygon
    r = folded_polygon folded

    own : List Polygon
    own = map r (polygons_between f.first f.past c.polygons)

    begins : (f.first ≡ length old.polygons) × (f.first ≤ f.past) × AreFollowing f.past (drop (i + 1) c.facets) (length c.polygons)
    begins = next_begins folded c i f old lt is h

    long : length own ≡ f.past - f.first
    long = length-map (polygons_between f.first f.past c.polygons) r ∙ between_long f.first f.past c.polygons there

    added : Facet
    added = record { first = length old.polygons; past = length old.polygons + (f.past - f.first); holes = f.holes; marker = f.marker }

    whole : new ≡ record old { polygons = old.polygons ++ own; facets = old.facets ++ added ∷ [] }
    whole = made ∙ facet_made old f.marker own f.holes (f.past - f.first) long

    same : added ≡ f
    same =
        let from = begins.0 in
        let order = begins.1 in
        let past : length old.polygons + (f.past - f.first) ≡ f.past = omega arith in
        λ t. record { first = sym from t; past = past t; holes = f.holes; marker = f.marker }

    longer : length new.polygons ≡ f.past
    longer =
        let from = begins.0 in
        let order = begins.1 in
        omega (arith, ap (λ (v : Complex). length v.polygons) whole, length-append old.polygons own, long)

-- all facets
pub to_all : (folded : List ℕ) (c : Complex) (i : ℕ) (made : Complex) → length c.facets ≤ i → IsFoldedTo folded c i made → made ≡ record (folded_complex folded c) { holes = []; regions = [] }
to_all folded c i made le h =
    let end : length made.polygons ≡ length c.polygons = subst (λ fs. AreFollowing (length made.polygons) fs (length c.polygons)) (drop_all i c.facets le) h.following in
    let polygons = h.polygons ∙ ap (map (folded_polygon folded)) (take_all (length made.polygons) c.polygons (omega (arith, end))) in
    let facets = h.facets ∙ take_all i c.facets le in
    λ t. record { polygons = polygons t; facets = facets t; holes = h.no_holes t; regions = h.no_regions t }

-- corners that name listed points name kept ones afterwards
pub corners_folded : (folded : List ℕ) (count : ℕ) (c : Complex) → HasCornersBelow (length folded) c → ((i : ℕ) → i < length folded → slice_index folded i < count) → HasCornersBelow count (folded_complex folded c)
corners_folded folded count c below to =
    All-map (λ (p : Polygon). All (λ (i : ℕ). i < count) p.corners) (folded_polygon folded) c.polygons
    (λ k p lt. All-map (λ (i : ℕ). i < count) (slice_index folded) (get_or c.polygons k p).corners (λ j d l. to (get_or (get_or c.polygons k p).corners j d) (below k p lt j d l)))
