-- A complex that is copied facet by facet.
use Rattle.std.proofs.Common.{◌≡◌, ℕ, ◌+◌, ◌-◌, ◌<◌, ◌≤◌, List, [], ◌∷◌, ◌++◌, length, get_or, drop, take, refl, sym, ap, subst, ◌∙◌, arith, length-append}
use Rattle.std.specs.Prelude.{map}
use Rattle.std.proofs.lemmas.List.{drop_all, take-append-drop, take-take, take_all, take_more}
use Rattle.geo_laws.specs.declared.complex.Facet.{Facet}
use Rattle.geo_laws.specs.Complex.{Polygon, Complex, AreFollowing, empty_complex}
use Rattle.plc_files.specs.Folding.{polygons_between, plus_whole_facet}
use Rattle.plc_files.proofs.Appended.{from_here, facet_made}
use Rattle.plc_files.proofs.Folded.{between_long}
use Rattle.tetfit_run.specs.Holes.{IsCopiedTo}

-- ---- polygons

pub map_same : {X : Type 0} (xs : List X) → map (λ x. x) xs ≡ xs
map_same [] = refl
map_same (x ∷ xs) = ap (λ ys. x ∷ ys) (map_same xs)

joined : (first past : ℕ) (ps : List Polygon) → first ≤ past → take first ps ++ polygons_between first past ps ≡ take past ps
joined first past ps le = ap (λ (qs : List Polygon). qs ++ drop first (take past ps)) (sym (take-take first past ps le)) ∙ take-append-drop first (take past ps)

-- ---- facets

pub copied_none : (c : Complex) → AreFollowing 0 c.facets (length c.polygons) → IsCopiedTo c 0 empty_complex
copied_none c follow = record { facets = refl; polygons = refl; following = follow; no_holes = refl; no_regions = refl }

-- the next facet begins where the polygons so far end
pub next_begins : (c : Complex) (i : ℕ) (f : Facet) (made : Complex) → i < length c.facets → f ≡ get_or c.facets i f → IsCopiedTo c i made
    → (f.first ≡ length made.polygons) × (f.first ≤ f.past) × AreFollowing f.past (drop (i + 1) c.facets) (length c.polygons)
next_begins c i f made lt is h = subst (λ fs. AreFollowing (length made.polygons) fs (length c.polygons)) (from_here c.facets i f lt is) h.following

-- one facet more
pub copied_more : (c : Complex) (i : ℕ) (f : Facet) (old new : Complex) → i < length c.facets → f ≡ get_or c.facets i f → f.past ≤ length c.polygons
    → new ≡ plus_whole_facet (polygons_between f.first f.past c.polygons) f.holes f.marker old → IsCopiedTo c i old → IsCopiedTo c (i + 1) new
copied_more c i f old new lt is there made h = record {
  facets = ap (λ (v : Complex). v.facets) whole ∙ ap (λ (g : Facet). old.facets ++ g ∷ []) same ∙ ap (λ (fs : List Facet). fs ++ f ∷ []) h.facets
      ∙ ap (λ (g : Facet). take i c.facets ++ g ∷ []) is ∙ sym (take_more c.facets i f lt);
  polygons = ap (λ (v : Complex). v.polygons) whole ∙ ap (λ (ps : List Polygon). ps ++ own) h.polygons ∙ ap (λ (n : ℕ). take n c.polygons ++ own) (sym begins.0)
      ∙ joined f.first f.past c.polygons begins.1 ∙ ap (λ (n : ℕ). take n c.polygons) (sym longer);
  following = subst (λ n. AreFollowing n (drop (i + 1) c.facets) (length c.polygons)) (sym longer) begins.2;
  no_holes = ap (λ (v : Complex). v.holes) whole ∙ h.no_holes;
  no_regions = ap (λ (v : Complex). v.regions) whole ∙ h.no_regions;
}
  where
    own : List Polygon
    own = polygons_between f.first f.past c.polygons

    begins : (f.first ≡ length old.polygons) × (f.first ≤ f.past) × AreFollowing f.past (drop (i + 1) c.facets) (length c.polygons)
    begins = next_begins c i f old lt is h

    long : length own ≡ f.past - f.first
    long = between_long f.first f.past c.polygons there

    added : Facet
    added = record { first = length old.polygons; past = length old.polygons + (f.past - f.first); holes = f.holes; marker = f.marker }

    whole : new ≡ record old { polygons = old.polygons ++ own; facets = old.facets ++ added ∷ [] }
    whole = made ∙ facet_made old f.marker own f.holes (f.past - f.first) long

    same : added ≡ f
    same =
        let from = begins.0 in
        let order = begins.1 in
        let past : length old.polygons + (f.past - f.first) ≡ f.past = omega arith in
        λ t. record { first = sym from t; past = past t; holes = f.holes; marker = f.marker }

    longer : length new.polygons ≡ f.past
    longer =
        let from = begins.0 in
        let order = begins.1 in
        omega (arith, ap (λ (v : Complex). length v.polygons) whole, length-append old.polygons own, long)

-- all facets
pub copied_all : (c : Complex) (i : ℕ) (made : Complex) → length c.facets ≤ i → IsCopiedTo c i made → made ≡ record c { holes = []; regions = [] }
copied_all c i made le h =
    let end : length made.polygons ≡ length c.polygons = subst (λ fs. AreFollowing (length made.polygons) fs (length c.polygons)) (drop_all i c.facets le) h.following in
    let polygons = h.polygons ∙ take_all (length made.polygons) c.polygons (omega (arith, end)) in
    let facets = h.facets ∙ take_all i c.facets le in
    λ t. record { polygons = polygons t; facets = facets t; holes = h.no_holes t; regions = h.no_regions t }
