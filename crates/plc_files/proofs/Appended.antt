-- A complex that grows part by part.
use Rattle.std.proofs.Common.{◌≡◌, ℕ, suc, ◌+◌, ◌<◌, ◌≤◌, List, [], ◌∷◌, ◌++◌, length, get_or, drop, refl, sym, ap, ◌∙◌, arith, append_assoc, length-append, Option}
use Rattle.std.specs.Prelude.{ℤ, map}
use Rattle.std.proofs.lemmas.List.{append-nil, drop_all}
use Rattle.std.proofs.Math.Seq.{drop-cons}
use Rattle.sign_predicates.specs.Point.{RationalPoint}
use Rattle.geo_laws.specs.declared.complex.Facet.{Facet as BoundFacet}
use Rattle.geo_laws.specs.declared.complex.Region.{Region}
use Rattle.geo_laws.specs.Complex.{Polygon, Complex, change_last, with_facet, with_polygon, with_facet_hole, with_hole, with_region}
use Rattle.geo_laws.proofs.Complexes.{length_change_last}
use Rattle.plc_files.specs.Appending.{plus_polygons, plus_facet_holes, plus_holes, plus_regions}

-- a list from an item on
pub from_here : {X : Type 0} (xs : List X) (i : ℕ) (x : X) → i < length xs → x ≡ get_or xs i x → drop i xs ≡ x ∷ drop (i + 1) xs
from_here xs i x lt is =
    let e : suc i ≡ i + 1 = omega arith in
    drop-cons xs i x lt ∙ ap (λ y. y ∷ drop (suc i) xs) (sym is) ∙ ap (λ (j : ℕ). x ∷ drop j xs) e

-- ---- the last facet

past_first : {X : Type 0} (f : X → X) (x : X) (xs : List X) → 0 < length xs → change_last f (x ∷ xs) ≡ x ∷ change_last f xs
past_first f x [] some = absurd (omega arith)
past_first f x (y ∷ ys) some = refl

changed_twice : {X : Type 0} (f g h : X → X) (xs : List X) → ((x : X) → g (f x) ≡ h x) → change_last g (change_last f xs) ≡ change_last h xs
changed_twice f g h [] same = refl
changed_twice f g h (x ∷ []) same = ap (λ y. y ∷ []) (same x)
changed_twice f g h (x ∷ y ∷ ys) same =
    past_first g x (change_last f (y ∷ ys)) (omega (arith, length_change_last f (y ∷ ys))) ∙ ap (λ zs. x ∷ zs) (changed_twice f g h (y ∷ ys) same)

unchanged : {X : Type 0} (f : X → X) (xs : List X) → ((x : X) → f x ≡ x) → change_last f xs ≡ xs
unchanged f [] same = refl
unchanged f (x ∷ []) same = ap (λ y. y ∷ []) (same x)
unchanged f (x ∷ y ∷ ys) same = ap (λ zs. x ∷ zs) (unchanged f (y ∷ ys) same)

pub last_of_pushed : {X : Type 0} (f : X → X) (xs : List X) (x : X) → change_last f (xs ++ x ∷ []) ≡ xs ++ f x ∷ []
last_of_pushed f [] x = refl
last_of_pushed f (y ∷ ys) x = past_first f y (ys ++ x ∷ []) (omega (arith, length-append ys (x ∷ []))) ∙ ap (λ zs. y ∷ zs) (last_of_pushed f ys x)

-- ---- polygons of the last facet

raise : ℕ → BoundFacet → BoundFacet
raise n f = record f { past = f.past + n }

raised : (n m k : ℕ) (f : BoundFacet) → m + n ≡ k → raise n (raise m f) ≡ raise k f
unfolding raise
raised n m k f is = let e : f.past + m + n ≡ f.past + k = omega (arith, is) in ap (λ (past : ℕ). let g : BoundFacet = record f { past = past } in g) e

raised_none : (f : BoundFacet) → raise 0 f ≡ f
unfolding raise
raised_none f = let e : f.past + 0 ≡ f.past = omega arith in ap (λ (past : ℕ). let g : BoundFacet = record f { past = past } in g) e

parts : Complex → List Polygon → List BoundFacet → Complex
parts c ps fs = record c { polygons = ps; facets = fs }

pub polygons_step : (c : Complex) (p : Polygon) (ps : List Polygon) → plus_polygons ps (with_polygon p.corners p.line c) ≡ plus_polygons (p ∷ ps) c
unfolding parts raise
polygons_step c p ps =
    let facets = changed_twice (raise 1) (raise (length ps)) (raise (suc (length ps))) c.facets (λ f. raised (length ps) 1 (suc (length ps)) f (omega arith)) in
    ap (λ (qs : List Polygon). parts c qs (change_last (raise (length ps)) (change_last (raise 1) c.facets))) (append_assoc c.polygons (p ∷ []) ps)
    ∙ ap (parts c (c.polygons ++ p ∷ ps)) facets

pub polygons_end : (c : Complex) → plus_polygons [] c ≡ c
unfolding parts raise
polygons_end c =
    ap (λ (qs : List Polygon). parts c qs (change_last (raise 0) c.facets)) (append-nil c.polygons)
    ∙ ap (parts c c.polygons) (unchanged (raise 0) c.facets raised_none)

-- ---- hole points of the last facet

with_holes : List RationalPoint → BoundFacet → BoundFacet
with_holes hs f = record f { holes = f.holes ++ hs }

pub holes_step : (c : Complex) (h : RationalPoint) (hs : List RationalPoint) → plus_facet_holes hs (with_facet_hole h c) ≡ plus_facet_holes (h ∷ hs) c
unfolding parts with_holes
holes_step c h hs =
    ap (parts c c.polygons) (changed_twice (with_holes (h ∷ [])) (with_holes hs) (with_holes (h ∷ hs)) c.facets
    (λ f. ap (λ (own : List RationalPoint). let g : BoundFacet = record f { holes = own } in g) (append_assoc f.holes (h ∷ []) hs)))

pub holes_end : (c : Complex) → plus_facet_holes [] c ≡ c
unfolding parts with_holes
holes_end c =
    ap (parts c c.polygons) (unchanged (with_holes []) c.facets (λ f. ap (λ (own : List RationalPoint). let g : BoundFacet = record f { holes = own } in g) (append-nil f.holes)))

-- ---- as loops append them

pub holes_more : {X : Type 0} (f : X → RationalPoint) (xs : List X) (i : ℕ) (x : X) (at : RationalPoint) (old new whole : Complex) → i < length xs → x ≡ get_or xs i x → at ≡ f x → new ≡ with_facet_hole at old
    → plus_facet_holes (map f (drop i xs)) old ≡ whole → plus_facet_holes (map f (drop (i + 1) xs)) new ≡ whole
holes_more f xs i x at old new whole lt is here made so_far =
    let rest = map f (drop (i + 1) xs) in
    ap (plus_facet_holes rest) (made ∙ ap (λ (h : RationalPoint). with_facet_hole h old) here) ∙ holes_step old (f x) rest
    ∙ ap (λ ys. plus_facet_holes (map f ys) old) (sym (from_here xs i x lt is)) ∙ so_far

pub holes_all : {X : Type 0} (f : X → RationalPoint) (xs : List X) (i : ℕ) (old whole : Complex) → length xs ≤ i → plus_facet_holes (map f (drop i xs)) old ≡ whole → old ≡ whole
holes_all f xs i old whole le so_far = sym (holes_end old) ∙ ap (λ ys. plus_facet_holes (map f ys) old) (sym (drop_all i xs le)) ∙ so_far

pub polygons_more : {X : Type 0} (f : X → Polygon) (xs : List X) (i : ℕ) (x : X) (corners : List ℕ) (line : ℕ) (old new whole : Complex) → i < length xs → x ≡ get_or xs i x → corners ≡ (f x).corners → line ≡ (f x).line → new ≡ with_polygon corners line old
    → plus_polygons (map f (drop i xs)) old ≡ whole → plus_polygons (map f (drop (i + 1) xs)) new ≡ whole
polygons_more f xs i x corners line old new whole lt is here on made so_far =
    let rest = map f (drop (i + 1) xs) in
    ap (plus_polygons rest) (made ∙ ap (λ (cs : List ℕ). with_polygon cs line old) here ∙ ap (λ (l : ℕ). with_polygon (f x).corners l old) on) ∙ polygons_step old (f x) rest
    ∙ ap (λ ys. plus_polygons (map f ys) old) (sym (from_here xs i x lt is)) ∙ so_far

pub polygons_all : {X : Type 0} (f : X → Polygon) (xs : List X) (i : ℕ) (old whole : Complex) → length xs ≤ i → plus_polygons (map f (drop i xs)) old ≡ whole → old ≡ whole
polygons_all f xs i old whole le so_far = sym (polygons_end old) ∙ ap (λ ys. plus_polygons (map f ys) old) (sym (drop_all i xs le)) ∙ so_far

-- the last facet stays the last
pub facets_counted : (change : BoundFacet → BoundFacet) (old new : Complex) → new.facets ≡ change_last change old.facets → length new.facets ≡ length old.facets
facets_counted change old new made = ap length made ∙ length_change_last change old.facets

-- ---- facets

pub facet_made : (c : Complex) (marker : Option ℤ) (ps : List Polygon) (hs : List RationalPoint) (n : ℕ) → length ps ≡ n
    → plus_facet_holes hs (plus_polygons ps (with_facet marker c)) ≡ record c { polygons = c.polygons ++ ps; facets = c.facets ++ record { first = length c.polygons; past = length c.polygons + n; holes = hs; marker = marker } ∷ [] }
unfolding parts with_holes raise
facet_made c marker ps hs n is =
    let empty : BoundFacet = record { first = length c.polygons; past = length c.polygons; holes = []; marker = marker } in
    ap (λ (fs : List BoundFacet). parts c (c.polygons ++ ps) (change_last (with_holes hs) fs)) (last_of_pushed (raise (length ps)) c.facets empty)
    ∙ ap (parts c (c.polygons ++ ps)) (last_of_pushed (with_holes hs) c.facets (raise (length ps) empty))
    ∙ ap (λ (k : ℕ). let f : BoundFacet = record { first = length c.polygons; past = length c.polygons + k; holes = hs; marker = marker } in parts c (c.polygons ++ ps) (c.facets ++ f ∷ [])) is

-- ---- hole points and regions

pub plain_holes_more : {X : Type 0} (f : X → RationalPoint) (xs : List X) (i : ℕ) (x : X) (at : RationalPoint) (old new whole : Complex) → i < length xs → x ≡ get_or xs i x → at ≡ f x → new ≡ with_hole at old
    → plus_holes (map f (drop i xs)) old ≡ whole → plus_holes (map f (drop (i + 1) xs)) new ≡ whole
plain_holes_more f xs i x at old new whole lt is here made so_far =
    let rest = map f (drop (i + 1) xs) in
    ap (plus_holes rest) (made ∙ ap (λ (h : RationalPoint). with_hole h old) here)
    ∙ ap (λ (hs : List RationalPoint). let c : Complex = record old { holes = hs } in c) (append_assoc old.holes (f x ∷ []) rest)
    ∙ ap (λ ys. plus_holes (map f ys) old) (sym (from_here xs i x lt is)) ∙ so_far

pub plain_holes_all : {X : Type 0} (f : X → RationalPoint) (xs : List X) (i : ℕ) (old whole : Complex) → length xs ≤ i → plus_holes (map f (drop i xs)) old ≡ whole → old ≡ whole
plain_holes_all f xs i old whole le so_far =
    ap (λ (hs : List RationalPoint). let c : Complex = record old { holes = hs } in c) (sym (append-nil old.holes)) ∙ ap (λ ys. plus_holes (map f ys) old) (sym (drop_all i xs le)) ∙ so_far

pub regions_more : {X : Type 0} (f : X → Region) (xs : List X) (i : ℕ) (x : X) (at : RationalPoint) (attribute : List ℕ) (old new whole : Complex) → i < length xs → x ≡ get_or xs i x → at ≡ (f x).at → attribute ≡ (f x).attribute → new ≡ with_region at attribute old
    → plus_regions (map f (drop i xs)) old ≡ whole → plus_regions (map f (drop (i + 1) xs)) new ≡ whole
regions_more f xs i x at attribute old new whole lt is here named made so_far =
    let rest = map f (drop (i + 1) xs) in
    ap (plus_regions rest) (made ∙ ap (λ (h : RationalPoint). with_region h attribute old) here ∙ ap (λ (a : List ℕ). with_region (f x).at a old) named)
    ∙ ap (λ (rs : List Region). let c : Complex = record old { regions = rs } in c) (append_assoc old.regions (f x ∷ []) rest)
    ∙ ap (λ ys. plus_regions (map f ys) old) (sym (from_here xs i x lt is)) ∙ so_far

pub regions_all : {X : Type 0} (f : X → Region) (xs : List X) (i : ℕ) (old whole : Complex) → length xs ≤ i → plus_regions (map f (drop i xs)) old ≡ whole → old ≡ whole
regions_all f xs i old whole le so_far =
    ap (λ (rs : List Region). let c : Complex = record old { regions = rs } in c) (sym (append-nil old.regions)) ∙ ap (λ ys. plus_regions (map f ys) old) (sym (drop_all i xs le)) ∙ so_far
