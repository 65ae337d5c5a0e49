-- The sides that are not inner in their facet, polygon by polygon and facet by facet.
use Rattle.std.proofs.Common.{◌≡◌, ◌≢◌, ℕ, ◌+◌, ◌-◌, ◌<◌, ◌≤◌, Bool, true, false, cond, List, [], ◌∷◌, ◌++◌, map, take, drop, length, get_or, refl, ap, sym, ◌∙◌, arith, length-drop}
use Rattle.std.specs.Prelude.{filter, flat_map, zip, slice_range, HoldsAt}
use Rattle.std.proofs.lemmas.List.{take_more, take_all, map-append, length-map, get_or-map, get_or-drop}
use Rattle.std.proofs.lemmas.List.Elements.{filter-append}
use Rattle.std.proofs.lemmas.List.FromFn.{get_or-range_with_len, length-range_with_len}
use Rattle.std.proofs.lemmas.List.Sums.{fold-append}
use Rattle.std.proofs.lemmas.Grind.{flat_map-append}
use Rattle.std.proofs.lemmas.Slice.Zip.{get_or-zip, length-zip}
use Rattle.geo_laws.specs.Delaunay.{numbers_below}
use Rattle.geo_laws.specs.Complex.{Complex, Polygon, flat_facet, facets, corner_lists}
use Rattle.geo_laws.specs.Facet.{Facet}
use Rattle.geo_laws.specs.Segment.{piece, sides}
use Rattle.geo_laws.specs.declared.complex.Piece.{Piece}
use Rattle.geo_laws.specs.declared.complex.Facet.{Facet as StoredFacet}
use Rattle.merged_facets.specs.Merged.{no_facet, outer_sides, merged_segments}
use Rattle.incidence.specs.Found.{with_piece, with_pieces}
use Rattle.incidence.proofs.Found.{with_pieces-none}
use Rattle.incidence.proofs.Polygons.{sides_before, IsNext}
use Rattle.merged_facets.proofs.Once.{one_more, none_more}

pub append_nil : {X : Type 0} (xs : List X) → xs ++ [] ≡ xs
append_nil [] = refl
append_nil (x ∷ xs) = ap (λ zs. x ∷ zs) (append_nil xs)

-- ---- the sides of a polygon that pass

filter_one : (keep : Piece → Bool) (xs : List Piece) (r : Piece) → filter keep (xs ++ r ∷ []) ≡ filter keep xs ++ cond (keep r) (r ∷ []) []
filter_one keep xs r = filter-append keep xs (r ∷ [])

-- a side that passes
pub outer_put : (keep : Piece → Bool) (start old new : List Piece) (polygon : List ℕ) (k next a b : ℕ) → k < length polygon → IsNext polygon k next → get_or polygon k 0 ≡ a → get_or polygon next 0 ≡ b → a ≢ b
    → keep (piece a b 0) ≡ true → old ≡ with_pieces start (filter keep (sides_before k polygon)) → new ≡ with_piece old (piece a b 0) → new ≡ with_pieces start (filter keep (sides_before (k + 1) polygon))
outer_put keep start old new polygon k next a b h is first second differs passes before put =
    put ∙ ap (λ ps. with_piece ps (piece a b 0)) before ∙ sym (fold-append with_piece start (filter keep (sides_before k polygon)) (piece a b 0 ∷ []))
    ∙ sym (ap (with_pieces start) (ap (filter keep) (one_more polygon k next a b h is first second differs) ∙ filter_one keep (sides_before k polygon) (piece a b 0)
    ∙ ap (λ t. filter keep (sides_before k polygon) ++ cond t (piece a b 0 ∷ []) []) passes))

-- one that does not
pub outer_skip : (keep : Piece → Bool) (start old : List Piece) (polygon : List ℕ) (k next a b : ℕ) → k < length polygon → IsNext polygon k next → get_or polygon k 0 ≡ a → get_or polygon next 0 ≡ b → a ≢ b
    → keep (piece a b 0) ≡ false → old ≡ with_pieces start (filter keep (sides_before k polygon)) → old ≡ with_pieces start (filter keep (sides_before (k + 1) polygon))
outer_skip keep start old polygon k next a b h is first second differs fails before =
    before ∙ sym (ap (with_pieces start) (ap (filter keep) (one_more polygon k next a b h is first second differs) ∙ filter_one keep (sides_before k polygon) (piece a b 0)
    ∙ ap (λ t. filter keep (sides_before k polygon) ++ cond t (piece a b 0 ∷ []) []) fails ∙ append_nil (filter keep (sides_before k polygon))))

-- and a corner whose next one is the same point
pub outer_none : (keep : Piece → Bool) (start old : List Piece) (polygon : List ℕ) (k next a b : ℕ) → k < length polygon → IsNext polygon k next → get_or polygon k 0 ≡ a → get_or polygon next 0 ≡ b → a ≡ b
    → old ≡ with_pieces start (filter keep (sides_before k polygon)) → old ≡ with_pieces start (filter keep (sides_before (k + 1) polygon))
outer_none keep start old polygon k next a b h is first second same before =
    before ∙ sym (ap (λ ps. with_pieces start (filter keep ps)) (none_more polygon k next a b h is first second same))

-- ---- the polygons of a facet

abbrev pub no_polygon : Polygon
no_polygon = record { corners = []; line = 0 }

pub run_none : (ps : List Polygon) (a b : ℕ) → b ≡ a → corner_lists (slice_range ps a b) ≡ []
run_none ps a b e = let z : b - a ≡ 0 = omega arith in ap (λ n. map (λ (q : Polygon). q.corners) (take n (drop a ps))) z

pub run_more : (ps : List Polygon) (a q : ℕ) (p : List ℕ) → a ≤ q → q < length ps → HoldsAt (λ x. x.corners ≡ p) ps q → corner_lists (slice_range ps a (q + 1)) ≡ corner_lists (slice_range ps a q) ++ p ∷ []
run_more ps a q p l u is =
    let n : q + 1 - a ≡ (q - a) + 1 = omega arith in
    let d = length-drop a ps in
    let s : a + (q - a) ≡ q = omega arith in
    ap (λ n. map (λ (x : Polygon). x.corners) (take n (drop a ps))) n
    ∙ ap (map (λ (x : Polygon). x.corners)) (take_more (drop a ps) (q - a) no_polygon (omega arith))
    ∙ map-append (λ (x : Polygon). x.corners) (take (q - a) (drop a ps)) (get_or (drop a ps) (q - a) no_polygon ∷ [])
    ∙ ap (λ (x : Polygon). map (λ (x : Polygon). x.corners) (take (q - a) (drop a ps)) ++ x.corners ∷ []) (get_or-drop a ps (q - a) no_polygon ∙ ap (λ n. get_or ps n no_polygon) s)
    ∙ ap (λ (xs : List ℕ). corner_lists (slice_range ps a q) ++ xs ∷ []) (is no_polygon)

-- what was put in of the polygons from the first to before q
abbrev pub AreOuterTo : (Piece → Bool) → List Polygon → ℕ → ℕ → List Piece → List Piece → Type 0
AreOuterTo keep ps a q start new = new ≡ with_pieces start (filter keep (flat_map sides (corner_lists (slice_range ps a q))))

pub outer_first : (keep : Piece → Bool) (ps : List Polygon) (a : ℕ) (start : List Piece) → AreOuterTo keep ps a a start start
outer_first keep ps a start = sym (ap (λ qs. with_pieces start (filter keep (flat_map sides qs))) (run_none ps a a refl))

pub outer_more : (keep : Piece → Bool) (ps : List Polygon) (a q : ℕ) (p : List ℕ) (start old new : List Piece) → a ≤ q → q < length ps → HoldsAt (λ x. x.corners ≡ p) ps q → AreOuterTo keep ps a q start old
    → new ≡ with_pieces old (filter keep (sides p)) → AreOuterTo keep ps a (q + 1) start new
outer_more keep ps a q p start old new l u is before put =
    put ∙ ap (λ xs. with_pieces xs (filter keep (sides p))) before ∙ sym (fold-append with_piece start (filter keep (flat_map sides (corner_lists (slice_range ps a q)))) (filter keep (sides p)))
    ∙ sym (ap (λ qs. with_pieces start (filter keep (flat_map sides qs))) (run_more ps a q p l u is)
    ∙ ap (λ xs. with_pieces start (filter keep xs)) (flat_map-append sides (corner_lists (slice_range ps a q)) (p ∷ []) ∙ ap (λ xs. flat_map sides (corner_lists (slice_range ps a q)) ++ xs) (append_nil (sides p)))
    ∙ ap (with_pieces start) (filter-append keep (flat_map sides (corner_lists (slice_range ps a q))) (sides p)))

-- ---- the facets

abbrev pub numbered : Complex → List (ℕ × Facet)
numbered c = zip (numbers_below (length c.facets)) (facets c)

abbrev pub AreOuterFacets : (ℕ → Piece → Bool) → Complex → ℕ → List Piece → Type 0
AreOuterFacets inner c f new = new ≡ with_pieces [] (flat_map (outer_sides inner) (take f (numbered c)))

pub numbered_at : (c : Complex) (f : ℕ) (x : StoredFacet) → f < length c.facets → HoldsAt (λ g. g ≡ x) c.facets f → get_or (numbered c) f (0, no_facet) ≡ (f, flat_facet c.polygons x)
numbered_at c f x l is =
    let n = length-range_with_len 0 (length c.facets) in
    let m = length-map c.facets (flat_facet c.polygons) in
    get_or-zip (numbers_below (length c.facets)) (facets c) f (0, no_facet) (omega arith) (omega arith)
    ∙ (λ j. (number j, (get_or-map (flat_facet c.polygons) c.facets f x no_facet l ∙ ap (flat_facet c.polygons) (is x)) j))
  where
    plus : (n : ℕ) → 0 + n ≡ n
    plus n = omega arith

    number : get_or (numbers_below (length c.facets)) f 0 ≡ f
    number = get_or-range_with_len 0 (length c.facets) f 0 l ∙ plus f

pub numbered_length : (c : Complex) → length (numbered c) ≡ length c.facets
numbered_length c =
    let n = length-range_with_len 0 (length c.facets) in
    let m = length-map c.facets (flat_facet c.polygons) in
    let z = length-zip (numbers_below (length c.facets)) (facets c) in
    omega arith

pub facet_more : (inner : ℕ → Piece → Bool) (c : Complex) (f : ℕ) (x : StoredFacet) (old new : List Piece) → f < length c.facets → HoldsAt (λ g. g ≡ x) c.facets f → AreOuterFacets inner c f old
    → new ≡ with_pieces old (outer_sides inner (f, flat_facet c.polygons x)) → AreOuterFacets inner c (f + 1) new
facet_more inner c f x old new l is before put =
    let n = numbered_length c in
    put ∙ ap (λ xs. with_pieces xs (outer_sides inner (f, flat_facet c.polygons x))) before
    ∙ sym (fold-append with_piece [] (flat_map (outer_sides inner) (take f (numbered c))) (outer_sides inner (f, flat_facet c.polygons x)))
    ∙ sym (ap (λ (es : List (ℕ × Facet)). with_pieces [] (flat_map (outer_sides inner) es)) (take_more (numbered c) f (0, no_facet) (omega arith) ∙ ap (λ (e : ℕ × Facet). take f (numbered c) ++ e ∷ []) (numbered_at c f x l is))
    ∙ ap (with_pieces []) (flat_map-append (outer_sides inner) (take f (numbered c)) ((f, flat_facet c.polygons x) ∷ [])
    ∙ ap (λ xs. flat_map (outer_sides inner) (take f (numbered c)) ++ xs) (append_nil (outer_sides inner (f, flat_facet c.polygons x)))))

pub all_facets : (inner : ℕ → Piece → Bool) (c : Complex) (f : ℕ) (found : List Piece) → f ≡ length c.facets → AreOuterFacets inner c f found → found ≡ merged_segments inner c
all_facets inner c f found e is =
    let n = numbered_length c in
    is ∙ ap (λ (es : List (ℕ × Facet)). with_pieces [] (flat_map (outer_sides inner) es)) (take_all f (numbered c) (omega arith)) ∙ with_pieces-none (flat_map (outer_sides inner) (numbered c))
