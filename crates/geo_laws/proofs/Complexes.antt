-- Complexes, as parts are appended.
use Rattle.std.proofs.Common.{◌≡◌, ℕ, zero, suc, ◌+◌, ◌-◌, ◌<◌, ◌≤◌, List, [], ◌∷◌, ◌++◌, length, get_or, set, take, drop, refl, sym, ap, ◌∙◌, subst, arith, length-append}
use Rattle.std.specs.Prelude.{map, slice_range, All, flat_map}
use Rattle.std.proofs.lemmas.List.{take_all, take-append-le, drop-append-le, drop_all, length-drop, map-append, get_or-map, drop-drop, take-append-drop}
use Rattle.std.proofs.lemmas.List.Elements.{All-push}
use Rattle.sign_predicates.specs.Point.{RationalPoint}
use Rattle.geo_laws.specs.Complex.{Polygon, Complex, corner_lists, flat_facet, facets, AreFollowing, change_last}
use Rattle.geo_laws.specs.Stored.{polygon_at, polygons_at, IsWithin}
use Rattle.geo_laws.specs.declared.complex.Facet.{Facet}
use Rattle.geo_laws.specs.declared.complex.Span.{Span}

-- ---- polygons

polygon_kept : (corners more : List ℕ) (s : Span) → IsWithin (length corners) s → polygon_at (corners ++ more) s ≡ polygon_at corners s
polygon_kept corners more s w =
    let order = w.order in
    let end = w.end in
    let le : s.first ≤ length corners = omega arith in
    let cut : s.past - s.first ≤ length (drop s.first corners) = omega (arith, length-drop s.first corners) in
    let same : slice_range (corners ++ more) s.first s.past ≡ slice_range corners s.first s.past =
    ap (take (s.past - s.first)) (drop-append-le s.first corners more le) ∙ take-append-le (s.past - s.first) (drop s.first corners) more cut in
    ap (λ (own : List ℕ). let p : Polygon = record { corners = own; line = s.line } in p) same

-- further corners change no polygon
pub polygons_kept : (corners more : List ℕ) (spans : List Span) → All (IsWithin (length corners)) spans → polygons_at (corners ++ more) spans ≡ polygons_at corners spans
polygons_kept corners more [] w = refl
polygons_kept corners more (s ∷ ss) w =
    let rest = polygons_kept corners more ss (λ k d lt. w (suc k) d (omega arith)) in
    ap (λ (p : Polygon). p ∷ polygons_at (corners ++ more) ss) (polygon_kept corners more s (w 0 s (omega arith))) ∙ ap (λ (ps : List Polygon). polygon_at corners s ∷ ps) rest

-- the corners that were appended last
own_corners : (corners own : List ℕ) (first past : ℕ) → first ≡ length corners → past ≡ length (corners ++ own) → slice_range (corners ++ own) first past ≡ own
own_corners corners own first past from to =
    let le : first ≤ length corners = omega arith in
    let none : drop first corners ≡ [] = drop_all first corners (omega arith) in
    ap (take (past - first)) (drop-append-le first corners own le ∙ ap (λ (front : List ℕ). front ++ own) none) ∙ take_all (past - first) own (omega (arith, length-append corners own))

pub polygons_pushed : (corners own : List ℕ) (spans : List Span) (first past line : ℕ) → All (IsWithin (length corners)) spans → first ≡ length corners → past ≡ length (corners ++ own)
    → polygons_at (corners ++ own) (spans ++ record { first = first; past = past; line = line } ∷ []) ≡ polygons_at corners spans ++ record { corners = own; line = line } ∷ []
polygons_pushed corners own spans first past line w from to =
    let s : Span = record { first = first; past = past; line = line } in
    let one : Polygon = polygon_at (corners ++ own) s in
    let last : one ≡ record { corners = own; line = line } = ap (λ (cs : List ℕ). let p : Polygon = record { corners = cs; line = line } in p) (own_corners corners own first past from to) in
    map-append (polygon_at (corners ++ own)) spans (s ∷ [])
    ∙ ap (λ (ps : List Polygon). ps ++ one ∷ []) (polygons_kept corners own spans w)
    ∙ ap (λ (p : Polygon). polygons_at corners spans ++ p ∷ []) last

pub within_more : (count more : ℕ) (spans : List Span) → All (IsWithin count) spans → count ≤ more → All (IsWithin more) spans
within_more count more spans w le k d lt =
    let here = w k d lt in
    let end = here.end in
    record { order = here.order; end = omega arith }

pub within_pushed : (corners own : List ℕ) (spans : List Span) (first past line : ℕ) → All (IsWithin (length corners)) spans → first ≡ length corners → past ≡ length (corners ++ own)
    → All (IsWithin (length (corners ++ own))) (spans ++ record { first = first; past = past; line = line } ∷ [])
within_pushed corners own spans first past line w from to =
    let n = length-append corners own in
    All-push (IsWithin (length (corners ++ own))) spans (record { first = first; past = past; line = line })
    (within_more (length corners) (length (corners ++ own)) spans w (omega arith)) (record { order = omega arith; end = omega arith })

-- a polygon by its place
pub polygon_here : (corners : List ℕ) (spans : List Span) (s : Span) (k : ℕ) → k < length spans → ((d : Span) → get_or spans k d ≡ s) → (d : Polygon) → get_or (polygons_at corners spans) k d ≡ polygon_at corners s
polygon_here corners spans s k lt is d = get_or-map (polygon_at corners) spans k s d lt ∙ ap (polygon_at corners) (is s)

-- ---- the last item of a list

pub last_changed : {X : Type 0} (change : X → X) (xs : List X) (i : ℕ) (x : X) → length xs ≡ suc i → x ≡ get_or xs i x → set xs i (change x) ≡ change_last change xs
last_changed change [] i x some is = absurd (omega arith)
last_changed change (y ∷ []) zero x some is = ap (λ z. change z ∷ []) is
last_changed change (y ∷ []) (suc i) x some is = absurd (omega arith)
last_changed change (y ∷ z ∷ zs) zero x some is = absurd (omega arith)
last_changed change (y ∷ z ∷ zs) (suc i) x some is = ap (λ xs. y ∷ xs) (last_changed change (z ∷ zs) i x (omega arith) is)

pub last_kept : {X : Type 0} (xs : List X) (i : ℕ) (x : X) → x ≡ get_or xs i x → i < length xs → set xs i x ≡ xs
last_kept [] i x is some = absurd (omega arith)
last_kept (y ∷ ys) zero x is some = ap (λ z. z ∷ ys) is
last_kept (y ∷ ys) (suc i) x is some = ap (λ xs. y ∷ xs) (last_kept ys i x is (omega arith))

pub length_change_last : {X : Type 0} (change : X → X) (xs : List X) → length (change_last change xs) ≡ length xs
length_change_last change [] = refl
length_change_last change (x ∷ []) = refl
length_change_last change (x ∷ y ∷ ys) = ap suc (length_change_last change (y ∷ ys))

-- ---- facets

pub facet_follows : (from end : ℕ) (fs : List Facet) (f : Facet) → AreFollowing from fs end → f.first ≡ end → f.past ≡ end → AreFollowing from (fs ++ f ∷ []) end
facet_follows from end [] f follow first past = (first ∙ sym follow, omega arith, past)
facet_follows from end (g ∷ gs) f follow first past = (follow.0, follow.1, facet_follows g.past end gs f follow.2 first past)

-- one polygon more
pub last_follows : (from end : ℕ) (fs : List Facet) (change : Facet → Facet) → ((f : Facet) → ((change f).first ≡ f.first) × ((change f).past ≡ f.past + 1)) → 0 < length fs → AreFollowing from fs end → AreFollowing from (change_last change fs) (end + 1)
last_follows from end [] change says some follow = absurd (omega arith)
last_follows from end (f ∷ []) change says some follow =
    let first = (says f).0 in
    let past = (says f).1 in
    (first ∙ follow.0, omega (arith, follow.1), omega (arith, follow.2))
last_follows from end (f ∷ g ∷ gs) change says some follow = (follow.0, follow.1, last_follows f.past end (g ∷ gs) change says (omega arith) follow.2)

-- no polygon more
pub last_stays : (from end : ℕ) (fs : List Facet) (change : Facet → Facet) → ((f : Facet) → ((change f).first ≡ f.first) × ((change f).past ≡ f.past)) → AreFollowing from fs end → AreFollowing from (change_last change fs) end
last_stays from end [] change says follow = follow
last_stays from end (f ∷ []) change says follow =
    let first = (says f).0 in
    let past = (says f).1 in
    (first ∙ follow.0, omega (arith, follow.1), past ∙ follow.2)
last_stays from end (f ∷ g ∷ gs) change says follow = (follow.0, follow.1, last_stays f.past end (g ∷ gs) change says follow.2)

-- the last facet ends where the polygons end
pub last_ends : (from end : ℕ) (fs : List Facet) (i : ℕ) (d : Facet) → AreFollowing from fs end → length fs ≡ suc i → (get_or fs i d).past ≡ end
last_ends from end [] i d follow some = absurd (omega arith)
last_ends from end (f ∷ []) zero d follow some = follow.2
last_ends from end (f ∷ []) (suc i) d follow some = absurd (omega arith)
last_ends from end (f ∷ g ∷ gs) zero d follow some = absurd (omega arith)
last_ends from end (f ∷ g ∷ gs) (suc i) d follow some = last_ends f.past end (g ∷ gs) i d follow.2 (omega arith)

pub ends_at : (from end : ℕ) (fs : List Facet) → AreFollowing from fs end → from ≤ end
ends_at from end [] follow = omega (arith, follow)
ends_at from end (f ∷ fs) follow = omega (arith, follow.0, follow.1, ends_at f.past end fs follow.2)

-- the polygons of a facet are there
pub facet_within : (from end : ℕ) (fs : List Facet) (i : ℕ) (d : Facet) → AreFollowing from fs end → i < length fs → ((get_or fs i d).first ≤ (get_or fs i d).past) × ((get_or fs i d).past ≤ end)
facet_within from end [] i d follow lt = absurd (omega arith)
facet_within from end (f ∷ fs) zero d follow lt = (follow.1, ends_at f.past end fs follow.2)
facet_within from end (f ∷ fs) (suc i) d follow lt = facet_within f.past end fs i d follow.2 (omega arith)

pub facet_there : (from end : ℕ) (fs : List Facet) (i : ℕ) (f : Facet) → AreFollowing from fs end → i < length fs → f ≡ get_or fs i f → (f.first ≤ f.past) × (f.past ≤ end)
facet_there from end fs i f follow lt is = let P : Facet → Type 0 = λ g. (g.first ≤ g.past) × (g.past ≤ end) in subst P (sym is) (facet_within from end fs i f follow lt)

-- a hole point more
pub hole_pushed : (fs : List Facet) (i : ℕ) (f : Facet) (at : RationalPoint) (holes : List RationalPoint) → length fs ≡ suc i → f ≡ get_or fs i f → holes ≡ f.holes ++ at ∷ []
    → set fs i (record f { holes = holes }) ≡ change_last (λ f. record f { holes = f.holes ++ at ∷ [] }) fs
hole_pushed fs i f at holes some is pushed =
    let change : Facet → Facet = λ f. record f { holes = f.holes ++ at ∷ [] } in
    ap (λ (hs : List RationalPoint). set fs i (record f { holes = hs })) pushed ∙ last_changed change fs i f some is

-- a polygon more
pub past_raised : (fs : List Facet) (i : ℕ) (f : Facet) → length fs ≡ suc i → f ≡ get_or fs i f → set fs i (record f { past = f.past + 1 }) ≡ change_last (λ f. record f { past = f.past + 1 }) fs
past_raised fs i f some is = last_changed (λ f. record f { past = f.past + 1 }) fs i f some is

pub last_past : (end : ℕ) (fs : List Facet) (i : ℕ) (f : Facet) → AreFollowing 0 fs end → length fs ≡ suc i → f ≡ get_or fs i f → f.past ≡ end
last_past end fs i f follow some is = ap (λ (g : Facet). g.past) is ∙ last_ends 0 end fs i f follow some

-- ---- the polygons of all facets

joined : (ps : List Polygon) (first past : ℕ) → first ≤ past → slice_range ps first past ++ drop past ps ≡ drop first ps
joined ps first past le =
    let k : first + (past - first) ≡ past = omega arith in
    ap (λ (n : ℕ). slice_range ps first past ++ drop n ps) (sym k) ∙ ap (λ (qs : List Polygon). slice_range ps first past ++ qs) (sym (drop-drop (past - first) first ps)) ∙ take-append-drop (past - first) (drop first ps)

-- the facets from one on have the polygons from its first on
facets_from : (ps : List Polygon) (from : ℕ) (fs : List Facet) → AreFollowing from fs (length ps) → flat_map (λ f. slice_range ps f.first f.past) fs ≡ drop from ps
facets_from ps from [] follow = sym (drop_all from ps (omega (arith, follow)))
facets_from ps from (f ∷ fs) follow =
    ap (λ (qs : List Polygon). slice_range ps f.first f.past ++ qs) (facets_from ps f.past fs follow.2) ∙ joined ps f.first f.past follow.1 ∙ ap (λ (n : ℕ). drop n ps) follow.0

lists_joined : (ps : List Polygon) (fs : List Facet) → flat_map (λ f. corner_lists (slice_range ps f.first f.past)) fs ≡ corner_lists (flat_map (λ f. slice_range ps f.first f.past) fs)
lists_joined ps [] = refl
lists_joined ps (f ∷ fs) =
    ap (λ (ls : List (List ℕ)). corner_lists (slice_range ps f.first f.past) ++ ls) (lists_joined ps fs) ∙ sym (map-append (λ p. p.corners) (slice_range ps f.first f.past) (flat_map (λ f. slice_range ps f.first f.past) fs))

flat_lists : (ps : List Polygon) (fs : List Facet) → flat_map (λ f. f.polygons) (map (flat_facet ps) fs) ≡ flat_map (λ f. corner_lists (slice_range ps f.first f.past)) fs
flat_lists ps [] = refl
flat_lists ps (f ∷ fs) = ap (λ (ls : List (List ℕ)). corner_lists (slice_range ps f.first f.past) ++ ls) (flat_lists ps fs)

-- the facets' polygons, one facet after the other, are all polygons
pub all_polygons_are : (c : Complex) → AreFollowing 0 c.facets (length c.polygons) → flat_map (λ f. f.polygons) (facets c) ≡ corner_lists c.polygons
all_polygons_are c follow = flat_lists c.polygons c.facets ∙ lists_joined c.polygons c.facets ∙ ap corner_lists (facets_from c.polygons 0 c.facets follow)
