-- The one polygon of a facet.
use Rattle.std.proofs.Common.{◌≡◌, ◌≢◌, ℕ, zero, suc, ◌-◌, ◌<◌, ◌≤◌, Bool, true, false, List, [], ◌∷◌, map, length, take, drop, refl, ap, ◌∙◌, arith, ne_eqb, length-drop}
use Rattle.std.specs.Prelude.{◌==◌, ◌&&◌, nat_lt, if◌then◌else◌, HoldsAt, slice_range, IsTrue, ◌↔◌}
use Rattle.std.proofs.lemmas.List.{get_or-map, length-map, length-take}
use Rattle.sign_predicates.specs.Point.{RationalPoint}
use Rattle.geo_laws.specs.Facet.{Facet as FlatFacet}
use Rattle.geo_laws.specs.Complex.{Complex, Polygon, flat_facet, corner_lists}
use Rattle.geo_laws.specs.declared.complex.Facet.{Facet}
use Rattle.merged_facets.specs.Merged.{only_polygon, facet_at, no_facet}

abbrev pub flat : List (List ℕ) → List RationalPoint → FlatFacet
flat qs hs = record { polygons = qs; holes = hs }

-- the facet of a number
pub facet_is : (c : Complex) (f : ℕ) (x : Facet) → f < length c.facets → HoldsAt (λ g. g ≡ x) c.facets f → facet_at c f ≡ flat_facet c.polygons x
facet_is c f x there is = get_or-map (flat_facet c.polygons) c.facets f x no_facet there ∙ ap (flat_facet c.polygons) (is x)

both_false : (a b : Bool) → a ≡ false → a && b ≡ false
both_false a b e = ap (λ t. t && b) e

right_false : (a b : Bool) → b ≡ false → a && b ≡ false
right_false true b e = e
right_false false b e = refl

-- no or two polygons, a hole point, or few corners
pub none_of_count : (qs : List (List ℕ)) (hs : List RationalPoint) → length qs ≢ 1 → only_polygon (flat qs hs) ≡ []
none_of_count [] hs n = refl
none_of_count (p ∷ []) hs n = absurd (n refl)
none_of_count (p ∷ q ∷ ps) hs n =
    ap (λ t. if t && length hs == 0 && nat_lt 2 (length p) then p else []) (ne_eqb (length (q ∷ ps)) 0 more)
  where
    more : length (q ∷ ps) ≢ 0
    more e = absurd (omega arith)

pub none_of_holes : (qs : List (List ℕ)) (hs : List RationalPoint) → hs ≢ [] → only_polygon (flat qs hs) ≡ []
none_of_holes [] hs n = refl
none_of_holes (p ∷ ps) [] n = absurd (n refl)
none_of_holes (p ∷ ps) (h ∷ hs) n =
    ap (λ t. if t then p else []) (both_false (length ps == 0 && length (h ∷ hs) == 0) (nat_lt 2 (length p)) (right_false (length ps == 0) (length (h ∷ hs) == 0) (ne_eqb (length (h ∷ hs)) 0 more)))
  where
    more : length (h ∷ hs) ≢ 0
    more e = absurd (omega arith)

pub none_of_few : (p : List ℕ) (hs : List RationalPoint) → length p ≤ 2 → only_polygon (flat (p ∷ []) hs) ≡ []
none_of_few p hs few = ap (λ t. if t then p else []) (right_false (length {A = List ℕ} [] == 0 && length hs == 0) (nat_lt 2 (length p)) (test 2 (length p) few))
  where
    test : (a b : ℕ) → b ≤ a → nat_lt a b ≡ false
    test a b h = grind arith

pub one : (p : List ℕ) (hs : List RationalPoint) → hs ≡ [] → 2 < length p → only_polygon (flat (p ∷ []) hs) ≡ p
one p hs none many = ap (λ (hs : List RationalPoint). only_polygon (flat (p ∷ []) hs)) none ∙ ap (λ t. if t then p else []) (test 2 (length p) many)
  where
    test : (a b : ℕ) → a < b → nat_lt a b ≡ true
    test a b h = grind arith

-- the test for hole points finds some
pub not_empty : (b : Bool) (hs : List RationalPoint) → IsTrue b ↔ (hs ≡ []) → b ≡ false → hs ≢ []
not_empty b hs h e f = clash b (h.1 f) e
  where
    clash : (b : Bool) → b ≡ true → b ≡ false → ⊥
    clash b h k = cc

-- a run of one polygon
pub one_polygon : (ps : List Polygon) (first past : ℕ) (p : List ℕ) → past - first ≡ 1 → past ≤ length ps → HoldsAt (λ q. q.corners ≡ p) ps first → corner_lists (slice_range ps first past) ≡ p ∷ []
one_polygon ps first past p e l is = ap (λ n. map (λ (q : Polygon). q.corners) (take n (drop first ps))) e ∙ go ps first (omega arith) is
  where
    go : (ps : List Polygon) (k : ℕ) → k < length ps → HoldsAt (λ q. q.corners ≡ p) ps k → map (λ (q : Polygon). q.corners) (take 1 (drop k ps)) ≡ p ∷ []
    go [] k l is = absurd (omega arith)
    go (q ∷ ps) zero l is = ap (λ (r : List ℕ). r ∷ []) (is q)
    go (q ∷ ps) (suc k) l is = go ps k (omega arith) is

pub run_length : (ps : List Polygon) (first past : ℕ) → first ≤ past → past ≤ length ps → length (corner_lists (slice_range ps first past)) ≡ past - first
run_length ps first past l u =
    let a = length-map (slice_range ps first past) (λ (q : Polygon). q.corners) in
    let d = length-drop first ps in
    let t = length-take (past - first) (drop first ps) in
    omega arith
