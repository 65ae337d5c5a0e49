-- The list that computes is the Delaunay list: a filter of all arranged fours, which stand in ascending order. The Delaunay list is unique,
-- so the two are equal, and what computes triangulates the hull.
use Rattle.std.proofs.Common.{◌≡◌, ◌⊎◌, inl, inr, ℕ, ◌+◌, ◌-◌, ◌<◌, ◌≤◌, pos, Bool, true, ◌&&◌, ◌||◌, List, map, length, refl, ap, sym, subst, ◌∙◌, arith, eqb-true}
use Rattle.std.specs.Prelude.{Contains, flat_map, int_lt, IsTrue, ◌==◌}
use Rattle.std.specs.List.{list_all}
use Rattle.exact_algebra.proofs.Signs.{pos_of_test, test_pos}
use Rattle.sign_predicates.specs.Point.{Point}
use Rattle.sign_predicates.specs.Orientation.{volume}
use Rattle.geo_laws.specs.Delaunay.{corners, numbers, is_outside_of, all_numbers, IsArranged, IsDelaunay, IsDelaunayList, IsDelaunayListAmong, RowBefore, numbers_below, numbers_from, has_corner, is_delaunay, fours, delaunay_rows}
use Rattle.geo_laws.specs.Laws.{DelaunayListLaw, IsTriangulation}
use Rattle.geo_laws.specs.declared.tetrahedra.Tet.{Tet}
use Rattle.sign_predicates.proofs.Places.{Place, A, B, C, D}
use Rattle.geo_laws.proofs.Places.{number}
use Rattle.geo_laws.proofs.Members.{IsMember, in_map, map_cases, in_flat_map, flat_map_cases, in_filter, filter_cases, in_range, range_bounds, contains_of, member_of, both_true, either_true, some_true, each_true, all_true, or_true}
use Rattle.geo_laws.proofs.Ascending.{Rises, rises-range, rises-map, rises-flat_map, rises-filter, pairs_of, ascending-same}
use Rattle.geo_laws.proofs.Corners.{IsCorner, corner_or_not, contains_corner, found, contains_below, below_of, all_within, corner_among, among_of_corners}
use Rattle.geo_laws.proofs.Cover.{cover_of_all}

-- ---- all fours

-- the arranged fours with the first numbers given
abbrev with_d : ℕ → ℕ → ℕ → ℕ → Tet
with_d a b c d = record { a = a; b = b; c = c; d = d }

abbrev fours_abc : ℕ → ℕ → ℕ → ℕ → List Tet
fours_abc n a b c = map (with_d a b c) (numbers_from (b + 1) n)

abbrev fours_ab : ℕ → ℕ → ℕ → List Tet
fours_ab n a b = flat_map (fours_abc n a b) (numbers_from (b + 1) n)

abbrev fours_a : ℕ → ℕ → List Tet
fours_a n a = flat_map (fours_ab n a) (numbers_from (a + 1) n)

-- an arranged four of numbers below n
record IsFour (n : ℕ) (t : Tet) : Type 0 where
  arranged : IsArranged t
  within_c : t.c < n
  within_d : t.d < n

-- the numbers from low up to n
pub from_bounds : (low n i : ℕ) → IsMember i (numbers_from low n) → (low ≤ i) × (i < n)
from_bounds low n i m = let r = range_bounds low (n - low) i m in let a = r.0 in let b = r.1 in (omega arith, omega arith)

pub in_from : (low n i : ℕ) → low ≤ i → i < n → IsMember i (numbers_from low n)
in_from low n i h k = in_range low (n - low) i h (omega arith)

-- each of the fours is arranged, of numbers below n
four_of : (n : ℕ) (t : Tet) → IsMember t (fours n) → IsFour n t
four_of n t m =
    let a = flat_map_cases (fours_a n) t (numbers_below n) m in
    let b = flat_map_cases (fours_ab n a.0) t (numbers_from (a.0 + 1) n) a.2 in
    let c = flat_map_cases (fours_abc n a.0 b.0) t (numbers_from (b.0 + 1) n) b.2 in
    let d = map_cases (with_d a.0 b.0 c.0) t (numbers_from (b.0 + 1) n) c.2 in
    let hb = from_bounds (a.0 + 1) n b.0 b.1 in
    let hc = from_bounds (b.0 + 1) n c.0 c.1 in
    let hd = from_bounds (b.0 + 1) n d.0 d.1 in
    let hb0 = hb.0 in
    let hc0 = hc.0 in
    let hd0 = hd.0 in
    subst (IsFour n) (sym d.2) (record { arranged = record { first = omega arith; second = omega arith; second' = omega arith }; within_c = hc.1; within_d = hd.1 })

-- and each such one is there
pub in_fours : (n : ℕ) (t : Tet) → IsArranged t → t.c < n → t.d < n → IsMember t (fours n)
in_fours n t h c d =
    let k1 = h.first in
    let k2 = h.second in
    let k3 = h.second' in
    in_flat_map (fours_a n) t.a t (numbers_below n) (in_range 0 n t.a (omega arith) (omega arith))
    (in_flat_map (fours_ab n t.a) t.b t (numbers_from (t.a + 1) n) (in_from (t.a + 1) n t.b (omega arith) (omega arith))
    (in_flat_map (fours_abc n t.a t.b) t.c t (numbers_from (t.b + 1) n) (in_from (t.b + 1) n t.c (omega arith) c)
    (in_map (with_d t.a t.b t.c) t.d (numbers_from (t.b + 1) n) (in_from (t.b + 1) n t.d (omega arith) d))))

-- the first numbers of the fours that have them given
a_is : (n a : ℕ) (t : Tet) → IsMember t (fours_a n a) → t.a ≡ a
a_is n a t m =
    let b = flat_map_cases (fours_ab n a) t (numbers_from (a + 1) n) m in
    let c = flat_map_cases (fours_abc n a b.0) t (numbers_from (b.0 + 1) n) b.2 in
    let d = map_cases (with_d a b.0 c.0) t (numbers_from (b.0 + 1) n) c.2 in
    ap (λ (u : Tet). u.a) d.2

ab_is : (n a b : ℕ) (t : Tet) → IsMember t (fours_ab n a b) → (t.a ≡ a) × (t.b ≡ b)
ab_is n a b t m =
    let c = flat_map_cases (fours_abc n a b) t (numbers_from (b + 1) n) m in
    let d = map_cases (with_d a b c.0) t (numbers_from (b + 1) n) c.2 in
    (ap (λ (u : Tet). u.a) d.2, ap (λ (u : Tet). u.b) d.2)

abc_is : (n a b c : ℕ) (t : Tet) → IsMember t (fours_abc n a b c) → (t.a ≡ a) × (t.b ≡ b) × (t.c ≡ c)
abc_is n a b c t m =
    let d = map_cases (with_d a b c) t (numbers_from (b + 1) n) m in
    (ap (λ (u : Tet). u.a) d.2, ap (λ (u : Tet). u.b) d.2, ap (λ (u : Tet). u.c) d.2)

-- the fours are strictly ascending
pub rises-fours : (n : ℕ) → Rises RowBefore (fours n)
rises-fours n =
    rises-flat_map ◌<◌ RowBefore (fours_a n) (numbers_below n) (rises-range 0 n)
    (λ a. rises-flat_map ◌<◌ RowBefore (fours_ab n a) (numbers_from (a + 1) n) (rises-range (a + 1) (n - (a + 1)))
    (λ b. rises-flat_map ◌<◌ RowBefore (fours_abc n a b) (numbers_from (b + 1) n) (rises-range (b + 1) (n - (b + 1)))
    (λ c. rises-map ◌<◌ RowBefore (with_d a b c) (numbers_from (b + 1) n) (rises-range (b + 1) (n - (b + 1))) (λ d e h. inr (refl, inr (refl, inr (refl, h)))))
    (λ c c' s t h m k. let i = abc_is n a b c s m in let j = abc_is n a b c' t k in let i2 = i.2 in let j2 = j.2 in inr (i.0 ∙ sym j.0, inr (i.1 ∙ sym j.1, inl (omega arith)))))
    (λ b b' s t h m k. let i = ab_is n a b s m in let j = ab_is n a b' t k in let i1 = i.1 in let j1 = j.1 in inr (i.0 ∙ sym j.0, inl (omega arith))))
    (λ a a' s t h m k. let i = a_is n a s m in let j = a_is n a' t k in inl (omega arith))

-- ---- the test

-- whether point i is a corner of the row or outside of it
abbrev is_corner_or_outside : List Point → Tet → ℕ → Bool
is_corner_or_outside ps t i = has_corner t i || is_outside_of ps t i

-- a four that passes the test is a Delaunay tetrahedron
delaunay_row : (ps : List Point) (t : Tet) → IsFour (length ps) t → is_delaunay ps t ≡ true → IsDelaunay ps t
delaunay_row ps t four e =
    let q = both_true (int_lt (pos 0) (volume (corners ps t))) _ e in
    record { is_on = among_of_corners (all_numbers ps) t (λ u. contains_below (length ps) (number t u) (below u)); is_positive = pos_of_test (volume (corners ps t)) q.0; is_arranged = four.arranged; others = λ i h n. other i (below_of (length ps) i h) n q.1 }
  where
    below : (u : Place) → number t u < length ps
    below A = let h = four.arranged.first in let k = four.arranged.second in let w = four.within_c in omega arith
    below B = let k = four.arranged.second in let w = four.within_c in omega arith
    below C = four.within_c
    below D = four.within_d

    other : (i : ℕ) → i < length ps → ¬ Contains (numbers t) i → list_all (is_corner_or_outside ps t) (numbers_below (length ps)) ≡ true → IsTrue (is_outside_of ps t i)
    other i h n all = by (either_true (has_corner t i) (is_outside_of ps t i) (each_true (is_corner_or_outside ps t) (numbers_below (length ps)) all i (in_range 0 (length ps) i (omega arith) (omega arith))))
      where
        by : (has_corner t i ≡ true) ⊎ (is_outside_of ps t i ≡ true) → IsTrue (is_outside_of ps t i)
        by (inl c) = let r = some_true (λ j. j == i) (numbers t) c in absurd (n (subst (λ k. Contains (numbers t) k) (eqb-true r.0 i r.2) (contains_of (numbers t) r.0 r.1)))
        by (inr o) = o

-- and a Delaunay tetrahedron passes
test_row : (ps : List Point) (t : Tet) → IsDelaunay ps t → is_delaunay ps t ≡ true
test_row ps t d = λ j. test_pos (volume (corners ps t)) d.is_positive j && all_true (is_corner_or_outside ps t) (numbers_below (length ps)) each j
  where
    each : (i : ℕ) → IsMember i (numbers_below (length ps)) → is_corner_or_outside ps t i ≡ true
    each i m = by (corner_or_not t i)
      where
        by : IsCorner t i ⊎ ¬ Contains (numbers t) i → is_corner_or_outside ps t i ≡ true
        by (inl c) = ap (λ b. b || is_outside_of ps t i) (found (numbers t) i (contains_corner t i c))
        by (inr n) = let r = range_bounds 0 (length ps) i m in let h = r.1 in
            ap (λ b. has_corner t i || b) (d.others i (contains_below (length ps) i (omega arith)) n) ∙ or_true (has_corner t i)

pub law_delaunay_list : DelaunayListLaw
law_delaunay_list ps = record {
  exactly = λ t. (
    λ c. let r = filter_cases (is_delaunay ps) t (fours (length ps)) (member_of (delaunay_rows ps) t c) in delaunay_row ps t (four_of (length ps) t r.0) r.1,
    λ d.
        let below = λ (u : Place). all_within ps (number t u) (corner_among (all_numbers ps) t d.is_on u) in
        contains_of (delaunay_rows ps) t (in_filter (is_delaunay ps) t (fours (length ps)) (in_fours (length ps) t d.is_arranged (below C) (below D)) (test_row ps t d)),
  );
  ascending = pairs_of (delaunay_rows ps) (rises-filter RowBefore (is_delaunay ps) (fours (length ps)) (rises-fours (length ps)));
}

-- ---- the Delaunay list is unique

-- strictly ascending lists with the same members are the same
pub delaunay_list_unique : (ps : List Point) (ms : List ℕ) (rows rows' : List Tet) → IsDelaunayListAmong ps ms rows → IsDelaunayListAmong ps ms rows' → rows ≡ rows'
delaunay_list_unique ps ms rows rows' h k =
    ascending-same rows rows' h.ascending k.ascending
    (λ t m. member_of rows' t ((k.exactly t).1 ((h.exactly t).0 (contains_of rows t m)))) (λ t m. member_of rows t ((h.exactly t).1 ((k.exactly t).0 (contains_of rows' t m))))

-- so it is the one that computes
pub delaunay_list_is : (ps : List Point) (rows : List Tet) → IsDelaunayList ps rows → rows ≡ delaunay_rows ps
delaunay_list_is ps rows h = delaunay_list_unique ps (all_numbers ps) rows (delaunay_rows ps) h (law_delaunay_list ps)

-- and it triangulates the hull of the points
pub triangulation_of_rows : (ps : List Point) (rows : List Tet) → rows ≡ delaunay_rows ps → IsTriangulation ps rows
triangulation_of_rows ps rows e = subst (IsTriangulation ps) (sym e) (cover_of_all ps (delaunay_rows ps) (law_delaunay_list ps))
