-- A generic point of the hull is strictly inside a lowest tetrahedron: of those among the numbers that strictly hold it one is of least height there.
-- No other point is below it, by the exchange step, and none is at its height, as its own place tells it apart.
use Rattle.std.proofs.Common.{◌≡◌, ℕ, ◌⊎◌, inl, inr, suc, ◌<◌, ℤ, pos, neg_ℤ, ◌<ℤ◌, ◌≤ℤ◌, List, [], ◌∷◌, map, length, refl, ap, subst, sym, ◌∙◌}
use Rattle.std.specs.Prelude.{Contains}
use Rattle.exact_algebra.proofs.Signs.{pos_of_nonneg, pos_not_zero}
use Rattle.sign_predicates.specs.Point.{Point, RationalPoint, EachRational}
use Rattle.sign_predicates.specs.Orientation.{volume, side_rational, IsPositive, StrictlyInside}
use Rattle.geo_laws.specs.Delaunay.{corners, numbers, numbers_below, AreNumbersOf, IsArranged}
use Rattle.geo_laws.specs.Hull.{InHullAmong}
use Rattle.geo_laws.specs.Height.{IsLexPositive, lifted, residual_at, residual, places, IsLowestAmong}
use Rattle.geo_laws.specs.Laws.{IsGeneric, LeastHeightLaw, ResidualLaw}
use Rattle.geo_laws.specs.declared.tetrahedra.Tet.{Tet}
use Rattle.sign_predicates.proofs.Places.{opposite}
use Rattle.geo_laws.proofs.Places.{at_face, all_faces}
use Rattle.geo_laws.proofs.Members.{there, in_map, member_of}
use Rattle.geo_laws.proofs.Corners.{corner_of, contains_corner, contains_below, corner_among, among_of_corners}
use Rattle.geo_laws.proofs.Lexicographic.{IsZeroAt, IsLexAbove, lex_sign_of, lex_same, zero_at}
use Rattle.geo_laws.proofs.Lift.{vote, vote-own, delaunay_of}
use Rattle.geo_laws.proofs.Arrangement.{IsEven, corner_to, corner_from, inside_to, even_positive, even_residual, arranged}
use Rattle.geo_laws.proofs.Heights.{Holds, IsAtMost, least_row}
use Rattle.geo_laws.proofs.Exchange.{generic_face, not_below_least}

-- ---- no residual is all 0

-- the residual of a point that is no corner is not all 0
not_all_zero : (ps : List Point) (first : ℕ → ℤ) (t : Tet) (e : ℕ) → e < length ps → IsPositive (corners ps t) → ¬ Contains (numbers t) e → IsZeroAt (residual_at ps first t e) (places (length ps)) → ⊥
unfolding vote
not_all_zero ps first t e within p n z =
    pos_not_zero (volume (corners ps t)) p (sym (vote-own ps first t e n)
    ∙ zero_at (residual_at ps first t e) (places (length ps)) (suc e) z (there (in_map suc e (numbers_below (length ps)) (member_of (numbers_below (length ps)) e (contains_below (length ps) e within)))))

map-neg : (f : ℕ → ℤ) (ks : List ℕ) → map (λ k. neg_ℤ (f k)) ks ≡ map neg_ℤ (map f ks)
map-neg f [] = refl
map-neg f (k ∷ ks) = ap (λ r. neg_ℤ (f k) ∷ r) (map-neg f ks)

-- so it has a sign
pub law_residual : ResidualLaw
law_residual ps first t e within p n = go (lex_sign_of (residual_at ps first t e) (places (length ps)))
  where
    go : IsLexAbove (residual_at ps first t e) (places (length ps)) ⊎ (IsZeroAt (residual_at ps first t e) (places (length ps)) ⊎ IsLexAbove (λ k. neg_ℤ (residual_at ps first t e k)) (places (length ps)))
        → IsLexPositive (residual ps first t e) ⊎ IsLexPositive (map neg_ℤ (residual ps first t e))
    go (inl a) = inl a
    go (inr (inl z)) = absurd (not_all_zero ps first t e within p n z)
    go (inr (inr b)) = inr (subst IsLexPositive (map-neg (residual_at ps first t e) (places (length ps))) b)

-- ---- a least tetrahedron is lowest

-- every further point is above the least one
others_above : (ps : List Point) (ms : List ℕ) → AreNumbersOf ps ms → (first : ℕ → ℤ) (x : RationalPoint) (m : Tet) → IsGeneric ps ms x → Holds ps ms x m
    → ((t : Tet) → Holds ps ms x t → IsAtMost ps first x m t) → (i : ℕ) → Contains ms i → ¬ Contains (numbers m) i → IsLexPositive (residual ps first m i)
others_above ps ms within first x m generic holds least i h n = go (lex_sign_of (residual_at ps first m i) (places (length ps)))
  where
    go : IsLexAbove (residual_at ps first m i) (places (length ps)) ⊎ (IsZeroAt (residual_at ps first m i) (places (length ps)) ⊎ IsLexAbove (λ k. neg_ℤ (residual_at ps first m i k)) (places (length ps)))
        → IsLexPositive (residual ps first m i)
    go (inl a) = a
    go (inr (inl z)) = absurd (not_all_zero ps first m i (within i h) holds.positive n z)
    go (inr (inr b)) = absurd (not_below_least ps ms first x m i (record { generic = generic; holds = holds; least = least; on_e = h; below = b }))

-- and above its least arrangement
lowest_of_least : (ps : List Point) (ms : List ℕ) (first : ℕ → ℤ) (x : RationalPoint) (m s : Tet) → Holds ps ms x m
    → ((i : ℕ) → Contains ms i → ¬ Contains (numbers m) i → IsLexPositive (residual ps first m i)) → IsEven ps m s → IsArranged s → IsLowestAmong ps ms first s
lowest_of_least ps ms first x m s holds others even least = record {
  is_on = λ i c. among_of_corners ms m holds.on i (contains_corner m i (corner_from ps m s even i (corner_of s i c)));
  is_positive = even_positive ps m s even holds.positive;
  is_arranged = least;
  others = λ i l n. lex_same (residual_at ps first m i) (residual_at ps first s i) (places (length ps)) (even_residual ps m s even first i)
      (others i l (λ c. n (contains_corner s i (corner_to ps m s even i (corner_of m i c)))));
}

-- ---- the law

-- a generic point of the hull is strictly inside some tetrahedron
holds_of : (ps : List Point) (ms : List ℕ) (x : RationalPoint) → IsGeneric ps ms x → (h : InHullAmong ps ms x) → Holds ps ms x h.row
holds_of ps ms x generic h =
    let c = corners ps h.row in
    let on = corner_among ms h.row h.is_on in
    let closed = at_face (λ f. pos 0 ≤ℤ side_rational f x) c h.holds in
    record {
      on = on;
      positive = h.is_positive;
      inside = all_faces (λ f. pos 0 <ℤ side_rational f x) c (λ u. pos_of_nonneg (side_rational (opposite c u) x) (closed u) (generic_face ps ms x generic h.row on h.is_positive u));
    }

-- a least tetrahedron, in its least arrangement, is a lowest one
lowest_round : (ps : List Point) (ms : List ℕ) → AreNumbersOf ps ms → (first : ℕ → ℤ)
    → EachRational (λ x. InHullAmong ps ms x → IsGeneric ps ms x → (t : Tet) × IsLowestAmong ps ms first t × StrictlyInside (corners ps t) x)
lowest_round ps ms within first x w hull generic =
    let found = least_row ps ms first x hull.row (holds_of ps ms x generic hull) in
    let others = others_above ps ms within first x found.0 generic found.1 found.2 in
    let row = arranged ps found.0 found.1.positive in
    (row.0, lowest_of_least ps ms first x found.0 row.0 found.1 others row.1 row.2, inside_to ps found.0 row.0 row.1 x found.1.inside)

pub law_least_height : LeastHeightLaw
law_least_height = record {
  lowest = lowest_round;
  delaunay = λ ps ms within x w hull generic. let r = lowest_round ps ms within (lifted ps) x w hull generic in (r.0, delaunay_of ps ms within r.0 r.1, r.2);
}
