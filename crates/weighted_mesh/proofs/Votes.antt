-- The lifting map for any first number of the heights. At place 0 stands the residual of the first numbers; at the place of e it is the volume, at that
-- of a corner the side of e at the opposite face with the other sign, and 0 elsewhere. So where the first number is that of a sphere sum with the other
-- sign, the residual decides as the sphere test with its rule for ties does.
use Rattle.std.proofs.Common.{◌≡◌, ◌≢◌, ◌⊎◌, inl, inr, ℕ, zero, suc, ◌<◌, ℤ, pos, negsuc, neg_ℤ, ◌-ℤ◌, ◌*ℤ◌, ◌<ℤ◌, ◌≤ℤ◌, Bool, true, false, ◌||◌, ◌&&◌, nat_lt, List, ◌∷◌, map, length, refl, ap, sym, subst, ◌∙◌, arith, ltb-true, lt-ltb, leb-true, eq-eqb, ne_eqb}
use Rattle.std.specs.Prelude.{filter, IsTrue, ◌↔◌, ◌==◌, int_lt, int_le, Contains}
use Rattle.std.specs.List.{list_any, list_all}
use Rattle.std.proofs.lemmas.Int.{ints}
use lib.IntN.{*ℤ-zero, *ℤ-one}
use Rattle.exact_algebra.proofs.Signs.{neg_of_test, test_neg, pos_of_test, test_pos, pos_same, pos_not_zero}
use Rattle.sign_predicates.specs.Point.{Point}
use Rattle.sign_predicates.specs.Orientation.{Triangle, volume, side, IsPositive}
use Rattle.sign_predicates.specs.declared.tetrahedron.Corners.{Corners}
use Rattle.sign_predicates.specs.Sphere.{across, alongside, opposite_faces, wins_tie}
use Rattle.geo_laws.specs.Delaunay.{point, corners, numbers, numbers_below, as_numbers, IsOn}
use Rattle.geo_laws.specs.Height.{IsLexPositive, residual_at, residual}
use Rattle.geo_laws.specs.declared.tetrahedra.Tet.{Tet}
use Rattle.sign_predicates.proofs.Places.{Place, A, B, C, D, opposite}
use Rattle.geo_laws.proofs.Places.{number, over_places, sum-only, sum-none}
use Rattle.geo_laws.proofs.Lift.{vote, vote-own, one_if, map-map}
use Rattle.geo_laws.proofs.Members.{IsMember, here, there, in_cons, in_map, map_cases, in_filter, filter_cases, both_true, either_true, some_true, any_true, each_true, all_true, or_true}
use Rattle.geo_laws.proofs.Corners.{IsCorner, same_or_not, corner_or_not, no_corner, distinct, on_corner}
use Rattle.geo_laws.proofs.Ties.{IsVote, IsCarried, carried, carries}

-- ---- the faces that pass a test

-- each corner number stands beside its opposite face
face_member : (c : Corners) (t : Tet) (u : Place) → IsMember (number t u, opposite c u) (opposite_faces c (as_numbers t))
face_member c t A = here
face_member c t B = there here
face_member c t C = there (there here)
face_member c t D = there (there (there here))

-- and no others do
face_cases : (c : Corners) (t : Tet) (g : ℕ × Triangle) → IsMember g (opposite_faces c (as_numbers t)) → (u : Place) × (g ≡ (number t u, opposite c u))
face_cases c t g here = (A, refl)
face_cases c t g (there here) = (B, refl)
face_cases c t g (there (there here)) = (C, refl)
face_cases c t g (there (there (there here))) = (D, refl)
face_cases c t g (there (there (there (there m)))) = elim m [ ]

-- the numbers of the corners whose opposite faces pass
abbrev those : (Triangle → Bool) → Corners → Tet → List ℕ
those test c t = map (λ g. g.0) (filter (λ g. test g.1) (opposite_faces c (as_numbers t)))

-- a corner whose opposite face passes is there
in_those : (test : Triangle → Bool) (c : Corners) (t : Tet) (u : Place) → test (opposite c u) ≡ true → IsMember (number t u) (those test c t)
in_those test c t u e =
    in_map (λ (g : ℕ × Triangle). g.0) (number t u, opposite c u) (filter (λ g. test g.1) (opposite_faces c (as_numbers t)))
    (in_filter (λ (g : ℕ × Triangle). test g.1) (number t u, opposite c u) (opposite_faces c (as_numbers t)) (face_member c t u) e)

-- and each number there is that of such a corner
record Passes (test : Triangle → Bool) (c : Corners) (t : Tet) (i : ℕ) : Type 0 where
  place : Place
  is_number : i ≡ number t place
  passes : test (opposite c place) ≡ true

of_those : (test : Triangle → Bool) (c : Corners) (t : Tet) (i : ℕ) → IsMember i (those test c t) → Passes test c t i
of_those test c t i m =
    let g = map_cases (λ (g : ℕ × Triangle). g.0) i (filter (λ g. test g.1) (opposite_faces c (as_numbers t))) m in
    let k = filter_cases (λ (g : ℕ × Triangle). test g.1) g.0 (opposite_faces c (as_numbers t)) g.1 in
    let f = face_cases c t g.0 k.0 in
    record { place = f.0; is_number = g.2 ∙ ap (λ (g : ℕ × Triangle). g.0) f.1; passes = ap (λ (g : ℕ × Triangle). test g.1) (sym f.1) ∙ k.1 }

-- ---- the votes of e and of the corners

-- the side of e at the face opposite the corner
abbrev side_of : List Point → Tet → ℕ → Place → ℤ
side_of ps t e u = side (opposite (corners ps t) u) (point ps e)

-- the product with it
if_true : (n : ℤ) (b : Bool) → b ≡ true → n *ℤ one_if b ≡ n
unfolding lib.IntN.one
if_true n b e = ap (λ c. n *ℤ one_if c) e ∙ *ℤ-one n

if_false : (n : ℤ) (b : Bool) → b ≡ false → n *ℤ one_if b ≡ pos 0
if_false n b e = ap (λ c. n *ℤ one_if c) e ∙ *ℤ-zero n

minus_none : (a s v : ℤ) → a ≡ v → s ≡ pos 0 → a -ℤ s ≡ v
minus_none a s v e z = omega (arith, ints)

minus_only : (a s v : ℤ) → a ≡ pos 0 → s ≡ v → a -ℤ s ≡ neg_ℤ v
minus_only a s v z e = omega (arith, ints)

-- at the place of no corner the weights of e add nothing
no_weights : (ps : List Point) (t : Tet) (e j : ℕ) → ((u : Place) → number t u ≢ j) → over_places (λ u. side_of ps t e u *ℤ one_if (number t u == j)) ≡ pos 0
no_weights ps t e j n = sum-none (λ u. side_of ps t e u *ℤ one_if (number t u == j)) (λ u. if_false (side_of ps t e u) (number t u == j) (ne_eqb (number t u) j (n u)))

-- the place of a corner has the side of e at the opposite face, with the other sign
vote-corner : (ps : List Point) (first : ℕ → ℤ) (t : Tet) (e : ℕ) → IsPositive (corners ps t) → ¬ Contains (numbers t) e → (v : Place) → vote ps first t e (number t v) ≡ neg_ℤ (side_of ps t e v)
unfolding vote
vote-corner ps first t e p n v =
    minus_only (volume (corners ps t) *ℤ one_if (e == number t v)) (over_places (λ u. side_of ps t e u *ℤ one_if (number t u == number t v))) (side_of ps t e v)
    (if_false (volume (corners ps t)) (e == number t v) (ne_eqb e (number t v) (λ d. no_corner t e n v (sym d))))
    (sum-only v (λ u. side_of ps t e u *ℤ one_if (number t u == number t v)) (λ u o. if_false (side_of ps t e u) (number t u == number t v) (ne_eqb (number t u) (number t v) (distinct ps t p u v o)))
    ∙ if_true (side_of ps t e v) (number t v == number t v) (eq-eqb (number t v) (number t v) refl))

-- every other place has 0
vote-other : (ps : List Point) (first : ℕ → ℤ) (t : Tet) (e j : ℕ) → e ≢ j → ¬ Contains (numbers t) j → vote ps first t e j ≡ pos 0
unfolding vote
vote-other ps first t e j d n =
    minus_none (volume (corners ps t) *ℤ one_if (e == j)) _ (pos 0) (if_false (volume (corners ps t)) (e == j) (ne_eqb e j d)) (no_weights ps t e j (no_corner t j n))

-- which vote a number has
data VoteOf (ps : List Point) (first : ℕ → ℤ) (t : Tet) (e j : ℕ) : Type 0 where
  own : j ≡ e → vote ps first t e j ≡ volume (corners ps t) → VoteOf ps first t e j
  corner : (u : Place) → j ≡ number t u → vote ps first t e j ≡ neg_ℤ (side_of ps t e u) → VoteOf ps first t e j
  other : vote ps first t e j ≡ pos 0 → VoteOf ps first t e j

vote_of : (ps : List Point) (first : ℕ → ℤ) (t : Tet) (e j : ℕ) → IsPositive (corners ps t) → ¬ Contains (numbers t) e → VoteOf ps first t e j
vote_of ps first t e j p n = go (same_or_not j e) (corner_or_not t j)
  where
    go : (j ≡ e) ⊎ (j ≢ e) → IsCorner t j ⊎ ¬ Contains (numbers t) j → VoteOf ps first t e j
    go (inl h) _ = own h (ap (vote ps first t e) h ∙ vote-own ps first t e n)
    go (inr _) (inl c) = corner c.0 c.1 (ap (vote ps first t e) c.1 ∙ vote-corner ps first t e p n c.0)
    go (inr d) (inr c) = other (vote-other ps first t e j (λ h. d (sym h)) c)

-- opposite numbers have opposite signs
pos_of_neg : (a b : ℤ) → a ≡ neg_ℤ b → pos 0 <ℤ neg_ℤ a → pos 0 <ℤ b
pos_of_neg a b e h = omega (arith, ints)

neg_of_pos : (a b : ℤ) → a ≡ neg_ℤ b → pos 0 <ℤ b → pos 0 <ℤ neg_ℤ a
neg_of_pos a b e h = omega (arith, ints)

neg_not_zero : (a : ℤ) → a ≡ pos 0 → pos 0 <ℤ neg_ℤ a → ⊥
neg_not_zero a e h = omega (arith, ints)

not_both : (a b : ℤ) → a ≡ b → pos 0 <ℤ b → pos 0 <ℤ neg_ℤ a → ⊥
not_both a b e h k = omega (arith, ints)

-- e is across the face
abbrev is_across : List Point → ℕ → Triangle → Bool
is_across ps e f = int_lt (side f (point ps e)) (pos 0)

-- e is on the side of the corner
abbrev is_alongside : List Point → ℕ → Triangle → Bool
is_alongside ps e f = int_lt (pos 0) (side f (point ps e))

-- e and the corners across their face vote for, the corners alongside against
votes : (ps : List Point) (first : ℕ → ℤ) (t : Tet) (e : ℕ) → IsOn ps t → e < length ps → IsPositive (corners ps t) → ¬ Contains (numbers t) e
    → IsVote (vote ps first t e) (length ps) (e ∷ across (corners ps t) (as_numbers t) (point ps e)) (alongside (corners ps t) (as_numbers t) (point ps e))
votes ps first t e on below p n = record {
  for_above = λ i m. by_for i (in_cons i e _ m);
  above_for = λ i h. by_above i h (vote_of ps first t e i p n);
  against_below = λ i m. by_against i (of_those (is_alongside ps e) (corners ps t) t i m);
  below_against = λ i h. by_below i h (vote_of ps first t e i p n);
  on_list = λ i m. by_on i (in_cons i e _ m);
}
  where
    at_corner : (i : ℕ) (u : Place) → i ≡ number t u → vote ps first t e i ≡ neg_ℤ (side_of ps t e u)
    at_corner i u h = ap (vote ps first t e) h ∙ vote-corner ps first t e p n u

    by_for : (i : ℕ) → (i ≡ e) ⊎ IsMember i (across (corners ps t) (as_numbers t) (point ps e)) → pos 0 <ℤ vote ps first t e i
    by_for i (inl h) = pos_same _ _ (ap (vote ps first t e) h ∙ vote-own ps first t e n) p
    by_for i (inr m) = let q = of_those (is_across ps e) (corners ps t) t i m in pos_same _ _ (at_corner i q.place q.is_number) (neg_of_test (side_of ps t e q.place) q.passes)

    by_on : (i : ℕ) → (i ≡ e) ⊎ IsMember i (across (corners ps t) (as_numbers t) (point ps e)) → i < length ps
    by_on i (inl h) = omega arith
    by_on i (inr m) = let q = of_those (is_across ps e) (corners ps t) t i m in subst (λ j. j < length ps) (sym q.is_number) (on_corner ps t on q.place)

    by_above : (i : ℕ) → pos 0 <ℤ vote ps first t e i → VoteOf ps first t e i → IsMember i (e ∷ across (corners ps t) (as_numbers t) (point ps e))
    by_above i h (own same v) = subst (λ j. IsMember j (e ∷ across (corners ps t) (as_numbers t) (point ps e))) (sym same) here
    by_above i h (corner u same v) =
        there (subst (λ j. IsMember j (across (corners ps t) (as_numbers t) (point ps e))) (sym same) (in_those (is_across ps e) (corners ps t) t u (test_neg (side_of ps t e u) (pos_same _ _ (sym v) h))))
    by_above i h (other v) = absurd (pos_not_zero _ h v)

    by_against : (i : ℕ) → Passes (is_alongside ps e) (corners ps t) t i → pos 0 <ℤ neg_ℤ (vote ps first t e i)
    by_against i q = neg_of_pos _ _ (at_corner i q.place q.is_number) (pos_of_test (side_of ps t e q.place) q.passes)

    by_below : (i : ℕ) → pos 0 <ℤ neg_ℤ (vote ps first t e i) → VoteOf ps first t e i → IsMember i (alongside (corners ps t) (as_numbers t) (point ps e))
    by_below i h (own same v) = absurd (not_both _ _ v p h)
    by_below i h (corner u same v) =
        subst (λ j. IsMember j (alongside (corners ps t) (as_numbers t) (point ps e))) (sym same) (in_those (is_alongside ps e) (corners ps t) t u (test_pos (side_of ps t e u) (pos_of_neg _ _ v h)))
    by_below i h (other v) = absurd (neg_not_zero _ v h)

-- the tie test says that the vote is carried
is_carried_of : (fors against : List ℕ) → list_any (λ i. list_all (nat_lt i) against) fors ≡ true → IsCarried fors against
is_carried_of fors against e =
    let r = some_true (λ i. list_all (nat_lt i) against) fors e in
    record { number = r.0; votes = r.1; least = λ j m. ltb-true r.0 j (each_true (nat_lt r.0) against r.2 j m) }

-- and back
test_carried : (fors against : List ℕ) → IsCarried fors against → list_any (λ i. list_all (nat_lt i) against) fors ≡ true
test_carried fors against c = any_true (λ i. list_all (nat_lt i) against) fors c.number c.votes (all_true (nat_lt c.number) against (λ j m. lt-ltb c.number j (c.least j m)))

-- the test for at most 0
le_of : (a : ℤ) → int_le a (pos 0) ≡ true → a ≤ℤ pos 0
-- the test for at most 0
le_of (pos n) e = omega (arith, ints, leb-true n 0 e)
-- the test for at most 0
le_of (negsuc n) e = omega (arith, ints)

test_le : (a : ℤ) → a ≡ pos 0 → int_le a (pos 0) ≡ true
test_le a e = ap (λ n. int_le n (pos 0)) e

-- the first number decides where the sum is not 0, the votes where it is 0
pub sum_decides : (ps : List Point) (first : ℕ → ℤ) (t : Tet) (e : ℕ) (s : ℤ) → IsOn ps t → e < length ps → IsPositive (corners ps t) → ¬ Contains (numbers t) e
    → residual_at ps first t e zero ≡ neg_ℤ s → IsTrue (int_lt s (pos 0) || int_le s (pos 0) && wins_tie (corners ps t) (as_numbers t) (point ps e) e) ↔ IsLexPositive (residual ps first t e)
unfolding vote
sum_decides ps first t e s on below p different first_is = (to, from)
  where
    fors : List ℕ
    fors = e ∷ across (corners ps t) (as_numbers t) (point ps e)

    is_vote : IsVote (vote ps first t e) (length ps) (e ∷ across (corners ps t) (as_numbers t) (point ps e)) (alongside (corners ps t) (as_numbers t) (point ps e))
    is_vote = votes ps first t e on below p different

    rest_is : map (λ j. residual_at ps first t e (suc j)) (numbers_below (length ps)) ≡ map (residual_at ps first t e) (map suc (numbers_below (length ps)))
    rest_is = map-map (residual_at ps first t e) suc (numbers_below (length ps))

    zero_first : (a b : ℤ) → a ≡ neg_ℤ b → b ≤ℤ pos 0 → (pos 0 <ℤ a) ⊎ (a ≡ pos 0)
    zero_first a (pos zero) d h = inr d
    zero_first a (pos (suc n)) d h = absurd (omega (arith, ints))
    zero_first a (negsuc n) d h = inl (omega (arith, ints))

    tie : IsTrue (list_any (λ i. list_all (nat_lt i) (alongside (corners ps t) (as_numbers t) (point ps e))) (e ∷ across (corners ps t) (as_numbers t) (point ps e)))
        → IsLexPositive (map (residual_at ps first t e) (map suc (numbers_below (length ps))))
    tie h = subst IsLexPositive rest_is (carries (λ j. residual_at ps first t e (suc j)) (length ps) _ _ is_vote (is_carried_of _ _ h))

    to : IsTrue (int_lt s (pos 0) || int_le s (pos 0) && wins_tie (corners ps t) (as_numbers t) (point ps e) e) → IsLexPositive (residual ps first t e)
    to h = by (either_true (int_lt s (pos 0)) _ h)
      where
        on_sphere : (pos 0 <ℤ residual_at ps first t e zero) ⊎ (residual_at ps first t e zero ≡ pos 0)
            → IsLexPositive (map (residual_at ps first t e) (map suc (numbers_below (length ps)))) → IsLexPositive (residual ps first t e)
        on_sphere (inl a) r = inl a
        on_sphere (inr z) r = inr (z, r)

        by : (int_lt s (pos 0) ≡ true)
            ⊎ (int_le s (pos 0) && list_any (λ i. list_all (nat_lt i) (alongside (corners ps t) (as_numbers t) (point ps e))) (e ∷ across (corners ps t) (as_numbers t) (point ps e)) ≡ true)
            → IsLexPositive (residual ps first t e)
        by (inl l) = inl (pos_same _ _ first_is (neg_of_test s l))
        by (inr l) =
            let q = both_true (int_le s (pos 0)) _ l in
            on_sphere (zero_first _ s first_is (le_of s q.0)) (tie q.1)

    zero_of_neg : (a b : ℤ) → a ≡ neg_ℤ b → a ≡ pos 0 → b ≡ pos 0
    zero_of_neg a b d z = omega (arith, ints)

    from : IsLexPositive (residual ps first t e) → IsTrue (int_lt s (pos 0) || int_le s (pos 0) && wins_tie (corners ps t) (as_numbers t) (point ps e) e)
    from (inl a) = ap (λ b. b || (int_le s (pos 0) && list_any (λ i. list_all (nat_lt i) (alongside (corners ps t) (as_numbers t) (point ps e))) (e ∷ across (corners ps t) (as_numbers t) (point ps e))))
        (test_neg s (pos_same _ _ (sym first_is) a))
    from (inr r) =
        let tied = test_carried _ _ (carried (λ j. residual_at ps first t e (suc j)) (length ps) _ _ is_vote (subst IsLexPositive (sym rest_is) r.1)) in
        (λ j. int_lt s (pos 0) || (test_le s (zero_of_neg _ _ first_is r.0) j && tied j))
        ∙ or_true (int_lt s (pos 0))
