-- Even permutations of a tetrahedron's corners. They change nothing but the order of the corners, each positive tetrahedron has one whose
-- two least numbers stand first, and two positive ones so arranged with the same corners are the same.
use Rattle.std.proofs.Common.{◌≡◌, ◌≢◌, ◌⊎◌, inl, inr, ℕ, ◌<◌, ◌≤◌, ℤ, pos, neg_ℤ, ◌-ℤ◌, ◌*ℤ◌, ◌<ℤ◌, List, refl, ap, sym, ◌∙◌, arith}
use Rattle.std.proofs.lemmas.Int.{ints}
use lib.IntN.{*ℤ-one}
use Rattle.exact_algebra.proofs.Signs.{pos_same}
use Rattle.sign_predicates.specs.Point.{Point, RationalPoint, as_rational, origin}
use Rattle.sign_predicates.specs.Orientation.{Triangle, volume, side, side_rational, IsPositive, StrictlyInside}
use Rattle.geo_laws.specs.Arrangement.{rotate, swap_both, IsEvenOf, itself, rotated, swapped}
use Rattle.geo_laws.specs.Delaunay.{point, corners, IsArranged}
use Rattle.geo_laws.specs.Height.{height, height_at, residual_at}
use Rattle.geo_laws.specs.declared.tetrahedra.Tet.{Tet}
use Rattle.sign_predicates.proofs.Places.{Place, A, B, C, D, opposite}
use Rattle.geo_laws.proofs.Places.{number, over_places, sum-same, at_face, all_faces}
use Rattle.geo_laws.proofs.Determinants.{weights-sum, turned, side_rational-turned, side_rational-as_rational, orient-swap_cd}
use Rattle.geo_laws.proofs.Corners.{IsCorner, distinct}
use Rattle.geo_laws.proofs.Ties.{order}

-- the corner of s at a place is that of t at another place, by an even permutation: so its opposite face has the same sides
pub record IsEven (ps : List Point) (t s : Tet) : Type 0 where
  pub to : Place → Place
  pub back : Place → Place
  pub to_back : (u : Place) → to (back u) ≡ u
  pub back_to : (u : Place) → back (to u) ≡ u
  pub number_is : (u : Place) → number s u ≡ number t (to u)
  pub side_is : (u : Place) (x : RationalPoint) → side_rational (opposite (corners ps s) u) x ≡ side_rational (opposite (corners ps t) (to u)) x
  pub sum_is : (f : Place → ℤ) → over_places (λ u. f (to u)) ≡ over_places f

-- each tetrahedron is an even permutation of itself
pub even_self : (ps : List Point) (t : Tet) → IsEven ps t t
even_self ps t = record { to = λ u. u; back = λ u. u; to_back = λ u. refl; back_to = λ u. refl; number_is = λ u. refl; side_is = λ u x. refl; sum_is = λ f. refl }

-- one after another they make one
pub even_trans : (ps : List Point) (t s r : Tet) → IsEven ps t s → IsEven ps s r → IsEven ps t r
even_trans ps t s r h k = record {
  to = λ u. h.to (k.to u);
  back = λ u. k.back (h.back u);
  to_back = λ u. ap h.to (k.to_back (h.back u)) ∙ h.to_back u;
  back_to = λ u. ap k.back (h.back_to (k.to u)) ∙ k.back_to u;
  number_is = λ u. k.number_is u ∙ h.number_is (k.to u);
  side_is = λ u x. k.side_is u x ∙ h.side_is (k.to u) x;
  sum_is = λ f. k.sum_is (λ u. f (h.to u)) ∙ h.sum_is f;
}

-- and back
pub even_back : (ps : List Point) (t s : Tet) → IsEven ps t s → IsEven ps s t
even_back ps t s h = record {
  to = h.back;
  back = h.to;
  to_back = h.back_to;
  back_to = h.to_back;
  number_is = λ u. ap (number t) (sym (h.to_back u)) ∙ sym (h.number_is (h.back u));
  side_is = λ u x. ap (λ v. side_rational (opposite (corners ps t) v) x) (sym (h.to_back u)) ∙ sym (h.side_is (h.back u) x);
  sum_is = λ f. sym (h.sum_is (λ u. f (h.back u))) ∙ sum-same (λ u. f (h.back (h.to u))) f (λ u. ap f (h.back_to u));
}

-- ---- what an even permutation keeps

-- the corners are the same numbers
pub corner_to : (ps : List Point) (t s : Tet) → IsEven ps t s → (i : ℕ) → IsCorner t i → IsCorner s i
corner_to ps t s h i c = (h.back c.0, c.1 ∙ ap (number t) (sym (h.to_back c.0)) ∙ sym (h.number_is (h.back c.0)))

-- and back
pub corner_from : (ps : List Point) (t s : Tet) → IsEven ps t s → (i : ℕ) → IsCorner s i → IsCorner t i
corner_from ps t s h i c = (h.to c.0, c.1 ∙ h.number_is c.0)

-- a point strictly inside stays so
pub inside_to : (ps : List Point) (t s : Tet) → IsEven ps t s → (x : RationalPoint) → StrictlyInside (corners ps t) x → StrictlyInside (corners ps s) x
inside_to ps t s h x inside =
    all_faces (λ f. pos 0 <ℤ side_rational f x) (corners ps s) (λ u. pos_same _ _ (h.side_is u x) (at_face (λ f. pos 0 <ℤ side_rational f x) (corners ps t) inside (h.to u)))

-- the volume is the sum of the sides of any point
pub even_volume : (ps : List Point) (t s : Tet) → IsEven ps t s → volume (corners ps s) ≡ volume (corners ps t)
unfolding lib.IntN.one
even_volume ps t s h =
    let x = as_rational origin in
    sym (*ℤ-one (volume (corners ps s))) ∙ sym (weights-sum (corners ps s) x)
    ∙ sum-same (λ u. side_rational (opposite (corners ps s) u) x) (λ u. side_rational (opposite (corners ps t) (h.to u)) x) (λ u. h.side_is u x)
    ∙ h.sum_is (λ u. side_rational (opposite (corners ps t) u) x) ∙ weights-sum (corners ps t) x ∙ *ℤ-one (volume (corners ps t))

-- a positive tetrahedron stays positive
pub even_positive : (ps : List Point) (t s : Tet) → IsEven ps t s → IsPositive (corners ps t) → IsPositive (corners ps s)
even_positive ps t s h p = pos_same (volume (corners ps s)) (volume (corners ps t)) (even_volume ps t s h) p

-- the height of each point above the tetrahedron stays the same
pub even_residual : (ps : List Point) (t s : Tet) → IsEven ps t s → (first : ℕ → ℤ) (e k : ℕ) → residual_at ps first t e k ≡ residual_at ps first s e k
even_residual ps t s h first e k =
    let p = point ps e in
    let part = λ (r : Tet) (u : Place). side (opposite (corners ps r) u) p *ℤ height first (number r u) k in
    let same_side = λ (u : Place). sym (side_rational-as_rational (opposite (corners ps s) u) p) ∙ h.side_is u (as_rational p) ∙ side_rational-as_rational (opposite (corners ps t) (h.to u)) p in
    let sums : over_places (part t) ≡ over_places (part s) = sym (h.sum_is (part t)) ∙ sum-same (λ u. part t (h.to u)) (part s) (λ u j. sym (same_side u) j *ℤ height first (sym (h.number_is u) j) k) in
    λ j. sym (even_volume ps t s h) j *ℤ height first e k -ℤ sums j

-- and so does the height of the tetrahedron at a point
pub even_height : (ps : List Point) (t s : Tet) → IsEven ps t s → (first : ℕ → ℤ) (x : RationalPoint) (k : ℕ) → height_at ps first t x k ≡ height_at ps first s x k
even_height ps t s h first x k =
    let part = λ (r : Tet) (u : Place). side_rational (opposite (corners ps r) u) x *ℤ height first (number r u) k in
    sym (h.sum_is (part t)) ∙ sum-same (λ u. part t (h.to u)) (part s) (λ u j. sym (h.side_is u x) j *ℤ height first (sym (h.number_is u) j) k)

-- ---- permutations, of which two make all

-- the first two corners change places with the last two
abbrev pub cross : Tet → Tet
cross t = record { a = t.c; b = t.d; c = t.a; d = t.b }

-- a face that is turned twice has the same sides
twice : (f : Triangle) (x : RationalPoint) → side_rational (turned (turned f)) x ≡ side_rational f x
twice f x = side_rational-turned (turned f) x ∙ side_rational-turned f x

-- where each corner of `rotate t` stands in t
abbrev rotation : Place → Place
rotation A = A
rotation B = C
rotation C = D
rotation D = B

pub even-rotate : (ps : List Point) (t : Tet) → IsEven ps t (rotate t)
even-rotate ps t = record { to = rotation; back = λ u. rotation (rotation u); to_back = to_back; back_to = to_back; number_is = number_is; side_is = side_is; sum_is = λ f. omega (arith, ints) }
  where
    to_back : (u : Place) → rotation (rotation (rotation u)) ≡ u
    to_back A = refl
    to_back B = refl
    to_back C = refl
    to_back D = refl

    number_is : (u : Place) → number (rotate t) u ≡ number t (rotation u)
    number_is A = refl
    number_is B = refl
    number_is C = refl
    number_is D = refl

    side_is : (u : Place) (x : RationalPoint) → side_rational (opposite (corners ps (rotate t)) u) x ≡ side_rational (opposite (corners ps t) (rotation u)) x
    side_is A x = twice (opposite (corners ps t) A) x
    side_is B x = refl
    side_is C x = refl
    side_is D x = refl

-- where each corner of `swap_both t` stands in t
abbrev swapping : Place → Place
swapping A = B
swapping B = A
swapping C = D
swapping D = C

pub even-swap : (ps : List Point) (t : Tet) → IsEven ps t (swap_both t)
even-swap ps t = record { to = swapping; back = swapping; to_back = to_back; back_to = to_back; number_is = number_is; side_is = side_is; sum_is = λ f. omega (arith, ints) }
  where
    to_back : (u : Place) → swapping (swapping u) ≡ u
    to_back A = refl
    to_back B = refl
    to_back C = refl
    to_back D = refl

    number_is : (u : Place) → number (swap_both t) u ≡ number t (swapping u)
    number_is A = refl
    number_is B = refl
    number_is C = refl
    number_is D = refl

    side_is : (u : Place) (x : RationalPoint) → side_rational (opposite (corners ps (swap_both t)) u) x ≡ side_rational (opposite (corners ps t) (swapping u)) x
    side_is A x = refl
    side_is B x = refl
    side_is C x = side_rational-turned (opposite (corners ps t) D) x
    side_is D x = twice (opposite (corners ps t) C) x

-- an even arrangement of a row is such a permutation
pub even_of : (ps : List Point) (t s : Tet) → IsEvenOf t s → IsEven ps t s
even_of ps t s itself = even_self ps t
even_of ps t r (rotated s h) = even_trans ps t s (rotate s) (even_of ps t s h) (even-rotate ps s)
even_of ps t r (swapped s h) = even_trans ps t s (swap_both s) (even_of ps t s h) (even-swap ps s)

-- arranged evenly again
pub even_after : (t s r : Tet) → IsEvenOf t s → IsEvenOf s r → IsEvenOf t r
even_after t s r h itself = h
even_after t s r h (rotated q k) = rotated q (even_after t s q h k)
even_after t s r h (swapped q k) = swapped q (even_after t s q h k)

pub crossed : (t : Tet) → IsEvenOf t (cross t)
crossed t = rotated _ (rotated _ (swapped _ (rotated t itself)))

pub even-cross : (ps : List Point) (t : Tet) → IsEven ps t (cross t)
even-cross ps t = even_of ps t (cross t) (crossed t)

-- ---- the least arrangement

-- of two different numbers one is the lesser
lesser : (i j : ℕ) → i ≢ j → (i < j) ⊎ (j < i)
lesser i j n = go (order i j)
  where
    go : (i < j) ⊎ ((i ≡ j) ⊎ (j < i)) → (i < j) ⊎ (j < i)
    go (inl h) = inl h
    go (inr (inl e)) = absurd (n e)
    go (inr (inr h)) = inr h

-- the least number stands first
record FirstLeast (t : Tet) : Type 0 where
  to_b : t.a < t.b
  to_c : t.a < t.c
  to_d : t.a < t.d

-- some even permutation of the row has the least number first
least_first : (ps : List Point) (t : Tet) → IsPositive (corners ps t) → (s : Tet) × IsEven ps t s × FirstLeast s
least_first ps t h = go (lesser t.a t.b (distinct ps t h A B tt)) (lesser t.c t.d (distinct ps t h C D tt)) (lesser t.a t.c (distinct ps t h A C tt)) (lesser t.a t.d (distinct ps t h A D tt)) (lesser t.b t.c (distinct ps t h B C tt)) (lesser t.b t.d (distinct ps t h B D tt))
  where
    both : IsEven ps t (swap_both (cross t))
    both = even_trans ps t (cross t) (swap_both (cross t)) (even-cross ps t) (even-swap ps (cross t))

    go : (t.a < t.b) ⊎ (t.b < t.a) → (t.c < t.d) ⊎ (t.d < t.c) → (t.a < t.c) ⊎ (t.c < t.a) → (t.a < t.d) ⊎ (t.d < t.a) → (t.b < t.c) ⊎ (t.c < t.b) → (t.b < t.d) ⊎ (t.d < t.b)
        → (s : Tet) × IsEven ps t s × FirstLeast s
    go (inl ab) (inl cd) (inl ac) _ _ _ = (t, even_self ps t, record { to_b = ab; to_c = ac; to_d = omega arith })
    go (inl ab) (inl cd) (inr ca) _ _ _ = (cross t, even-cross ps t, record { to_b = cd; to_c = ca; to_d = omega arith })
    go (inl ab) (inr dc) _ (inl ad) _ _ = (t, even_self ps t, record { to_b = ab; to_c = omega arith; to_d = ad })
    go (inl ab) (inr dc) _ (inr da) _ _ = (swap_both (cross t), both, record { to_b = dc; to_c = omega arith; to_d = da })
    go (inr ba) (inl cd) _ _ (inl bc) _ = (swap_both t, even-swap ps t, record { to_b = ba; to_c = omega arith; to_d = bc })
    go (inr ba) (inl cd) _ _ (inr cb) _ = (cross t, even-cross ps t, record { to_b = cd; to_c = omega arith; to_d = cb })
    go (inr ba) (inr dc) _ _ _ (inl bd) = (swap_both t, even-swap ps t, record { to_b = ba; to_c = bd; to_d = omega arith })
    go (inr ba) (inr dc) _ _ _ (inr db) = (swap_both (cross t), both, record { to_b = dc; to_c = db; to_d = omega arith })

-- and one of its rotations has the second least number second
second_least : (ps : List Point) (t : Tet) → IsPositive (corners ps t) → FirstLeast t → (s : Tet) × IsEven ps t s × IsArranged s
second_least ps t h f = go (lesser t.b t.c (distinct ps t h B C tt)) (lesser t.b t.d (distinct ps t h B D tt)) (lesser t.c t.d (distinct ps t h C D tt))
  where
    two : IsEven ps t (rotate (rotate t))
    two = even_trans ps t (rotate t) (rotate (rotate t)) (even-rotate ps t) (even-rotate ps (rotate t))

    go : (t.b < t.c) ⊎ (t.c < t.b) → (t.b < t.d) ⊎ (t.d < t.b) → (t.c < t.d) ⊎ (t.d < t.c) → (s : Tet) × IsEven ps t s × IsArranged s
    go (inl bc) (inl bd) _ = (t, even_self ps t, record { first = f.to_b; second = bc; second' = bd })
    go (inl bc) (inr db) _ = (rotate (rotate t), two, record { first = f.to_d; second = db; second' = omega arith })
    go (inr cb) _ (inl cd) = (rotate t, even-rotate ps t, record { first = f.to_c; second = cd; second' = cb })
    go (inr cb) _ (inr dc) = (rotate (rotate t), two, record { first = f.to_d; second = omega arith; second' = dc })

-- each positive row has a least even arrangement
pub arranged : (ps : List Point) (t : Tet) → IsPositive (corners ps t) → (s : Tet) × IsEven ps t s × IsArranged s
arranged ps t h =
    let one = least_first ps t h in
    let two = second_least ps one.0 (even_positive ps t one.0 one.1 h) one.2 in
    (two.0, even_trans ps t one.0 two.0 one.1 two.1, two.2)

-- ---- arranged rows with the same corners are the same

-- in an arranged tetrahedron the first number is the least
pub at_least_a : (t : Tet) (i : ℕ) → IsArranged t → IsCorner t i → t.a ≤ i
at_least_a t i h (A, e) = omega arith
at_least_a t i h (B, e) = let k = h.first in omega arith
at_least_a t i h (C, e) = let k = h.first in let l = h.second in omega arith
at_least_a t i h (D, e) = let k = h.first in let l = h.second' in omega arith

-- and the second is the least of the others
pub at_least_b : (t : Tet) (i : ℕ) → IsArranged t → IsCorner t i → t.a < i → t.b ≤ i
at_least_b t i h (A, e) k = absurd (omega arith)
at_least_b t i h (B, e) k = omega arith
at_least_b t i h (C, e) k = let l = h.second in omega arith
at_least_b t i h (D, e) k = let l = h.second' in omega arith

-- a greater one is one of the last two
pub last_two : (t : Tet) (i : ℕ) → IsArranged t → IsCorner t i → t.b < i → (i ≡ t.c) ⊎ (i ≡ t.d)
last_two t i h (A, e) k = let l = h.first in absurd (omega arith)
last_two t i h (B, e) k = absurd (omega arith)
last_two t i h (C, e) k = inl e
last_two t i h (D, e) k = inr e

-- two numbers above 0 are not opposite
no_opposite : (v w : ℤ) → v ≡ neg_ℤ w → pos 0 <ℤ v → pos 0 <ℤ w → ⊥
no_opposite v w e h k = omega (arith, ints)

-- arranged positive tetrahedra with the same corners are the same: only the last two could change places, and that changes the sign
pub same_row : (ps : List Point) (s t : Tet) → IsPositive (corners ps s) → IsPositive (corners ps t) → IsArranged s → IsArranged t
    → ((i : ℕ) → IsCorner s i → IsCorner t i) → ((i : ℕ) → IsCorner t i → IsCorner s i) → s ≡ t
same_row ps s t ps_s ps_t hs ht st ts =
    let sa = at_least_a t s.a ht (st s.a (A, refl)) in
    let ta = at_least_a s t.a hs (ts t.a (A, refl)) in
    let ea : s.a ≡ t.a = omega arith in
    let fs = hs.first in
    let ft = ht.first in
    let sb = at_least_b t s.b ht (st s.b (B, refl)) (omega arith) in
    let tb = at_least_b s t.b hs (ts t.b (B, refl)) (omega arith) in
    let eb : s.b ≡ t.b = omega arith in
    let k1 = hs.second in
    let k2 = hs.second' in
    go ea eb (last_two t s.c ht (st s.c (C, refl)) (omega arith)) (last_two t s.d ht (st s.d (D, refl)) (omega arith))
  where
    apart : s.c ≢ s.d
    apart = distinct ps s ps_s C D tt

    go : s.a ≡ t.a → s.b ≡ t.b → (s.c ≡ t.c) ⊎ (s.c ≡ t.d) → (s.d ≡ t.c) ⊎ (s.d ≡ t.d) → s ≡ t
    go ea eb (inl c) (inr d) = λ j. record { a = ea j; b = eb j; c = c j; d = d j }
    go ea eb (inl c) (inl d) = absurd (apart (c ∙ sym d))
    go ea eb (inr c) (inr d) = absurd (apart (c ∙ sym d))
    go ea eb (inr c) (inl d) = absurd (no_opposite (volume (corners ps s)) (volume (corners ps t))
        ((λ j. volume (record { a = point ps (ea j); b = point ps (eb j); c = point ps (c j); d = point ps (d j) })) ∙ orient-swap_cd (point ps t.a) (point ps t.b) (point ps t.c) (point ps t.d)) ps_s ps_t)
