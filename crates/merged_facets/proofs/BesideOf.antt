-- Two polygons on either hand of a side, by the tests of their corners against one corner.
use Rattle.std.proofs.Common.{◌≡◌, ◌≢◌, ◌⊎◌, inl, inr, ℕ, zero, suc, ◌+◌, ◌<◌, Bool, true, false, List, [], ◌∷◌, ◌++◌, length, refl, ap, sym, ◌∙◌, subst, arith}
use Rattle.std.specs.Prelude.{ℤ, pos, ◌<ℤ◌, ◌≤ℤ◌, IsTrue, ◌↔◌, Option, None, find, All, Some, slice_index_or, Contains}
use Rattle.std.proofs.lemmas.Int.{ints}
use Rattle.std.proofs.lemmas.List.Elements.{recursion_from_All}
use Rattle.sign_predicates.specs.Point.{Point}
use Rattle.sign_predicates.specs.Orientation.{SpansPlane, Triangle, orient, normal, side}
use Rattle.sign_predicates.specs.Meeting.{triangle_of}
use Rattle.sign_predicates.specs.Sign.{IsSignOf}
use Rattle.sign_predicates.specs.Turns.{turn}
use Rattle.sign_predicates.specs.declared.tetrahedron.Sign.{Sign}
use Rattle.sign_predicates.specs.declared.tetrahedron.Sign.TheVariants.{Below, Zero, Above}
use Rattle.geo_laws.specs.Delaunay.{point, HasDistinctPoints}
use Rattle.geo_laws.specs.Facet.{IsFlat, all_corners, spans_plane}
use Rattle.geo_laws.specs.Laws.{plane_through}
use Rattle.geo_laws.specs.Segment.{sides, same_ends}
use Rattle.geo_laws.specs.declared.complex.Piece.{Piece}
use Rattle.geo_laws.proofs.Members.{IsMember, at_place, member_of, contains_of, in_append_left, in_append_right, append_cases}
use Rattle.facet_laws.proofs.Chains.{all_at}
use Rattle.facet_laws.proofs.Pieces.{points_differ}
use Rattle.facet_laws.proofs.PlaneOf.{none_passes, some_passes}
use Rattle.facet_laws.proofs.SamePlane.{point_to_triangle}
use Rattle.incidence.proofs.Found.{SameEnds, same_of}
use Rattle.simplex_meets.proofs.Facets.{law_spans}
use Rattle.merged_facets.specs.Merged.{has_span, alike_turned, places_of}
use Rattle.merged_facets.specs.Beside.{one_facet, two_facet, is_off, AreBeside, not_below, not_above, LieInPlane, LieBeside, LieAcross, HasSideOnce, IsSideAmong, IsOffCorner}
use Rattle.merged_facets.proofs.Hands.{no_span, has_three, spans_off, both_beside, both_beyond, either_beside}
use Rattle.merged_facets.proofs.Once.{counted, side_ends}

-- ---- tests of points that were read from the list

pub same_truth : (b c : Bool) (P : Type 0) → IsTrue b ↔ P → IsTrue c ↔ P → b ≡ c
same_truth true c P h k = sym (k.1 (h.0 refl))
same_truth false true P h k = absurd (clash (h.1 (k.0 refl)))
  where
    clash : false ≡ true → ⊥
    clash e = cc
same_truth false false P h k = refl

pub off_at : (ps : List Point) (s : Piece) (i : ℕ) (a b c : Point) (r : Bool) → point ps s.a ≡ a → point ps s.b ≡ b → point ps i ≡ c → IsTrue r ↔ SpansPlane (triangle_of a b c) → r ≡ is_off ps s i
off_at ps s i a b c r ea eb ec h =
    same_truth r (is_off ps s i) (SpansPlane (triangle_of a b c)) h
    (subst (λ (f : Triangle). IsTrue (spans_plane ps s.a s.b i) ↔ SpansPlane f) (λ j. record { a = ea j; b = eb j; c = ec j }) (law_spans ps s.a s.b i))

pub turn_at : (ps : List Point) (s : Piece) (i j : ℕ) (a b c p : Point) (r : Sign) → point ps s.a ≡ a → point ps s.b ≡ b → point ps i ≡ c → point ps j ≡ p
    → IsSignOf r (turn (normal (triangle_of a b c)) a b p) → IsSignOf r (alike_turned ps s i j)
unfolding turn
turn_at ps s i j a b c p r ea eb ec ep h = subst (λ n. IsSignOf r n) (λ k. turn (normal (triangle_of (sym ea k) (sym eb k) (sym ec k))) (sym ea k) (sym eb k) (sym ep k)) h

pub plane_at : (ps : List Point) (s : Piece) (i j : ℕ) (a b c p : Point) (r : Bool) → point ps s.a ≡ a → point ps s.b ≡ b → point ps i ≡ c → point ps j ≡ p
    → IsTrue r ↔ (orient a b c p ≡ pos 0) → IsTrue r ↔ LieInPlane ps s i j
plane_at ps s i j a b c p r ea eb ec ep h = subst (λ n. IsTrue r ↔ (n ≡ pos 0)) (λ k. orient (sym ea k) (sym eb k) (sym ec k) (sym ep k)) h

pub beside_is : (ps : List Point) (s : Piece) (i j : ℕ) (r : Sign) (b : Bool) → IsSignOf r (alike_turned ps s i j) → b ≡ not_below r → IsTrue b ↔ LieBeside ps s i j
beside_is ps s i j Below b h e = (λ t. absurd (clash b t e), λ l. absurd (low (alike_turned ps s i j) l.beside h))
  where
    clash : (b : Bool) → b ≡ true → b ≡ false → ⊥
    clash b h k = cc

    low : (n : ℤ) → pos 0 ≤ℤ n → n <ℤ pos 0 → ⊥
    low n h k = omega (arith, ints)
beside_is ps s i j Zero b h e = (λ t. record { beside = least (alike_turned ps s i j) h }, λ l. e)
  where
    least : (n : ℤ) → n ≡ pos 0 → pos 0 ≤ℤ n
    least n h = omega (arith, ints)
beside_is ps s i j Above b h e = (λ t. record { beside = least (alike_turned ps s i j) h }, λ l. e)
  where
    least : (n : ℤ) → pos 0 <ℤ n → pos 0 ≤ℤ n
    least n h = omega (arith, ints)

pub across_is : (ps : List Point) (s : Piece) (i j : ℕ) (r : Sign) (b : Bool) → IsSignOf r (alike_turned ps s i j) → b ≡ not_above r → IsTrue b ↔ LieAcross ps s i j
across_is ps s i j Below b h e = (λ t. record { across = most (alike_turned ps s i j) h }, λ l. e)
  where
    most : (n : ℤ) → n <ℤ pos 0 → n ≤ℤ pos 0
    most n h = omega (arith, ints)
across_is ps s i j Zero b h e = (λ t. record { across = most (alike_turned ps s i j) h }, λ l. e)
  where
    most : (n : ℤ) → n ≡ pos 0 → n ≤ℤ pos 0
    most n h = omega (arith, ints)
across_is ps s i j Above b h e = (λ t. absurd (clash b t e), λ l. absurd (high (alike_turned ps s i j) l.across h))
  where
    clash : (b : Bool) → b ≡ true → b ≡ false → ⊥
    clash b h k = cc

    high : (n : ℤ) → n ≤ℤ pos 0 → pos 0 <ℤ n → ⊥
    high n h k = omega (arith, ints)

pub some_not_none : {x : ℕ} (o : Option ℕ) → Some x ≡ o → o ≡ None → ⊥
some_not_none {x = x} o e f = never (e ∙ f)
  where
    never : Some x ≡ None → ⊥
    never k = cc

-- ---- the ends of the side are corners

pub ends_in : (s : Piece) (p : List ℕ) → places_of s p ≡ 1 → IsMember s.a p × IsMember s.b p
ends_in s p e =
    let r = counted (same_ends s) (sides p) e in
    let m = side_ends p r.0 r.1 in
    go r.0 (same_of s r.0 r.2) m
  where
    go : (r : Piece) → SameEnds s r → IsMember r.a p × IsMember r.b p → IsMember s.a p × IsMember s.b p
    go r (inl h) m = (subst (λ i. IsMember i p) (sym h.0) m.0, subst (λ i. IsMember i p) (sym h.1) m.1)
    go r (inr h) m = (subst (λ i. IsMember i p) (sym h.0) m.1, subst (λ i. IsMember i p) (sym h.1) m.0)

-- ---- one corner more

same_at : (xs : List ℕ) (i d e : ℕ) → i < length xs → slice_index_or xs i d ≡ slice_index_or xs i e
same_at [] i d e l = absurd (omega arith)
same_at (x ∷ xs) zero d e l = refl
same_at (x ∷ xs) (suc i) d e l = same_at xs i d e (omega arith)

pub each_more : (P : ℕ → Type 0) (xs : List ℕ) (i : ℕ) → i < length xs → ((k d : ℕ) → k < i → P (slice_index_or xs k d)) → P (slice_index_or xs i 0) → (k d : ℕ) → k < i + 1 → P (slice_index_or xs k d)
each_more P xs i there h p k d l = go (before k i l)
  where
    before : (a b : ℕ) → a < b + 1 → (a < b) ⊎ (a ≡ b)
    before a b h = grind arith

    go : (k < i) ⊎ (k ≡ i) → P (slice_index_or xs k d)
    go (inl less) = h k d less
    go (inr e) = subst P (same_at xs i 0 d there ∙ ap (λ n. slice_index_or xs n d) (sym e)) p

-- ---- what joined polygons pass

append_nil : {X : Type 0} (xs : List X) → xs ++ [] ≡ xs
append_nil [] = refl
append_nil (x ∷ xs) = ap (λ zs. x ∷ zs) (append_nil xs)

in_first : (p q : List ℕ) (i : ℕ) → IsMember i p → Contains (all_corners (two_facet p q)) i
in_first p q i m = contains_of (all_corners (two_facet p q)) i (in_append_left i p (q ++ []) m)

in_second : (p q : List ℕ) (i : ℕ) → IsMember i q → Contains (all_corners (two_facet p q)) i
in_second p q i m = contains_of (all_corners (two_facet p q)) i (in_append_right i p (q ++ []) (in_append_left i q [] m))

pub all_of_members : (P : ℕ → Type 0) (p : List ℕ) → ((i : ℕ) → IsMember i p → P i) → All P p
all_of_members P p h = λ k d l. h (slice_index_or p k d) (at_place p k d l)

pub member_of_all : (P : ℕ → Type 0) (p : List ℕ) (i : ℕ) → All P p → IsMember i p → P i
member_of_all P p i h m = all_at P i p (recursion_from_All P p h) m

pub in_plane_of : (ps : List Point) (s : Piece) (p q : List ℕ) (i : ℕ) → AreBeside ps s p q → IsMember i p → All (LieInPlane ps s i) q
in_plane_of ps s p q i h m =
    let e = ends_in s p h.once_in_first in
    all_of_members (LieInPlane ps s i) q (λ j n. h.flat s.a s.b i j (in_first p q s.a e.0) (in_first p q s.b e.1) (in_first p q i m) (in_second p q j n))

pub across_of : (ps : List Point) (s : Piece) (p q : List ℕ) (i : ℕ) → AreBeside ps s p q → Contains p i → All (LieAcross ps s i) q
across_of ps s p q i h m = all_of_members (LieAcross ps s i) q (λ j n. record { across = h.either_side i j m (contains_of q j n) })

pub beside_of : (ps : List Point) (s : Piece) (p q : List ℕ) (i : ℕ) → AreBeside ps s p q → Contains p i → All (LieBeside ps s i) p
beside_of ps s p q i h m = all_of_members (LieBeside ps s i) p (λ j n. record { beside = h.first_beside i j m (contains_of p j n) })

side_apart : (ps : List Point) (s : Piece) → HasDistinctPoints ps → IsSideAmong ps s → point ps s.a ≢ point ps s.b
side_apart ps s distinct h = points_differ ps distinct s.a s.b h.a_there h.b_there h.two

-- a polygon with a span has a corner off the line of the side
pub spans_some : (ps : List Point) (s : Piece) (p : List ℕ) → HasDistinctPoints ps → IsSideAmong ps s → IsTrue (has_span ps p) → find (is_off ps s) p ≡ None → ⊥
spans_some ps s p distinct side span e = no_span ps s p (side_apart ps s distinct side) (λ i m. none_passes (is_off ps s) p e i m) span

-- ---- what passes is joined

off_corner : (ps : List Point) (s : Piece) (p : List ℕ) (o : Option ℕ) → find (is_off ps s) p ≡ o → (o ≡ None → ⊥) → (j : ℕ) × IsMember j p × (is_off ps s j ≡ true)
off_corner ps s p None e n = absurd (n refl)
off_corner ps s p (Some j) e n = let r = some_passes (is_off ps s) p j e in (j, r.1, r.0)

pub beside_by : (ps : List Point) (s : Piece) (p q : List ℕ) (i : ℕ) → IsFlat ps (one_facet p) → IsOffCorner ps s p i → All (LieInPlane ps s i) q → All (LieAcross ps s i) q
    → All (LieBeside ps s i) p → (find (is_off ps s) q ≡ None → ⊥) → HasSideOnce ps s p → HasSideOnce ps s q → AreBeside ps s p q
beside_by ps s p q i flat off plane across beside some once_p once_q = record {
  first_spans = has_three ps p s.a s.b i ep.0 ep.1 mi off.off;
  second_spans = has_three ps q s.a s.b other.0 eq.0 eq.1 other.1 other.2;
  flat = all_flat;
  once_in_first = once_p.once;
  once_in_second = once_q.once;
  first_beside = λ j k cj ck. both_beside ps s i j k far (in_p j (member_of p j cj)) (by_p j (member_of p j cj)) (by_p k (member_of p k ck));
  second_beside = λ j k cj ck. both_beyond ps s i j k far (in_q j (member_of q j cj)) (by_q j (member_of q j cj)) (by_q k (member_of q k ck));
  either_side = λ j k cj ck. either_beside ps s i j k far (in_p j (member_of p j cj)) (by_p j (member_of p j cj)) (by_q k (member_of q k ck));
  first_met = once_p.met;
  second_met = once_q.met;
}
  where
    ep : IsMember s.a p × IsMember s.b p
    ep = ends_in s p once_p.once

    eq : IsMember s.a q × IsMember s.b q
    eq = ends_in s q once_q.once

    mi : IsMember i p
    mi = member_of p i off.corner

    far : pos 0 <ℤ alike_turned ps s i i
    far = spans_off ps s i off.off

    other : (j : ℕ) × IsMember j q × (is_off ps s j ≡ true)
    other = off_corner ps s q (find (is_off ps s) q) refl some

    own : (j : ℕ) → IsMember j p → Contains (all_corners (one_facet p)) j
    own j m = contains_of (all_corners (one_facet p)) j (in_append_left j p [] m)

    in_p : (j : ℕ) → IsMember j p → LieInPlane ps s i j
    in_p j m = flat s.a s.b i j (own s.a (ends_in s p once_p.once).0) (own s.b (ends_in s p once_p.once).1) (own i (member_of p i off.corner)) (own j m)

    in_q : (j : ℕ) → IsMember j q → LieInPlane ps s i j
    in_q j m = member_of_all (LieInPlane ps s i) q j plane m

    by_p : (j : ℕ) → IsMember j p → pos 0 ≤ℤ alike_turned ps s i j
    by_p j m = (member_of_all (LieBeside ps s i) p j beside m).beside

    by_q : (j : ℕ) → IsMember j q → alike_turned ps s i j ≤ℤ pos 0
    by_q j m = (member_of_all (LieAcross ps s i) q j across m).across

    in_both : (j : ℕ) → Contains (all_corners (two_facet p q)) j → LieInPlane ps s i j
    in_both j c = go (append_cases j p (q ++ []) (member_of (all_corners (two_facet p q)) j c))
      where
        go : IsMember j p ⊎ IsMember j (q ++ []) → LieInPlane ps s i j
        go (inl m) = in_p j m
        go (inr m) = in_q j (subst (λ (xs : List ℕ). IsMember j xs) (append_nil q) m)

    spans : SpansPlane (plane_through ps s.a s.b i)
    spans = (law_spans ps s.a s.b i).0 off.off

    all_flat : IsFlat ps (two_facet p q)
    all_flat j k l m cj ck cl cm =
        point_to_triangle (plane_through ps s.a s.b i) (plane_through ps j k l) (point ps m) spans
        (record { at_a = in_both j cj; at_b = in_both k ck; at_c = in_both l cl }) (in_both m cm)
