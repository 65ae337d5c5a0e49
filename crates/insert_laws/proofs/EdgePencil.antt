-- Hull faces on one edge are a pencil as well: c, the middle of a row, stands in place of the face's third corner, and a first place says which points are below the plane.
use Rattle.geo_laws.proofs.Lift.{one_if, map-map}
use Rattle.geo_laws.proofs.Lexicographic.{zero_at}
use Rattle.std.proofs.Common.{◌≡◌, ◌≢◌, ◌⊎◌, inl, inr, ℕ, zero, suc, ℤ, pos, neg_ℤ, ◌+ℤ◌, ◌-ℤ◌, ◌*ℤ◌, ◌<ℤ◌, List, ◌∷◌, map, length, refl, ap, sym, subst, ◌∙◌, arith, eq-eqb, ne_eqb}
use Rattle.std.proofs.lemmas.Int.{ints}
use Rattle.sign_predicates.specs.Point.{Point, RationalPoint}
use Rattle.sign_predicates.specs.Orientation.{side_rational, orient_rational, IsPositive, StrictlyInside}
use Rattle.geo_laws.specs.Delaunay.{point, corners, numbers_below}
use Rattle.geo_laws.specs.Height.{IsLexPositive, height, places}
use Rattle.geo_laws.specs.declared.tetrahedra.Tet.{Tet}
use Rattle.exact_algebra.proofs.Signs.{sign_of}
use Rattle.geo_laws.proofs.Corners.{IsCorner}
use Rattle.geo_laws.proofs.Lexicographic.{IsLexAbove, lex_scale, lex_same}
use Rattle.geo_laws.proofs.Members.{there, in_map, in_range}
use Rattle.geo_laws.specs.OrientedFace.{Face, triangle}
use Rattle.insert_laws.proofs.Identities as identity
use Rattle.geo_laws.proofs.Lexicographic.{IsLexBelow, above_unscale}
use Rattle.insert_laws.proofs.Pencil.{IsPencil, IsBare}
use Rattle.insert_laws.proofs.FacePencil.{side_of, gap_of}
use Rattle.insert_laws.proofs.LowestBridge.{IsFaceOn, IsLowUnderOn}

-- an edge, as a face without a third corner of its own
abbrev pub edge_face : ℕ → ℕ → Face
edge_face i j = record { a = i; b = j; c = j }

-- ---- the pencil

-- the side of o at the plane through the edge and the center, with the other sign
abbrev pub edge_side : List Point → RationalPoint → ℕ → ℕ → ℕ → ℤ
edge_side ps mid i j o = identity.edge_side_of (point ps i) (point ps j) mid (point ps o)

-- the residual of e at the edge, o and the center
abbrev pub edge_rest : (ℕ → ℤ) → List Point → RationalPoint → ℕ → ℕ → ℕ → ℕ → ℕ → ℤ
edge_rest lifts ps mid i j o e k = identity.edge_gap_of (point ps i) (point ps j) mid (height lifts i k) (height lifts j k) (point ps o) (height lifts o k) (point ps e) (height lifts e k)

-- first whether e is below the plane of the edge and o, then that residual
abbrev pub edge_gap : (ℕ → ℤ) → List Point → RationalPoint → ℕ → ℕ → ℕ → ℕ → ℕ → ℤ
edge_gap lifts ps mid i j o e zero = identity.edge_first_of (point ps i) (point ps j) (point ps o) (point ps e)
edge_gap lifts ps mid i j o e (suc k) = edge_rest lifts ps mid i j o e k

abbrev pub edge_places : ℕ → List ℕ
edge_places n = zero ∷ map suc (places n)

flip : (m n : ℕ) → m ≢ n → n ≢ m
flip m n h e = h (sym e)

own_place : (lifts : ℕ → ℤ) (ps : List Point) (mid : RationalPoint) (i j o e : ℕ) → e ≢ i → e ≢ j → e ≢ o → edge_rest lifts ps mid i j o e (suc e) ≡ edge_side ps mid i j o
own_place lifts ps mid i j o e hi hj ho =
    (λ k. neg_ℤ (orient_rational (point ps i) (point ps j) (point ps o) mid *ℤ one_if (eq-eqb e e refl k)
    -ℤ (orient_rational (point ps j) (point ps o) (point ps e) mid *ℤ one_if (ne_eqb i e (flip e i hi) k)
    +ℤ orient_rational (point ps i) (point ps e) (point ps o) mid *ℤ one_if (ne_eqb j e (flip e j hj) k)
    +ℤ orient_rational (point ps i) (point ps j) (point ps e) mid *ℤ one_if (ne_eqb o e (flip e o ho) k))))
    ∙ identity.edge-only_e (orient_rational (point ps i) (point ps j) (point ps o) mid) (orient_rational (point ps j) (point ps o) (point ps e) mid)
    (orient_rational (point ps i) (point ps e) (point ps o) mid) (orient_rational (point ps i) (point ps j) (point ps e) mid)

-- these are a pencil: the three-term relation at the first place, the identity of residuals at the others
pub edge_pencil : (lifts : ℕ → ℤ) (ps : List Point) (mid : RationalPoint) (i j : ℕ) → IsPencil (edge_face i j) (edge_side ps mid i j) (edge_gap lifts ps mid i j) (edge_places (length ps)) (length ps)
edge_pencil lifts ps mid i j = record {
  relation = relation;
  opposite = opposite;
  other = λ e h. record { not_a = λ d. h (on_i e d); not_b = λ d. h (on_j e d); not_c = λ d. h (on_j e d) };
  apart = λ o e l h d so z. so (sym (own_place lifts ps mid i j o e h.not_a h.not_b d)
      ∙ zero_at (edge_gap lifts ps mid i j o e) (edge_places (length ps)) (suc (suc e)) z (there (in_map suc (suc e) (places (length ps)) (there (in_map suc e (numbers_below (length ps)) (in_range 0 (length ps) e (omega arith) (omega arith)))))));
}
  where
    relation : (o q e k : ℕ) → edge_side ps mid i j o *ℤ edge_gap lifts ps mid i j q e k ≡ edge_side ps mid i j q *ℤ edge_gap lifts ps mid i j o e k -ℤ edge_side ps mid i j e *ℤ edge_gap lifts ps mid i j o q k
    relation o q e zero = identity.edge-first (point ps i) (point ps j) mid (point ps o) (point ps q) (point ps e)
    relation o q e (suc k) = identity.edge-gap (point ps i) (point ps j) mid (point ps o) (point ps q) (point ps e) (height lifts i k) (height lifts j k) (height lifts o k) (height lifts q k) (height lifts e k)

    opposite : (o e k : ℕ) → edge_gap lifts ps mid i j o e k ≡ neg_ℤ (edge_gap lifts ps mid i j e o k)
    opposite o e zero = identity.edge-first_opposite (point ps i) (point ps j) (point ps o) (point ps e)
    opposite o e (suc k) = identity.edge-gap_opposite (point ps i) (point ps j) mid (point ps o) (point ps e) (height lifts i k) (height lifts j k) (height lifts o k) (height lifts e k)

    on_i : (e : ℕ) → e ≡ i → edge_side ps mid i j e ≡ pos 0
    on_i e d = ap (edge_side ps mid i j) d ∙ identity.edge-side_i (point ps i) (point ps j) mid

    on_j : (e : ℕ) → e ≡ j → edge_side ps mid i j e ≡ pos 0
    on_j e d = ap (edge_side ps mid i j) d ∙ identity.edge-side_j (point ps i) (point ps j) mid

-- turned
pub edge_side-turned : (ps : List Point) (mid : RationalPoint) (i j o : ℕ) → edge_side ps mid j i o ≡ neg_ℤ (edge_side ps mid i j o)
edge_side-turned ps mid i j o = identity.edge-side_turned (point ps i) (point ps j) mid (point ps o)

-- the edge turned has the opposite gaps
pub edge_gap-turned : (lifts : ℕ → ℤ) (ps : List Point) (mid : RationalPoint) (i j o e k : ℕ) → edge_gap lifts ps mid j i o e k ≡ neg_ℤ (edge_gap lifts ps mid i j o e k)
edge_gap-turned lifts ps mid i j o e zero = identity.edge-first_turned (point ps i) (point ps j) (point ps o) (point ps e)
edge_gap-turned lifts ps mid i j o e (suc k) = identity.edge-gap_turned (point ps i) (point ps j) mid (point ps o) (point ps e) (height lifts i k) (height lifts j k) (height lifts o k) (height lifts e k)

-- ---- places

-- the first place decides, and the others where it is 0
pub to_places : (f : ℕ → ℤ) (ks : List ℕ) → (pos 0 <ℤ f zero) ⊎ ((f zero ≡ pos 0) × IsLexAbove (λ k. f (suc k)) ks) → IsLexAbove f (zero ∷ map suc ks)
to_places f ks (inl h) = inl h
to_places f ks (inr h) = inr (h.0, subst IsLexPositive (map-map f suc ks) h.1)

pub of_places : (f : ℕ → ℤ) (ks : List ℕ) → IsLexAbove f (zero ∷ map suc ks) → (pos 0 <ℤ f zero) ⊎ ((f zero ≡ pos 0) × IsLexAbove (λ k. f (suc k)) ks)
of_places f ks (inl h) = inl h
of_places f ks (inr h) = inr (h.0, subst IsLexPositive (sym (map-map f suc ks)) h.1)

same_sign : (p q : ℤ) (x y : ℕ → ℤ) (ks : List ℕ) → pos 0 <ℤ p → pos 0 <ℤ q → ((k : ℕ) → p *ℤ x k ≡ q *ℤ y k) → IsLexAbove x ks → IsLexAbove y ks
same_sign p q x y ks hp hq e h = above_unscale q y ks hq (lex_same (λ k. p *ℤ x k) (λ k. q *ℤ y k) ks e (lex_scale p x ks hp h))

-- ---- hull faces

-- no point of S is beyond the face, and the row of a is behind it
pub record IsHullOn (lifts : ℕ → ℤ) (ps : List Point) (S : ℕ → Type 0) (f : Face) (a : ℕ) : Type 0 where
  pub on : IsFaceOn S f
  pub bare : IsBare (side_of ps f) S
  pub low : IsLowUnderOn lifts ps S f a

-- a positive row on points of S, and a point strictly inside
pub record IsSome (ps : List Point) (S : ℕ → Type 0) (t : Tet) (mid : RationalPoint) : Type 0 where
  pub on : (i : ℕ) → IsCorner t i → S i
  pub positive : IsPositive (corners ps t)
  pub inside : StrictlyInside (corners ps t) mid

neg_zero : (n : ℤ) → n ≡ pos 0 → neg_ℤ n ≡ pos 0
neg_zero n e = omega (arith, ints)

of_neg_zero : (n : ℤ) → neg_ℤ n ≡ pos 0 → n ≡ pos 0
of_neg_zero n e = omega (arith, ints)

double : (n : ℤ) → pos 0 <ℤ n → pos 0 <ℤ neg_ℤ (neg_ℤ n)
double n h = omega (arith, ints)

un_double : (n : ℤ) → pos 0 <ℤ neg_ℤ (neg_ℤ n) → pos 0 <ℤ n
un_double n h = omega (arith, ints)

-- the gap at an edge and that of the row behind
rest-behind : (lifts : ℕ → ℤ) (ps : List Point) (mid : RationalPoint) (f : Face) (a e : ℕ) → side_of ps f e ≡ pos 0 → (k : ℕ)
    → neg_ℤ (side_of ps f a) *ℤ edge_rest lifts ps mid f.a f.b f.c e k ≡ neg_ℤ (side_rational (triangle ps f) mid) *ℤ neg_ℤ (gap_of lifts ps f a e k)
rest-behind lifts ps mid f a e z k = identity.edge-behind (triangle ps f) mid (point ps a) (point ps e) (height lifts f.a k) (height lifts f.b k) (height lifts f.c k) (height lifts a k) (height lifts e k) z

neg-swap : (p x q y : ℤ) → p *ℤ x ≡ q *ℤ neg_ℤ y → q *ℤ y ≡ p *ℤ neg_ℤ x
neg-swap p x q y e = sym (identity.times-neg_neg q y) ∙ ap neg_ℤ (sym e) ∙ identity.neg-times_right p x

-- e is above the hull face of o at the edge where it is below its plane, or on it and above the row behind
pub edge_above : (lifts : ℕ → ℤ) (ps : List Point) (mid : RationalPoint) (f : Face) (a e : ℕ) → pos 0 <ℤ neg_ℤ (side_rational (triangle ps f) mid) → pos 0 <ℤ neg_ℤ (side_of ps f a)
    → (pos 0 <ℤ neg_ℤ (side_of ps f e)) ⊎ ((side_of ps f e ≡ pos 0) × IsLexBelow (gap_of lifts ps f a e) (places (length ps)))
    → IsLexAbove (edge_gap lifts ps mid f.a f.b f.c e) (edge_places (length ps))
edge_above lifts ps mid f a e hc ha (inl h) = inl h
edge_above lifts ps mid f a e hc ha (inr h) = to_places (edge_gap lifts ps mid f.a f.b f.c e) (places (length ps)) (inr (
  neg_zero (side_of ps f e) h.0,
  same_sign (neg_ℤ (side_rational (triangle ps f) mid)) (neg_ℤ (side_of ps f a)) (λ k. neg_ℤ (gap_of lifts ps f a e k)) (edge_rest lifts ps mid f.a f.b f.c e) (places (length ps)) hc ha
      (λ k. sym (rest-behind lifts ps mid f a e h.0 k)) h.1,
))

pub of_edge_above : (lifts : ℕ → ℤ) (ps : List Point) (mid : RationalPoint) (f : Face) (a e : ℕ) → pos 0 <ℤ neg_ℤ (side_rational (triangle ps f) mid) → pos 0 <ℤ neg_ℤ (side_of ps f a)
    → IsLexAbove (edge_gap lifts ps mid f.a f.b f.c e) (edge_places (length ps))
    → (pos 0 <ℤ neg_ℤ (side_of ps f e)) ⊎ ((side_of ps f e ≡ pos 0) × IsLexBelow (gap_of lifts ps f a e) (places (length ps)))
of_edge_above lifts ps mid f a e hc ha h = go (of_places (edge_gap lifts ps mid f.a f.b f.c e) (places (length ps)) h)
  where
    go : (pos 0 <ℤ neg_ℤ (side_of ps f e)) ⊎ ((neg_ℤ (side_of ps f e) ≡ pos 0) × IsLexAbove (edge_rest lifts ps mid f.a f.b f.c e) (places (length ps)))
        → (pos 0 <ℤ neg_ℤ (side_of ps f e)) ⊎ ((side_of ps f e ≡ pos 0) × IsLexBelow (gap_of lifts ps f a e) (places (length ps)))
    go (inl k) = inl k
    go (inr k) = let z = of_neg_zero (side_of ps f e) k.0 in
        inr (
          z,
          same_sign (neg_ℤ (side_of ps f a)) (neg_ℤ (side_rational (triangle ps f) mid)) (edge_rest lifts ps mid f.a f.b f.c e) (λ k. neg_ℤ (gap_of lifts ps f a e k)) (places (length ps)) ha hc
              (λ j. rest-behind lifts ps mid f a e z j) k.1,
        )

-- and below it where it is strictly beyond, or on the plane and not outside
pub edge_below : (lifts : ℕ → ℤ) (ps : List Point) (mid : RationalPoint) (f : Face) (a e : ℕ) → pos 0 <ℤ neg_ℤ (side_rational (triangle ps f) mid) → pos 0 <ℤ neg_ℤ (side_of ps f a)
    → (pos 0 <ℤ side_of ps f e) ⊎ ((side_of ps f e ≡ pos 0) × IsLexAbove (gap_of lifts ps f a e) (places (length ps)))
    → IsLexBelow (edge_gap lifts ps mid f.a f.b f.c e) (edge_places (length ps))
edge_below lifts ps mid f a e hc ha (inl h) = inl (double (side_of ps f e) h)
edge_below lifts ps mid f a e hc ha (inr h) = to_places (λ k. neg_ℤ (edge_gap lifts ps mid f.a f.b f.c e k)) (places (length ps)) (inr (
  neg_zero (neg_ℤ (side_of ps f e)) (neg_zero (side_of ps f e) h.0),
  same_sign (neg_ℤ (side_rational (triangle ps f) mid)) (neg_ℤ (side_of ps f a)) (gap_of lifts ps f a e) (λ k. neg_ℤ (edge_rest lifts ps mid f.a f.b f.c e k)) (places (length ps)) hc ha
      (λ k. neg-swap (neg_ℤ (side_of ps f a)) (edge_rest lifts ps mid f.a f.b f.c e k) (neg_ℤ (side_rational (triangle ps f) mid)) (gap_of lifts ps f a e k) (rest-behind lifts ps mid f a e h.0 k)) h.1,
))

pub of_edge_below : (lifts : ℕ → ℤ) (ps : List Point) (mid : RationalPoint) (f : Face) (a e : ℕ) → pos 0 <ℤ neg_ℤ (side_rational (triangle ps f) mid) → pos 0 <ℤ neg_ℤ (side_of ps f a)
    → IsLexBelow (edge_gap lifts ps mid f.a f.b f.c e) (edge_places (length ps))
    → (pos 0 <ℤ side_of ps f e) ⊎ ((side_of ps f e ≡ pos 0) × IsLexAbove (gap_of lifts ps f a e) (places (length ps)))
of_edge_below lifts ps mid f a e hc ha h = go (of_places (λ k. neg_ℤ (edge_gap lifts ps mid f.a f.b f.c e k)) (places (length ps)) h)
  where
    go : (pos 0 <ℤ neg_ℤ (neg_ℤ (side_of ps f e))) ⊎ ((neg_ℤ (neg_ℤ (side_of ps f e)) ≡ pos 0) × IsLexBelow (edge_rest lifts ps mid f.a f.b f.c e) (places (length ps)))
        → (pos 0 <ℤ side_of ps f e) ⊎ ((side_of ps f e ≡ pos 0) × IsLexAbove (gap_of lifts ps f a e) (places (length ps)))
    go (inl k) = inl (un_double (side_of ps f e) k)
    go (inr k) = let z = of_neg_zero (side_of ps f e) (of_neg_zero (neg_ℤ (side_of ps f e)) k.0) in
        inr (
          z,
          same_sign (neg_ℤ (side_of ps f a)) (neg_ℤ (side_rational (triangle ps f) mid)) (λ k. neg_ℤ (edge_rest lifts ps mid f.a f.b f.c e k)) (gap_of lifts ps f a e) (places (length ps)) ha hc
              (λ j. sym (neg-swap (neg_ℤ (side_of ps f a)) (edge_rest lifts ps mid f.a f.b f.c e j) (neg_ℤ (side_rational (triangle ps f) mid)) (gap_of lifts ps f a e j) (rest-behind lifts ps mid f a e z j))) k.1,
        )

-- ---- the middle of a row lies below the hull faces

-- four numbers that are not above 0 have no sum above 0
pub sum_below : (a b c d : ℤ) → ¬ (pos 0 <ℤ a) → ¬ (pos 0 <ℤ b) → ¬ (pos 0 <ℤ c) → ¬ (pos 0 <ℤ d) → ¬ ((a ≡ pos 0) × (b ≡ pos 0) × (c ≡ pos 0) × (d ≡ pos 0)) → pos 0 <ℤ neg_ℤ (a +ℤ (b +ℤ (c +ℤ d)))
sum_below a b c d ha hb hc hd n = go (sign_of a) (sign_of b) (sign_of c) (sign_of d)
  where
    go : (pos 0 <ℤ a) ⊎ ((a ≡ pos 0) ⊎ (pos 0 <ℤ neg_ℤ a)) → (pos 0 <ℤ b) ⊎ ((b ≡ pos 0) ⊎ (pos 0 <ℤ neg_ℤ b)) → (pos 0 <ℤ c) ⊎ ((c ≡ pos 0) ⊎ (pos 0 <ℤ neg_ℤ c))
        → (pos 0 <ℤ d) ⊎ ((d ≡ pos 0) ⊎ (pos 0 <ℤ neg_ℤ d)) → pos 0 <ℤ neg_ℤ (a +ℤ (b +ℤ (c +ℤ d)))
    go (inl h) _ _ _ = absurd (ha h)
    go (inr _) (inl h) _ _ = absurd (hb h)
    go (inr _) (inr _) (inl h) _ = absurd (hc h)
    go (inr _) (inr _) (inr _) (inl h) = absurd (hd h)
    go (inr (inl ea)) (inr (inl eb)) (inr (inl ec)) (inr (inl ed)) = absurd (n (ea, eb, ec, ed))
    go (inr (inr h)) (inr (inl e)) (inr (inl e')) (inr (inl e'')) = omega (arith, ints)
    go (inr (inl e)) (inr (inr h)) (inr (inl e')) (inr (inl e'')) = omega (arith, ints)
    go (inr (inl e)) (inr (inl e')) (inr (inr h)) (inr (inl e'')) = omega (arith, ints)
    go (inr (inl e)) (inr (inl e')) (inr (inl e'')) (inr (inr h)) = omega (arith, ints)
    go (inr (inr h)) (inr (inr h')) (inr (inl e')) (inr (inl e'')) = omega (arith, ints)
    go (inr (inr h)) (inr (inl e')) (inr (inr h')) (inr (inl e'')) = omega (arith, ints)
    go (inr (inr h)) (inr (inl e')) (inr (inl e'')) (inr (inr h')) = omega (arith, ints)
    go (inr (inl e)) (inr (inr h)) (inr (inr h')) (inr (inl e'')) = omega (arith, ints)
    go (inr (inl e)) (inr (inr h)) (inr (inl e'')) (inr (inr h')) = omega (arith, ints)
    go (inr (inl e)) (inr (inl e'')) (inr (inr h)) (inr (inr h')) = omega (arith, ints)
    go (inr (inr h)) (inr (inr h')) (inr (inr h'')) (inr (inl e)) = omega (arith, ints)
    go (inr (inr h)) (inr (inr h')) (inr (inl e)) (inr (inr h'')) = omega (arith, ints)
    go (inr (inr h)) (inr (inl e)) (inr (inr h')) (inr (inr h'')) = omega (arith, ints)
    go (inr (inl e)) (inr (inr h)) (inr (inr h')) (inr (inr h'')) = omega (arith, ints)
    go (inr (inr h)) (inr (inr h')) (inr (inr h'')) (inr (inr h''')) = omega (arith, ints)
