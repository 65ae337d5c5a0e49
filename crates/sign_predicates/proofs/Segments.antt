-- Two closed segments have a common point: in one plane and not parallel by four turns, else where an end of one lies on the other.
use Rattle.std.proofs.Common.{◌≡◌, ◌⊎◌, inl, inr, ℤ, pos, negsuc, neg_ℤ, ◌+ℤ◌, ◌-ℤ◌, ◌*ℤ◌, ◌<ℤ◌, ◌≤ℤ◌, List, [], ◌∷◌, refl, sym, subst, ◌∙◌, arith}
use Rattle.std.specs.List.{AllByRecursion}
use Rattle.std.proofs.lemmas.Int.{ints}
use Rattle.exact_algebra.proofs.Ring.{var, num, neg, ring, ring_given, given, same, ◌⊕◌, ◌⊖◌, ◌⊗◌}
use Rattle.exact_algebra.proofs.Signs.{mul_nonneg, square_nonneg, nonneg_of_mul, zero_of_mul}
use Rattle.sign_predicates.specs.Point.{Point, from_to}
use Rattle.sign_predicates.specs.Orientation.{Triangle, dot, cross, orient, det}
use Rattle.sign_predicates.specs.Meeting.{segment}
use Rattle.sign_predicates.specs.Turns.{turn, IsBetween, TurnsAcross, common_normal, IsZeroVector}
use Rattle.sign_predicates.proofs.Terms.{TriangleE, pointE, of_point, orientE, normalE, offsetE, dotE, crossE, from_toE}
use Rattle.sign_predicates.proofs.Exit.{Exit, along, SomeOf, Leaves, exit}
use Rattle.sign_predicates.proofs.Shared.{Balance, Common, Shared, sum_of_three}
use Rattle.sign_predicates.proofs.Moves.{zero_least, changes, moved, common_back, shared_back, reweigh, drop_a, from_bc}
use Rattle.sign_predicates.proofs.Flat.{zero_or_long, turnE}

-- ---- the first corner alone

first_only : (i j k a b c : ℤ) → j ≡ pos 0 → k ≡ pos 0 → sum_of_three i (pos 0) (pos 0) a a a ≡ sum_of_three i j k a b c
unfolding same
first_only i j k a b c e d =
    ring_given (var 0 ⊗ var 3 ⊕ num (pos 0) ⊗ var 3 ⊕ num (pos 0) ⊗ var 3) (var 0 ⊗ var 3 ⊕ var 1 ⊗ var 4 ⊕ var 2 ⊗ var 5)
    (given (neg (var 4)) (var 1) (num (pos 0)) ∷ given (neg (var 5)) (var 2) (num (pos 0)) ∷ []) tt (i ∷ j ∷ k ∷ a ∷ b ∷ c ∷ []) (e, (d, tt))

pub only_a : (f g : Triangle) (i j k l m n : ℤ) → Common f g i j k l m n → j ≡ pos 0 → k ≡ pos 0 → Shared (segment f.a f.a) g
only_a f g i j k l m n c e d =
    reweigh f (segment f.a f.a) g i j k l m n i (pos 0) (pos 0) c c.i_least zero_least zero_least (omega (arith, ints))
    (first_only i j k f.a.x f.b.x f.c.x e d) (first_only i j k f.a.y f.b.y f.c.y e d) (first_only i j k f.a.z f.b.z f.c.z e d)

first_of : (i j k a b c : ℤ) → sum_of_three (i +ℤ j +ℤ k) (pos 0) (pos 0) a b c ≡ sum_of_three i j k a a a
unfolding same
first_of i j k a b c =
    ring ((var 0 ⊕ var 1 ⊕ var 2) ⊗ var 3 ⊕ num (pos 0) ⊗ var 4 ⊕ num (pos 0) ⊗ var 5) (var 0 ⊗ var 3 ⊕ var 1 ⊗ var 3 ⊕ var 2 ⊗ var 3) tt (i ∷ j ∷ k ∷ a ∷ b ∷ c ∷ [])

pub from_a : (f g : Triangle) → Shared (segment f.a f.a) g → Shared f g
from_a f g h =
    reweigh (segment f.a f.a) f g h.i h.j h.k h.l h.m h.n (h.i +ℤ h.j +ℤ h.k) (pos 0) (pos 0) h.common
    (omega (arith, ints, h.common.some)) zero_least zero_least (omega (arith, ints))
    (first_of h.i h.j h.k f.a.x f.b.x f.c.x) (first_of h.i h.j h.k f.a.y f.b.y f.c.y) (first_of h.i h.j h.k f.a.z f.b.z f.c.z)

-- ---- a point on a segment

between_x : (p a b : Point) (i j k l m n : ℤ) → Balance (segment p p) (segment a b) i j k l m n → (l +ℤ m +ℤ n) *ℤ (cross (from_to p a) (from_to p b)).x ≡ pos 0
unfolding same
between_x p a b i j k l m n h =
    let P = pointE 6 in
    let A = pointE 9 in
    let B = pointE 12 in
    let U = from_toE P A in
    let V = from_toE P B in
    ring_given ((var 3 ⊕ var 4 ⊕ var 5) ⊗ (crossE U V).x) (num (pos 0))
    (given (P.y ⊗ (V.z ⊖ U.z) ⊕ P.z ⊗ (U.y ⊖ V.y)) (var 0 ⊕ var 1 ⊕ var 2) (var 3 ⊕ var 4 ⊕ var 5)
    ∷ given (num (pos 0)) (var 0 ⊗ P.x ⊕ var 1 ⊗ P.x ⊕ var 2 ⊗ P.x) (var 3 ⊗ A.x ⊕ var 4 ⊗ B.x ⊕ var 5 ⊗ B.x)
    ∷ given (U.z ⊖ V.z) (var 0 ⊗ P.y ⊕ var 1 ⊗ P.y ⊕ var 2 ⊗ P.y) (var 3 ⊗ A.y ⊕ var 4 ⊗ B.y ⊕ var 5 ⊗ B.y)
    ∷ given (V.y ⊖ U.y) (var 0 ⊗ P.z ⊕ var 1 ⊗ P.z ⊕ var 2 ⊗ P.z) (var 3 ⊗ A.z ⊕ var 4 ⊗ B.z ⊕ var 5 ⊗ B.z) ∷ [])
    tt (i ∷ j ∷ k ∷ l ∷ m ∷ n ∷ (of_point p (of_point a (of_point b [])))) (h.total, (h.x_is, (h.y_is, (h.z_is, tt))))

between_y : (p a b : Point) (i j k l m n : ℤ) → Balance (segment p p) (segment a b) i j k l m n → (l +ℤ m +ℤ n) *ℤ (cross (from_to p a) (from_to p b)).y ≡ pos 0
unfolding same
between_y p a b i j k l m n h =
    let P = pointE 6 in
    let A = pointE 9 in
    let B = pointE 12 in
    let U = from_toE P A in
    let V = from_toE P B in
    ring_given ((var 3 ⊕ var 4 ⊕ var 5) ⊗ (crossE U V).y) (num (pos 0))
    (given (P.z ⊗ (V.x ⊖ U.x) ⊕ P.x ⊗ (U.z ⊖ V.z)) (var 0 ⊕ var 1 ⊕ var 2) (var 3 ⊕ var 4 ⊕ var 5)
    ∷ given (V.z ⊖ U.z) (var 0 ⊗ P.x ⊕ var 1 ⊗ P.x ⊕ var 2 ⊗ P.x) (var 3 ⊗ A.x ⊕ var 4 ⊗ B.x ⊕ var 5 ⊗ B.x)
    ∷ given (num (pos 0)) (var 0 ⊗ P.y ⊕ var 1 ⊗ P.y ⊕ var 2 ⊗ P.y) (var 3 ⊗ A.y ⊕ var 4 ⊗ B.y ⊕ var 5 ⊗ B.y)
    ∷ given (U.x ⊖ V.x) (var 0 ⊗ P.z ⊕ var 1 ⊗ P.z ⊕ var 2 ⊗ P.z) (var 3 ⊗ A.z ⊕ var 4 ⊗ B.z ⊕ var 5 ⊗ B.z) ∷ [])
    tt (i ∷ j ∷ k ∷ l ∷ m ∷ n ∷ (of_point p (of_point a (of_point b [])))) (h.total, (h.x_is, (h.y_is, (h.z_is, tt))))

between_z : (p a b : Point) (i j k l m n : ℤ) → Balance (segment p p) (segment a b) i j k l m n → (l +ℤ m +ℤ n) *ℤ (cross (from_to p a) (from_to p b)).z ≡ pos 0
unfolding same
between_z p a b i j k l m n h =
    let P = pointE 6 in
    let A = pointE 9 in
    let B = pointE 12 in
    let U = from_toE P A in
    let V = from_toE P B in
    ring_given ((var 3 ⊕ var 4 ⊕ var 5) ⊗ (crossE U V).z) (num (pos 0))
    (given (P.x ⊗ (V.y ⊖ U.y) ⊕ P.y ⊗ (U.x ⊖ V.x)) (var 0 ⊕ var 1 ⊕ var 2) (var 3 ⊕ var 4 ⊕ var 5)
    ∷ given (U.y ⊖ V.y) (var 0 ⊗ P.x ⊕ var 1 ⊗ P.x ⊕ var 2 ⊗ P.x) (var 3 ⊗ A.x ⊕ var 4 ⊗ B.x ⊕ var 5 ⊗ B.x)
    ∷ given (V.x ⊖ U.x) (var 0 ⊗ P.y ⊕ var 1 ⊗ P.y ⊕ var 2 ⊗ P.y) (var 3 ⊗ A.y ⊕ var 4 ⊗ B.y ⊕ var 5 ⊗ B.y)
    ∷ given (num (pos 0)) (var 0 ⊗ P.z ⊕ var 1 ⊗ P.z ⊕ var 2 ⊗ P.z) (var 3 ⊗ A.z ⊕ var 4 ⊗ B.z ⊕ var 5 ⊗ B.z) ∷ [])
    tt (i ∷ j ∷ k ∷ l ∷ m ∷ n ∷ (of_point p (of_point a (of_point b [])))) (h.total, (h.x_is, (h.y_is, (h.z_is, tt))))

between_dot : (p a b : Point) (i j k l m n : ℤ) → Balance (segment p p) (segment a b) i j k l m n
    → (l +ℤ m +ℤ n) *ℤ neg_ℤ (dot (from_to p a) (from_to p b)) ≡ l *ℤ dot (from_to p a) (from_to p a) +ℤ (m +ℤ n) *ℤ dot (from_to p b) (from_to p b)
unfolding same
between_dot p a b i j k l m n h =
    let P = pointE 6 in
    let A = pointE 9 in
    let B = pointE 12 in
    let U = from_toE P A in
    let V = from_toE P B in
    ring_given ((var 3 ⊕ var 4 ⊕ var 5) ⊗ neg (dotE U V)) (var 3 ⊗ dotE U U ⊕ (var 4 ⊕ var 5) ⊗ dotE V V)
    (given (neg (P.x ⊗ (U.x ⊕ V.x) ⊕ P.y ⊗ (U.y ⊕ V.y) ⊕ P.z ⊗ (U.z ⊕ V.z))) (var 0 ⊕ var 1 ⊕ var 2) (var 3 ⊕ var 4 ⊕ var 5)
    ∷ given (U.x ⊕ V.x) (var 0 ⊗ P.x ⊕ var 1 ⊗ P.x ⊕ var 2 ⊗ P.x) (var 3 ⊗ A.x ⊕ var 4 ⊗ B.x ⊕ var 5 ⊗ B.x)
    ∷ given (U.y ⊕ V.y) (var 0 ⊗ P.y ⊕ var 1 ⊗ P.y ⊕ var 2 ⊗ P.y) (var 3 ⊗ A.y ⊕ var 4 ⊗ B.y ⊕ var 5 ⊗ B.y)
    ∷ given (U.z ⊕ V.z) (var 0 ⊗ P.z ⊕ var 1 ⊗ P.z ⊕ var 2 ⊗ P.z) (var 3 ⊗ A.z ⊕ var 4 ⊗ B.z ⊕ var 5 ⊗ B.z) ∷ [])
    tt (i ∷ j ∷ k ∷ l ∷ m ∷ n ∷ (of_point p (of_point a (of_point b [])))) (h.total, (h.x_is, (h.y_is, (h.z_is, tt))))

least_length : (v : Point) → pos 0 ≤ℤ dot v v
least_length v = three (v.x *ℤ v.x) (v.y *ℤ v.y) (v.z *ℤ v.z) (square_nonneg v.x) (square_nonneg v.y) (square_nonneg v.z)
  where
    three : (a b c : ℤ) → pos 0 ≤ℤ a → pos 0 ≤ℤ b → pos 0 ≤ℤ c → pos 0 ≤ℤ (a +ℤ b +ℤ c)
    three a b c h k l = omega (arith, ints)

add_least : (a b c : ℤ) → c ≡ a +ℤ b → pos 0 ≤ℤ a → pos 0 ≤ℤ b → pos 0 ≤ℤ c
add_least a b c e h k = omega (arith, ints)

sum_least : (a b : ℤ) → pos 0 ≤ℤ a → pos 0 ≤ℤ b → pos 0 ≤ℤ (a +ℤ b)
sum_least a b h k = omega (arith, ints)

neg_most : (a : ℤ) → pos 0 ≤ℤ neg_ℤ a → a ≤ℤ pos 0
neg_most a h = omega (arith, ints)

neg_least : (a : ℤ) → a ≤ℤ pos 0 → pos 0 ≤ℤ neg_ℤ a
neg_least a h = omega (arith, ints)

pub between_of : (a b p : Point) → Shared (segment p p) (segment a b) → IsBetween a b p
between_of a b p h =
    let total : pos 0 <ℤ (h.l +ℤ h.m +ℤ h.n) = subst (λ z. pos 0 <ℤ z) h.common.balance.total h.common.some in
    let s = h.l +ℤ h.m +ℤ h.n in
    record {
      x_is = zero_of_mul s _ total (between_x p a b h.i h.j h.k h.l h.m h.n h.common.balance);
      y_is = zero_of_mul s _ total (between_y p a b h.i h.j h.k h.l h.m h.n h.common.balance);
      z_is = zero_of_mul s _ total (between_z p a b h.i h.j h.k h.l h.m h.n h.common.balance);
      opposite = neg_most (dot (from_to p a) (from_to p b)) (nonneg_of_mul s (neg_ℤ (dot (from_to p a) (from_to p b))) total
          (add_least (h.l *ℤ dot (from_to p a) (from_to p a)) ((h.m +ℤ h.n) *ℤ dot (from_to p b) (from_to p b)) _ (between_dot p a b h.i h.j h.k h.l h.m h.n h.common.balance)
          (mul_nonneg h.l (dot (from_to p a) (from_to p a)) h.common.l_least (least_length (from_to p a)))
          (mul_nonneg (h.m +ℤ h.n) (dot (from_to p b) (from_to p b)) (sum_least h.m h.n h.common.m_least h.common.n_least) (least_length (from_to p b)))));
    }

on_x : (p a b : Point) → IsBetween a b p
    → sum_of_three (neg_ℤ (dot (from_to p a) (from_to p b)) +ℤ dot (from_to p a) (from_to p a)) (pos 0) (pos 0) p.x p.x p.x
    ≡ sum_of_three (neg_ℤ (dot (from_to p a) (from_to p b))) (dot (from_to p a) (from_to p a)) (pos 0) a.x b.x b.x
unfolding same
on_x p a b h =
    let P = pointE 0 in
    let A = pointE 3 in
    let B = pointE 6 in
    let U = from_toE P A in
    let V = from_toE P B in
    ring_given ((neg (dotE U V) ⊕ dotE U U) ⊗ P.x ⊕ num (pos 0) ⊗ P.x ⊕ num (pos 0) ⊗ P.x) (neg (dotE U V) ⊗ A.x ⊕ dotE U U ⊗ B.x ⊕ num (pos 0) ⊗ B.x)
    (given (neg U.z) (crossE U V).y (num (pos 0)) ∷ given U.y (crossE U V).z (num (pos 0)) ∷ []) tt (of_point p (of_point a (of_point b []))) (h.y_is, (h.z_is, tt))

on_y : (p a b : Point) → IsBetween a b p
    → sum_of_three (neg_ℤ (dot (from_to p a) (from_to p b)) +ℤ dot (from_to p a) (from_to p a)) (pos 0) (pos 0) p.y p.y p.y
    ≡ sum_of_three (neg_ℤ (dot (from_to p a) (from_to p b))) (dot (from_to p a) (from_to p a)) (pos 0) a.y b.y b.y
unfolding same
on_y p a b h =
    let P = pointE 0 in
    let A = pointE 3 in
    let B = pointE 6 in
    let U = from_toE P A in
    let V = from_toE P B in
    ring_given ((neg (dotE U V) ⊕ dotE U U) ⊗ P.y ⊕ num (pos 0) ⊗ P.y ⊕ num (pos 0) ⊗ P.y) (neg (dotE U V) ⊗ A.y ⊕ dotE U U ⊗ B.y ⊕ num (pos 0) ⊗ B.y)
    (given (neg U.x) (crossE U V).z (num (pos 0)) ∷ given U.z (crossE U V).x (num (pos 0)) ∷ []) tt (of_point p (of_point a (of_point b []))) (h.z_is, (h.x_is, tt))

on_z : (p a b : Point) → IsBetween a b p
    → sum_of_three (neg_ℤ (dot (from_to p a) (from_to p b)) +ℤ dot (from_to p a) (from_to p a)) (pos 0) (pos 0) p.z p.z p.z
    ≡ sum_of_three (neg_ℤ (dot (from_to p a) (from_to p b))) (dot (from_to p a) (from_to p a)) (pos 0) a.z b.z b.z
unfolding same
on_z p a b h =
    let P = pointE 0 in
    let A = pointE 3 in
    let B = pointE 6 in
    let U = from_toE P A in
    let V = from_toE P B in
    ring_given ((neg (dotE U V) ⊕ dotE U U) ⊗ P.z ⊕ num (pos 0) ⊗ P.z ⊕ num (pos 0) ⊗ P.z) (neg (dotE U V) ⊗ A.z ⊕ dotE U U ⊗ B.z ⊕ num (pos 0) ⊗ B.z)
    (given (neg U.y) (crossE U V).x (num (pos 0)) ∷ given U.x (crossE U V).y (num (pos 0)) ∷ []) tt (of_point p (of_point a (of_point b []))) (h.x_is, (h.y_is, tt))

at_end : (p a b : ℤ) → a -ℤ p ≡ pos 0 → sum_of_three (pos 1) (pos 0) (pos 0) p p p ≡ sum_of_three (pos 1) (pos 0) (pos 0) a b b
unfolding same
at_end p a b e =
    ring_given (num (pos 1) ⊗ var 0 ⊕ num (pos 0) ⊗ var 0 ⊕ num (pos 0) ⊗ var 0) (num (pos 1) ⊗ var 1 ⊕ num (pos 0) ⊗ var 2 ⊕ num (pos 0) ⊗ var 2)
    (given (num (negsuc 0)) (var 1 ⊖ var 0) (num (pos 0)) ∷ []) tt (p ∷ a ∷ b ∷ []) (e, tt)

pub of_between : (a b p : Point) → IsBetween a b p → Shared (segment p p) (segment a b)
of_between a b p h = by (zero_or_long (from_to p a))
  where
    some : (a b : ℤ) → pos 0 ≤ℤ a → pos 0 <ℤ b → pos 0 <ℤ ((a +ℤ b) +ℤ pos 0 +ℤ pos 0)
    some a b h k = omega (arith, ints)

    weak : (a : ℤ) → pos 0 <ℤ a → pos 0 ≤ℤ a
    weak a h = omega (arith, ints)

    by : IsZeroVector (from_to p a) ⊎ (pos 0 <ℤ dot (from_to p a) (from_to p a)) → Shared (segment p p) (segment a b)
    by (inl z) = record {
      i = pos 1;
      j = pos 0;
      k = pos 0;
      l = pos 1;
      m = pos 0;
      n = pos 0;
      common = record {
        i_least = omega (arith, ints);
        j_least = zero_least;
        k_least = zero_least;
        l_least = omega (arith, ints);
        m_least = zero_least;
        n_least = zero_least;
        some = omega (arith, ints);
        balance = record { total = refl; x_is = at_end p.x a.x b.x z.x_is; y_is = at_end p.y a.y b.y z.y_is; z_is = at_end p.z a.z b.z z.z_is };
      };
    }
    by (inr long) = record {
      i = neg_ℤ (dot (from_to p a) (from_to p b)) +ℤ dot (from_to p a) (from_to p a);
      j = pos 0;
      k = pos 0;
      l = neg_ℤ (dot (from_to p a) (from_to p b));
      m = dot (from_to p a) (from_to p a);
      n = pos 0;
      common = record {
        i_least = sum_least (neg_ℤ (dot (from_to p a) (from_to p b))) (dot (from_to p a) (from_to p a)) (neg_least (dot (from_to p a) (from_to p b)) h.opposite) (weak (dot (from_to p a) (from_to p a)) long);
        j_least = zero_least;
        k_least = zero_least;
        l_least = neg_least (dot (from_to p a) (from_to p b)) h.opposite;
        m_least = weak (dot (from_to p a) (from_to p a)) long;
        n_least = zero_least;
        some = some (neg_ℤ (dot (from_to p a) (from_to p b))) (dot (from_to p a) (from_to p a)) (neg_least (dot (from_to p a) (from_to p b)) h.opposite) long;
        balance = record { total = omega (arith, ints); x_is = on_x p a b h; y_is = on_y p a b h; z_is = on_z p a b h };
      };
    }

-- ---- not parallel

across_q : (p q a b : Point) (i j k l m n : ℤ) → Balance (segment p q) (segment a b) i j k l m n
    → (i +ℤ j +ℤ k) *ℤ turn (common_normal p q a b) a b p ≡ (j +ℤ k) *ℤ dot (common_normal p q a b) (common_normal p q a b)
unfolding same turn
across_q p q a b i j k l m n h =
    let P = pointE 6 in
    let Q = pointE 9 in
    let A = pointE 12 in
    let B = pointE 15 in
    let U = from_toE P Q in
    let V = from_toE A B in
    let N = crossE U V in
    ring_given ((var 0 ⊕ var 1 ⊕ var 2) ⊗ turnE N A B P) ((var 1 ⊕ var 2) ⊗ dotE N N)
    (given (neg (dotE (crossE N V) A)) (var 0 ⊕ var 1 ⊕ var 2) (var 3 ⊕ var 4 ⊕ var 5)
    ∷ given ((crossE N V).x) (var 0 ⊗ P.x ⊕ var 1 ⊗ Q.x ⊕ var 2 ⊗ Q.x) (var 3 ⊗ A.x ⊕ var 4 ⊗ B.x ⊕ var 5 ⊗ B.x)
    ∷ given ((crossE N V).y) (var 0 ⊗ P.y ⊕ var 1 ⊗ Q.y ⊕ var 2 ⊗ Q.y) (var 3 ⊗ A.y ⊕ var 4 ⊗ B.y ⊕ var 5 ⊗ B.y)
    ∷ given ((crossE N V).z) (var 0 ⊗ P.z ⊕ var 1 ⊗ Q.z ⊕ var 2 ⊗ Q.z) (var 3 ⊗ A.z ⊕ var 4 ⊗ B.z ⊕ var 5 ⊗ B.z) ∷ [])
    tt (i ∷ j ∷ k ∷ l ∷ m ∷ n ∷ (of_point p (of_point q (of_point a (of_point b []))))) (h.total, (h.x_is, (h.y_is, (h.z_is, tt))))

across_p : (p q a b : Point) (i j k l m n : ℤ) → Balance (segment p q) (segment a b) i j k l m n
    → (i +ℤ j +ℤ k) *ℤ turn (common_normal p q a b) b a q ≡ i *ℤ dot (common_normal p q a b) (common_normal p q a b)
unfolding same turn
across_p p q a b i j k l m n h =
    let P = pointE 6 in
    let Q = pointE 9 in
    let A = pointE 12 in
    let B = pointE 15 in
    let U = from_toE P Q in
    let V = from_toE A B in
    let N = crossE U V in
    ring_given ((var 0 ⊕ var 1 ⊕ var 2) ⊗ turnE N B A Q) (var 0 ⊗ dotE N N)
    (given ((dotE (crossE N V) B)) (var 0 ⊕ var 1 ⊕ var 2) (var 3 ⊕ var 4 ⊕ var 5)
    ∷ given (neg (crossE N V).x) (var 0 ⊗ P.x ⊕ var 1 ⊗ Q.x ⊕ var 2 ⊗ Q.x) (var 3 ⊗ A.x ⊕ var 4 ⊗ B.x ⊕ var 5 ⊗ B.x)
    ∷ given (neg (crossE N V).y) (var 0 ⊗ P.y ⊕ var 1 ⊗ Q.y ⊕ var 2 ⊗ Q.y) (var 3 ⊗ A.y ⊕ var 4 ⊗ B.y ⊕ var 5 ⊗ B.y)
    ∷ given (neg (crossE N V).z) (var 0 ⊗ P.z ⊕ var 1 ⊗ Q.z ⊕ var 2 ⊗ Q.z) (var 3 ⊗ A.z ⊕ var 4 ⊗ B.z ⊕ var 5 ⊗ B.z) ∷ [])
    tt (i ∷ j ∷ k ∷ l ∷ m ∷ n ∷ (of_point p (of_point q (of_point a (of_point b []))))) (h.total, (h.x_is, (h.y_is, (h.z_is, tt))))

across_a : (p q a b : Point) (i j k l m n : ℤ) → Balance (segment p q) (segment a b) i j k l m n
    → (i +ℤ j +ℤ k) *ℤ turn (common_normal p q a b) p q b ≡ l *ℤ dot (common_normal p q a b) (common_normal p q a b)
unfolding same turn
across_a p q a b i j k l m n h =
    let P = pointE 6 in
    let Q = pointE 9 in
    let A = pointE 12 in
    let B = pointE 15 in
    let U = from_toE P Q in
    let V = from_toE A B in
    let N = crossE U V in
    ring_given ((var 0 ⊕ var 1 ⊕ var 2) ⊗ turnE N P Q B) (var 3 ⊗ dotE N N)
    (given ((dotE (crossE N U) B)) (var 0 ⊕ var 1 ⊕ var 2) (var 3 ⊕ var 4 ⊕ var 5)
    ∷ given (neg (crossE N U).x) (var 0 ⊗ P.x ⊕ var 1 ⊗ Q.x ⊕ var 2 ⊗ Q.x) (var 3 ⊗ A.x ⊕ var 4 ⊗ B.x ⊕ var 5 ⊗ B.x)
    ∷ given (neg (crossE N U).y) (var 0 ⊗ P.y ⊕ var 1 ⊗ Q.y ⊕ var 2 ⊗ Q.y) (var 3 ⊗ A.y ⊕ var 4 ⊗ B.y ⊕ var 5 ⊗ B.y)
    ∷ given (neg (crossE N U).z) (var 0 ⊗ P.z ⊕ var 1 ⊗ Q.z ⊕ var 2 ⊗ Q.z) (var 3 ⊗ A.z ⊕ var 4 ⊗ B.z ⊕ var 5 ⊗ B.z) ∷ [])
    tt (i ∷ j ∷ k ∷ l ∷ m ∷ n ∷ (of_point p (of_point q (of_point a (of_point b []))))) (h.total, (h.x_is, (h.y_is, (h.z_is, tt))))

across_b : (p q a b : Point) (i j k l m n : ℤ) → Balance (segment p q) (segment a b) i j k l m n
    → (i +ℤ j +ℤ k) *ℤ turn (common_normal p q a b) q p a ≡ (m +ℤ n) *ℤ dot (common_normal p q a b) (common_normal p q a b)
unfolding same turn
across_b p q a b i j k l m n h =
    let P = pointE 6 in
    let Q = pointE 9 in
    let A = pointE 12 in
    let B = pointE 15 in
    let U = from_toE P Q in
    let V = from_toE A B in
    let N = crossE U V in
    ring_given ((var 0 ⊕ var 1 ⊕ var 2) ⊗ turnE N Q P A) ((var 4 ⊕ var 5) ⊗ dotE N N)
    (given (neg (dotE (crossE N U) A)) (var 0 ⊕ var 1 ⊕ var 2) (var 3 ⊕ var 4 ⊕ var 5)
    ∷ given ((crossE N U).x) (var 0 ⊗ P.x ⊕ var 1 ⊗ Q.x ⊕ var 2 ⊗ Q.x) (var 3 ⊗ A.x ⊕ var 4 ⊗ B.x ⊕ var 5 ⊗ B.x)
    ∷ given ((crossE N U).y) (var 0 ⊗ P.y ⊕ var 1 ⊗ Q.y ⊕ var 2 ⊗ Q.y) (var 3 ⊗ A.y ⊕ var 4 ⊗ B.y ⊕ var 5 ⊗ B.y)
    ∷ given ((crossE N U).z) (var 0 ⊗ P.z ⊕ var 1 ⊗ Q.z ⊕ var 2 ⊗ Q.z) (var 3 ⊗ A.z ⊕ var 4 ⊗ B.z ⊕ var 5 ⊗ B.z) ∷ [])
    tt (i ∷ j ∷ k ∷ l ∷ m ∷ n ∷ (of_point p (of_point q (of_point a (of_point b []))))) (h.total, (h.x_is, (h.y_is, (h.z_is, tt))))

-- the four ends lie in one plane
across_flat : (p q a b : Point) (i j k l m n : ℤ) → Balance (segment p q) (segment a b) i j k l m n → (i +ℤ j +ℤ k) *ℤ orient p q a b ≡ pos 0
unfolding same orient det
across_flat p q a b i j k l m n h =
    let P = pointE 6 in
    let Q = pointE 9 in
    let A = pointE 12 in
    let B = pointE 15 in
    let F : TriangleE = record { a = P; b = Q; c = B } in
    let G : TriangleE = record { a = P; b = Q; c = A } in
    let M = normalE F in
    let N = normalE G in
    ring_given ((var 0 ⊕ var 1 ⊕ var 2) ⊗ orientE P Q A B) (num (pos 0))
    (given (offsetE F ⊖ offsetE G ⊕ orientE P Q A B) (var 0 ⊕ var 1 ⊕ var 2) (var 3 ⊕ var 4 ⊕ var 5)
    ∷ given (M.x ⊖ N.x) (var 0 ⊗ P.x ⊕ var 1 ⊗ Q.x ⊕ var 2 ⊗ Q.x) (var 3 ⊗ A.x ⊕ var 4 ⊗ B.x ⊕ var 5 ⊗ B.x)
    ∷ given (M.y ⊖ N.y) (var 0 ⊗ P.y ⊕ var 1 ⊗ Q.y ⊕ var 2 ⊗ Q.y) (var 3 ⊗ A.y ⊕ var 4 ⊗ B.y ⊕ var 5 ⊗ B.y)
    ∷ given (M.z ⊖ N.z) (var 0 ⊗ P.z ⊕ var 1 ⊗ Q.z ⊕ var 2 ⊗ Q.z) (var 3 ⊗ A.z ⊕ var 4 ⊗ B.z ⊕ var 5 ⊗ B.z) ∷ [])
    tt (i ∷ j ∷ k ∷ l ∷ m ∷ n ∷ (of_point p (of_point q (of_point a (of_point b []))))) (h.total, (h.x_is, (h.y_is, (h.z_is, tt))))

pub flat_of : (p q a b : Point) → Shared (segment p q) (segment a b) → orient p q a b ≡ pos 0
flat_of p q a b h = zero_of_mul (h.i +ℤ h.j +ℤ h.k) (orient p q a b) h.common.some (across_flat p q a b h.i h.j h.k h.l h.m h.n h.common.balance)

pub across_of : (p q a b : Point) → Shared (segment p q) (segment a b) → pos 0 <ℤ dot (common_normal p q a b) (common_normal p q a b) → (orient p q a b ≡ pos 0) × TurnsAcross p q a b
across_of p q a b h long = (
  zero_of_mul s (orient p q a b) h.common.some (across_flat p q a b h.i h.j h.k h.l h.m h.n h.common.balance),
  record {
    p_least = part h.i _ (across_p p q a b h.i h.j h.k h.l h.m h.n h.common.balance) h.common.i_least;
    q_least = part (h.j +ℤ h.k) _ (across_q p q a b h.i h.j h.k h.l h.m h.n h.common.balance) (sum_least h.j h.k h.common.j_least h.common.k_least);
    a_least = part h.l _ (across_a p q a b h.i h.j h.k h.l h.m h.n h.common.balance) h.common.l_least;
    b_least = part (h.m +ℤ h.n) _ (across_b p q a b h.i h.j h.k h.l h.m h.n h.common.balance) (sum_least h.m h.n h.common.m_least h.common.n_least);
  },
)
  where
    s : ℤ
    s = h.i +ℤ h.j +ℤ h.k

    nonneg : (a b : ℤ) → a ≡ b → pos 0 ≤ℤ b → pos 0 ≤ℤ a
    nonneg a b e h = omega (arith, ints)

    weak : (a : ℤ) → pos 0 <ℤ a → pos 0 ≤ℤ a
    weak a h = omega (arith, ints)

    part : (w t : ℤ) → (h.i +ℤ h.j +ℤ h.k) *ℤ t ≡ w *ℤ dot (common_normal p q a b) (common_normal p q a b) → pos 0 ≤ℤ w → pos 0 ≤ℤ t
    part w t e k = nonneg_of_mul (h.i +ℤ h.j +ℤ h.k) t h.common.some
        (nonneg _ _ e (mul_nonneg w (dot (common_normal p q a b) (common_normal p q a b)) k (weak (dot (common_normal p q a b) (common_normal p q a b)) long)))

crossing_x : (p q a b : Point) → orient p q a b ≡ pos 0
    → sum_of_three (turn (common_normal p q a b) b a q) (turn (common_normal p q a b) a b p) (pos 0) p.x q.x q.x
    ≡ sum_of_three (turn (common_normal p q a b) p q b) (turn (common_normal p q a b) q p a) (pos 0) a.x b.x b.x
unfolding same turn orient det
crossing_x p q a b e =
    let P = pointE 0 in
    let Q = pointE 3 in
    let A = pointE 6 in
    let B = pointE 9 in
    let N = crossE (from_toE P Q) (from_toE A B) in
    ring_given (turnE N B A Q ⊗ P.x ⊕ turnE N A B P ⊗ Q.x ⊕ num (pos 0) ⊗ Q.x) (turnE N P Q B ⊗ A.x ⊕ turnE N Q P A ⊗ B.x ⊕ num (pos 0) ⊗ B.x)
    (given N.x (orientE P Q A B) (num (pos 0)) ∷ []) tt (of_point p (of_point q (of_point a (of_point b [])))) (e, tt)

crossing_y : (p q a b : Point) → orient p q a b ≡ pos 0
    → sum_of_three (turn (common_normal p q a b) b a q) (turn (common_normal p q a b) a b p) (pos 0) p.y q.y q.y
    ≡ sum_of_three (turn (common_normal p q a b) p q b) (turn (common_normal p q a b) q p a) (pos 0) a.y b.y b.y
unfolding same turn orient det
crossing_y p q a b e =
    let P = pointE 0 in
    let Q = pointE 3 in
    let A = pointE 6 in
    let B = pointE 9 in
    let N = crossE (from_toE P Q) (from_toE A B) in
    ring_given (turnE N B A Q ⊗ P.y ⊕ turnE N A B P ⊗ Q.y ⊕ num (pos 0) ⊗ Q.y) (turnE N P Q B ⊗ A.y ⊕ turnE N Q P A ⊗ B.y ⊕ num (pos 0) ⊗ B.y)
    (given N.y (orientE P Q A B) (num (pos 0)) ∷ []) tt (of_point p (of_point q (of_point a (of_point b [])))) (e, tt)

crossing_z : (p q a b : Point) → orient p q a b ≡ pos 0
    → sum_of_three (turn (common_normal p q a b) b a q) (turn (common_normal p q a b) a b p) (pos 0) p.z q.z q.z
    ≡ sum_of_three (turn (common_normal p q a b) p q b) (turn (common_normal p q a b) q p a) (pos 0) a.z b.z b.z
unfolding same turn orient det
crossing_z p q a b e =
    let P = pointE 0 in
    let Q = pointE 3 in
    let A = pointE 6 in
    let B = pointE 9 in
    let N = crossE (from_toE P Q) (from_toE A B) in
    ring_given (turnE N B A Q ⊗ P.z ⊕ turnE N A B P ⊗ Q.z ⊕ num (pos 0) ⊗ Q.z) (turnE N P Q B ⊗ A.z ⊕ turnE N Q P A ⊗ B.z ⊕ num (pos 0) ⊗ B.z)
    (given N.z (orientE P Q A B) (num (pos 0)) ∷ []) tt (of_point p (of_point q (of_point a (of_point b [])))) (e, tt)

crossing_whole : (p q a b : Point) → turn (common_normal p q a b) b a q +ℤ turn (common_normal p q a b) a b p +ℤ pos 0 ≡ dot (common_normal p q a b) (common_normal p q a b)
unfolding same turn
crossing_whole p q a b =
    let P = pointE 0 in
    let Q = pointE 3 in
    let A = pointE 6 in
    let B = pointE 9 in
    let N = crossE (from_toE P Q) (from_toE A B) in
    ring (turnE N B A Q ⊕ turnE N A B P ⊕ num (pos 0)) (dotE N N) tt (of_point p (of_point q (of_point a (of_point b []))))

crossing_whole-back : (p q a b : Point) → turn (common_normal p q a b) p q b +ℤ turn (common_normal p q a b) q p a +ℤ pos 0 ≡ dot (common_normal p q a b) (common_normal p q a b)
unfolding same turn
crossing_whole-back p q a b =
    let P = pointE 0 in
    let Q = pointE 3 in
    let A = pointE 6 in
    let B = pointE 9 in
    let N = crossE (from_toE P Q) (from_toE A B) in
    ring (turnE N P Q B ⊕ turnE N Q P A ⊕ num (pos 0)) (dotE N N) tt (of_point p (of_point q (of_point a (of_point b []))))

pub of_across : (p q a b : Point) → orient p q a b ≡ pos 0 → pos 0 <ℤ dot (common_normal p q a b) (common_normal p q a b) → TurnsAcross p q a b → Shared (segment p q) (segment a b)
of_across p q a b e long t = record {
  i = turn (common_normal p q a b) b a q;
  j = turn (common_normal p q a b) a b p;
  k = pos 0;
  l = turn (common_normal p q a b) p q b;
  m = turn (common_normal p q a b) q p a;
  n = pos 0;
  common = record {
    i_least = t.p_least;
    j_least = t.q_least;
    k_least = zero_least;
    l_least = t.a_least;
    m_least = t.b_least;
    n_least = zero_least;
    some = subst (λ z. pos 0 <ℤ z) (sym (crossing_whole p q a b)) long;
    balance = record { total = crossing_whole p q a b ∙ sym (crossing_whole-back p q a b); x_is = crossing_x p q a b e; y_is = crossing_y p q a b e; z_is = crossing_z p q a b e };
  };
}

-- ---- parallel

-- an end of one lies on the other
pub data EndOn (p q a b : Point) : Type 0 where
  p_on : IsBetween a b p → EndOn p q a b
  q_on : IsBetween a b q → EndOn p q a b
  a_on : IsBetween p q a → EndOn p q a b
  b_on : IsBetween p q b → EndOn p q a b

pub of_end : (p q a b : Point) → EndOn p q a b → Shared (segment p q) (segment a b)
of_end p q a b (p_on h) = from_a (segment p q) (segment a b) (of_between a b p h)
of_end p q a b (q_on h) = from_bc (segment p q) (segment a b) (of_between a b q h)
of_end p q a b (a_on h) = shared_back (from_a (segment a b) (segment p q) (of_between p q a h))
of_end p q a b (b_on h) = shared_back (from_bc (segment a b) (segment p q) (of_between p q b h))

pair_sum : (i j k a b : ℤ) → sum_of_three i (j +ℤ k) (pos 0) a b b ≡ sum_of_three i j k a b b
unfolding same
pair_sum i j k a b =
    ring (var 0 ⊗ var 3 ⊕ (var 1 ⊕ var 2) ⊗ var 4 ⊕ num (pos 0) ⊗ var 4) (var 0 ⊗ var 3 ⊕ var 1 ⊗ var 4 ⊕ var 2 ⊗ var 4) tt (i ∷ j ∷ k ∷ a ∷ b ∷ [])

pair_total : (i j k : ℤ) → i +ℤ (j +ℤ k) +ℤ pos 0 ≡ i +ℤ j +ℤ k
pair_total i j k = omega (arith, ints)

-- each second end stands twice: its two weights as one
paired : (p q a b : Point) (h : Shared (segment p q) (segment a b)) → Common (segment p q) (segment a b) h.i (h.j +ℤ h.k) (pos 0) h.l (h.m +ℤ h.n) (pos 0)
paired p q a b h = record {
  i_least = h.common.i_least;
  j_least = sum_least h.j h.k h.common.j_least h.common.k_least;
  k_least = zero_least;
  l_least = h.common.l_least;
  m_least = sum_least h.m h.n h.common.m_least h.common.n_least;
  n_least = zero_least;
  some = subst (λ z. pos 0 <ℤ z) (sym (pair_total h.i h.j h.k)) h.common.some;
  balance = record {
    total = pair_total h.i h.j h.k ∙ h.common.balance.total ∙ sym (pair_total h.l h.m h.n);
    x_is = pair_sum h.i h.j h.k p.x q.x ∙ h.common.balance.x_is ∙ sym (pair_sum h.l h.m h.n a.x b.x);
    y_is = pair_sum h.i h.j h.k p.y q.y ∙ h.common.balance.y_is ∙ sym (pair_sum h.l h.m h.n a.y b.y);
    z_is = pair_sum h.i h.j h.k p.z q.z ∙ h.common.balance.z_is ∙ sym (pair_sum h.l h.m h.n a.z b.z);
  };
}

slide_x : (p q a b : Point) → IsZeroVector (common_normal p q a b)
    → sum_of_three (neg_ℤ (dot (from_to p q) (from_to a b))) (dot (from_to p q) (from_to a b)) (pos 0) p.x q.x q.x
    ≡ sum_of_three (neg_ℤ (dot (from_to p q) (from_to p q))) (dot (from_to p q) (from_to p q)) (pos 0) a.x b.x b.x
unfolding same
slide_x p q a b z =
    let P = pointE 0 in
    let Q = pointE 3 in
    let A = pointE 6 in
    let B = pointE 9 in
    let U = from_toE P Q in
    let V = from_toE A B in
    ring_given (neg (dotE U V) ⊗ P.x ⊕ dotE U V ⊗ Q.x ⊕ num (pos 0) ⊗ Q.x) (neg (dotE U U) ⊗ A.x ⊕ dotE U U ⊗ B.x ⊕ num (pos 0) ⊗ B.x)
    (given (neg U.z) (crossE U V).y (num (pos 0)) ∷ given U.y (crossE U V).z (num (pos 0)) ∷ []) tt (of_point p (of_point q (of_point a (of_point b [])))) (z.y_is, (z.z_is, tt))

slide_y : (p q a b : Point) → IsZeroVector (common_normal p q a b)
    → sum_of_three (neg_ℤ (dot (from_to p q) (from_to a b))) (dot (from_to p q) (from_to a b)) (pos 0) p.y q.y q.y
    ≡ sum_of_three (neg_ℤ (dot (from_to p q) (from_to p q))) (dot (from_to p q) (from_to p q)) (pos 0) a.y b.y b.y
unfolding same
slide_y p q a b z =
    let P = pointE 0 in
    let Q = pointE 3 in
    let A = pointE 6 in
    let B = pointE 9 in
    let U = from_toE P Q in
    let V = from_toE A B in
    ring_given (neg (dotE U V) ⊗ P.y ⊕ dotE U V ⊗ Q.y ⊕ num (pos 0) ⊗ Q.y) (neg (dotE U U) ⊗ A.y ⊕ dotE U U ⊗ B.y ⊕ num (pos 0) ⊗ B.y)
    (given (neg U.x) (crossE U V).z (num (pos 0)) ∷ given U.z (crossE U V).x (num (pos 0)) ∷ []) tt (of_point p (of_point q (of_point a (of_point b [])))) (z.z_is, (z.x_is, tt))

slide_z : (p q a b : Point) → IsZeroVector (common_normal p q a b)
    → sum_of_three (neg_ℤ (dot (from_to p q) (from_to a b))) (dot (from_to p q) (from_to a b)) (pos 0) p.z q.z q.z
    ≡ sum_of_three (neg_ℤ (dot (from_to p q) (from_to p q))) (dot (from_to p q) (from_to p q)) (pos 0) a.z b.z b.z
unfolding same
slide_z p q a b z =
    let P = pointE 0 in
    let Q = pointE 3 in
    let A = pointE 6 in
    let B = pointE 9 in
    let U = from_toE P Q in
    let V = from_toE A B in
    ring_given (neg (dotE U V) ⊗ P.z ⊕ dotE U V ⊗ Q.z ⊕ num (pos 0) ⊗ Q.z) (neg (dotE U U) ⊗ A.z ⊕ dotE U U ⊗ B.z ⊕ num (pos 0) ⊗ B.z)
    (given (neg U.y) (crossE U V).x (num (pos 0)) ∷ given U.x (crossE U V).y (num (pos 0)) ∷ []) tt (of_point p (of_point q (of_point a (of_point b [])))) (z.x_is, (z.y_is, tt))

slide_total : (a b : ℤ) → neg_ℤ a +ℤ a +ℤ pos 0 ≡ neg_ℤ b +ℤ b +ℤ pos 0
slide_total a b = omega (arith, ints)

-- along parallel segments: the one end is taken forward as the other is taken back
slide : (p q a b : Point) → IsZeroVector (common_normal p q a b)
    → Balance (segment p q) (segment a b) (neg_ℤ (dot (from_to p q) (from_to a b))) (dot (from_to p q) (from_to a b)) (pos 0) (neg_ℤ (dot (from_to p q) (from_to p q))) (dot (from_to p q) (from_to p q)) (pos 0)
slide p q a b z = record { total = slide_total (dot (from_to p q) (from_to a b)) (dot (from_to p q) (from_to p q)); x_is = slide_x p q a b z; y_is = slide_y p q a b z; z_is = slide_z p q a b z }

abbrev slide_changes : (p q a b : Point) → Shared (segment p q) (segment a b) → List (ℤ × ℤ)
slide_changes p q a b h =
    changes h.i (h.j +ℤ h.k) (pos 0) h.l (h.m +ℤ h.n) (pos 0)
    (neg_ℤ (dot (from_to p q) (from_to a b))) (dot (from_to p q) (from_to a b)) (pos 0) (neg_ℤ (dot (from_to p q) (from_to p q))) (dot (from_to p q) (from_to p q)) (pos 0)

slide_starts : (p q a b : Point) (h : Shared (segment p q) (segment a b)) → AllByRecursion (λ (e : ℤ × ℤ). pos 0 ≤ℤ e.0) (slide_changes p q a b h)
slide_starts p q a b h = (h.common.i_least, (sum_least h.j h.k h.common.j_least h.common.k_least, (zero_least, (h.common.l_least, (sum_least h.m h.n h.common.m_least h.common.n_least, (zero_least, tt))))))

nothing : (s t : ℤ) → along s t (pos 0, pos 0) ≡ pos 0
unfolding same
nothing s t = ring (var 0 ⊗ num (pos 0) ⊕ var 1 ⊗ num (pos 0)) (num (pos 0)) tt (s ∷ t ∷ [])

one_point : (i j k p q : ℤ) → q -ℤ p ≡ pos 0 → sum_of_three (i +ℤ j +ℤ k) (pos 0) (pos 0) p p p ≡ sum_of_three i j k p q q
unfolding same
one_point i j k p q e =
    ring_given ((var 0 ⊕ var 1 ⊕ var 2) ⊗ var 3 ⊕ num (pos 0) ⊗ var 3 ⊕ num (pos 0) ⊗ var 3) (var 0 ⊗ var 3 ⊕ var 1 ⊗ var 4 ⊕ var 2 ⊗ var 4)
    (given (neg (var 1 ⊕ var 2)) (var 4 ⊖ var 3) (num (pos 0)) ∷ []) tt (i ∷ j ∷ k ∷ p ∷ q ∷ []) (e, tt)

-- the first segment is a point
pub point_only : (p q : Point) (g : Triangle) → IsZeroVector (from_to p q) → Shared (segment p q) g → Shared (segment p p) g
point_only p q g z h =
    reweigh (segment p q) (segment p p) g h.i h.j h.k h.l h.m h.n (h.i +ℤ h.j +ℤ h.k) (pos 0) (pos 0) h.common
    (omega (arith, ints, h.common.some)) zero_least zero_least (omega (arith, ints))
    (one_point h.i h.j h.k p.x q.x z.x_is) (one_point h.i h.j h.k p.y q.y z.y_is) (one_point h.i h.j h.k p.z q.z z.z_is)

pub end_of : (p q a b : Point) → IsZeroVector (common_normal p q a b) → Shared (segment p q) (segment a b) → EndOn p q a b
end_of p q a b z h = by (zero_or_long (from_to p q))
  where
    none : (u : ℤ) → pos 0 ≤ℤ neg_ℤ u → pos 0 <ℤ u → ⊥
    none u h k = omega (arith, ints)

    zero_not : pos 0 <ℤ pos 0 → ⊥
    zero_not h = omega (arith, ints)

    least : (a : ℤ) → pos 0 ≤ℤ (neg_ℤ a +ℤ a +ℤ pos 0)
    least a = omega (arith, ints)

    by : IsZeroVector (from_to p q) ⊎ (pos 0 <ℤ dot (from_to p q) (from_to p q)) → EndOn p q a b
    by (inl e) = p_on (between_of a b p (point_only p q (segment a b) e h))
    by (inr long) = go (exit (slide_changes p q a b h) (slide_starts p q a b h))
      where
        go : AllByRecursion (λ (e : ℤ × ℤ). pos 0 ≤ℤ e.1) (slide_changes p q a b h) ⊎ Exit (slide_changes p q a b h) → EndOn p q a b
        go (inl all) = absurd (none (dot (from_to p q) (from_to p q)) all.1.1.1.0 long)
        go (inr x) = hit x.hit
          where
            c : Common (segment p q) (segment a b) (along x.s x.t (h.i, neg_ℤ (dot (from_to p q) (from_to a b)))) (along x.s x.t (h.j +ℤ h.k, dot (from_to p q) (from_to a b))) (along x.s x.t (pos 0, pos 0))
                (along x.s x.t (h.l, neg_ℤ (dot (from_to p q) (from_to p q)))) (along x.s x.t (h.m +ℤ h.n, dot (from_to p q) (from_to p q))) (along x.s x.t (pos 0, pos 0))
            c = moved (segment p q) (segment a b) h.i (h.j +ℤ h.k) (pos 0) h.l (h.m +ℤ h.n) (pos 0)
                (neg_ℤ (dot (from_to p q) (from_to a b))) (dot (from_to p q) (from_to a b)) (pos 0) (neg_ℤ (dot (from_to p q) (from_to p q))) (dot (from_to p q) (from_to p q)) (pos 0)
                (paired p q a b h) (slide p q a b z) (least (dot (from_to p q) (from_to a b))) x

            back : Common (segment a b) (segment p q) (along x.s x.t (h.l, neg_ℤ (dot (from_to p q) (from_to p q)))) (along x.s x.t (h.m +ℤ h.n, dot (from_to p q) (from_to p q))) (along x.s x.t (pos 0, pos 0))
                (along x.s x.t (h.i, neg_ℤ (dot (from_to p q) (from_to a b)))) (along x.s x.t (h.j +ℤ h.k, dot (from_to p q) (from_to a b))) (along x.s x.t (pos 0, pos 0))
            back = common_back c

            hit : SomeOf (Leaves x.s x.t) (slide_changes p q a b h) → EndOn p q a b
            hit (inl e) = q_on (between_of a b q (drop_a c e.1))
            hit (inr (inl e)) = p_on (between_of a b p (only_a (segment p q) (segment a b) _ _ _ _ _ _ c e.1 (nothing x.s x.t)))
            hit (inr (inr (inl e))) = absurd (zero_not e.0)
            hit (inr (inr (inr (inl e)))) = b_on (between_of p q b (drop_a back e.1))
            hit (inr (inr (inr (inr (inl e))))) = a_on (between_of p q a (only_a (segment a b) (segment p q) _ _ _ _ _ _ back e.1 (nothing x.s x.t)))
            hit (inr (inr (inr (inr (inr (inl e)))))) = absurd (zero_not e.0)
            hit (inr (inr (inr (inr (inr (inr e)))))) = absurd e
