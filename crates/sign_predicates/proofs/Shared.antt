-- Common points of two triangles by their weights alone: a combination of the corners of the one that is a combination of the corners of the other.
use Rattle.std.proofs.Common.{◌≡◌, ℕ, ◌+◌, ◌<◌, ℤ, pos, ◌+ℤ◌, ◌*ℤ◌, ◌<ℤ◌, ◌≤ℤ◌, [], ◌∷◌, refl, sym, subst, ◌∙◌, arith}
use Rattle.std.proofs.lemmas.Int.{ints}
use Rattle.exact_algebra.proofs.Ring.{var, neg, ring, ring_given, given, same, ◌⊕◌, ◌⊗◌}
use Rattle.exact_algebra.proofs.Signs.{mul_nonneg, mul_pos, from_natural, cancel_mul}
use Rattle.sign_predicates.specs.Orientation.{Triangle, orient, det, side}
use Rattle.sign_predicates.specs.Meeting.{TrianglesMeet}
use Rattle.sign_predicates.proofs.Terms.{triangleE, of_triangle, sideE, normalE, offsetE}

-- a combination of three numbers
abbrev pub sum_of_three : ℤ → ℤ → ℤ → ℤ → ℤ → ℤ → ℤ
sum_of_three i j k a b c = i *ℤ a +ℤ j *ℤ b +ℤ k *ℤ c

-- the same combination of the corners, in each coordinate and in the total
pub record Balance (f g : Triangle) (i j k l m n : ℤ) : Type 0 where
  pub total : i +ℤ j +ℤ k ≡ l +ℤ m +ℤ n
  pub x_is : sum_of_three i j k f.a.x f.b.x f.c.x ≡ sum_of_three l m n g.a.x g.b.x g.c.x
  pub y_is : sum_of_three i j k f.a.y f.b.y f.c.y ≡ sum_of_three l m n g.a.y g.b.y g.c.y
  pub z_is : sum_of_three i j k f.a.z f.b.z f.c.z ≡ sum_of_three l m n g.a.z g.b.z g.c.z

-- with weights that are at least 0, and not all 0
pub record Common (f g : Triangle) (i j k l m n : ℤ) : Type 0 where
  pub i_least : pos 0 ≤ℤ i
  pub j_least : pos 0 ≤ℤ j
  pub k_least : pos 0 ≤ℤ k
  pub l_least : pos 0 ≤ℤ l
  pub m_least : pos 0 ≤ℤ m
  pub n_least : pos 0 ≤ℤ n
  pub some : pos 0 <ℤ (i +ℤ j +ℤ k)
  pub balance : Balance f g i j k l m n

pub record Shared (f g : Triangle) : Type 0 where
  pub i : ℤ
  pub j : ℤ
  pub k : ℤ
  pub l : ℤ
  pub m : ℤ
  pub n : ℤ
  pub common : Common f g i j k l m n

-- ---- points and weights

-- one coordinate: from two means of x to a balance
cross_mean : (w x s r f g : ℤ) → pos 0 <ℤ w → f *ℤ w ≡ x *ℤ s → g *ℤ w ≡ x *ℤ r → r *ℤ f ≡ s *ℤ g
unfolding same
cross_mean w x s r f g hw e d = cancel_mul w (r *ℤ f) (s *ℤ g) hw
    (ring_given (var 0 ⊗ (var 3 ⊗ var 4)) (var 0 ⊗ (var 2 ⊗ var 5)) (given (var 3) (var 4 ⊗ var 0) (var 1 ⊗ var 2) ∷ given (neg (var 2)) (var 5 ⊗ var 0) (var 1 ⊗ var 3) ∷ []) tt
    (w ∷ x ∷ s ∷ r ∷ f ∷ g ∷ []) (e, (d, tt)))

scaled_sum : (r i j k a b c : ℤ) → sum_of_three (r *ℤ i) (r *ℤ j) (r *ℤ k) a b c ≡ r *ℤ sum_of_three i j k a b c
unfolding same
scaled_sum r i j k a b c =
    ring (var 0 ⊗ var 1 ⊗ var 4 ⊕ var 0 ⊗ var 2 ⊗ var 5 ⊕ var 0 ⊗ var 3 ⊗ var 6) (var 0 ⊗ (var 1 ⊗ var 4 ⊕ var 2 ⊗ var 5 ⊕ var 3 ⊗ var 6)) tt (r ∷ i ∷ j ∷ k ∷ a ∷ b ∷ c ∷ [])

scaled_total : (r i j k : ℤ) → r *ℤ i +ℤ r *ℤ j +ℤ r *ℤ k ≡ r *ℤ (i +ℤ j +ℤ k)
unfolding same
scaled_total r i j k = ring (var 0 ⊗ var 1 ⊕ var 0 ⊗ var 2 ⊕ var 0 ⊗ var 3) (var 0 ⊗ (var 1 ⊕ var 2 ⊕ var 3)) tt (r ∷ i ∷ j ∷ k ∷ [])

mul_swap : (a b : ℤ) → a *ℤ b ≡ b *ℤ a
unfolding same
mul_swap a b = ring (var 0 ⊗ var 1) (var 1 ⊗ var 0) tt (a ∷ b ∷ [])

nat_least : (n : ℕ) → pos 0 ≤ℤ pos n
nat_least n = omega (arith, ints)

nat_above : (n : ℕ) → 0 < n → pos 0 <ℤ pos n
nat_above n h = omega (arith, ints)

above_nat : (n : ℕ) → pos 0 <ℤ pos n → 0 < n
above_nat n h = omega (arith, ints)

-- a common point gives a combination of both
pub shared_of : (f g : Triangle) → TrianglesMeet f g → Shared f g
shared_of f g (x, wx, ((i, j, k, p), (l, m, n, q))) =
    let s : ℤ = pos (i + j + k) in
    let r : ℤ = pos (l + m + n) in
    let hs : pos 0 <ℤ s = nat_above (i + j + k) p.some in
    let hr : pos 0 <ℤ r = nat_above (l + m + n) q.some in
    record {
      i = r *ℤ pos i;
      j = r *ℤ pos j;
      k = r *ℤ pos k;
      l = s *ℤ pos l;
      m = s *ℤ pos m;
      n = s *ℤ pos n;
      common = record {
        i_least = mul_nonneg r (pos i) (nat_least (l + m + n)) (nat_least i);
        j_least = mul_nonneg r (pos j) (nat_least (l + m + n)) (nat_least j);
        k_least = mul_nonneg r (pos k) (nat_least (l + m + n)) (nat_least k);
        l_least = mul_nonneg s (pos l) (nat_least (i + j + k)) (nat_least l);
        m_least = mul_nonneg s (pos m) (nat_least (i + j + k)) (nat_least m);
        n_least = mul_nonneg s (pos n) (nat_least (i + j + k)) (nat_least n);
        some = subst (λ z. pos 0 <ℤ z) (sym (scaled_total r (pos i) (pos j) (pos k))) (mul_pos r s hr hs);
        balance = record {
          total = scaled_total r (pos i) (pos j) (pos k) ∙ mul_swap r s ∙ sym (scaled_total s (pos l) (pos m) (pos n));
          x_is = scaled_sum r (pos i) (pos j) (pos k) f.a.x f.b.x f.c.x ∙ cross_mean x.w x.x s r _ _ wx p.x_is q.x_is ∙ sym (scaled_sum s (pos l) (pos m) (pos n) g.a.x g.b.x g.c.x);
          y_is = scaled_sum r (pos i) (pos j) (pos k) f.a.y f.b.y f.c.y ∙ cross_mean x.w x.y s r _ _ wx p.y_is q.y_is ∙ sym (scaled_sum s (pos l) (pos m) (pos n) g.a.y g.b.y g.c.y);
          z_is = scaled_sum r (pos i) (pos j) (pos k) f.a.z f.b.z f.c.z ∙ cross_mean x.w x.z s r _ _ wx p.z_is q.z_is ∙ sym (scaled_sum s (pos l) (pos m) (pos n) g.a.z g.b.z g.c.z);
        };
      };
    }

-- ---- an affine function of the corners

-- the side at a third triangle has the same sum over both
pub balance_side : (h f g : Triangle) (i j k l m n : ℤ) → Balance f g i j k l m n
    → sum_of_three i j k (side h f.a) (side h f.b) (side h f.c) ≡ sum_of_three l m n (side h g.a) (side h g.b) (side h g.c)
unfolding same det orient
balance_side h f g i j k l m n b =
    let H = triangleE 6 in
    let F = triangleE 15 in
    let G = triangleE 24 in
    let N = normalE H in
    ring_given (var 0 ⊗ sideE H F.a ⊕ var 1 ⊗ sideE H F.b ⊕ var 2 ⊗ sideE H F.c) (var 3 ⊗ sideE H G.a ⊕ var 4 ⊗ sideE H G.b ⊕ var 5 ⊗ sideE H G.c)
    (given (offsetE H) (var 0 ⊕ var 1 ⊕ var 2) (var 3 ⊕ var 4 ⊕ var 5)
    ∷ given N.x (var 0 ⊗ F.a.x ⊕ var 1 ⊗ F.b.x ⊕ var 2 ⊗ F.c.x) (var 3 ⊗ G.a.x ⊕ var 4 ⊗ G.b.x ⊕ var 5 ⊗ G.c.x)
    ∷ given N.y (var 0 ⊗ F.a.y ⊕ var 1 ⊗ F.b.y ⊕ var 2 ⊗ F.c.y) (var 3 ⊗ G.a.y ⊕ var 4 ⊗ G.b.y ⊕ var 5 ⊗ G.c.y)
    ∷ given N.z (var 0 ⊗ F.a.z ⊕ var 1 ⊗ F.b.z ⊕ var 2 ⊗ F.c.z) (var 3 ⊗ G.a.z ⊕ var 4 ⊗ G.b.z ⊕ var 5 ⊗ G.c.z) ∷ [])
    tt (i ∷ j ∷ k ∷ l ∷ m ∷ n ∷ (of_triangle h (of_triangle f (of_triangle g [])))) (b.total, (b.x_is, (b.y_is, (b.z_is, tt))))

-- and such a combination is a common point
natural_meet : (f g : Triangle) (i j k l m n : ℕ) → Common f g (pos i) (pos j) (pos k) (pos l) (pos m) (pos n) → TrianglesMeet f g
natural_meet f g i j k l m n c =
    let total : pos (i + j + k) ≡ pos (l + m + n) = c.balance.total in (
      record { x = sum_of_three (pos i) (pos j) (pos k) f.a.x f.b.x f.c.x; y = sum_of_three (pos i) (pos j) (pos k) f.a.y f.b.y f.c.y; z = sum_of_three (pos i) (pos j) (pos k) f.a.z f.b.z f.c.z; w = pos (i + j + k) },
      c.some,
      (
        (i, j, k, record { some = above_nat (i + j + k) c.some; x_is = refl; y_is = refl; z_is = refl }),
        (
          l,
          m,
          n,
          record {
            some = above_nat (l + m + n) (subst (λ z. pos 0 <ℤ z) total c.some);
            x_is = (λ t. sym c.balance.x_is t *ℤ total t);
            y_is = (λ t. sym c.balance.y_is t *ℤ total t);
            z_is = (λ t. sym c.balance.z_is t *ℤ total t);
          },
        ),
      ),
    )

pub meet_of : (f g : Triangle) → Shared f g → TrianglesMeet f g
meet_of f g h =
    go (from_natural h.i h.common.i_least) (from_natural h.j h.common.j_least) (from_natural h.k h.common.k_least)
    (from_natural h.l h.common.l_least) (from_natural h.m h.common.m_least) (from_natural h.n h.common.n_least)
  where
    go : (i : ℕ) × (h.i ≡ pos i) → (j : ℕ) × (h.j ≡ pos j) → (k : ℕ) × (h.k ≡ pos k) → (l : ℕ) × (h.l ≡ pos l) → (m : ℕ) × (h.m ≡ pos m) → (n : ℕ) × (h.n ≡ pos n) → TrianglesMeet f g
    go (i, ei) (j, ej) (k, ek) (l, el) (m, em) (n, en) =
        natural_meet f g i j k l m n
        (subst (λ z. Common f g z (pos j) (pos k) (pos l) (pos m) (pos n)) ei
        (subst (λ z. Common f g h.i z (pos k) (pos l) (pos m) (pos n)) ej
        (subst (λ z. Common f g h.i h.j z (pos l) (pos m) (pos n)) ek
        (subst (λ z. Common f g h.i h.j h.k z (pos m) (pos n)) el
        (subst (λ z. Common f g h.i h.j h.k h.l z (pos n)) em
        (subst (λ z. Common f g h.i h.j h.k h.l h.m z) en h.common))))))
