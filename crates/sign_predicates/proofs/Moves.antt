-- How the weights of a common point of two triangles may be changed: moved along another balance until the first comes to 0, and dropped where they are 0.
use Rattle.std.proofs.Common.{◌≡◌, ℤ, pos, ◌+ℤ◌, ◌*ℤ◌, ◌<ℤ◌, ◌≤ℤ◌, List, [], ◌∷◌, sym, subst, ◌∙◌, arith}
use Rattle.std.proofs.lemmas.Int.{ints}
use Rattle.exact_algebra.proofs.Ring.{Expr, var, num, neg, ring, ring_given, given, same, ◌⊕◌, ◌⊗◌}
use Rattle.exact_algebra.proofs.Signs.{mul_nonneg, mul_pos}
use Rattle.sign_predicates.specs.Point.{Point}
use Rattle.sign_predicates.specs.Orientation.{Triangle}
use Rattle.sign_predicates.specs.Meeting.{segment}
use Rattle.sign_predicates.proofs.Exit.{Exit, along}
use Rattle.sign_predicates.proofs.Shared.{Balance, Common, Shared, sum_of_three}

-- ---- moved weights

moved_sum : (s t i j k di dj dk a b c l m n dl dm dn d e f : ℤ) → sum_of_three i j k a b c ≡ sum_of_three l m n d e f → sum_of_three di dj dk a b c ≡ sum_of_three dl dm dn d e f
    → sum_of_three (along s t (i, di)) (along s t (j, dj)) (along s t (k, dk)) a b c ≡ sum_of_three (along s t (l, dl)) (along s t (m, dm)) (along s t (n, dn)) d e f
unfolding same
moved_sum s t i j k di dj dk a b c l m n dl dm dn d e f p q =
    let w = λ (x y : Expr). var 0 ⊗ x ⊕ var 1 ⊗ y in
    ring_given (w (var 2) (var 5) ⊗ var 8 ⊕ w (var 3) (var 6) ⊗ var 9 ⊕ w (var 4) (var 7) ⊗ var 10)
    (w (var 11) (var 14) ⊗ var 17 ⊕ w (var 12) (var 15) ⊗ var 18 ⊕ w (var 13) (var 16) ⊗ var 19)
    (given (var 0) (var 2 ⊗ var 8 ⊕ var 3 ⊗ var 9 ⊕ var 4 ⊗ var 10) (var 11 ⊗ var 17 ⊕ var 12 ⊗ var 18 ⊕ var 13 ⊗ var 19)
    ∷ given (var 1) (var 5 ⊗ var 8 ⊕ var 6 ⊗ var 9 ⊕ var 7 ⊗ var 10) (var 14 ⊗ var 17 ⊕ var 15 ⊗ var 18 ⊕ var 16 ⊗ var 19) ∷ [])
    tt (s ∷ t ∷ i ∷ j ∷ k ∷ di ∷ dj ∷ dk ∷ a ∷ b ∷ c ∷ l ∷ m ∷ n ∷ dl ∷ dm ∷ dn ∷ d ∷ e ∷ f ∷ []) (p, (q, tt))

moved_total : (s t i j k di dj dk : ℤ) → along s t (i, di) +ℤ along s t (j, dj) +ℤ along s t (k, dk) ≡ s *ℤ (i +ℤ j +ℤ k) +ℤ t *ℤ (di +ℤ dj +ℤ dk)
unfolding same
moved_total s t i j k di dj dk =
    ring ((var 0 ⊗ var 2 ⊕ var 1 ⊗ var 5) ⊕ (var 0 ⊗ var 3 ⊕ var 1 ⊗ var 6) ⊕ (var 0 ⊗ var 4 ⊕ var 1 ⊗ var 7)) (var 0 ⊗ (var 2 ⊕ var 3 ⊕ var 4) ⊕ var 1 ⊗ (var 5 ⊕ var 6 ⊕ var 7))
    tt (s ∷ t ∷ i ∷ j ∷ k ∷ di ∷ dj ∷ dk ∷ [])

sum_above : (a b c : ℤ) → c ≡ a +ℤ b → pos 0 <ℤ a → pos 0 ≤ℤ b → pos 0 <ℤ c
sum_above a b c e h k = omega (arith, ints)

-- the weights of both, each with its change
abbrev pub changes : (i j k l m n di dj dk dl dm dn : ℤ) → List (ℤ × ℤ)
changes i j k l m n di dj dk dl dm dn = (i, di) ∷ (j, dj) ∷ (k, dk) ∷ (l, dl) ∷ (m, dm) ∷ (n, dn) ∷ []

pub balance_moved : (f g : Triangle) (i j k l m n di dj dk dl dm dn s t : ℤ) → Balance f g i j k l m n → Balance f g di dj dk dl dm dn
    → Balance f g (along s t (i, di)) (along s t (j, dj)) (along s t (k, dk)) (along s t (l, dl)) (along s t (m, dm)) (along s t (n, dn))
balance_moved f g i j k l m n di dj dk dl dm dn s t b d = record {
  total = moved_total s t i j k di dj dk ∙ (λ z. s *ℤ b.total z +ℤ t *ℤ d.total z) ∙ sym (moved_total s t l m n dl dm dn);
  x_is = moved_sum s t i j k di dj dk f.a.x f.b.x f.c.x l m n dl dm dn g.a.x g.b.x g.c.x b.x_is d.x_is;
  y_is = moved_sum s t i j k di dj dk f.a.y f.b.y f.c.y l m n dl dm dn g.a.y g.b.y g.c.y b.y_is d.y_is;
  z_is = moved_sum s t i j k di dj dk f.a.z f.b.z f.c.z l m n dl dm dn g.a.z g.b.z g.c.z b.z_is d.z_is;
}

-- moved until the first weight comes to 0, along a balance whose total isn't below 0
pub moved : (f g : Triangle) (i j k l m n di dj dk dl dm dn : ℤ) → Common f g i j k l m n → Balance f g di dj dk dl dm dn → pos 0 ≤ℤ (di +ℤ dj +ℤ dk)
    → (x : Exit (changes i j k l m n di dj dk dl dm dn))
    → Common f g (along x.s x.t (i, di)) (along x.s x.t (j, dj)) (along x.s x.t (k, dk)) (along x.s x.t (l, dl)) (along x.s x.t (m, dm)) (along x.s x.t (n, dn))
moved f g i j k l m n di dj dk dl dm dn c d h x = record {
  i_least = x.least.0;
  j_least = x.least.1.0;
  k_least = x.least.1.1.0;
  l_least = x.least.1.1.1.0;
  m_least = x.least.1.1.1.1.0;
  n_least = x.least.1.1.1.1.1.0;
  some = sum_above (x.s *ℤ (i +ℤ j +ℤ k)) (x.t *ℤ (di +ℤ dj +ℤ dk)) _ (moved_total x.s x.t i j k di dj dk) (mul_pos x.s (i +ℤ j +ℤ k) x.s_above c.some) (mul_nonneg x.t (di +ℤ dj +ℤ dk) x.t_least h);
  balance = balance_moved f g i j k l m n di dj dk dl dm dn x.s x.t c.balance d;
}

-- ---- the two triangles exchanged

pub common_back : {f g : Triangle} {i j k l m n : ℤ} → Common f g i j k l m n → Common g f l m n i j k
common_back c = record {
  i_least = c.l_least;
  j_least = c.m_least;
  k_least = c.n_least;
  l_least = c.i_least;
  m_least = c.j_least;
  n_least = c.k_least;
  some = subst (λ z. pos 0 <ℤ z) c.balance.total c.some;
  balance = record { total = sym c.balance.total; x_is = sym c.balance.x_is; y_is = sym c.balance.y_is; z_is = sym c.balance.z_is };
}

pub shared_back : {f g : Triangle} → Shared f g → Shared g f
shared_back {f} {g} h = record { i = h.l; j = h.m; k = h.n; l = h.i; m = h.j; n = h.k; common = common_back h.common }

-- ---- other weights of the first triangle

-- the same combination, of other corners
pub reweigh : (f e g : Triangle) (i j k l m n i' j' k' : ℤ) → Common f g i j k l m n → pos 0 ≤ℤ i' → pos 0 ≤ℤ j' → pos 0 ≤ℤ k'
    → i' +ℤ j' +ℤ k' ≡ i +ℤ j +ℤ k
    → sum_of_three i' j' k' e.a.x e.b.x e.c.x ≡ sum_of_three i j k f.a.x f.b.x f.c.x
    → sum_of_three i' j' k' e.a.y e.b.y e.c.y ≡ sum_of_three i j k f.a.y f.b.y f.c.y
    → sum_of_three i' j' k' e.a.z e.b.z e.c.z ≡ sum_of_three i j k f.a.z f.b.z f.c.z
    → Shared e g
reweigh f e g i j k l m n i' j' k' c hi hj hk t x y z = record {
  i = i';
  j = j';
  k = k';
  l = l;
  m = m;
  n = n;
  common = record {
    i_least = hi;
    j_least = hj;
    k_least = hk;
    l_least = c.l_least;
    m_least = c.m_least;
    n_least = c.n_least;
    some = subst (λ z. pos 0 <ℤ z) (sym t) c.some;
    balance = record { total = t ∙ c.balance.total; x_is = x ∙ c.balance.x_is; y_is = y ∙ c.balance.y_is; z_is = z ∙ c.balance.z_is };
  };
}

pub zero_least : pos 0 ≤ℤ pos 0
zero_least = omega (arith, ints)

pub no_a : (i j k a b c : ℤ) → i ≡ pos 0 → sum_of_three j k (pos 0) b c c ≡ sum_of_three i j k a b c
unfolding same
no_a i j k a b c e =
    ring_given (var 1 ⊗ var 4 ⊕ var 2 ⊗ var 5 ⊕ num (pos 0) ⊗ var 5) (var 0 ⊗ var 3 ⊕ var 1 ⊗ var 4 ⊕ var 2 ⊗ var 5) (given (neg (var 3)) (var 0) (num (pos 0)) ∷ []) tt
    (i ∷ j ∷ k ∷ a ∷ b ∷ c ∷ []) (e, tt)

pub no_b : (i j k a b c : ℤ) → j ≡ pos 0 → sum_of_three k i (pos 0) c a a ≡ sum_of_three i j k a b c
unfolding same
no_b i j k a b c e =
    ring_given (var 2 ⊗ var 5 ⊕ var 0 ⊗ var 3 ⊕ num (pos 0) ⊗ var 3) (var 0 ⊗ var 3 ⊕ var 1 ⊗ var 4 ⊕ var 2 ⊗ var 5) (given (neg (var 4)) (var 1) (num (pos 0)) ∷ []) tt
    (i ∷ j ∷ k ∷ a ∷ b ∷ c ∷ []) (e, tt)

pub no_c : (i j k a b c : ℤ) → k ≡ pos 0 → sum_of_three i j (pos 0) a b b ≡ sum_of_three i j k a b c
unfolding same
no_c i j k a b c e =
    ring_given (var 0 ⊗ var 3 ⊕ var 1 ⊗ var 4 ⊕ num (pos 0) ⊗ var 4) (var 0 ⊗ var 3 ⊕ var 1 ⊗ var 4 ⊕ var 2 ⊗ var 5) (given (neg (var 5)) (var 2) (num (pos 0)) ∷ []) tt
    (i ∷ j ∷ k ∷ a ∷ b ∷ c ∷ []) (e, tt)

-- where a corner has no weight, the side opposite it has a common point
pub drop_a : {f g : Triangle} {i j k l m n : ℤ} → Common f g i j k l m n → i ≡ pos 0 → Shared (segment f.b f.c) g
drop_a {f} {g} {i} {j} {k} {l} {m} {n} c e =
    reweigh f (segment f.b f.c) g i j k l m n j k (pos 0) c c.j_least c.k_least zero_least (omega (arith, ints)) (no_a i j k f.a.x f.b.x f.c.x e) (no_a i j k f.a.y f.b.y f.c.y e) (no_a i j k f.a.z f.b.z f.c.z e)

pub drop_b : {f g : Triangle} {i j k l m n : ℤ} → Common f g i j k l m n → j ≡ pos 0 → Shared (segment f.c f.a) g
drop_b {f} {g} {i} {j} {k} {l} {m} {n} c e =
    reweigh f (segment f.c f.a) g i j k l m n k i (pos 0) c c.k_least c.i_least zero_least (omega (arith, ints)) (no_b i j k f.a.x f.b.x f.c.x e) (no_b i j k f.a.y f.b.y f.c.y e) (no_b i j k f.a.z f.b.z f.c.z e)

pub drop_c : {f g : Triangle} {i j k l m n : ℤ} → Common f g i j k l m n → k ≡ pos 0 → Shared (segment f.a f.b) g
drop_c {f} {g} {i} {j} {k} {l} {m} {n} c e =
    reweigh f (segment f.a f.b) g i j k l m n i j (pos 0) c c.i_least c.j_least zero_least (omega (arith, ints)) (no_c i j k f.a.x f.b.x f.c.x e) (no_c i j k f.a.y f.b.y f.c.y e) (no_c i j k f.a.z f.b.z f.c.z e)

-- ---- a side's points lie in the triangle

pub add_least : (a b : ℤ) → pos 0 ≤ℤ a → pos 0 ≤ℤ b → pos 0 ≤ℤ (a +ℤ b)
add_least a b h k = omega (arith, ints)

pub side_ab : (i j k a b c : ℤ) → sum_of_three i (j +ℤ k) (pos 0) a b c ≡ sum_of_three i j k a b b
unfolding same
side_ab i j k a b c =
    ring (var 0 ⊗ var 3 ⊕ (var 1 ⊕ var 2) ⊗ var 4 ⊕ num (pos 0) ⊗ var 5) (var 0 ⊗ var 3 ⊕ var 1 ⊗ var 4 ⊕ var 2 ⊗ var 4) tt (i ∷ j ∷ k ∷ a ∷ b ∷ c ∷ [])

pub side_bc : (i j k a b c : ℤ) → sum_of_three (pos 0) i (j +ℤ k) a b c ≡ sum_of_three i j k b c c
unfolding same
side_bc i j k a b c =
    ring (num (pos 0) ⊗ var 3 ⊕ var 0 ⊗ var 4 ⊕ (var 1 ⊕ var 2) ⊗ var 5) (var 0 ⊗ var 4 ⊕ var 1 ⊗ var 5 ⊕ var 2 ⊗ var 5) tt (i ∷ j ∷ k ∷ a ∷ b ∷ c ∷ [])

pub side_ca : (i j k a b c : ℤ) → sum_of_three (j +ℤ k) (pos 0) i a b c ≡ sum_of_three i j k c a a
unfolding same
side_ca i j k a b c =
    ring ((var 1 ⊕ var 2) ⊗ var 3 ⊕ num (pos 0) ⊗ var 4 ⊕ var 0 ⊗ var 5) (var 0 ⊗ var 5 ⊕ var 1 ⊗ var 3 ⊕ var 2 ⊗ var 3) tt (i ∷ j ∷ k ∷ a ∷ b ∷ c ∷ [])

pub from_ab : (f g : Triangle) → Shared (segment f.a f.b) g → Shared f g
from_ab f g h =
    reweigh (segment f.a f.b) f g h.i h.j h.k h.l h.m h.n h.i (h.j +ℤ h.k) (pos 0) h.common h.common.i_least (add_least h.j h.k h.common.j_least h.common.k_least) zero_least (omega (arith, ints))
    (side_ab h.i h.j h.k f.a.x f.b.x f.c.x) (side_ab h.i h.j h.k f.a.y f.b.y f.c.y) (side_ab h.i h.j h.k f.a.z f.b.z f.c.z)

pub from_bc : (f g : Triangle) → Shared (segment f.b f.c) g → Shared f g
from_bc f g h =
    reweigh (segment f.b f.c) f g h.i h.j h.k h.l h.m h.n (pos 0) h.i (h.j +ℤ h.k) h.common zero_least h.common.i_least (add_least h.j h.k h.common.j_least h.common.k_least) (omega (arith, ints))
    (side_bc h.i h.j h.k f.a.x f.b.x f.c.x) (side_bc h.i h.j h.k f.a.y f.b.y f.c.y) (side_bc h.i h.j h.k f.a.z f.b.z f.c.z)

pub from_ca : (f g : Triangle) → Shared (segment f.c f.a) g → Shared f g
from_ca f g h =
    reweigh (segment f.c f.a) f g h.i h.j h.k h.l h.m h.n (h.j +ℤ h.k) (pos 0) h.i h.common (add_least h.j h.k h.common.j_least h.common.k_least) zero_least h.common.i_least (omega (arith, ints))
    (side_ca h.i h.j h.k f.a.x f.b.x f.c.x) (side_ca h.i h.j h.k f.a.y f.b.y f.c.y) (side_ca h.i h.j h.k f.a.z f.b.z f.c.z)

swap_ends : (i j k a b : ℤ) → sum_of_three (j +ℤ k) i (pos 0) b a a ≡ sum_of_three i j k a b b
unfolding same
swap_ends i j k a b = ring ((var 1 ⊕ var 2) ⊗ var 4 ⊕ var 0 ⊗ var 3 ⊕ num (pos 0) ⊗ var 3) (var 0 ⊗ var 3 ⊕ var 1 ⊗ var 4 ⊕ var 2 ⊗ var 4) tt (i ∷ j ∷ k ∷ a ∷ b ∷ [])

-- the ends of a segment may be exchanged
pub turned_first : (p q : Point) (f : Triangle) → Shared (segment p q) f → Shared (segment q p) f
turned_first p q f h =
    reweigh (segment p q) (segment q p) f h.i h.j h.k h.l h.m h.n (h.j +ℤ h.k) h.i (pos 0) h.common
    (omega (arith, ints, h.common.j_least, h.common.k_least)) h.common.i_least zero_least (omega (arith, ints))
    (swap_ends h.i h.j h.k p.x q.x) (swap_ends h.i h.j h.k p.y q.y) (swap_ends h.i h.j h.k p.z q.z)
