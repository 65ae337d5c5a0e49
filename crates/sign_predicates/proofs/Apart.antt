-- Triangles whose coordinates along an axis are apart have no common point.
use Rattle.std.proofs.Common.{◌≡◌, ◌⊎◌, inl, inr, ℤ, pos, ◌+ℤ◌, ◌*ℤ◌, ◌<ℤ◌, ◌≤ℤ◌, true, [], ◌∷◌, subst, sym, arith}
use Rattle.std.specs.Prelude.{T}
use Rattle.std.proofs.lemmas.Int.{ints}
use lib.Signed.{lt_z}
use Rattle.exact_algebra.proofs.Ring.{var, num, ring, same, ◌⊕◌, ◌⊗◌}
use Rattle.exact_algebra.proofs.Signs.{mul_le}
use Rattle.sign_predicates.specs.Orientation.{Triangle}
use Rattle.sign_predicates.specs.Meeting.{TrianglesMeet}
use Rattle.sign_predicates.specs.Turns.{AllBelow}
use Rattle.sign_predicates.proofs.Shared.{sum_of_three, Shared, shared_of}
use Rattle.sign_predicates.proofs.Moves.{shared_back}

each_times : (m i j k : ℤ) → i *ℤ m +ℤ j *ℤ m +ℤ k *ℤ m ≡ (i +ℤ j +ℤ k) *ℤ m
unfolding same
each_times m i j k = ring (var 1 ⊗ var 0 ⊕ var 2 ⊗ var 0 ⊕ var 3 ⊗ var 0) ((var 1 ⊕ var 2 ⊕ var 3) ⊗ var 0) tt (m ∷ i ∷ j ∷ k ∷ [])

one_more : (s m : ℤ) → s *ℤ (m +ℤ pos 1) ≡ s *ℤ m +ℤ s
unfolding same
one_more s m = ring (var 0 ⊗ (var 1 ⊕ num (pos 1))) (var 0 ⊗ var 1 ⊕ var 0) tt (s ∷ m ∷ [])

sum_most : (m i j k a b c : ℤ) → pos 0 ≤ℤ i → pos 0 ≤ℤ j → pos 0 ≤ℤ k → a ≤ℤ m → b ≤ℤ m → c ≤ℤ m → sum_of_three i j k a b c ≤ℤ ((i +ℤ j +ℤ k) *ℤ m)
sum_most m i j k a b c hi hj hk ha hb hc = add (mul_le i a m hi ha) (mul_le j b m hj hb) (mul_le k c m hk hc) (each_times m i j k)
  where
    add : {x y z p q r s : ℤ} → x ≤ℤ p → y ≤ℤ q → z ≤ℤ r → p +ℤ q +ℤ r ≡ s → (x +ℤ y +ℤ z) ≤ℤ s
    add {x} {y} {z} {p} {q} {r} {s} h k l e = omega (arith, ints)

sum_least : (m i j k a b c : ℤ) → pos 0 ≤ℤ i → pos 0 ≤ℤ j → pos 0 ≤ℤ k → m ≤ℤ a → m ≤ℤ b → m ≤ℤ c → ((i +ℤ j +ℤ k) *ℤ m) ≤ℤ sum_of_three i j k a b c
sum_least m i j k a b c hi hj hk ha hb hc = add (mul_le i m a hi ha) (mul_le j m b hj hb) (mul_le k m c hk hc) (each_times m i j k)
  where
    add : {x y z p q r s : ℤ} → p ≤ℤ x → q ≤ℤ y → r ≤ℤ z → p +ℤ q +ℤ r ≡ s → s ≤ℤ (x +ℤ y +ℤ z)
    add {x} {y} {z} {p} {q} {r} {s} h k l e = omega (arith, ints)

past : (m a : ℤ) → m <ℤ a → (m +ℤ pos 1) ≤ℤ a
past m a h = omega (arith, ints)

-- along one axis
below_apart : (i j k l m n a b c d e f : ℤ) → pos 0 ≤ℤ i → pos 0 ≤ℤ j → pos 0 ≤ℤ k → pos 0 ≤ℤ l → pos 0 ≤ℤ m → pos 0 ≤ℤ n → pos 0 <ℤ (i +ℤ j +ℤ k)
    → i +ℤ j +ℤ k ≡ l +ℤ m +ℤ n → sum_of_three i j k a b c ≡ sum_of_three l m n d e f → AllBelow a b c d e f → ⊥
below_apart i j k l m n a b c d e f hi hj hk hl hm hn some total same h =
    clash (sum_most h.bound i j k a b c hi hj hk h.a_within h.b_within h.c_within)
    (sum_least (h.bound +ℤ pos 1) l m n d e f hl hm hn (past h.bound d h.d_past) (past h.bound e h.e_past) (past h.bound f h.f_past))
    (one_more (l +ℤ m +ℤ n) h.bound) same (λ t. total t *ℤ h.bound) total some
  where
    clash : {x y p q r s u : ℤ} → x ≤ℤ p → q ≤ℤ y → q ≡ r +ℤ s → x ≡ y → p ≡ r → u ≡ s → pos 0 <ℤ u → ⊥
    clash {x} {y} {p} {q} {r} {s} {u} h k e d g v o = omega (arith, ints)

shared_below : (f g : Triangle) → Shared f g
    → AllBelow f.a.x f.b.x f.c.x g.a.x g.b.x g.c.x ⊎ (AllBelow f.a.y f.b.y f.c.y g.a.y g.b.y g.c.y ⊎ AllBelow f.a.z f.b.z f.c.z g.a.z g.b.z g.c.z) → ⊥
shared_below f g h (inl b) =
    below_apart h.i h.j h.k h.l h.m h.n f.a.x f.b.x f.c.x g.a.x g.b.x g.c.x h.common.i_least h.common.j_least h.common.k_least h.common.l_least h.common.m_least h.common.n_least h.common.some h.common.balance.total h.common.balance.x_is b
shared_below f g h (inr (inl b)) =
    below_apart h.i h.j h.k h.l h.m h.n f.a.y f.b.y f.c.y g.a.y g.b.y g.c.y h.common.i_least h.common.j_least h.common.k_least h.common.l_least h.common.m_least h.common.n_least h.common.some h.common.balance.total h.common.balance.y_is b
shared_below f g h (inr (inr b)) =
    below_apart h.i h.j h.k h.l h.m h.n f.a.z f.b.z f.c.z g.a.z g.b.z g.c.z h.common.i_least h.common.j_least h.common.k_least h.common.l_least h.common.m_least h.common.n_least h.common.some h.common.balance.total h.common.balance.z_is b

-- either may be the lower one
pub apart_x : (f g : Triangle) → AllBelow f.a.x f.b.x f.c.x g.a.x g.b.x g.c.x ⊎ AllBelow g.a.x g.b.x g.c.x f.a.x f.b.x f.c.x → ¬ TrianglesMeet f g
apart_x f g (inl b) m = shared_below f g (shared_of f g m) (inl b)
apart_x f g (inr b) m = shared_below g f (shared_back (shared_of f g m)) (inl b)

pub apart_y : (f g : Triangle) → AllBelow f.a.y f.b.y f.c.y g.a.y g.b.y g.c.y ⊎ AllBelow g.a.y g.b.y g.c.y f.a.y f.b.y f.c.y → ¬ TrianglesMeet f g
apart_y f g (inl b) m = shared_below f g (shared_of f g m) (inr (inl b))
apart_y f g (inr b) m = shared_below g f (shared_back (shared_of f g m)) (inr (inl b))

pub apart_z : (f g : Triangle) → AllBelow f.a.z f.b.z f.c.z g.a.z g.b.z g.c.z ⊎ AllBelow g.a.z g.b.z g.c.z f.a.z f.b.z f.c.z → ¬ TrianglesMeet f g
apart_z f g (inl b) m = shared_below f g (shared_of f g m) (inr (inr b))
apart_z f g (inr b) m = shared_below g f (shared_back (shared_of f g m)) (inr (inr b))

-- ---- for the code

pub lt_of : (a b : ℤ) → lt_z a b ≡ true → a <ℤ b
lt_of a b e = record { lt = subst T (sym e) tt }

pub below_at : {a b c d e f a' b' c' d' e' f' : ℤ} → a ≡ a' → b ≡ b' → c ≡ c' → d ≡ d' → e ≡ e' → f ≡ f' → AllBelow a b c d e f → AllBelow a' b' c' d' e' f'
below_at p q r s t u h = record {
  bound = h.bound;
  a_within = subst (λ z. z ≤ℤ h.bound) p h.a_within;
  b_within = subst (λ z. z ≤ℤ h.bound) q h.b_within;
  c_within = subst (λ z. z ≤ℤ h.bound) r h.c_within;
  d_past = subst (λ z. h.bound <ℤ z) s h.d_past;
  e_past = subst (λ z. h.bound <ℤ z) t h.e_past;
  f_past = subst (λ z. h.bound <ℤ z) u h.f_past;
}

pub apart_at : {a b c d e f a' b' c' d' e' f' : ℤ} → a ≡ a' → b ≡ b' → c ≡ c' → d ≡ d' → e ≡ e' → f ≡ f'
    → AllBelow a b c d e f ⊎ AllBelow d e f a b c → AllBelow a' b' c' d' e' f' ⊎ AllBelow d' e' f' a' b' c'
apart_at p q r s t u (inl h) = inl (below_at p q r s t u h)
apart_at p q r s t u (inr h) = inr (below_at s t u p q r h)
