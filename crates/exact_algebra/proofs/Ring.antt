-- A normaliser of polynomials over ℤ. An identity is proved by `ring`, whose test runs in the kernel.
-- A polynomial is a constant, or x_i * p + q where q has only variables after i (that order is only a matter of speed: no proof asks it).
use Rattle.std.proofs.Common.{◌≡◌, ℕ, zero, suc, refl, sym, ap, subst, ◌∙◌, Bool, true, false, List, [], ◌∷◌}
use Rattle.std.specs.Prelude.{ℤ, pos, negsuc, ◌+ℤ◌, ◌-ℤ◌, ◌*ℤ◌, neg_ℤ, T}
use Prim.Native.Nat.{compare, Ordering}
use lib.Dec.{eqb→eq, compare_is_eq}
use lib.IntN.{zero-*ℤ, *ℤ-zero, *ℤ_comm, +ℤ_assoc, +ℤ_comm, +ℤ_idl, +ℤ_idr, +ℤ_invr, -ℤ-+ℤ_cancel}
use Rattle.exact_algebra.proofs.IntLaws.{mul_assoc_z, mul_add_z, add_mul_z, one_mul_z, neg_mul_z, swap_add_z, left_comm_z}

-- ---- terms

pub data Expr : Type 0 where
  num : ℤ → Expr
  var : ℕ → Expr
  add : Expr → Expr → Expr
  sub : Expr → Expr → Expr
  mul : Expr → Expr → Expr
  neg : Expr → Expr

-- ---- the operations as they are written

infixl 6 ◌⊕◌ ◌⊖◌
infixl 7 ◌⊗◌
abbrev pub ◌⊕◌ : Expr → Expr → Expr
a ⊕ b = add a b

abbrev pub ◌⊖◌ : Expr → Expr → Expr
a ⊖ b = sub a b

abbrev pub ◌⊗◌ : Expr → Expr → Expr
a ⊗ b = mul a b

abbrev pub nth : List ℤ → ℕ → ℤ
nth [] n = pos 0
nth (x ∷ xs) zero = x
nth (x ∷ xs) (suc n) = nth xs n

abbrev pub eval : List ℤ → Expr → ℤ
eval ρ (num k) = k
eval ρ (var i) = nth ρ i
eval ρ (add a b) = eval ρ a +ℤ eval ρ b
eval ρ (sub a b) = eval ρ a -ℤ eval ρ b
eval ρ (mul a b) = eval ρ a *ℤ eval ρ b
eval ρ (neg a) = neg_ℤ (eval ρ a)

-- ---- polynomials

pub data Poly : Type 0 where
  C : ℤ → Poly
  X : ℕ → Poly → Poly → Poly

value : List ℤ → Poly → ℤ
value ρ (C k) = k
value ρ (X i p q) = nth ρ i *ℤ value ρ p +ℤ value ρ q

-- x_i * p + q
mk : ℕ → Poly → Poly → Poly
mk i (C (pos zero)) q = q
mk i (C (pos (suc n))) q = X i (C (pos (suc n))) q
mk i (C (negsuc n)) q = X i (C (negsuc n)) q
mk i (X j r s) q = X i (X j r s) q

add_const : ℤ → Poly → Poly
add_const k (C l) = C (k +ℤ l)
add_const k (X i p q) = X i p (add_const k q)

-- the sum of x_i * p + q and what comes; fp and fq add p and q
add_below : ℕ → Poly → Poly → (Poly → Poly) → (Poly → Poly) → Poly → Poly
add_below i p q fp fq (C k) = X i p (fq (C k))
add_below i p q fp fq (X j r s) = elim (compare i j) [
  | Ordering.lt ↦ X i p (fq (X j r s))
  | Ordering.eq ↦ mk i (fp r) (fq s)
  | Ordering.gt ↦ X j r (add_below i p q fp fq s)
]

plus : Poly → Poly → Poly
plus (C k) t = add_const k t
plus (X i p q) t = add_below i p q (plus p) (plus q) t

scale : ℤ → Poly → Poly
scale k (C l) = C (k *ℤ l)
scale k (X i p q) = X i (scale k p) (scale k q)

-- k times t, where k may be 0 or 1
times_const : ℤ → Poly → Poly
times_const (pos zero) t = C (pos 0)
times_const (pos (suc zero)) t = t
times_const (pos (suc (suc n))) t = scale (pos (suc (suc n))) t
times_const (negsuc n) t = scale (negsuc n) t

times_var : ℕ → Poly → Poly
times_var i (C k) = mk i (C k) (C (pos 0))
times_var i (X j r s) = elim (compare i j) [
  | Ordering.lt ↦ X i (X j r s) (C (pos 0))
  | Ordering.eq ↦ X i (X j r s) (C (pos 0))
  | Ordering.gt ↦ mk j (times_var i r) (times_var i s)
]

times : Poly → Poly → Poly
times (C k) t = times_const k t
times (X i p q) t = plus (times_var i (times p t)) (times q t)

norm : Expr → Poly
norm (num k) = C k
norm (var i) = X i (C (pos 1)) (C (pos 0))
norm (add a b) = plus (norm a) (norm b)
norm (sub a b) = plus (norm a) (scale (negsuc 0) (norm b))
norm (mul a b) = times (norm a) (norm b)
norm (neg a) = scale (negsuc 0) (norm a)

is_zero : Poly → Bool
is_zero (C (pos zero)) = true
is_zero (C (pos (suc n))) = false
is_zero (C (negsuc n)) = false
is_zero (X i p q) = elim (is_zero p) [ true ↦ is_zero q | false ↦ false ]

-- the test
unfoldable pub same : Expr → Expr → Bool
unfolding mk add_const add_below plus scale times_const times_var times norm is_zero
same a b = is_zero (norm (sub a b))

-- ---- the proof

same_index : (i j : ℕ) → compare i j ≡ Ordering.eq → i ≡ j
same_index i j e = eqb→eq i j (subst (λ (o : Ordering). T (compare_is_eq o)) (sym e) tt)

mk-value : (ρ : List ℤ) (i : ℕ) (p q : Poly) → value ρ (mk i p q) ≡ nth ρ i *ℤ value ρ p +ℤ value ρ q
unfolding mk value
mk-value ρ i (C (pos zero)) q = sym (ap (λ x. x +ℤ value ρ q) (*ℤ-zero (nth ρ i)) ∙ +ℤ_idl (value ρ q))
mk-value ρ i (C (pos (suc n))) q = refl
mk-value ρ i (C (negsuc n)) q = refl
mk-value ρ i (X j r s) q = refl

add_const-value : (ρ : List ℤ) (k : ℤ) (p : Poly) → value ρ (add_const k p) ≡ k +ℤ value ρ p
unfolding add_const value
add_const-value ρ k (C l) = refl
add_const-value ρ k (X i p q) =
    ap (λ x. nth ρ i *ℤ value ρ p +ℤ x) (add_const-value ρ k q) ∙ rotate (nth ρ i *ℤ value ρ p) k (value ρ q)
  where
    rotate : (a b c : ℤ) → a +ℤ (b +ℤ c) ≡ b +ℤ (a +ℤ c)
    rotate a b c = sym (+ℤ_assoc a b c) ∙ ap (λ x. x +ℤ c) (+ℤ_comm a b) ∙ +ℤ_assoc b a c

-- the three cases of a sum, at numbers
case_lt : (x p q t : ℤ) → x *ℤ p +ℤ (q +ℤ t) ≡ (x *ℤ p +ℤ q) +ℤ t
case_lt x p q t = sym (+ℤ_assoc (x *ℤ p) q t)

case_eq : (x p q r s : ℤ) → x *ℤ (p +ℤ r) +ℤ (q +ℤ s) ≡ (x *ℤ p +ℤ q) +ℤ (x *ℤ r +ℤ s)
case_eq x p q r s = ap (λ y. y +ℤ (q +ℤ s)) (mul_add_z x p r) ∙ swap_add_z (x *ℤ p) (x *ℤ r) q s

case_gt : (u y r s : ℤ) → y *ℤ r +ℤ (u +ℤ s) ≡ u +ℤ (y *ℤ r +ℤ s)
case_gt u y r s = sym (+ℤ_assoc (y *ℤ r) u s) ∙ ap (λ x. x +ℤ s) (+ℤ_comm (y *ℤ r) u) ∙ +ℤ_assoc u (y *ℤ r) s

abbrev Adds : List ℤ → Poly → (Poly → Poly) → Type 0
Adds ρ p f = (t : Poly) → value ρ (f t) ≡ value ρ p +ℤ value ρ t

add_below-value : (ρ : List ℤ) (i : ℕ) (p q : Poly) (fp fq : Poly → Poly) → Adds ρ p fp → Adds ρ q fq
    → (t : Poly) → value ρ (add_below i p q fp fq t) ≡ (nth ρ i *ℤ value ρ p +ℤ value ρ q) +ℤ value ρ t
unfolding add_below value
add_below-value ρ i p q fp fq hp hq (C k) = ap (λ x. nth ρ i *ℤ value ρ p +ℤ x) (hq (C k)) ∙ case_lt (nth ρ i) (value ρ p) (value ρ q) k
add_below-value ρ i p q fp fq hp hq (X j r s) = by (add_below-value ρ i p q fp fq hp hq s) (compare i j) refl
  where
    lhs : Ordering → Poly
    lhs o = elim o [ Ordering.lt ↦ X i p (fq (X j r s)) | Ordering.eq ↦ mk i (fp r) (fq s) | Ordering.gt ↦ X j r (add_below i p q fp fq s) ]

    by : value ρ (add_below i p q fp fq s) ≡ (nth ρ i *ℤ value ρ p +ℤ value ρ q) +ℤ value ρ s → (o : Ordering) → compare i j ≡ o → value ρ (lhs o) ≡ (nth ρ i *ℤ value ρ p +ℤ value ρ q) +ℤ (nth ρ j *ℤ value ρ r +ℤ value ρ s)
    by ih Ordering.lt e = ap (λ x. nth ρ i *ℤ value ρ p +ℤ x) (hq (X j r s)) ∙ case_lt (nth ρ i) (value ρ p) (value ρ q) (nth ρ j *ℤ value ρ r +ℤ value ρ s)
    by ih Ordering.eq e =
        mk-value ρ i (fp r) (fq s)
        ∙ ap (λ x. nth ρ i *ℤ x +ℤ value ρ (fq s)) (hp r)
        ∙ ap (λ x. nth ρ i *ℤ (value ρ p +ℤ value ρ r) +ℤ x) (hq s)
        ∙ case_eq (nth ρ i) (value ρ p) (value ρ q) (value ρ r) (value ρ s)
        ∙ ap (λ n. (nth ρ i *ℤ value ρ p +ℤ value ρ q) +ℤ (nth ρ n *ℤ value ρ r +ℤ value ρ s)) (same_index i j e)
    by ih Ordering.gt e =
        ap (λ x. nth ρ j *ℤ value ρ r +ℤ x) ih
        ∙ case_gt (nth ρ i *ℤ value ρ p +ℤ value ρ q) (nth ρ j) (value ρ r) (value ρ s)

plus-value : (ρ : List ℤ) (p : Poly) → Adds ρ p (plus p)
unfolding plus value
plus-value ρ (C k) t = add_const-value ρ k t
plus-value ρ (X i p q) t = add_below-value ρ i p q (plus p) (plus q) (plus-value ρ p) (plus-value ρ q) t

scale-value : (ρ : List ℤ) (k : ℤ) (p : Poly) → value ρ (scale k p) ≡ k *ℤ value ρ p
unfolding scale value
scale-value ρ k (C l) = refl
scale-value ρ k (X i p q) =
    ap (λ x. nth ρ i *ℤ x +ℤ value ρ (scale k q)) (scale-value ρ k p)
    ∙ ap (λ x. nth ρ i *ℤ (k *ℤ value ρ p) +ℤ x) (scale-value ρ k q)
    ∙ ap (λ x. x +ℤ k *ℤ value ρ q) (left_comm_z (nth ρ i) k (value ρ p))
    ∙ sym (mul_add_z k (nth ρ i *ℤ value ρ p) (value ρ q))

times_const-value : (ρ : List ℤ) (k : ℤ) (p : Poly) → value ρ (times_const k p) ≡ k *ℤ value ρ p
unfolding times_const value
times_const-value ρ (pos zero) t = sym (zero-*ℤ (value ρ t))
times_const-value ρ (pos (suc zero)) t = sym (one_mul_z (value ρ t))
times_const-value ρ (pos (suc (suc n))) t = scale-value ρ (pos (suc (suc n))) t
times_const-value ρ (negsuc n) t = scale-value ρ (negsuc n) t

times_var-value : (ρ : List ℤ) (i : ℕ) (p : Poly) → value ρ (times_var i p) ≡ nth ρ i *ℤ value ρ p
unfolding times_var value
times_var-value ρ i (C k) = mk-value ρ i (C k) (C (pos 0)) ∙ +ℤ_idr (nth ρ i *ℤ k)
times_var-value ρ i (X j r s) = by (times_var-value ρ i r) (times_var-value ρ i s) (compare i j)
  where
    lhs : Ordering → Poly
    lhs o = elim o [ Ordering.lt ↦ X i (X j r s) (C (pos 0)) | Ordering.eq ↦ X i (X j r s) (C (pos 0)) | Ordering.gt ↦ mk j (times_var i r) (times_var i s) ]

    by : value ρ (times_var i r) ≡ nth ρ i *ℤ value ρ r → value ρ (times_var i s) ≡ nth ρ i *ℤ value ρ s → (o : Ordering) → value ρ (lhs o) ≡ nth ρ i *ℤ (nth ρ j *ℤ value ρ r +ℤ value ρ s)
    by ihr ihs Ordering.lt = +ℤ_idr (nth ρ i *ℤ (nth ρ j *ℤ value ρ r +ℤ value ρ s))
    by ihr ihs Ordering.eq = +ℤ_idr (nth ρ i *ℤ (nth ρ j *ℤ value ρ r +ℤ value ρ s))
    by ihr ihs Ordering.gt =
        mk-value ρ j (times_var i r) (times_var i s)
        ∙ ap (λ x. nth ρ j *ℤ x +ℤ value ρ (times_var i s)) ihr
        ∙ ap (λ x. nth ρ j *ℤ (nth ρ i *ℤ value ρ r) +ℤ x) ihs
        ∙ ap (λ x. x +ℤ nth ρ i *ℤ value ρ s) (left_comm_z (nth ρ j) (nth ρ i) (value ρ r))
        ∙ sym (mul_add_z (nth ρ i) (nth ρ j *ℤ value ρ r) (value ρ s))

times-value : (ρ : List ℤ) (p t : Poly) → value ρ (times p t) ≡ value ρ p *ℤ value ρ t
unfolding times value
times-value ρ (C k) t = times_const-value ρ k t
times-value ρ (X i p q) t =
    plus-value ρ (times_var i (times p t)) (times q t)
    ∙ ap (λ x. x +ℤ value ρ (times q t)) (times_var-value ρ i (times p t) ∙ ap (λ y. nth ρ i *ℤ y) (times-value ρ p t) ∙ sym (mul_assoc_z (nth ρ i) (value ρ p) (value ρ t)))
    ∙ ap (λ x. (nth ρ i *ℤ value ρ p) *ℤ value ρ t +ℤ x) (times-value ρ q t)
    ∙ sym (add_mul_z (nth ρ i *ℤ value ρ p) (value ρ q) (value ρ t))

norm-value : (ρ : List ℤ) (e : Expr) → value ρ (norm e) ≡ eval ρ e
unfolding norm value
norm-value ρ (num k) = refl
norm-value ρ (var i) = +ℤ_idr (nth ρ i *ℤ pos 1) ∙ *ℤ_comm (nth ρ i) (pos 1) ∙ one_mul_z (nth ρ i)
norm-value ρ (add a b) = plus-value ρ (norm a) (norm b) ∙ ap (λ x. x +ℤ value ρ (norm b)) (norm-value ρ a) ∙ ap (λ x. eval ρ a +ℤ x) (norm-value ρ b)
norm-value ρ (sub a b) =
    plus-value ρ (norm a) (scale (negsuc 0) (norm b)) ∙ ap (λ x. x +ℤ value ρ (scale (negsuc 0) (norm b))) (norm-value ρ a)
    ∙ ap (λ x. eval ρ a +ℤ x) (scale-value ρ (negsuc 0) (norm b) ∙ neg_mul_z (value ρ (norm b)) ∙ ap neg_ℤ (norm-value ρ b))
norm-value ρ (mul a b) = times-value ρ (norm a) (norm b) ∙ ap (λ x. x *ℤ value ρ (norm b)) (norm-value ρ a) ∙ ap (λ x. eval ρ a *ℤ x) (norm-value ρ b)
norm-value ρ (neg a) = scale-value ρ (negsuc 0) (norm a) ∙ neg_mul_z (value ρ (norm a)) ∙ ap neg_ℤ (norm-value ρ a)

is_zero-value : (ρ : List ℤ) (p : Poly) → T (is_zero p) → value ρ p ≡ pos 0
unfolding is_zero value
is_zero-value ρ (C (pos zero)) h = refl
is_zero-value ρ (C (pos (suc n))) h = absurd h
is_zero-value ρ (C (negsuc n)) h = absurd h
is_zero-value ρ (X i p q) h = by (is_zero-value ρ p) (is_zero-value ρ q) (is_zero p) refl h
  where
    by : (T (is_zero p) → value ρ p ≡ pos 0) → (T (is_zero q) → value ρ q ≡ pos 0) → (b : Bool) → is_zero p ≡ b → T (elim b [ true ↦ is_zero q | false ↦ false ]) → nth ρ i *ℤ value ρ p +ℤ value ρ q ≡ pos 0
    by ihp ihq true e h =
        ap (λ x. nth ρ i *ℤ x +ℤ value ρ q) (ihp (subst T (sym e) tt))
        ∙ ap (λ x. nth ρ i *ℤ pos 0 +ℤ x) (ihq h)
        ∙ +ℤ_idr (nth ρ i *ℤ pos 0) ∙ *ℤ-zero (nth ρ i)
    by ihp ihq false e h = absurd h

from_difference : (a b : ℤ) → a -ℤ b ≡ pos 0 → a ≡ b
from_difference a b e = sym (-ℤ-+ℤ_cancel a b) ∙ ap (λ x. x +ℤ b) e ∙ +ℤ_idl b

pub ring : (a b : Expr) → T (same a b) → (ρ : List ℤ) → eval ρ a ≡ eval ρ b
unfolding same
ring a b h ρ = from_difference (eval ρ a) (eval ρ b) (sym (norm-value ρ (sub a b)) ∙ is_zero-value ρ (norm (sub a b)) h)

-- ---- with equations that are given

-- an equation, and the factor that it is taken with
pub record Given : Type 0 where
  pub times : Expr
  pub left : Expr
  pub right : Expr

abbrev pub given : Expr → Expr → Expr → Given
given k a b = record { times = k; left = a; right = b }

abbrev pub combination : List Given → Expr
combination [] = num (pos 0)
combination (g ∷ gs) = add (mul g.times (sub g.left g.right)) (combination gs)

abbrev pub AllHold : List ℤ → List Given → Type 0
AllHold ρ [] = Unit {0}
AllHold ρ (g ∷ gs) = (eval ρ g.left ≡ eval ρ g.right) × AllHold ρ gs

difference_zero : (a b : ℤ) → a ≡ b → a -ℤ b ≡ pos 0
difference_zero a b e = ap (λ x. x -ℤ b) e ∙ +ℤ_invr b

combination-zero : (ρ : List ℤ) (gs : List Given) → AllHold ρ gs → eval ρ (combination gs) ≡ pos 0
combination-zero ρ [] h = refl
combination-zero ρ (g ∷ gs) h =
    ap (λ x. eval ρ g.times *ℤ x +ℤ eval ρ (combination gs)) (difference_zero (eval ρ g.left) (eval ρ g.right) h.0)
    ∙ ap (λ x. eval ρ g.times *ℤ pos 0 +ℤ x) (combination-zero ρ gs h.1)
    ∙ +ℤ_idr (eval ρ g.times *ℤ pos 0) ∙ *ℤ-zero (eval ρ g.times)

-- a ≡ b, since a - b is the sum of the factors times the given equations' differences
pub ring_given : (a b : Expr) (gs : List Given) → T (same (sub a b) (combination gs)) → (ρ : List ℤ) → AllHold ρ gs → eval ρ a ≡ eval ρ b
ring_given a b gs t ρ h = from_difference (eval ρ a) (eval ρ b) (ring (sub a b) (combination gs) t ρ ∙ combination-zero ρ gs h)
