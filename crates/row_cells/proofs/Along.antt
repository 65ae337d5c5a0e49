-- Along an axis a point of a tetrahedron lies between the least and the greatest coordinate of the corners.
use Rattle.std.proofs.Common.{◌≡◌, ℕ, ◌*◌, ◌/◌, ◌<◌, ◌≤◌, ℤ, pos, negsuc, ◌+ℤ◌, ◌-ℤ◌, ◌*ℤ◌, ◌<ℤ◌, ◌≤ℤ◌, Bool, true, false, ◌&&◌, [], ◌∷◌, refl, ap, ◌∙◌, arith}
use Rattle.std.specs.Prelude.{min, max, int_lt, unsigned_abs, if◌then◌else◌}
use Rattle.std.proofs.lemmas.Int.{ints}
use Rattle.std.proofs.lemmas.Bool.{le-leb}
use Rattle.std.proofs.Math.Nat.{div-le_of_le-mul, le-div_iff_mul-le}
use Rattle.exact_algebra.proofs.Ring.{var, num, ring, same, ◌⊕◌, ◌⊗◌}
use Rattle.exact_algebra.proofs.Signs.{mul_le, mul_nonneg, le_of_mul}
use Rattle.crossing_laws.proofs.Tests.{lt_not}
use Rattle.row_cells.specs.Boxes.{ahead, whole_units, span_of, spans}

-- ---- weighted sums

sum_le : (a b c d e f g h s t : ℤ) → a ≤ℤ e → b ≤ℤ f → c ≤ℤ g → d ≤ℤ h → (a +ℤ (b +ℤ (c +ℤ d))) ≡ s → (e +ℤ (f +ℤ (g +ℤ h))) ≡ t → s ≤ℤ t
sum_le a b c d e f g h s t p q r u j k = omega (arith, ints)

spread : (wa wb wc wd h : ℤ) → wa *ℤ h +ℤ (wb *ℤ h +ℤ (wc *ℤ h +ℤ wd *ℤ h)) ≡ (wa +ℤ (wb +ℤ (wc +ℤ wd))) *ℤ h
unfolding same
spread wa wb wc wd h = ring (var 0 ⊗ var 4 ⊕ (var 1 ⊗ var 4 ⊕ (var 2 ⊗ var 4 ⊕ var 3 ⊗ var 4))) ((var 0 ⊕ (var 1 ⊕ (var 2 ⊕ var 3))) ⊗ var 4) tt (wa ∷ wb ∷ wc ∷ wd ∷ h ∷ [])

turned : (v w h : ℤ) → (v *ℤ w) *ℤ h ≡ v *ℤ (h *ℤ w)
unfolding same
turned v w h = ring ((var 0 ⊗ var 1) ⊗ var 2) (var 0 ⊗ (var 2 ⊗ var 1)) tt (v ∷ w ∷ h ∷ [])

-- four weights with their sum, and the weighted sum of four numbers
pub record Weighs (wa wb wc wd a b c d v w x : ℤ) : Type 0 where
  pub a_least : pos 0 ≤ℤ wa
  pub b_least : pos 0 ≤ℤ wb
  pub c_least : pos 0 ≤ℤ wc
  pub d_least : pos 0 ≤ℤ wd
  pub whole : wa +ℤ (wb +ℤ (wc +ℤ wd)) ≡ v *ℤ w
  pub sum : wa *ℤ a +ℤ (wb *ℤ b +ℤ (wc *ℤ c +ℤ wd *ℤ d)) ≡ v *ℤ x
  pub positive : pos 0 <ℤ v

pub most : (wa wb wc wd a b c d v w x h : ℤ) → Weighs wa wb wc wd a b c d v w x → a ≤ℤ h → b ≤ℤ h → c ≤ℤ h → d ≤ℤ h → x ≤ℤ (h *ℤ w)
most wa wb wc wd a b c d v w x h k la lb lc ld =
    le_of_mul v x (h *ℤ w) k.positive (sum_le (wa *ℤ a) (wb *ℤ b) (wc *ℤ c) (wd *ℤ d) (wa *ℤ h) (wb *ℤ h) (wc *ℤ h) (wd *ℤ h) (v *ℤ x) (v *ℤ (h *ℤ w))
    (mul_le wa a h k.a_least la) (mul_le wb b h k.b_least lb) (mul_le wc c h k.c_least lc) (mul_le wd d h k.d_least ld) k.sum
    (spread wa wb wc wd h ∙ ap (λ n. n *ℤ h) k.whole ∙ turned v w h))

pub least : (wa wb wc wd a b c d v w x h : ℤ) → Weighs wa wb wc wd a b c d v w x → h ≤ℤ a → h ≤ℤ b → h ≤ℤ c → h ≤ℤ d → (h *ℤ w) ≤ℤ x
least wa wb wc wd a b c d v w x h k la lb lc ld =
    le_of_mul v (h *ℤ w) x k.positive (sum_le (wa *ℤ h) (wb *ℤ h) (wc *ℤ h) (wd *ℤ h) (wa *ℤ a) (wb *ℤ b) (wc *ℤ c) (wd *ℤ d) (v *ℤ (h *ℤ w)) (v *ℤ x)
    (mul_le wa h a k.a_least la) (mul_le wb h b k.b_least lb) (mul_le wc h c k.c_least lc) (mul_le wd h d k.d_least ld)
    (spread wa wb wc wd h ∙ ap (λ n. n *ℤ h) k.whole ∙ turned v w h) k.sum)

-- ---- counted from -2^29 on

drawn : (h w : ℤ) → (h -ℤ pos 536870912) *ℤ w +ℤ pos 536870912 *ℤ w ≡ h *ℤ w
unfolding same
drawn h w = ring ((var 0 ⊕ num (negsuc 536870911)) ⊗ var 1 ⊕ num (pos 536870912) ⊗ var 1) (var 0 ⊗ var 1) tt (h ∷ w ∷ [])

up_to : (h w x s : ℤ) → x ≤ℤ ((h -ℤ pos 536870912) *ℤ w) → (x +ℤ pos 536870912 *ℤ w) ≤ℤ (h *ℤ w)
up_to h w x s le = go ((h -ℤ pos 536870912) *ℤ w) (pos 536870912 *ℤ w) (h *ℤ w) le (drawn h w)
  where
    go : (k m n : ℤ) → x ≤ℤ k → k +ℤ m ≡ n → (x +ℤ m) ≤ℤ n
    go k m n le e = omega (arith, ints)

from_on : (h w x s : ℤ) → ((h -ℤ pos 536870912) *ℤ w) ≤ℤ x → (h *ℤ w) ≤ℤ (x +ℤ pos 536870912 *ℤ w)
from_on h w x s le = go ((h -ℤ pos 536870912) *ℤ w) (pos 536870912 *ℤ w) (h *ℤ w) le (drawn h w)
  where
    go : (k m n : ℤ) → k ≤ℤ x → k +ℤ m ≡ n → n ≤ℤ (x +ℤ m)
    go k m n le e = omega (arith, ints)

pub ahead_is : (a : ℤ) → negsuc 536870911 ≤ℤ a → pos (ahead a) ≡ a +ℤ pos 536870912
ahead_is a low = go (a +ℤ pos 536870912) (omega (arith, ints))
  where
    go : (z : ℤ) → pos 0 ≤ℤ z → pos (unsigned_abs z) ≡ z
    go (pos n) h = refl
    go (negsuc n) h = absurd (omega (arith, ints))

pub low_end : (a : ℤ) (l n : ℕ) → l ≤ n → pos n ≡ a +ℤ pos 536870912 → (pos l -ℤ pos 536870912) ≤ℤ a
low_end a l n le e = omega (arith, ints)

pub high_end : (a : ℤ) (h n : ℕ) → n ≤ h → pos n ≡ a +ℤ pos 536870912 → a ≤ℤ (pos h -ℤ pos 536870912)
high_end a h n le e = omega (arith, ints)

two_true : (a b : Bool) → a ≡ true → b ≡ true → (a && b) ≡ true
two_true a b e f = λ i. e i && f i

times_le : (l m n : ℕ) → (pos l *ℤ pos m) ≤ℤ pos n → l * m ≤ n
times_le l m n h = omega (arith, ints, h)

le_times : (h m n : ℕ) → pos n ≤ℤ (pos h *ℤ pos m) → n ≤ h * m
le_times h m n le = omega (arith, ints, le)

-- whole units between two numbers of them
between : (l h m : ℕ) (parts : ℤ) → 0 < m → (pos l *ℤ pos m) ≤ℤ parts → parts ≤ℤ (pos h *ℤ pos m) → spans (record { low = l; high = h }) (whole_units parts (pos m)) ≡ true
between l h m (pos n) some low high =
    let at_least : l ≤ n / m = (le-div_iff_mul-le some).1 (times_le l m n low) in
    let product = le_times h m n high in
    let at_most : n / m ≤ h = div-le_of_le-mul m (omega (arith, product)) in
    let there : int_lt (pos n) (pos 0) ≡ false = lt_not (pos n) (pos 0) (omega (arith, ints)) in
    ap (λ (b : Bool). spans (record { low = l; high = h }) (if b then 0 else n / m)) there ∙ two_true _ _ (le-leb l (n / m) at_least) (le-leb (n / m) h at_most)
between l h m (negsuc n) some low high = absurd (below (pos l *ℤ pos m) (mul_nonneg (pos l) (pos m) (omega (arith, ints)) (omega (arith, ints))) low)
  where
    below : (k : ℤ) → pos 0 ≤ℤ k → k ≤ℤ negsuc n → ⊥
    below k p q = omega (arith, ints)

-- the cell of a point along an axis lies in the span of the corners
pub in_span : (wa wb wc wd a b c d v w x : ℤ) → Weighs wa wb wc wd a b c d v w x → pos 0 <ℤ w → negsuc 536870911 ≤ℤ a → negsuc 536870911 ≤ℤ b → negsuc 536870911 ≤ℤ c → negsuc 536870911 ≤ℤ d
    → spans (span_of (ahead a) (ahead b) (ahead c) (ahead d)) (whole_units (x +ℤ pos 536870912 *ℤ w) w) ≡ true
in_span wa wb wc wd a b c d v (negsuc m) x k some la lb lc ld = absurd (omega (arith, ints))
in_span wa wb wc wd a b c d v (pos m) x k some la lb lc ld =
    let l : ℕ = min (min (min (ahead a) (ahead b)) (ahead c)) (ahead d) in
    let h : ℕ = max (max (max (ahead a) (ahead b)) (ahead c)) (ahead d) in
    let low = from_on (pos l) (pos m) x x (least wa wb wc wd a b c d v (pos m) x (pos l -ℤ pos 536870912) k
    (low_end a l (ahead a) (omega arith) (ahead_is a la)) (low_end b l (ahead b) (omega arith) (ahead_is b lb)) (low_end c l (ahead c) (omega arith) (ahead_is c lc)) (low_end d l (ahead d) (omega arith) (ahead_is d ld))) in
    let high = up_to (pos h) (pos m) x x (most wa wb wc wd a b c d v (pos m) x (pos h -ℤ pos 536870912) k
    (high_end a h (ahead a) (omega arith) (ahead_is a la)) (high_end b h (ahead b) (omega arith) (ahead_is b lb)) (high_end c h (ahead c) (omega arith) (ahead_is c lc)) (high_end d h (ahead d) (omega arith) (ahead_is d ld))) in
    between l h m (x +ℤ pos 536870912 *ℤ pos m) (omega (arith, ints, some)) low high

-- the greatest of four coordinates on the grid, and the least
pub edge : (a b c d : ℤ) → negsuc 536870911 ≤ℤ a → a ≤ℤ pos 536870912 → (span_of (ahead a) (ahead b) (ahead c) (ahead d)).low ≤ 1073741824
edge a b c d low high = let e = ahead_is a low in omega (arith, ints)
