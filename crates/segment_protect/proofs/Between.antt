-- A point on a segment has each coordinate between those of the ends.
use Rattle.std.proofs.Common.{◌≡◌, ◌≢◌, ℤ, pos, ◌+ℤ◌, ◌-ℤ◌, ◌*ℤ◌, ◌<ℤ◌, ◌≤ℤ◌, Bool, true, false, true≢false, ◌&&◌, ◌||◌, List, [], ◌∷◌, refl, ap, sym, ◌∙◌, arith}
use Rattle.std.specs.Prelude.{int_le}
use Rattle.std.proofs.lemmas.Int.{ints}
use Rattle.exact_algebra.proofs.Ring.{num, var, ring_given, given, same, ◌⊕◌, ◌⊖◌, ◌⊗◌}
use Rattle.exact_algebra.proofs.Signs.{by_sign}
use Rattle.sign_predicates.specs.Point.{Point, from_to}
use Rattle.geo_laws.specs.Delaunay.{point}
use Rattle.geo_laws.specs.Segment.{along, is_on_segment}
use Rattle.segment_protect.specs.Spots.{is_between, is_near, IsSpotOf}
use Rattle.segment_protect.specs.declared.spots.Spot.{Spot}
use Rattle.segment_protect.proofs.Codes.{long, in_proportion, negated, on_line}
use Rattle.geo_laws.proofs.Members.{both_true}
use Rattle.geo_laws.proofs.Sorting.{int_le_true}
use Rattle.segment_protect.proofs.Halves.{int_le_test}

-- how far along a point lies on a line, and its second coordinate from the first end on, are in one proportion
part_y : (u1 u2 u3 v1 v2 v3 : ℤ) → u2 *ℤ v3 -ℤ u3 *ℤ v2 ≡ pos 0 → u1 *ℤ v2 -ℤ u2 *ℤ v1 ≡ pos 0
    → (u1 *ℤ u1 +ℤ u2 *ℤ u2 +ℤ u3 *ℤ u3) *ℤ v2 ≡ (u1 *ℤ v1 +ℤ u2 *ℤ v2 +ℤ u3 *ℤ v3) *ℤ u2
unfolding same
part_y u1 u2 u3 v1 v2 v3 e g =
    ring_given ((var 0 ⊗ var 0 ⊕ var 1 ⊗ var 1 ⊕ var 2 ⊗ var 2) ⊗ var 4) ((var 0 ⊗ var 3 ⊕ var 1 ⊗ var 4 ⊕ var 2 ⊗ var 5) ⊗ var 1)
    (given (num (pos 0) ⊖ var 2) (var 1 ⊗ var 5 ⊖ var 2 ⊗ var 4) (num (pos 0)) ∷ given (var 0) (var 0 ⊗ var 4 ⊖ var 1 ⊗ var 3) (num (pos 0)) ∷ [])
    tt (u1 ∷ u2 ∷ u3 ∷ v1 ∷ v2 ∷ v3 ∷ []) (e, (g, tt))

-- and its third one
part_z : (u1 u2 u3 v1 v2 v3 : ℤ) → u2 *ℤ v3 -ℤ u3 *ℤ v2 ≡ pos 0 → u3 *ℤ v1 -ℤ u1 *ℤ v3 ≡ pos 0
    → (u1 *ℤ u1 +ℤ u2 *ℤ u2 +ℤ u3 *ℤ u3) *ℤ v3 ≡ (u1 *ℤ v1 +ℤ u2 *ℤ v2 +ℤ u3 *ℤ v3) *ℤ u3
unfolding same
part_z u1 u2 u3 v1 v2 v3 e f =
    ring_given ((var 0 ⊗ var 0 ⊕ var 1 ⊗ var 1 ⊕ var 2 ⊗ var 2) ⊗ var 5) ((var 0 ⊗ var 3 ⊕ var 1 ⊗ var 4 ⊕ var 2 ⊗ var 5) ⊗ var 2)
    (given (var 1) (var 1 ⊗ var 5 ⊖ var 2 ⊗ var 4) (num (pos 0)) ∷ given (num (pos 0) ⊖ var 0) (var 2 ⊗ var 3 ⊖ var 0 ⊗ var 5) (num (pos 0)) ∷ [])
    tt (u1 ∷ u2 ∷ u3 ∷ v1 ∷ v2 ∷ v3 ∷ []) (e, (f, tt))

record AreParts (a b p : Point) : Type 0 where
  y : along a b b *ℤ (p.y -ℤ a.y) ≡ along a b p *ℤ (b.y -ℤ a.y)
  z : along a b b *ℤ (p.z -ℤ a.z) ≡ along a b p *ℤ (b.z -ℤ a.z)
  low : pos 0 ≤ℤ along a b p
  high : along a b p ≤ℤ along a b b

parts_of : (a b p : Point) → is_on_segment a b p ≡ true → AreParts a b p
parts_of a b p e =
    let u = from_to a b in
    let v = from_to a p in
    let line = on_line a b p e in
    record {
      y = part_y u.x u.y u.z v.x v.y v.z line.x line.z;
      z = part_z u.x u.y u.z v.x v.y v.z line.x line.y;
      low = line.low;
      high = line.high;
    }

up_between : (a b n : ℤ) → a ≤ℤ n → n ≤ℤ b → is_between a b n ≡ true
unfolding is_between
up_between a b n h k = λ j. int_le_test a n h j && int_le_test n b k j || int_le b n && int_le n a

either : (x : Bool) → x || true ≡ true
either true = refl
either false = refl

down_between : (a b n : ℤ) → b ≤ℤ n → n ≤ℤ a → is_between a b n ≡ true
unfolding is_between
down_between a b n h k = (λ j. int_le a n && int_le n b || int_le_test b n h j && int_le_test n a k j) ∙ either (int_le a n && int_le n b)

-- ---- by the order of the ends

or_first : (x y : Bool) → (y ≡ true → x ≡ true) → x ≡ x || y
or_first true y h = refl
or_first false true h = h refl
or_first false false h = refl

or_second : (x y : Bool) → (x ≡ true → y ≡ true) → y ≡ x || y
or_second true y h = h refl
or_second false y h = refl

inside : (a b n : ℤ) → a ≤ℤ b → (int_le b n && int_le n a) ≡ true → (int_le a n && int_le n b) ≡ true
inside a b n h e =
    let p = both_true (int_le b n) (int_le n a) e in
    let over = int_le_true b n p.0 in
    let under = int_le_true n a p.1 in
    λ j. int_le_test a n (omega (arith, ints)) j && int_le_test n b (omega (arith, ints)) j

pub between_rising : (a b n : ℤ) → int_le a b ≡ true → (int_le a n && int_le n b) ≡ is_between a b n
unfolding is_between
between_rising a b n e = or_first (int_le a n && int_le n b) (int_le b n && int_le n a) (inside a b n (int_le_true a b e))

pub between_falling : (a b n : ℤ) → int_le a b ≡ false → (int_le b n && int_le n a) ≡ is_between a b n
unfolding is_between
between_falling a b n e = or_second (int_le a n && int_le n b) (int_le b n && int_le n a) (inside b a n (less e))
  where
    less : int_le a b ≡ false → b ≤ℤ a
    less e = by_sign (b -ℤ a) (λ h. omega (arith, ints)) (λ h. omega (arith, ints)) (λ h. absurd (true≢false (sym (int_le_test a b (omega (arith, ints))) ∙ e)))

-- a coordinate in proportion with a part of the whole lies between those of the ends
part_between : (l t a b n : ℤ) → l *ℤ (n -ℤ a) ≡ t *ℤ (b -ℤ a) → pos 0 <ℤ l → pos 0 ≤ℤ t → t ≤ℤ l → is_between a b n ≡ true
part_between l t a b n e some low high =
    by_sign (b -ℤ a) (λ h. falling (in_proportion l (pos 0 -ℤ (n -ℤ a)) t (pos 0 -ℤ (b -ℤ a)) (negated l (n -ℤ a) t (b -ℤ a) e) some low high (down h)))
    (λ h. rising (in_proportion l (n -ℤ a) t (b -ℤ a) e some low high (level h))) (λ h. rising (in_proportion l (n -ℤ a) t (b -ℤ a) e some low high (up h)))
  where
    down : (b -ℤ a) <ℤ pos 0 → pos 0 ≤ℤ (pos 0 -ℤ (b -ℤ a))
    down h = omega (arith, ints)

    level : b -ℤ a ≡ pos 0 → pos 0 ≤ℤ (b -ℤ a)
    level h = omega (arith, ints)

    up : pos 0 <ℤ (b -ℤ a) → pos 0 ≤ℤ (b -ℤ a)
    up h = omega (arith, ints)

    rising : (pos 0 ≤ℤ (n -ℤ a)) × ((n -ℤ a) ≤ℤ (b -ℤ a)) → is_between a b n ≡ true
    rising r = up_between a b n (above r.0) (under r.1)
      where
        above : pos 0 ≤ℤ (n -ℤ a) → a ≤ℤ n
        above h = omega (arith, ints)

        under : (n -ℤ a) ≤ℤ (b -ℤ a) → n ≤ℤ b
        under h = omega (arith, ints)

    falling : (pos 0 ≤ℤ (pos 0 -ℤ (n -ℤ a))) × ((pos 0 -ℤ (n -ℤ a)) ≤ℤ (pos 0 -ℤ (b -ℤ a))) → is_between a b n ≡ true
    falling r = down_between a b n (above r.1) (under r.0)
      where
        above : (pos 0 -ℤ (n -ℤ a)) ≤ℤ (pos 0 -ℤ (b -ℤ a)) → b ≤ℤ n
        above h = omega (arith, ints)

        under : pos 0 ≤ℤ (pos 0 -ℤ (n -ℤ a)) → n ≤ℤ a
        under h = omega (arith, ints)

unless : (on between : Bool) → (on ≡ true → between ≡ true) → between ≡ false → on ≡ false
unless false between h e = refl
unless true between h e = absurd (true≢false (sym (h refl) ∙ e))

-- a spot is off the segment where one of its coordinates is not between those of the ends
pub off_segment : (ps : List Point) (a b : Point) (s : Spot) → IsSpotOf ps s → a ≢ b → is_near a b s ≡ false → is_on_segment a b (point ps s.number) ≡ false
off_segment ps a b s of differ = unless (is_on_segment a b (point ps s.number)) (is_near a b s) near
  where
    near : is_on_segment a b (point ps s.number) ≡ true → is_near a b s ≡ true
    near e =
        let r = parts_of a b (point ps s.number) e in
        let t = along a b (point ps s.number) in
        let y = ap (is_between a.y b.y) of.y_is ∙ part_between (along a b b) t a.y b.y (point ps s.number).y r.y (long a b differ) r.low r.high in
        let z = ap (is_between a.z b.z) of.z_is ∙ part_between (along a b b) t a.z b.z (point ps s.number).z r.z (long a b differ) r.low r.high in
        λ j. y j && z j
