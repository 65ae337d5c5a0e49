-- A point that is on one side of all four corners along an axis is not in the closed tetrahedron.
use Rattle.std.proofs.Common.{◌≡◌, ◌⊎◌, inl, inr, ℕ, ℤ, pos, neg_ℤ, ◌+ℤ◌, ◌-ℤ◌, ◌*ℤ◌, ◌<ℤ◌, ◌≤ℤ◌, List, [], ◌∷◌, sym, subst, arith}
use Rattle.std.proofs.lemmas.Int.{ints}
use Rattle.exact_algebra.proofs.Ring.{var, num, neg, ring, same}
use Rattle.exact_algebra.proofs.Ring.{◌⊕◌, ◌⊖◌, ◌⊗◌}
use Rattle.sign_predicates.specs.Point.{Point, RationalPoint, as_rational}
use Rattle.sign_predicates.specs.Orientation.{IsPositive, InClosed}
use Rattle.sign_predicates.specs.declared.tetrahedron.Corners.{Corners}
use Rattle.geo_laws.specs.Delaunay.{numbers}
use Rattle.geo_laws.specs.declared.tetrahedra.Tet.{Tet}
use Rattle.geo_laws.proofs.Members.{IsMember, here, there}
use Rattle.path_laws.proofs.Forms.{Form, by_numbers}
use Rattle.path_laws.proofs.Means.{mean_least, at}
use Rattle.path_laws.proofs.Rows.{mean_of}
use Rattle.hole_carve.specs.Boxes.{AreBelowOrAbove}

-- the corners as a list, and the tetrahedron on it
abbrev four : Corners → List Point
four t = t.a ∷ t.b ∷ t.c ∷ t.d ∷ []

abbrev all_four : Tet
all_four = record { a = 0; b = 1; c = 2; d = 3 }

-- a form that is at least 0 at the corners is so in the closed tetrahedron
form_least : (t : Corners) (x : RationalPoint) → IsPositive t → pos 0 <ℤ x.w → InClosed t x → (g : Form)
    → pos 0 ≤ℤ g.value (as_rational t.a) → pos 0 ≤ℤ g.value (as_rational t.b) → pos 0 ≤ℤ g.value (as_rational t.c) → pos 0 ≤ℤ g.value (as_rational t.d)
    → pos 0 ≤ℤ g.value x
form_least t x p w h g a b c d =
    let m = mean_of (four t) all_four x w p h in
    mean_least (four t) g (numbers all_four) m.weight x w m.mean each
  where
    each : (i : ℕ) → IsMember i (numbers all_four) → pos 0 ≤ℤ at g (four t) i
    each i here = a
    each i (there here) = b
    each i (there (there here)) = c
    each i (there (there (there here))) = d
    each i (there (there (there (there m)))) = elim m [ ]

-- ---- in a direction: the form that is below 0 at the point alone

abbrev along : ℤ → ℤ → ℤ → ℤ → ℤ → ℤ → ℤ
along p q r x y z = p *ℤ x +ℤ (q *ℤ y +ℤ r *ℤ z)

abbrev before : ℤ → ℤ → ℤ → RationalPoint → Form
before p q r x = by_numbers (neg_ℤ (p *ℤ x.w)) (neg_ℤ (q *ℤ x.w)) (neg_ℤ (r *ℤ x.w)) (along p q r x.x x.y x.z -ℤ pos 1)

at_corner : (p q r w n x y z : ℤ)
    → (n -ℤ pos 1) -ℤ along p q r x y z *ℤ w
    ≡ neg_ℤ (p *ℤ w) *ℤ x +ℤ (neg_ℤ (q *ℤ w) *ℤ y +ℤ (neg_ℤ (r *ℤ w) *ℤ z +ℤ (n -ℤ pos 1) *ℤ pos 1))
unfolding same
at_corner p q r w n x y z =
    ring ((var 4 ⊖ num (pos 1)) ⊖ (var 0 ⊗ var 5 ⊕ (var 1 ⊗ var 6 ⊕ var 2 ⊗ var 7)) ⊗ var 3)
    (neg (var 0 ⊗ var 3) ⊗ var 5 ⊕ (neg (var 1 ⊗ var 3) ⊗ var 6 ⊕ (neg (var 2 ⊗ var 3) ⊗ var 7 ⊕ (var 4 ⊖ num (pos 1)) ⊗ num (pos 1))))
    tt (p ∷ q ∷ r ∷ w ∷ n ∷ x ∷ y ∷ z ∷ [])

at_point : (p q r w x y z : ℤ)
    → neg_ℤ (p *ℤ w) *ℤ x +ℤ (neg_ℤ (q *ℤ w) *ℤ y +ℤ (neg_ℤ (r *ℤ w) *ℤ z +ℤ (along p q r x y z -ℤ pos 1) *ℤ w)) ≡ neg_ℤ w
unfolding same
at_point p q r w x y z =
    ring (neg (var 0 ⊗ var 3) ⊗ var 4 ⊕ (neg (var 1 ⊗ var 3) ⊗ var 5 ⊕ (neg (var 2 ⊗ var 3) ⊗ var 6
    ⊕ ((var 0 ⊗ var 4 ⊕ (var 1 ⊗ var 5 ⊕ var 2 ⊗ var 6)) ⊖ num (pos 1)) ⊗ var 3)))
    (neg (var 3)) tt (p ∷ q ∷ r ∷ w ∷ x ∷ y ∷ z ∷ [])

room : (m n : ℤ) → m <ℤ n → pos 0 ≤ℤ ((n -ℤ pos 1) -ℤ m)
room m n h = omega (arith, ints)

not_below : (w n : ℤ) → n ≡ neg_ℤ w → pos 0 <ℤ w → pos 0 ≤ℤ n → ⊥
not_below w n e h k = omega (arith, ints)

-- the corner lies before the point
abbrev IsBefore : ℤ → ℤ → ℤ → RationalPoint → Point → Type 0
IsBefore p q r x v = (along p q r v.x v.y v.z *ℤ x.w) <ℤ along p q r x.x x.y x.z

corner_least : (p q r : ℤ) (x : RationalPoint) (v : Point) → IsBefore p q r x v → pos 0 ≤ℤ (before p q r x).value (as_rational v)
corner_least p q r x v h =
    subst (λ n. pos 0 ≤ℤ n) (at_corner p q r x.w (along p q r x.x x.y x.z) v.x v.y v.z) (room _ _ h)

off_by : (t : Corners) (x : RationalPoint) → IsPositive t → pos 0 <ℤ x.w → (p q r : ℤ)
    → IsBefore p q r x t.a → IsBefore p q r x t.b → IsBefore p q r x t.c → IsBefore p q r x t.d → ¬ InClosed t x
off_by t x positive w p q r a b c d h =
    not_below x.w _ (at_point p q r x.w x.x x.y x.z) w
    (form_least t x positive w h (before p q r x) (corner_least p q r x t.a a) (corner_least p q r x t.b b) (corner_least p q r x t.c c) (corner_least p q r x t.d d))

-- ---- along the axes

moved : (w a a' x x' : ℤ) → a' ≡ a → x' ≡ x → (a *ℤ w) <ℤ x → (a' *ℤ w) <ℤ x'
moved w a a' x x' e f h = subst (λ y. (a' *ℤ w) <ℤ y) (sym f) (subst (λ b. (b *ℤ w) <ℤ x) (sym e) h)

negated : (w v : ℤ) → neg_ℤ v *ℤ w ≡ neg_ℤ (v *ℤ w)
unfolding same
negated w v = ring (neg (var 1) ⊗ var 0) (neg (var 1 ⊗ var 0)) tt (w ∷ v ∷ [])

less_back : (m n x : ℤ) → m ≡ neg_ℤ n → x <ℤ n → m <ℤ neg_ℤ x
less_back m n x e h = omega (arith, ints)

turned : (w v x : ℤ) → x <ℤ (v *ℤ w) → (neg_ℤ v *ℤ w) <ℤ neg_ℤ x
turned w v x h = less_back _ _ _ (negated w v) h

first : (x y z : ℤ) → along (pos 1) (pos 0) (pos 0) x y z ≡ x
first x y z = omega (arith, ints)

second : (x y z : ℤ) → along (pos 0) (pos 1) (pos 0) x y z ≡ y
second x y z = omega (arith, ints)

third : (x y z : ℤ) → along (pos 0) (pos 0) (pos 1) x y z ≡ z
third x y z = omega (arith, ints)

first_back : (x y z : ℤ) → along (neg_ℤ (pos 1)) (pos 0) (pos 0) x y z ≡ neg_ℤ x
first_back x y z = omega (arith, ints)

second_back : (x y z : ℤ) → along (pos 0) (neg_ℤ (pos 1)) (pos 0) x y z ≡ neg_ℤ y
second_back x y z = omega (arith, ints)

third_back : (x y z : ℤ) → along (pos 0) (pos 0) (neg_ℤ (pos 1)) x y z ≡ neg_ℤ z
third_back x y z = omega (arith, ints)

-- the denominator is above 0
pub weight_above : (w v : ℤ) → (w ≡ pos 1) ⊎ (w ≡ pos 1000000) → w ≡ v → pos 0 <ℤ v
weight_above w v (inl e) f = omega (arith, ints)
weight_above w v (inr e) f = omega (arith, ints)

-- the same of equal numbers
pub apart_same : (a b c d x a' b' c' d' x' : ℤ) → a ≡ a' → b ≡ b' → c ≡ c' → d ≡ d' → x ≡ x' → AreBelowOrAbove a b c d x → AreBelowOrAbove a' b' c' d' x'
apart_same a b c d x a' b' c' d' x' ea eb ec ed ex h =
    go h
  where
    less : (m n m' n' : ℤ) → m ≡ m' → n ≡ n' → m <ℤ n → m' <ℤ n'
    less m n m' n' e f k = subst (λ y. m' <ℤ y) f (subst (λ y. y <ℤ n) e k)

    go : AreBelowOrAbove a b c d x → AreBelowOrAbove a' b' c' d' x'
    go (inl (h, i, j, k)) = inl (less a x a' x' ea ex h, less b x b' x' eb ex i, less c x c' x' ec ex j, less d x d' x' ed ex k)
    go (inr (h, i, j, k)) = inr (less x a x' a' ex ea h, less x b x' b' ex eb i, less x c x' c' ex ec j, less x d x' d' ex ed k)

pub off_x : (t : Corners) (x : RationalPoint) → IsPositive t → pos 0 <ℤ x.w
    → AreBelowOrAbove (t.a.x *ℤ x.w) (t.b.x *ℤ x.w) (t.c.x *ℤ x.w) (t.d.x *ℤ x.w) x.x → ¬ InClosed t x
off_x t x p w (inl (a, b, c, d)) = off_by t x p w (pos 1) (pos 0) (pos 0) (less t.a a) (less t.b b) (less t.c c) (less t.d d)
  where
    less : (v : Point) → (v.x *ℤ x.w) <ℤ x.x → IsBefore (pos 1) (pos 0) (pos 0) x v
    less v h = moved x.w v.x _ x.x _ (first v.x v.y v.z) (first x.x x.y x.z) h
off_x t x p w (inr (a, b, c, d)) = off_by t x p w (neg_ℤ (pos 1)) (pos 0) (pos 0) (less t.a a) (less t.b b) (less t.c c) (less t.d d)
  where
    less : (v : Point) → x.x <ℤ (v.x *ℤ x.w) → IsBefore (neg_ℤ (pos 1)) (pos 0) (pos 0) x v
    less v h = moved x.w (neg_ℤ v.x) _ (neg_ℤ x.x) _ (first_back v.x v.y v.z) (first_back x.x x.y x.z) (turned x.w v.x x.x h)

pub off_y : (t : Corners) (x : RationalPoint) → IsPositive t → pos 0 <ℤ x.w
    → AreBelowOrAbove (t.a.y *ℤ x.w) (t.b.y *ℤ x.w) (t.c.y *ℤ x.w) (t.d.y *ℤ x.w) x.y → ¬ InClosed t x
off_y t x p w (inl (a, b, c, d)) = off_by t x p w (pos 0) (pos 1) (pos 0) (less t.a a) (less t.b b) (less t.c c) (less t.d d)
  where
    less : (v : Point) → (v.y *ℤ x.w) <ℤ x.y → IsBefore (pos 0) (pos 1) (pos 0) x v
    less v h = moved x.w v.y _ x.y _ (second v.x v.y v.z) (second x.x x.y x.z) h
off_y t x p w (inr (a, b, c, d)) = off_by t x p w (pos 0) (neg_ℤ (pos 1)) (pos 0) (less t.a a) (less t.b b) (less t.c c) (less t.d d)
  where
    less : (v : Point) → x.y <ℤ (v.y *ℤ x.w) → IsBefore (pos 0) (neg_ℤ (pos 1)) (pos 0) x v
    less v h = moved x.w (neg_ℤ v.y) _ (neg_ℤ x.y) _ (second_back v.x v.y v.z) (second_back x.x x.y x.z) (turned x.w v.y x.y h)

pub off_z : (t : Corners) (x : RationalPoint) → IsPositive t → pos 0 <ℤ x.w
    → AreBelowOrAbove (t.a.z *ℤ x.w) (t.b.z *ℤ x.w) (t.c.z *ℤ x.w) (t.d.z *ℤ x.w) x.z → ¬ InClosed t x
off_z t x p w (inl (a, b, c, d)) = off_by t x p w (pos 0) (pos 0) (pos 1) (less t.a a) (less t.b b) (less t.c c) (less t.d d)
  where
    less : (v : Point) → (v.z *ℤ x.w) <ℤ x.z → IsBefore (pos 0) (pos 0) (pos 1) x v
    less v h = moved x.w v.z _ x.z _ (third v.x v.y v.z) (third x.x x.y x.z) h
off_z t x p w (inr (a, b, c, d)) = off_by t x p w (pos 0) (pos 0) (neg_ℤ (pos 1)) (less t.a a) (less t.b b) (less t.c c) (less t.d d)
  where
    less : (v : Point) → x.z <ℤ (v.z *ℤ x.w) → IsBefore (pos 0) (pos 0) (neg_ℤ (pos 1)) x v
    less v h = moved x.w (neg_ℤ v.z) _ (neg_ℤ x.z) _ (third_back v.x v.y v.z) (third_back x.x x.y x.z) (turned x.w v.z x.z h)
