-- Tests of tetrahedra by thresholds: what is below so many degrees is below more, and what is over a ratio is over less.
use Rattle.std.proofs.Common.{◌≡◌, ⊎_elim, ℕ, zero, suc, ◌+◌, ◌-◌, ◌*◌, ◌^◌, ◌≤◌, ◌<◌, ℤ, pos, negsuc, ◌*ℤ◌, ◌+ℤ◌, Bool, true, false, ◌&&◌, ◌||◌, List, [], length, take, sym, refl, ap, subst, ◌∙◌, arith}
use Rattle.std.specs.Prelude.{◌≤ℤ◌, HoldsAt, int_lt, nat_le, slice_index_or}
use Rattle.std.specs.Int.{int_min}
use Rattle.std.proofs.Math.Nat.{pow-le-pow_right, mul-le-mul_left}
use Rattle.std.proofs.lemmas.Bool.{agree_below_at, and_parts, and_from, or_cases, or_left, or_right, both_ways, false_from_ne_true, false≢true}
use Rattle.std.proofs.lemmas.Int.{ints, clamps}
use Rattle.std.proofs.lemmas.List.{take_all}
use Rattle.std.proofs.lemmas.List.Elements.{All-more, All-weaker}
use Rattle.std.proofs.lemmas.Nat.{mul-le}
use Rattle.exact_algebra.proofs.Ring.{ring, same, ◌⊕◌, ◌⊗◌}
use Rattle.exact_algebra.proofs.Signs.{from_natural, mul_nonneg, square, square_nonneg}
use Rattle.sign_predicates.specs.Point.{Point, from_to}
use Rattle.sign_predicates.specs.Orientation.{cross, dot, volume}
use Rattle.sign_predicates.specs.Sphere.{square_length}
use Rattle.sign_predicates.specs.declared.tetrahedron.Corners.{Corners}
use Rattle.sign_predicates.proofs.Terms.{pointE, of_point, dotE, crossE, square_lengthE}
use Rattle.geo_laws.specs.Delaunay.{corners}
use Rattle.geo_laws.specs.declared.tetrahedra.Tet.{Tet}
use Rattle.tet_shapes.specs.Angle.{is_below, is_flat, is_sharp, squared_cosine, squared_cosines}
use Rattle.tet_shapes.specs.Shape.{IsFine, is_slim, shortest_square, square_between, to_center}
use Rattle.tet_shapes.specs.Worst.{NonePasses, PassesAt, doubled, is_below_degrees, is_over_doubled}
use Rattle.tet_shapes.specs.declared.shape.Ratio.{Ratio}

-- ---- squared cosines fall as angles rise

cosine : ℕ → ℕ
cosine n = slice_index_or squared_cosines n 0

falls_after : (n : ℕ) → n < 30 → cosine (n + 1) ≤ cosine n
unfolding cosine
falls_after n l =
    let less = agree_below_at (λ m. nat_le (slice_index_or squared_cosines (m + 1) 0) (slice_index_or squared_cosines m 0)) (λ m. true) 30 n refl l in
    grind (arith, less)

falls_by : (k m n : ℕ) → n ≡ m + k → n ≤ 30 → cosine n ≤ cosine m
falls_by zero m n e l =
    let is : n ≡ m = omega (arith, e) in
    let same = ap cosine is in
    omega (arith, same)
falls_by (suc k) m n e l =
    let last = falls_after (m + k) (omega (arith, e, l)) in
    let rest = falls_by k m (m + k) refl (omega (arith, e, l)) in
    let is : n ≡ m + k + 1 = omega (arith, e) in
    let same = ap cosine is in
    omega (arith, last, rest, same)

cosine_falls : (m n : ℕ) → m ≤ n → n ≤ 30 → slice_index_or squared_cosines n 0 ≤ slice_index_or squared_cosines m 0
unfolding cosine
cosine_falls m n l h = falls_by (n - m) m n (omega (arith, l)) h

-- ---- products

natural_less : (p o n : ℕ) (w : ℤ) → p ≤ o → int_lt (pos o *ℤ pos n) w ≡ true → int_lt (pos p *ℤ pos n) w ≡ true
natural_less p o n (pos m) l h = let e = mul-le p n o n l (omega arith) in grind (arith, ints, h, e)
natural_less p o n (negsuc m) l h = grind (arith, ints, h)

product_less : (p o : ℕ) (z w : ℤ) → p ≤ o → pos 0 ≤ℤ z → int_lt (pos o *ℤ z) w ≡ true → int_lt (pos p *ℤ z) w ≡ true
product_less p o z w l n h =
    let k = from_natural z n in
    subst (λ y. int_lt (pos p *ℤ y) w ≡ true) (sym k.1) (natural_less p o k.0 w l (subst (λ y. int_lt (pos o *ℤ y) w ≡ true) k.1 h))

length_nonneg : (v : Point) → pos 0 ≤ℤ square_length v
length_nonneg v =
    let x = square_nonneg v.x in
    let y = square_nonneg v.y in
    let z = square_nonneg v.z in
    omega (arith, ints, x, y, z)

-- ---- angles

below_more : (p o u : ℕ) (m n : Point) → p ≤ o → is_below (record { over = o; under = u }) m n ≡ true → is_below (record { over = p; under = u }) m n ≡ true
below_more p o u m n l h =
    let z = square_length m *ℤ square_length n in
    let w = pos u *ℤ (dot m n *ℤ dot m n) in
    let both = and_parts (int_lt (pos 0) (dot m n)) (int_lt (pos o *ℤ z) w) h in
    and_from (int_lt (pos 0) (dot m n)) (int_lt (pos p *ℤ z) w) both.0
    (product_less p o z w l (mul_nonneg (square_length m) (square_length n) (length_nonneg m) (length_nonneg n)) both.1)

-- Lagrange's identity
squares_of : (m n : Point) → square_length m *ℤ square_length n ≡ dot m n *ℤ dot m n +ℤ square_length (cross m n)
unfolding same
squares_of m n =
    let M = pointE 0 in
    let N = pointE 3 in
    ring (square_lengthE M ⊗ square_lengthE N) (dotE M N ⊗ dotE M N ⊕ square_lengthE (crossE M N)) tt (of_point m (of_point n []))

not_less : (k i j : ℕ) → int_lt (pos k *ℤ (pos i +ℤ pos j)) (pos k *ℤ pos i) ≡ false
not_less k i j =
    let more : i ≤ i + j = omega arith in
    let e = mul-le-mul_left k more in
    grind (arith, ints, e)

-- no angle is below the one whose squared cosine is 1
none_below_one : (k : ℕ) (m n : Point) → is_below (record { over = k; under = k }) m n ≡ false
none_below_one k m n =
    let d = dot m n *ℤ dot m n in
    let i = square (dot m n) in
    let j = from_natural (square_length (cross m n)) (length_nonneg (cross m n)) in
    let z : square_length m *ℤ square_length n ≡ pos i.0 +ℤ pos j.0 = squares_of m n ∙ (λ t. i.1 t +ℤ j.1 t) in
    let no : int_lt (pos k *ℤ (square_length m *ℤ square_length n)) (pos k *ℤ d) ≡ false =
    (λ t. int_lt (pos k *ℤ z t) (pos k *ℤ i.1 t)) ∙ not_less k i.0 j.0 in
    false_from_ne_true (is_below (record { over = k; under = k }) m n)
    (λ e. both_ways (int_lt (pos k *ℤ (square_length m *ℤ square_length n)) (pos k *ℤ d)) no
    (and_parts (int_lt (pos 0) (dot m n)) (int_lt (pos k *ℤ (square_length m *ℤ square_length n)) (pos k *ℤ d)) e).1)

-- a test holds at some edge, with the other two corners
abbrev at_some_edge : (Point → Point → Point → Point → Bool) → Corners → Bool
at_some_edge test t =
    test t.a t.b t.c t.d || test t.a t.c t.b t.d || test t.a t.d t.b t.c || test t.b t.c t.a t.d || test t.b t.d t.a t.c || test t.c t.d t.a t.b

or_more : (a b c d : Bool) → (a ≡ true → c ≡ true) → (b ≡ true → d ≡ true) → (a || b) ≡ true → (c || d) ≡ true
or_more a b c d f g h = ⊎_elim (λ e. or_left c d (f e)) (λ e. or_right c d (g e)) (or_cases a b h)

some_edge_more : (f g : Point → Point → Point → Point → Bool) → ((a b c d : Point) → f a b c d ≡ true → g a b c d ≡ true) → (t : Corners)
    → at_some_edge f t ≡ true → at_some_edge g t ≡ true
some_edge_more f g h t =
    let one : ((Point → Point → Point → Point → Bool) → Bool) = λ s. s t.a t.b t.c t.d in
    let two : ((Point → Point → Point → Point → Bool) → Bool) = λ s. one s || s t.a t.c t.b t.d in
    let three : ((Point → Point → Point → Point → Bool) → Bool) = λ s. two s || s t.a t.d t.b t.c in
    let four : ((Point → Point → Point → Point → Bool) → Bool) = λ s. three s || s t.b t.c t.a t.d in
    let five : ((Point → Point → Point → Point → Bool) → Bool) = λ s. four s || s t.b t.d t.a t.c in
    or_more (five f) (f t.c t.d t.a t.b) (five g) (g t.c t.d t.a t.b)
    (or_more (four f) (f t.b t.d t.a t.c) (four g) (g t.b t.d t.a t.c)
    (or_more (three f) (f t.b t.c t.a t.d) (three g) (g t.b t.c t.a t.d)
    (or_more (two f) (f t.a t.d t.b t.c) (two g) (g t.a t.d t.b t.c)
    (or_more (one f) (f t.a t.c t.b t.d) (one g) (g t.a t.c t.b t.d) (h t.a t.b t.c t.d) (h t.a t.c t.b t.d))
    (h t.a t.d t.b t.c)) (h t.b t.c t.a t.d)) (h t.b t.d t.a t.c)) (h t.c t.d t.a t.b)

no_edge : (f : Point → Point → Point → Point → Bool) → ((a b c d : Point) → f a b c d ≡ false) → (t : Corners) → at_some_edge f t ≡ false
no_edge f h t =
    false_from_ne_true (at_some_edge f t)
    (λ e. false≢true (some_edge_more f (λ a b c d. false) (λ a b c d k. absurd (both_ways (f a b c d) (h a b c d) k)) t e))

flat_more : (p o u : ℕ) (t : Corners) → p ≤ o → is_flat (record { over = o; under = u }) t ≡ true → is_flat (record { over = p; under = u }) t ≡ true
unfolding is_flat is_sharp
flat_more p o u t l =
    some_edge_more (is_sharp (record { over = o; under = u })) (is_sharp (record { over = p; under = u }))
    (λ a b c d. below_more p o u (cross (from_to a b) (from_to a c)) (cross (from_to a b) (from_to a d)) l) t

pub none_below_zero : (t : Corners) → is_below_degrees 0 t ≡ false
unfolding is_flat is_sharp
none_below_zero t =
    no_edge (is_sharp (squared_cosine 0))
    (λ a b c d. none_below_one 1000000000 (cross (from_to a b) (from_to a c)) (cross (from_to a b) (from_to a d))) t

-- what is not below so many degrees is not below fewer
pub none_below_less : (m n : ℕ) (t : Corners) → m ≤ n → n ≤ 30 → is_below_degrees n t ≡ false → is_below_degrees m t ≡ false
none_below_less m n t l h e =
    false_from_ne_true (is_below_degrees m t)
    (λ k. both_ways (is_below_degrees n t) e
    (flat_more (slice_index_or squared_cosines n 0) (slice_index_or squared_cosines m 0) 1000000000 t (cosine_falls m n l h) k))

-- ---- ratios

natural_less' : (p o i j : ℕ) (w : ℤ) → p ≤ o → int_lt (pos o *ℤ pos i *ℤ pos j) w ≡ true → int_lt (pos p *ℤ pos i *ℤ pos j) w ≡ true
natural_less' p o i j (pos m) l h =
    let e = mul-le p i o i l (omega arith) in
    let f = mul-le (p * i) j (o * i) j e (omega arith) in
    grind (arith, ints, h, f)
natural_less' p o i j (negsuc m) l h = grind (arith, ints, h)

min_nonneg : (a b : ℤ) → pos 0 ≤ℤ a → pos 0 ≤ℤ b → pos 0 ≤ℤ int_min a b
min_nonneg a b h k = omega (arith, ints, clamps)

shortest_nonneg : (t : Corners) → pos 0 ≤ℤ shortest_square t
unfolding shortest_square
shortest_nonneg t =
    let square_of : (a b : Point) → pos 0 ≤ℤ square_between a b = λ a b. length_nonneg (from_to a b) in
    min_nonneg _ _ (min_nonneg _ _ (min_nonneg _ _ (min_nonneg _ _ (min_nonneg _ _ (square_of t.a t.b) (square_of t.a t.c))
    (square_of t.a t.d)) (square_of t.b t.c)) (square_of t.b t.d)) (square_of t.c t.d)

slim_less : (p o u : ℕ) (t : Corners) → p ≤ o → is_slim (record { over = o; under = u }) t ≡ true → is_slim (record { over = p; under = u }) t ≡ true
unfolding is_slim
slim_less p o u t l h =
    let i = square (volume t) in
    let j = from_natural (shortest_square t) (shortest_nonneg t) in
    let w = pos (u * u) *ℤ square_length (to_center t) in
    let left : (n : ℕ) → int_lt (pos (4 * (n * n)) *ℤ (volume t *ℤ volume t) *ℤ shortest_square t) w ≡ int_lt (pos (4 * (n * n)) *ℤ pos i.0 *ℤ pos j.0) w
    = λ n k. int_lt (pos (4 * (n * n)) *ℤ i.1 k *ℤ j.1 k) w in
    let squares = mul-le p p o o l l in
    left p ∙ natural_less' (4 * (p * p)) (4 * (o * o)) i.0 j.0 w (omega (arith, squares)) (sym (left o) ∙ h)

over_less : (r : Ratio) (m n : ℕ) (t : Corners) → m ≤ n → is_over_doubled r n t ≡ true → is_over_doubled r m t ≡ true
over_less r m n t l h =
    let few = and_parts (nat_le n 20) (nat_le (r.over * 2 ^ n) (2 ^ 20) && is_slim (doubled r n) t) h in
    let small = and_parts (nat_le (r.over * 2 ^ n) (2 ^ 20)) (is_slim (doubled r n) t) few.1 in
    let two : 0 < 2 = omega arith in
    let powers = mul-le-mul_left r.over (pow-le-pow_right two l) in
    let less : nat_le m 20 ≡ true = grind (arith, few.0, l) in
    let smaller : nat_le (r.over * 2 ^ m) (2 ^ 20) ≡ true = grind (arith, small.0, powers) in
    and_from (nat_le m 20) (nat_le (r.over * 2 ^ m) (2 ^ 20) && is_slim (doubled r m) t) less
    (and_from (nat_le (r.over * 2 ^ m) (2 ^ 20)) (is_slim (doubled r m) t) smaller (slim_less (r.over * 2 ^ m) (r.over * 2 ^ n) r.under t powers small.1))

-- what is not over the ratio with so many doublings is not over it with more
pub none_over_more : (r : Ratio) (m n : ℕ) (t : Corners) → m ≤ n → is_over_doubled r m t ≡ false → is_over_doubled r n t ≡ false
none_over_more r m n t l e =
    false_from_ne_true (is_over_doubled r n t) (λ k. both_ways (is_over_doubled r m t) e (over_less r m n t l k))

-- with no doubling
pub over_once : (r : Ratio) (t : Corners) → IsFine r → is_over_doubled r 0 t ≡ is_slim r t
over_once r t fine =
    let same : r.over * 1 ≡ r.over = omega arith in
    let small : nat_le (r.over * 1) (2 ^ 20) ≡ true = grind (arith, same, fine.over) in
    (λ i. small i && is_slim (record { over = same i; under = r.under }) t)

-- ---- lists

pub none_weaker : (f g : Corners → Bool) (ps : List Point) (rows : List Tet) → ((t : Corners) → f t ≡ false → g t ≡ false) → NonePasses f ps rows → NonePasses g ps rows
none_weaker f g ps rows h = All-weaker (λ row. f (corners ps row) ≡ false) (λ row. g (corners ps row) ≡ false) (λ row. h (corners ps row)) rows

-- one more tetrahedron that does not pass
pub none_next : (f : Corners → Bool) (ps : List Point) (rows : List Tet) (i : ℕ) (row : Tet) → i < length rows → HoldsAt (λ r. r ≡ row) rows i → NonePasses f ps (take i rows)
    → f (corners ps row) ≡ false → NonePasses f ps (take (i + 1) rows)
none_next f ps rows i row l is h e = All-more (λ row. f (corners ps row) ≡ false) rows i row l h (ap (λ r. f (corners ps r)) (is row) ∙ e)

-- a tetrahedron that passes
pub one_passes : (f : Corners → Bool) (ps : List Point) (rows : List Tet) (i : ℕ) (row : Tet) → i < length rows → HoldsAt (λ r. r ≡ row) rows i → f (corners ps row) ≡ true
    → PassesAt f ps rows i
one_passes f ps rows i row l is e = record { there = l; passes = λ d. ap (λ r. f (corners ps r)) (is d) ∙ e }

-- at the end of the list
pub none_all : (f : Corners → Bool) (ps : List Point) (rows : List Tet) (i : ℕ) → length rows ≤ i → NonePasses f ps (take i rows) → NonePasses f ps rows
none_all f ps rows i l h = subst (NonePasses f ps) (take_all i rows l) h
