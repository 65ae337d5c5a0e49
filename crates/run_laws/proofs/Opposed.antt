-- Two rows with a common face: whether they lie on different sides of it, by the ascending face and by the faces of each row.
use Rattle.std.proofs.Common.{◌≡◌, ◌⊎◌, inl, inr, ℕ, zero, suc, ◌<◌, ℤ, pos, neg_ℤ, ◌<ℤ◌, ◌≤ℤ◌, true, List, refl, ap, sym, subst, ◌∙◌, arith}
use Rattle.std.specs.Prelude.{IsTrue, min, max}
use Rattle.std.specs.List.{AllByRecursion}
use Rattle.std.proofs.lemmas.Int.{ints}
use Rattle.std.proofs.lemmas.Bool.{or_left, or_right}
use Rattle.sign_predicates.specs.Point.{Point}
use Rattle.sign_predicates.specs.Orientation.{side, volume, IsPositive}
use Rattle.geo_laws.specs.Delaunay.{point, corners}
use Rattle.geo_laws.specs.Faces.{face_of}
use Rattle.geo_laws.specs.OrientedFace.{Face, triangle}
use Rattle.geo_laws.specs.declared.faces.Face as sorted
use Rattle.geo_laws.specs.declared.tetrahedra.Tet.{Tet}
use Rattle.geo_laws.proofs.RowFaces.{swap_second}
use Rattle.crossing_laws.proofs.Cramer as cramer
use Rattle.crossing_laws.proofs.Faces.{Same, straight, onward, backward, over, same_of, same_test, same_back, either}
use Rattle.crossing_laws.specs.Crossing.{faces_of, faces_beside, is_same, is_opposite, same_corners, LieApart}
use Rattle.mesh_check.specs.Corners.{point_in, face_in, IsShared}
use Rattle.mesh_check.specs.Defects.{AreOppositeSigns, LieOnOneSide, point_side}
use Rattle.run_laws.proofs.Sorted.{oriented, ascending, is_sorted, keeps_sides}

-- ---- the faces of a row

-- the face opposite a corner, which has that corner on its positive side
abbrev pub beside_at : Tet → ℕ → Face
beside_at t zero = record { a = t.b; b = t.d; c = t.c }
beside_at t (suc zero) = record { a = t.a; b = t.c; c = t.d }
beside_at t (suc (suc zero)) = record { a = t.a; b = t.d; c = t.b }
beside_at t (suc (suc (suc k))) = record { a = t.a; b = t.b; c = t.c }

pub face_is : (t : Tet) (p : ℕ) → p < 4 → face_in t p ≡ ascending (beside_at t p)
face_is t zero h = swap_second t.b t.c t.d
face_is t (suc zero) h = refl
face_is t (suc (suc zero)) h = swap_second t.a t.b t.d
face_is t (suc (suc (suc zero))) h = refl
face_is t (suc (suc (suc (suc k)))) h = absurd (omega arith)

own_side : (ps : List Point) (t : Tet) (p : ℕ) → p < 4 → side (triangle ps (beside_at t p)) (point ps (point_in t p)) ≡ volume (corners ps t)
own_side ps t zero h = cramer.side-a_a (corners ps t)
own_side ps t (suc zero) h = cramer.side-b_b (corners ps t)
own_side ps t (suc (suc zero)) h = cramer.side-c_c (corners ps t)
own_side ps t (suc (suc (suc zero))) h = cramer.side-d_d (corners ps t)
own_side ps t (suc (suc (suc (suc k)))) h = absurd (omega arith)

-- ---- the same corners

first_turn : (i j k : ℕ) → min (min j k) i ≡ min (min i j) k
first_turn i j k = grind arith

middle_turn : (i j k : ℕ) → max (min j k) (min (max j k) i) ≡ max (min i j) (min (max i j) k)
middle_turn i j k = grind arith

last_turn : (i j k : ℕ) → max (max j k) i ≡ max (max i j) k
last_turn i j k = grind arith

turned_on : (i j k : ℕ) → face_of j k i ≡ face_of i j k
turned_on i j k = λ n. record { a = first_turn i j k n; b = middle_turn i j k n; c = last_turn i j k n }

-- the same corners ascend in the same way
ascending_same : (f g : Face) → Same f g → ascending f ≡ ascending g
ascending_same f g (straight a b c) = λ j. face_of (a j) (b j) (c j)
ascending_same f g (onward a b c) = (λ j. face_of (a j) (b j) (c j)) ∙ turned_on g.a g.b g.c
ascending_same f g (backward a b c) = (λ j. face_of (a j) (b j) (c j)) ∙ sym (turned_on g.c g.a g.b)

ascending_of : (f g : Face) → same_corners f g ≡ true → ascending f ≡ ascending g
ascending_of f g e =
    elim (either (is_same f g) (is_opposite f g) e) [
      | inl h ↦ ascending_same f g (same_of f g h)
      | inr h ↦ ascending_same f (over g) (same_of f (over g) h) ∙ swap_second g.a g.c g.b
    ]

same_next : (f g h : Face) → Same f g → Same g h → Same f h
same_next f g h (straight a b c) (straight x y z) = straight (a ∙ x) (b ∙ y) (c ∙ z)
same_next f g h (straight a b c) (onward x y z) = onward (a ∙ x) (b ∙ y) (c ∙ z)
same_next f g h (straight a b c) (backward x y z) = backward (a ∙ x) (b ∙ y) (c ∙ z)
same_next f g h (onward a b c) (straight x y z) = onward (a ∙ y) (b ∙ z) (c ∙ x)
same_next f g h (onward a b c) (onward x y z) = backward (a ∙ y) (b ∙ z) (c ∙ x)
same_next f g h (onward a b c) (backward x y z) = straight (a ∙ y) (b ∙ z) (c ∙ x)
same_next f g h (backward a b c) (straight x y z) = backward (a ∙ z) (b ∙ x) (c ∙ y)
same_next f g h (backward a b c) (onward x y z) = straight (a ∙ z) (b ∙ x) (c ∙ y)
same_next f g h (backward a b c) (backward x y z) = onward (a ∙ z) (b ∙ x) (c ∙ y)

both_over : (f g : Face) → Same (over f) (over g) → Same f g
both_over f g (straight a b c) = straight a c b
both_over f g (onward a b c) = backward a c b
both_over f g (backward a b c) = onward a c b

other_over : (f g : Face) → Same (over f) g → Same f (over g)
other_over f g (straight a b c) = straight a c b
other_over f g (onward a b c) = backward a c b
other_over f g (backward a b c) = onward a c b

corners_of : (f g : Face) → ascending f ≡ ascending g → same_corners f g ≡ true
corners_of f g e = go (is_sorted f) (subst (λ (u : sorted.Face). Same g (oriented u) ⊎ Same (over g) (oriented u)) (sym e) (is_sorted g))
  where
    up : Face
    up = oriented (ascending f)

    same : Same f g → same_corners f g ≡ true
    same h = or_left (is_same f g) (is_opposite f g) (same_test f g h)

    turned : Same f (over g) → same_corners f g ≡ true
    turned h = or_right (is_same f g) (is_opposite f g) (same_test f (over g) h)

    go : Same f up ⊎ Same (over f) up → Same g up ⊎ Same (over g) up → same_corners f g ≡ true
    go (inl p) (inl q) = same (same_next f up g p (same_back g up q))
    go (inl p) (inr q) = turned (same_next f up (over g) p (same_back (over g) up q))
    go (inr p) (inl q) = turned (other_over f g (same_next (over f) up g p (same_back g up q)))
    go (inr p) (inr q) = same (both_over f g (same_next (over f) up (over g) p (same_back (over g) up q)))

-- ---- different sides

below_of : (x y u v : ℤ) → u ≡ x → v ≡ y → pos 0 <ℤ x → AreOppositeSigns u v → y <ℤ pos 0
below_of x y u v d e p (inl h) = let k = h.1 in omega (arith, ints)
below_of x y u v d e p (inr h) = absurd (let k = h.0 in omega (arith, ints))

below_of_turned : (x y u v : ℤ) → u ≡ neg_ℤ x → v ≡ neg_ℤ y → pos 0 <ℤ x → AreOppositeSigns u v → y <ℤ pos 0
below_of_turned x y u v d e p (inl h) = absurd (let k = h.0 in omega (arith, ints))
below_of_turned x y u v d e p (inr h) = let k = h.1 in omega (arith, ints)

opposite_of : (x y u v : ℤ) → u ≡ x → v ≡ y → pos 0 <ℤ x → y <ℤ pos 0 → AreOppositeSigns u v
opposite_of x y u v d e p h = inl (omega (arith, ints), omega (arith, ints))

opposite_of_turned : (x y u v : ℤ) → u ≡ neg_ℤ x → v ≡ neg_ℤ y → pos 0 <ℤ x → y <ℤ pos 0 → AreOppositeSigns u v
opposite_of_turned x y u v d e p h = inr (omega (arith, ints), omega (arith, ints))

moved : (a b : ℤ) → a ≡ b → pos 0 <ℤ b → pos 0 <ℤ a
moved a b e h = omega (arith, ints)

-- the sides of the two further corners, as they are compared
abbrev pub AreOpposed : List Point → Tet → Tet → ℕ → ℕ → Type 0
AreOpposed ps s t p q = AreOppositeSigns (point_side ps (face_in s p) (point_in s p)) (point_side ps (face_in t q) (point_in t q))

-- the further corner of the second row lies beyond the first row's face
abbrev pub IsBeyond : List Point → Tet → Tet → ℕ → ℕ → Type 0
IsBeyond ps s t p q = side (triangle ps (beside_at s p)) (point ps (point_in t q)) <ℤ pos 0

-- the side of the face of the second row, as it is compared
second_side : (ps : List Point) (s t : Tet) (p q : ℕ) → p < 4 → face_in s p ≡ face_in t q
    → point_side ps (face_in t q) (point_in t q) ≡ side (triangle ps (oriented (ascending (beside_at s p)))) (point ps (point_in t q))
second_side ps s t p q h e = ap (λ (f : sorted.Face). point_side ps f (point_in t q)) (sym e ∙ face_is s p h)

first_side : (ps : List Point) (s : Tet) (p : ℕ) → p < 4
    → point_side ps (face_in s p) (point_in s p) ≡ side (triangle ps (oriented (ascending (beside_at s p)))) (point ps (point_in s p))
first_side ps s p h = ap (λ (f : sorted.Face). point_side ps f (point_in s p)) (face_is s p h)

pub beyond_of : (ps : List Point) (s t : Tet) (p q : ℕ) → IsPositive (corners ps s) → IsShared s t p q → AreOpposed ps s t p q → IsBeyond ps s t p q
beyond_of ps s t p q positive shared opposed =
    let f = beside_at s p in
    let up = moved _ _ (own_side ps s p shared.corner) positive in
    let d = first_side ps s p shared.corner in
    let e = second_side ps s t p q shared.corner shared.same in
    elim (keeps_sides ps f) [
      | inl k ↦ below_of (side (triangle ps f) (point ps (point_in s p))) _ _ _ (d ∙ k (point ps (point_in s p))) (e ∙ k (point ps (point_in t q))) up opposed
      | inr k ↦ below_of_turned (side (triangle ps f) (point ps (point_in s p))) _ _ _ (d ∙ k (point ps (point_in s p))) (e ∙ k (point ps (point_in t q))) up opposed
    ]

pub opposed_of : (ps : List Point) (s t : Tet) (p q : ℕ) → IsPositive (corners ps s) → IsShared s t p q → IsBeyond ps s t p q → AreOpposed ps s t p q
opposed_of ps s t p q positive shared beyond =
    let f = beside_at s p in
    let up = moved _ _ (own_side ps s p shared.corner) positive in
    let d = first_side ps s p shared.corner in
    let e = second_side ps s t p q shared.corner shared.same in
    elim (keeps_sides ps f) [
      | inl k ↦ opposite_of (side (triangle ps f) (point ps (point_in s p))) (side (triangle ps f) (point ps (point_in t q))) _ _ (d ∙ k (point ps (point_in s p))) (e ∙ k (point ps (point_in t q))) up beyond
      | inr k ↦ opposite_of_turned (side (triangle ps f) (point ps (point_in s p))) (side (triangle ps f) (point ps (point_in t q))) _ _ (d ∙ k (point ps (point_in s p))) (e ∙ k (point ps (point_in t q))) up beyond
    ]

-- ---- apart

below_or_not : (y : ℤ) → (y <ℤ pos 0) ⊎ (pos 0 ≤ℤ y)
below_or_not y = grind (arith, ints)

not_below : (y : ℤ) → pos 0 ≤ℤ y → y <ℤ pos 0 → ⊥
not_below y h k = omega (arith, ints)

-- rows that do not lie on one side of a common face are apart
pub apart_of : (ps : List Point) (s t : Tet) → IsPositive (corners ps s) → ¬ LieOnOneSide ps s t → LieApart ps s t
apart_of ps s t positive none = (from 0 (omega arith), (from 1 (omega arith), (from 2 (omega arith), (from 3 (omega arith), tt))))
  where
    at : (p q : ℕ) → p < 4 → q < 4 → IsTrue (same_corners (beside_at s p) (beside_at t q)) → IsBeyond ps s t p q
    at p q lt mt same =
        let e = face_is s p lt ∙ ascending_of (beside_at s p) (beside_at t q) same ∙ sym (face_is t q mt) in
        let shared : IsShared s t p q = record { corner = lt; other = mt; same = e } in
        elim (below_or_not (side (triangle ps (beside_at s p)) (point ps (point_in t q)))) [
          | inl below ↦ below
          | inr le ↦ absurd (none (p, q, shared, λ opposed. not_below _ le (beyond_of ps s t p q positive shared opposed)))
        ]

    from : (p : ℕ) → p < 4 → AllByRecursion (λ g. IsTrue (same_corners (beside_at s p) g.0) → side (triangle ps (beside_at s p)) (point ps g.1) <ℤ pos 0) (faces_beside t)
    from p lt = (at p 0 lt (omega arith), (at p 1 lt (omega arith), (at p 2 lt (omega arith), (at p 3 lt (omega arith), tt))))

of_faces : (P : Face → Type 0) (t : Tet) → AllByRecursion P (faces_of t) → (p : ℕ) → p < 4 → P (beside_at t p)
of_faces P t h zero lt = h.0
of_faces P t h (suc zero) lt = h.1.0
of_faces P t h (suc (suc zero)) lt = h.1.1.0
of_faces P t h (suc (suc (suc zero))) lt = h.1.1.1.0
of_faces P t h (suc (suc (suc (suc k)))) lt = absurd (omega arith)

of_beside : (P : Face → ℕ → Type 0) (t : Tet) → AllByRecursion (λ g. P g.0 g.1) (faces_beside t) → (q : ℕ) → q < 4 → P (beside_at t q) (point_in t q)
of_beside P t h zero lt = h.0
of_beside P t h (suc zero) lt = h.1.0
of_beside P t h (suc (suc zero)) lt = h.1.1.0
of_beside P t h (suc (suc (suc zero))) lt = h.1.1.1.0
of_beside P t h (suc (suc (suc (suc k)))) lt = absurd (omega arith)

-- the further corner of the second of two rows that are apart lies beyond their common face
pub beyond_at : (ps : List Point) (s t : Tet) (p q : ℕ) → LieApart ps s t → IsShared s t p q → IsBeyond ps s t p q
beyond_at ps s t p q apart shared =
    let e = sym (face_is s p shared.corner) ∙ shared.same ∙ face_is t q shared.other in
    let row = of_faces (λ f. AllByRecursion (λ g. IsTrue (same_corners f g.0) → side (triangle ps f) (point ps g.1) <ℤ pos 0) (faces_beside t)) s apart p shared.corner in
    of_beside (λ g i. IsTrue (same_corners (beside_at s p) g) → side (triangle ps (beside_at s p)) (point ps i) <ℤ pos 0) t row q shared.other (corners_of (beside_at s p) (beside_at t q) e)

-- so rows that are apart do not lie on one side of a common face
pub none_of_apart : (ps : List Point) (s t : Tet) → IsPositive (corners ps s) → LieApart ps s t → ¬ LieOnOneSide ps s t
none_of_apart ps s t positive apart (p, q, shared, none) = none (opposed_of ps s t p q positive shared (beyond_at ps s t p q apart shared))
