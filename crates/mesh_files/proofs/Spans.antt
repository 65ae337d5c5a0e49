-- The faces of positive rows are not on lines, in whatever order their corners stand.
use Rattle.std.proofs.Common.{◌≡◌, ◌⊎◌, inl, inr, ℕ, ℤ, pos, neg_ℤ, ◌-ℤ◌, ◌*ℤ◌, [], ◌∷◌, List, refl, sym, subst, arith}
use Rattle.std.specs.Prelude.{min, max}
use Rattle.std.proofs.lemmas.Int.{ints}
use Rattle.exact_algebra.proofs.Ring.{var, neg, ring, same, ◌⊖◌, ◌⊗◌}
use Rattle.sign_predicates.specs.Point.{Point}
use Rattle.sign_predicates.specs.Orientation.{IsPositive, SpansPlane}
use Rattle.geo_laws.specs.Delaunay.{point, corners}
use Rattle.geo_laws.specs.Faces.{face_of}
use Rattle.geo_laws.specs.Laws.{plane_through}
use Rattle.geo_laws.specs.declared.tetrahedra.Tet.{Tet}
use Rattle.sign_predicates.proofs.Places.{Place, A, B, C, D}
use Rattle.geo_laws.proofs.Determinants.{spans}
use Rattle.geo_laws.proofs.RowFaces.{face_at}

neg_zero : (a b : ℤ) → a ≡ neg_ℤ b → a ≡ pos 0 → b ≡ pos 0
neg_zero a b e z = omega (arith, ints)

-- one coordinate of the normal, with the last two corners exchanged
over : (a b c a' b' c' : ℤ) → (c -ℤ a) *ℤ (b' -ℤ a') -ℤ (c' -ℤ a') *ℤ (b -ℤ a) ≡ neg_ℤ ((b -ℤ a) *ℤ (c' -ℤ a') -ℤ (b' -ℤ a') *ℤ (c -ℤ a))
unfolding same
over a b c a' b' c' =
    ring ((var 2 ⊖ var 0) ⊗ (var 4 ⊖ var 3) ⊖ (var 5 ⊖ var 3) ⊗ (var 1 ⊖ var 0)) (neg ((var 1 ⊖ var 0) ⊗ (var 5 ⊖ var 3) ⊖ (var 4 ⊖ var 3) ⊗ (var 2 ⊖ var 0))) tt
    (a ∷ b ∷ c ∷ a' ∷ b' ∷ c' ∷ [])

-- and with the first two exchanged
across : (a b c a' b' c' : ℤ) → (a -ℤ b) *ℤ (c' -ℤ b') -ℤ (a' -ℤ b') *ℤ (c -ℤ b) ≡ neg_ℤ ((b -ℤ a) *ℤ (c' -ℤ a') -ℤ (b' -ℤ a') *ℤ (c -ℤ a))
unfolding same
across a b c a' b' c' =
    ring ((var 0 ⊖ var 1) ⊗ (var 5 ⊖ var 4) ⊖ (var 3 ⊖ var 4) ⊗ (var 2 ⊖ var 1)) (neg ((var 1 ⊖ var 0) ⊗ (var 5 ⊖ var 3) ⊖ (var 4 ⊖ var 3) ⊗ (var 2 ⊖ var 0))) tt
    (a ∷ b ∷ c ∷ a' ∷ b' ∷ c' ∷ [])

abbrev Spans : List Point → ℕ → ℕ → ℕ → Type 0
Spans ps i j k = SpansPlane (plane_through ps i j k)

last_two : (ps : List Point) (i j k : ℕ) → Spans ps i j k → Spans ps i k j
last_two ps i j k s z =
    let a = point ps i in
    let b = point ps j in
    let c = point ps k in
    s (neg_zero _ _ (over a.y b.y c.y a.z b.z c.z) z.0, neg_zero _ _ (over a.z b.z c.z a.x b.x c.x) z.1, neg_zero _ _ (over a.x b.x c.x a.y b.y c.y) z.2)

first_two : (ps : List Point) (i j k : ℕ) → Spans ps i j k → Spans ps j i k
first_two ps i j k s z =
    let a = point ps i in
    let b = point ps j in
    let c = point ps k in
    s (neg_zero _ _ (across a.y b.y c.y a.z b.z c.z) z.0, neg_zero _ _ (across a.z b.z c.z a.x b.x c.x) z.1, neg_zero _ _ (across a.x b.x c.x a.y b.y c.y) z.2)

-- ---- three numbers in ascending order

-- the one three numbers are the other three, in some order
abbrev IsOrder : (i j k a b c : ℕ) → Type 0
IsOrder i j k a b c =
    ((a ≡ i) × (b ≡ j) × (c ≡ k))
    ⊎ (((a ≡ i) × (b ≡ k) × (c ≡ j)) ⊎ (((a ≡ j) × (b ≡ i) × (c ≡ k)) ⊎ (((a ≡ j) × (b ≡ k) × (c ≡ i)) ⊎ (((a ≡ k) × (b ≡ i) × (c ≡ j)) ⊎ ((a ≡ k) × (b ≡ j) × (c ≡ i))))))

ordered : (i j k a b c : ℕ) → a ≡ min (min i j) k → b ≡ max (min i j) (min (max i j) k) → c ≡ max (max i j) k → IsOrder i j k a b c
ordered i j k a b c e f g = grind (arith, e, f, g)

at : (ps : List Point) (i j k a b c : ℕ) → (a ≡ i) × (b ≡ j) × (c ≡ k) → Spans ps i j k → Spans ps a b c
at ps i j k a b c (e, f, g) s = subst (λ n. Spans ps n b c) (sym e) (subst (λ n. Spans ps i n c) (sym f) (subst (Spans ps i j) (sym g) s))

sorted : (ps : List Point) (i j k : ℕ) → Spans ps i j k → Spans ps (face_of i j k).a (face_of i j k).b (face_of i j k).c
sorted ps i j k s = go (ordered i j k _ _ _ refl refl refl)
  where
    go : IsOrder i j k (face_of i j k).a (face_of i j k).b (face_of i j k).c → Spans ps (face_of i j k).a (face_of i j k).b (face_of i j k).c
    go (inl e) = at ps i j k _ _ _ e s
    go (inr (inl e)) = at ps i k j _ _ _ e (last_two ps i j k s)
    go (inr (inr (inl e))) = at ps j i k _ _ _ e (first_two ps i j k s)
    go (inr (inr (inr (inl e)))) = at ps j k i _ _ _ e (last_two ps j i k (first_two ps i j k s))
    go (inr (inr (inr (inr (inl e))))) = at ps k i j _ _ _ e (first_two ps i k j (last_two ps i j k s))
    go (inr (inr (inr (inr (inr e))))) = at ps k j i _ _ _ e (first_two ps j k i (last_two ps j i k (first_two ps i j k s)))

-- a face of a positive row, its numbers ascending, is not on a line
pub face_spans : (ps : List Point) (t : Tet) (u : Place) → IsPositive (corners ps t) → Spans ps (face_at t u).a (face_at t u).b (face_at t u).c
face_spans ps t A p = sorted ps t.b t.c t.d (last_two ps t.b t.d t.c (spans (corners ps t) p A))
face_spans ps t B p = sorted ps t.a t.c t.d (spans (corners ps t) p B)
face_spans ps t C p = sorted ps t.a t.b t.d (last_two ps t.a t.d t.b (spans (corners ps t) p C))
face_spans ps t D p = sorted ps t.a t.b t.c (spans (corners ps t) p D)
