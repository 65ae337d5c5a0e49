-- The four corners of a tetrahedron by their places, so that what is alike for all four is said once.
use Rattle.std.proofs.Common.{◌≡◌, ◌⊎◌, inl, inr, ℕ, ℤ, pos, ◌+ℤ◌, refl, arith}
use Rattle.std.proofs.lemmas.Int.{ints}
use Rattle.std.specs.List.{AllByRecursion}
use Rattle.std.specs.Prelude.{List, Contains}
use Rattle.sign_predicates.specs.Point.{Point}
use Rattle.sign_predicates.specs.Orientation.{Triangle, faces}
use Rattle.sign_predicates.specs.declared.tetrahedron.Corners.{Corners}
use Rattle.sign_predicates.proofs.Places.{Place, A, B, C, D, IsOther, corner, opposite}
use Rattle.geo_laws.specs.Delaunay.{point, corners}
use Rattle.geo_laws.specs.Laws.{plane_through}
use Rattle.geo_laws.specs.declared.tetrahedra.Tet.{Tet}

pub other_back : (u v : Place) → IsOther u v → IsOther v u
other_back A A o = o
other_back B B o = o
other_back C C o = o
other_back D D o = o
other_back u v o = tt

-- ---- other corners and numbers

-- the tetrahedron with e in place of the corner
abbrev pub replaced : Corners → Place → Point → Corners
replaced t A e = record { a = e; b = t.b; c = t.c; d = t.d }
replaced t B e = record { a = t.a; b = e; c = t.c; d = t.d }
replaced t C e = record { a = t.a; b = t.b; c = e; d = t.d }
replaced t D e = record { a = t.a; b = t.b; c = t.c; d = e }

-- the corner's number
abbrev pub number : Tet → Place → ℕ
number t A = t.a
number t B = t.b
number t C = t.c
number t D = t.d

-- the tetrahedron with e in place of that number
abbrev pub with_number : Tet → Place → ℕ → Tet
with_number t A e = record { a = e; b = t.b; c = t.c; d = t.d }
with_number t B e = record { a = t.a; b = e; c = t.c; d = t.d }
with_number t C e = record { a = t.a; b = t.b; c = e; d = t.d }
with_number t D e = record { a = t.a; b = t.b; c = t.c; d = e }

-- the corner is the point with its number
pub corner-point : (ps : List Point) (t : Tet) (u : Place) → corner (corners ps t) u ≡ point ps (number t u)
corner-point ps t A = refl
corner-point ps t B = refl
corner-point ps t C = refl
corner-point ps t D = refl

pub corners-with_number : (ps : List Point) (t : Tet) (u : Place) (e : ℕ) → corners ps (with_number t u e) ≡ replaced (corners ps t) u (point ps e)
corners-with_number ps t A e = refl
corners-with_number ps t B e = refl
corners-with_number ps t C e = refl
corners-with_number ps t D e = refl

pub number-with : (t : Tet) (v : Place) (e : ℕ) → number (with_number t v e) v ≡ e
number-with t A e = refl
number-with t B e = refl
number-with t C e = refl
number-with t D e = refl

pub number-with_other : (t : Tet) (u v : Place) (e : ℕ) → IsOther u v → number (with_number t v e) u ≡ number t u
number-with_other t A A e o = absurd o
number-with_other t B B e o = absurd o
number-with_other t C C e o = absurd o
number-with_other t D D e o = absurd o
number-with_other t u v e o = refl

-- the face opposite a corner doesn't change with it
pub opposite-replaced : (t : Corners) (v : Place) (e : Point) → opposite (replaced t v e) v ≡ opposite t v
opposite-replaced t A e = refl
opposite-replaced t B e = refl
opposite-replaced t C e = refl
opposite-replaced t D e = refl

-- what holds of all planes through three of the points holds of each face
pub at_planes : (ps : List Point) (ms : List ℕ) (P : Triangle → Type 0) → ((i j k : ℕ) → Contains ms i → Contains ms j → Contains ms k → P (plane_through ps i j k))
    → (t : Tet) → ((u : Place) → Contains ms (number t u)) → (u : Place) → P (opposite (corners ps t) u)
at_planes ps ms P h t on A = h t.b t.d t.c (on B) (on D) (on C)
at_planes ps ms P h t on B = h t.a t.c t.d (on A) (on C) (on D)
at_planes ps ms P h t on C = h t.a t.d t.b (on A) (on D) (on B)
at_planes ps ms P h t on D = h t.a t.b t.c (on A) (on B) (on C)

-- what is so or not at each place is so at all places or not
pub each_or_not : (P : Place → Type 0) → ((u : Place) → P u ⊎ ¬ P u) → ((u : Place) → P u) ⊎ ¬ ((u : Place) → P u)
each_or_not P d = go (d A) (d B) (d C) (d D)
  where
    all : P A → P B → P C → P D → (u : Place) → P u
    all a b c e A = a
    all a b c e B = b
    all a b c e C = c
    all a b c e D = e

    go : P A ⊎ ¬ P A → P B ⊎ ¬ P B → P C ⊎ ¬ P C → P D ⊎ ¬ P D → ((u : Place) → P u) ⊎ ¬ ((u : Place) → P u)
    go (inl a) (inl b) (inl c) (inl e) = inl (all a b c e)
    go (inr n) _ _ _ = inr (λ h. n (h A))
    go _ (inr n) _ _ = inr (λ h. n (h B))
    go _ _ (inr n) _ = inr (λ h. n (h C))
    go _ _ _ (inr n) = inr (λ h. n (h D))

-- what holds of all faces holds of each, and back
pub at_face : (P : Triangle → Type 0) (t : Corners) → AllByRecursion P (faces t) → (u : Place) → P (opposite t u)
at_face P t h A = h.0
at_face P t h B = h.1.0
at_face P t h C = h.1.1.0
at_face P t h D = h.1.1.1.0

pub all_faces : (P : Triangle → Type 0) (t : Corners) → ((u : Place) → P (opposite t u)) → AllByRecursion P (faces t)
all_faces P t h = (h A, (h B, (h C, (h D, tt))))

-- ---- sums over the places

-- the sum over the four
abbrev pub over_places : (Place → ℤ) → ℤ
over_places f = f A +ℤ f B +ℤ f C +ℤ f D

pub sum-same : (f g : Place → ℤ) → ((u : Place) → f u ≡ g u) → over_places f ≡ over_places g
sum-same f g e = λ j. e A j +ℤ e B j +ℤ e C j +ℤ e D j

-- a sum of which only one part is not 0
pub sum-only : (v : Place) (f : Place → ℤ) → ((u : Place) → IsOther u v → f u ≡ pos 0) → over_places f ≡ f v
sum-only A f h = omega (arith, ints, h B tt, h C tt, h D tt)
sum-only B f h = omega (arith, ints, h A tt, h C tt, h D tt)
sum-only C f h = omega (arith, ints, h A tt, h B tt, h D tt)
sum-only D f h = omega (arith, ints, h A tt, h B tt, h C tt)

-- a sum whose parts are all 0
pub sum-none : (f : Place → ℤ) → ((u : Place) → f u ≡ pos 0) → over_places f ≡ pos 0
sum-none f h = omega (arith, ints, h A, h B, h C, h D)

-- the other three places
abbrev pub second : Place → Place
second A = B
second u = A

abbrev pub third : Place → Place
third A = C
third B = C
third u = B

abbrev pub fourth : Place → Place
fourth D = C
fourth u = D

-- a sum with the part of one place first
pub sum-front : (v : Place) (f : Place → ℤ) → over_places f ≡ f v +ℤ f (second v) +ℤ f (third v) +ℤ f (fourth v)
sum-front A f = refl
sum-front B f = omega (arith, ints)
sum-front C f = omega (arith, ints)
sum-front D f = omega (arith, ints)

pub other-second : (v : Place) → IsOther (second v) v
other-second A = tt
other-second B = tt
other-second C = tt
other-second D = tt

pub other-third : (v : Place) → IsOther (third v) v
other-third A = tt
other-third B = tt
other-third C = tt
other-third D = tt

pub other-fourth : (v : Place) → IsOther (fourth v) v
other-fourth A = tt
other-fourth B = tt
other-fourth C = tt
other-fourth D = tt
