-- The faces and the sides of the two tetrahedra: what computes of lists is proved by computing it.
use Rattle.std.proofs.Common.{◌≡◌, ℕ, Bool, true, ◌&&◌, List, [], ◌∷◌, refl, subst}
use Rattle.std.proofs.lemmas.Bool.{eqb-true}
use Rattle.std.specs.List.{list_all, list_any}
use Rattle.std.specs.Ordering.{is_lt, nat_cmp, ordering_then}
use Rattle.std.specs.Prelude.{AllPairs, Contains, ◌==◌}
use Rattle.std.specs.declared.cmp.Ordering.{Ordering}
use Rattle.std.specs.declared.cmp.Ordering.TheVariants.{Less, Equal, Greater}
use Rattle.geo_laws.specs.Faces.{AreFacesOf, AreSidesOf, FaceBefore, SideBefore, faces_of_rows, sides_of_rows}
use Rattle.geo_laws.specs.declared.faces.Face.{Face}
use Rattle.geo_laws.specs.declared.faces.Side.{Side}
use Rattle.geo_laws.proofs.Ascending.{Rises, none, more, all_pairs}
use Rattle.geo_laws.proofs.Members.{both_true, contains_of, each_true, member_of, some_true}
use Rattle.geo_laws.proofs.RowOrder.{face_before, side_before}
use Rattle.incidence.specs.Pairs.{is_face}
use Rattle.incidence.proofs.Partners.{face_same}
use Rattle.run_laws.proofs.WorkedRows.{pyramid_rows}

-- ---- lists

less_is : (order : Ordering) → is_lt order ≡ true → order ≡ Less
less_is Less h = refl
less_is Equal h = absurd (cc)
less_is Greater h = absurd (cc)

-- each element is less than each later one
abbrev ascends : {X : Type 0} → (X → X → Ordering) → List X → Bool
ascends compare [] = true
ascends compare (x ∷ xs) = list_all (λ y. is_lt (compare x y)) xs && ascends compare xs

rises_by : {X : Type 0} (R : X → X → Type 0) (compare : X → X → Ordering) → ((x y : X) → compare x y ≡ Less → R x y) → (xs : List X) → ascends compare xs ≡ true → Rises R xs
rises_by R compare means [] h = none
rises_by R compare means (x ∷ xs) h =
    let two = both_true (list_all (λ y. is_lt (compare x y)) xs) (ascends compare xs) h in
    more (λ y m. means x y (less_is (compare x y) (each_true (λ z. is_lt (compare x z)) xs two.0 y m))) (rises_by R compare means xs two.1)

-- each of the one is one of the other
abbrev are_among : {X : Type 0} → (X → X → Bool) → List X → List X → Bool
are_among same ys xs = list_all (λ x. list_any (λ y. same y x) ys) xs

pub among : {X : Type 0} (same : X → X → Bool) → ((x y : X) → same x y ≡ true → x ≡ y) → (ys xs : List X) → are_among same ys xs ≡ true → (x : X) → Contains xs x → Contains ys x
among same means ys xs h x c =
    let found = some_true (λ y. same y x) ys (each_true (λ z. list_any (λ y. same y z) ys) xs h x (member_of xs x c)) in
    subst (Contains ys) (means found.0 x found.2) (contains_of ys found.0 found.1)

-- ---- faces

abbrev compare_faces : Face → Face → Ordering
compare_faces f g = ordering_then (nat_cmp f.a g.a) (ordering_then (nat_cmp f.b g.b) (nat_cmp f.c g.c))

pub faces_ascend : (faces : List Face) → ascends compare_faces faces ≡ true → AllPairs FaceBefore faces
faces_ascend faces h = all_pairs FaceBefore faces (rises_by FaceBefore compare_faces face_before faces h)

abbrev face : ℕ → ℕ → ℕ → Face
face a b c = record { a = a; b = b; c = c }

-- those on the hull: all but the face that both tetrahedra have
abbrev pub hull : List Face
hull = face 0 1 3 ∷ face 0 1 4 ∷ face 0 3 4 ∷ face 1 2 3 ∷ face 1 2 4 ∷ face 2 3 4 ∷ []

abbrev pub all_faces : List Face
all_faces = face 0 1 3 ∷ face 0 1 4 ∷ face 0 3 4 ∷ face 1 2 3 ∷ face 1 2 4 ∷ face 1 3 4 ∷ face 2 3 4 ∷ []

pub faces_are : AreFacesOf pyramid_rows all_faces
faces_are = record {
  exactly = λ f. (among is_face face_same (faces_of_rows pyramid_rows) all_faces refl f, among is_face face_same all_faces (faces_of_rows pyramid_rows) refl f);
  ascending = faces_ascend all_faces refl;
}

-- ---- sides

abbrev compare_sides : Side → Side → Ordering
compare_sides s t = ordering_then (nat_cmp s.a t.a) (nat_cmp s.b t.b)

abbrev is_side : Side → Side → Bool
is_side s t = (s.a == t.a) && (s.b == t.b)

side_same : (s t : Side) → is_side s t ≡ true → s ≡ t
side_same s t h =
    let two = both_true (s.a == t.a) (s.b == t.b) h in
    let a = eqb-true s.a t.a two.0 in
    let b = eqb-true s.b t.b two.1 in
    λ i. record { a = a i; b = b i }

abbrev side : ℕ → ℕ → Side
side a b = record { a = a; b = b }

abbrev pub all_sides : List Side
all_sides = side 0 1 ∷ side 0 3 ∷ side 0 4 ∷ side 1 2 ∷ side 1 3 ∷ side 1 4 ∷ side 2 3 ∷ side 2 4 ∷ side 3 4 ∷ []

pub sides_are : AreSidesOf pyramid_rows all_sides
sides_are = record {
  exactly = λ s. (among is_side side_same (sides_of_rows pyramid_rows) all_sides refl s, among is_side side_same all_sides (sides_of_rows pyramid_rows) refl s);
  ascending = all_pairs SideBefore all_sides (rises_by SideBefore compare_sides side_before all_sides refl);
}
