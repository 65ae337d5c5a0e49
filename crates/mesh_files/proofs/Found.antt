-- The faces of uses that are gone through.
use Rattle.std.proofs.Common.{◌≡◌, ◌⊎◌, inl, inr, ℕ, ◌+◌, ◌-◌, ◌<◌, ◌≤◌, ◌==◌, Bool, true, false, List, [], ◌∷◌, ◌++◌, length, map, get_or, zero, suc, refl, sym, subst, ap, ◌∙◌, arith}
use Rattle.std.specs.Prelude.{◌↔◌, count_by, AllPairs, Contains}
use Rattle.std.proofs.lemmas.Bool.{cases_order, eq-eqb, ne_eqb}
use Rattle.std.proofs.lemmas.List.{get_or-map, length-map, get_or_default}
use Rattle.std.proofs.lemmas.List.Elements.{Contains-append_left, Contains-append_right, Contains-append_cases, Contains-push, Contains-push_cases}
use Rattle.std.proofs.lemmas.List.Quantifiers.{all_pairs_push}
use Rattle.geo_laws.specs.Faces.{row_faces, faces_of_rows, FaceBefore, AreFacesOf}
use Rattle.geo_laws.specs.declared.faces.Face.{Face}
use Rattle.geo_laws.specs.declared.tetrahedra.Tet.{Tet}
use Rattle.incidence.specs.declared.uses.Use.{Use}
use Rattle.incidence.specs.Pairs.{has_face}
use Rattle.incidence.specs.Uses.{row_uses, UseBefore, AreAllUses, IsRunStart, FollowsLike}
use Rattle.incidence.proofs.Orders.{row_less}
use Rattle.incidence.proofs.Partners.{of_four, in_four, of_row, at_place, only_this, next_like}
use Rattle.mesh_files.proofs.Counts.{one_counted, two_counted}

pub no_row : Tet
no_row = record { a = 0; b = 0; c = 0; d = 0 }

pub no_use : Use
no_use = record { face = record { a = 0; b = 0; c = 0 }; row = 0 }

-- a face whose first use is followed by another face belongs to one row
pub is_of_one : (rows : List Tet) (uses : List Use) (at : ℕ) (d : Use) → AreAllUses rows uses → IsRunStart uses at at → at < length uses
    → (at + 1 < length uses → ¬ ((get_or uses (at + 1) d).face ≡ (get_or uses at d).face)) → count_by (has_face (get_or uses at d).face) rows ≡ 1
is_of_one rows uses at d a run there n =
    let o = of_row rows uses a at d there in
    one_counted (has_face (get_or uses at d).face) rows (get_or uses at d).row no_row o.0 (o.1 no_row)
    (λ k l y. only_this rows uses at at d no_row a run (omega arith) k l y (λ j b h u. n (omega (arith, b, h)) (next_like uses at d a.ascending j b h (ap (λ x. x.face) u))))

-- a face that is used twice belongs to two rows
pub is_of_two : (rows : List Tet) (uses : List Use) (at : ℕ) (d : Use) → AreAllUses rows uses → at + 1 < length uses
    → (get_or uses (at + 1) d).face ≡ (get_or uses at d).face → 2 ≤ count_by (has_face (get_or uses at d).face) rows
is_of_two rows uses at d a there e =
    let u = get_or uses at d in
    let v = get_or uses (at + 1) d in
    let o = of_row rows uses a at d (omega (arith, there)) in
    let p = of_row rows uses a (at + 1) d there in
    two_counted (has_face u.face) rows u.row v.row no_row (row_less u v (a.ascending at (at + 1) d (omega arith) there) (sym e)) p.0 (o.1 no_row)
    (subst (λ f. has_face f (get_or rows v.row no_row) ≡ true) e (p.1 no_row))

-- whether a number is one, where it is one or more
pub one_or_more : (b : Bool) (n : ℕ) → (b ≡ true → n ≡ 1) → (b ≡ false → 2 ≤ n) → b ≡ (n == 1)
one_or_more true n one two = sym (eq-eqb n 1 (one refl))
one_or_more false n one two = sym (ne_eqb n 1 (λ k. omega (arith, k, two refl)))

-- ---- what is found while uses are gone through: of each face that has an item, that item

pub record AreFoundBefore {X : Type 0} (corners : X → Face) (Is : Face → X → Type 0) (uses : List Use) (at : ℕ) (found : List X) : Type 0 where
  pub served : (j : ℕ) (d : Use) (x : X) → j < at → Is (get_or uses j d).face x → Contains found x
  pub sound : (x : X) → Contains found x → (j : ℕ) × (j < at) × ((d : Use) → Is (get_or uses j d).face x)
  pub ascending : AllPairs (λ x y. FaceBefore (corners x) (corners y)) found

pub found_first : {X : Type 0} (corners : X → Face) (Is : Face → X → Type 0) (uses : List Use) → AreFoundBefore corners Is uses 0 []
found_first corners Is uses = record {
  served = λ j d x l. absurd (omega (arith, l));
  sound = λ x h. absurd (omega (arith, h.1));
  ascending = λ i j d l h. absurd (omega (arith, h));
}

widened : {X : Type 0} (corners : X → Face) (Is : Face → X → Type 0) (uses : List Use) (at : ℕ) (found : List X) → AreFoundBefore corners Is uses at found → (x : X) → Contains found x
    → (j : ℕ) × (j < at + 1) × ((d : Use) → Is (get_or uses j d).face x)
widened corners Is uses at found f x h = let s = f.sound x h in (s.0, omega (arith, s.1), s.2)

-- a use that is served already changes nothing
found_same : {X : Type 0} (corners : X → Face) (Is : Face → X → Type 0) (uses : List Use) (at : ℕ) (found : List X) → ((d : Use) (x : X) → Is (get_or uses at d).face x → Contains found x)
    → AreFoundBefore corners Is uses at found → AreFoundBefore corners Is uses (at + 1) found
found_same {X} corners Is uses at found now f = record {
  served = λ j d x l w. place j d x l w (cases_order j at);
  sound = widened corners Is uses at found f;
  ascending = f.ascending;
}
  where
    place : (j : ℕ) (d : Use) (x : X) → j < at + 1 → Is (get_or uses j d).face x → (j ≡ at) ⊎ ((j < at) ⊎ (at < j)) → Contains found x
    place j d x l w (inl e) = now d x (subst (λ i. Is (get_or uses i d).face x) e w)
    place j d x l w (inr (inl e)) = f.served j d x e w
    place j d x l w (inr (inr e)) = absurd (omega (arith, l, e))

-- a further use of a face
pub found_again : {X : Type 0} (corners : X → Face) (Is : Face → X → Type 0) (uses : List Use) (at : ℕ) (found : List X) → FollowsLike uses at
    → AreFoundBefore corners Is uses at found → AreFoundBefore corners Is uses (at + 1) found
found_again corners Is uses at found g f =
    let later : 0 < at = g.later in
    found_same corners Is uses at found (λ d x w. f.served (at - 1) d x (omega (arith, later)) (subst (λ h. Is h x) (sym (g.like d)) w)) f

-- a face that has no item
pub found_none : {X : Type 0} (corners : X → Face) (Is : Face → X → Type 0) (uses : List Use) (at : ℕ) (found : List X) → ((d : Use) (x : X) → ¬ Is (get_or uses at d).face x)
    → AreFoundBefore corners Is uses at found → AreFoundBefore corners Is uses (at + 1) found
found_none corners Is uses at found n f = found_same corners Is uses at found (λ d x w. absurd (n d x w)) f

-- an item has its face's corners, and a face has one item at most
pub record AreItems {X : Type 0} (corners : X → Face) (Is : Face → X → Type 0) : Type 0 where
  pub own : (f : Face) (x : X) → Is f x → corners x ≡ f
  pub one : (f : Face) (x y : X) → Is f x → Is f y → x ≡ y

-- a face that is used first here, and has an item
pub found_pushed : {X : Type 0} (corners : X → Face) (Is : Face → X → Type 0) → AreItems corners Is → (uses : List Use) (at : ℕ) (found : List X) (x : X) → AllPairs UseBefore uses → at < length uses → IsRunStart uses at at
    → ((d : Use) → Is (get_or uses at d).face x) → AreFoundBefore corners Is uses at found → AreFoundBefore corners Is uses (at + 1) (found ++ x ∷ [])
found_pushed {X} corners Is items uses at found x up there run is f = record {
  served = λ j d y l w. place j d y l w (cases_order j at);
  sound = λ y h. both y (Contains-push_cases found x y h);
  ascending = all_pairs_push (λ y z. FaceBefore (corners y) (corners z)) found x f.ascending (λ k d l. before (get_or found k d) (k, l, get_or_default found k (get_or found k d) d l));
}
  where
    place : (j : ℕ) (d : Use) (y : X) → j < at + 1 → Is (get_or uses j d).face y → (j ≡ at) ⊎ ((j < at) ⊎ (at < j)) → Contains (found ++ x ∷ []) y
    place j d y l w (inl e) = subst (Contains (found ++ x ∷ [])) (items.one _ x y (is d) (subst (λ i. Is (get_or uses i d).face y) e w)) (Contains-push found x)
    place j d y l w (inr (inl e)) = Contains-append_left found (x ∷ []) y (f.served j d y e w)
    place j d y l w (inr (inr e)) = absurd (omega (arith, l, e))

    both : (y : X) → Contains found y ⊎ (x ≡ y) → (j : ℕ) × (j < at + 1) × ((d : Use) → Is (get_or uses j d).face y)
    both y (inl h) = widened corners Is uses at found f y h
    both y (inr e) = (at, omega arith, λ d. subst (Is (get_or uses at d).face) e (is d))

    face_before : (u v : Use) → UseBefore u v → ¬ (u.face ≡ v.face) → FaceBefore u.face v.face
    face_before u v (inl h) n = h
    face_before u v (inr h) n = absurd (n h.0)

    before : (y : X) → Contains found y → FaceBefore (corners y) (corners x)
    before y h =
        let o = f.sound y h in
        let u = get_or uses o.0 no_use in
        let v = get_or uses at no_use in
        let ordered : FaceBefore u.face v.face = face_before u v (up o.0 at no_use o.1 there) (run.least o.0 no_use o.1) in
        subst (λ g. FaceBefore g (corners x)) (sym (items.own u.face y (o.2 no_use))) (subst (FaceBefore u.face) (sym (items.own v.face x (is no_use))) ordered)

Contains-map : {X Y : Type 0} (g : X → Y) (xs : List X) (x : X) → Contains xs x → Contains (map g xs) (g x)
Contains-map g xs x h = (h.0, omega (arith, h.1, length-map xs g), get_or-map g xs h.0 x (g x) h.1 ∙ ap g h.2)

pub in_row : (t : Tet) (f : Face) → has_face f t ≡ true → Contains (row_faces t) f
in_row t f h = Contains-map (λ u. u.face) (row_uses 0 t) (record { face = f; row = 0 }) (in_four 0 t f h)

pub from_row : (t : Tet) (f : Face) → Contains (row_faces t) f → has_face f t ≡ true
from_row t f h = (of_four 0 t (record { face = f; row = 0 }) (Contains-map (λ g. record { face = g; row = 0 }) (row_faces t) f h)).1

-- the faces of rows are those that some row has
pub face_of_row : (rows : List Tet) (k : ℕ) (f : Face) → k < length rows → has_face f (get_or rows k no_row) ≡ true → Contains (faces_of_rows rows) f
face_of_row [] k f l h = absurd (omega (arith, l))
face_of_row (t ∷ ts) zero f l h = Contains-append_left (row_faces t) (faces_of_rows ts) f (in_row t f h)
face_of_row (t ∷ ts) (suc k) f l h = Contains-append_right (row_faces t) (faces_of_rows ts) f (face_of_row ts k f (omega (arith, l)) h)

pub row_of_face : (rows : List Tet) (f : Face) → Contains (faces_of_rows rows) f → (k : ℕ) × (k < length rows) × (has_face f (get_or rows k no_row) ≡ true)
row_of_face [] f h = absurd (omega (arith, h.1))
row_of_face (t ∷ ts) f h =
    elim (Contains-append_cases (row_faces t) (faces_of_rows ts) f h) [
      | inl k ↦ (0, omega arith, from_row t f k)
      | inr k ↦ let o = row_of_face ts f k in (suc o.0, omega (arith, o.1), o.2)
    ]

-- after all uses what is found is the items of the rows' faces
pub found_all : {X : Type 0} (corners : X → Face) (Is : Face → X → Type 0) (rows : List Tet) (uses : List Use) (at : ℕ) (found : List X) → AreAllUses rows uses → at ≡ length uses → AreFoundBefore corners Is uses at found
    → (x : X) → Contains found x ↔ ((f : Face) × Contains (faces_of_rows rows) f × Is f x)
found_all {X} corners Is rows uses at found a end f x = (forth, back)
  where
    forth : Contains found x → (g : Face) × Contains (faces_of_rows rows) g × Is g x
    forth h =
        let s = f.sound x h in
        let o = of_row rows uses a s.0 no_use (omega (arith, s.1, end)) in
        ((get_or uses s.0 no_use).face, face_of_row rows (get_or uses s.0 no_use).row (get_or uses s.0 no_use).face o.0 (o.1 no_row), s.2 no_use)

    back : ((g : Face) × Contains (faces_of_rows rows) g × Is g x) → Contains found x
    back (g, c, w) =
        let o = row_of_face rows g c in
        let p = at_place rows uses a o.0 no_row g no_use o.1 o.2 in
        f.served p.0 no_use x (omega (arith, p.1, end)) (subst (λ h. Is h x) (sym (ap (λ u. u.face) p.2)) w)

-- ---- the faces alone

abbrev pub AreFacesBefore : List Use → ℕ → List Face → Type 0
AreFacesBefore uses at faces = AreFoundBefore (λ f. f) (λ f g. f ≡ g) uses at faces

pub faces_first : (uses : List Use) → AreFacesBefore uses 0 []
faces_first uses = found_first (λ f. f) (λ f g. f ≡ g) uses

pub faces_again : (uses : List Use) (at : ℕ) (faces : List Face) → FollowsLike uses at → AreFacesBefore uses at faces → AreFacesBefore uses (at + 1) faces
faces_again uses at faces g f = found_again (λ h. h) (λ h k. h ≡ k) uses at faces g f

pub faces_pushed : (uses : List Use) (at : ℕ) (faces : List Face) (u : Use) → AllPairs UseBefore uses → at < length uses → IsRunStart uses at at → ((d : Use) → get_or uses at d ≡ u)
    → AreFacesBefore uses at faces → AreFacesBefore uses (at + 1) (faces ++ u.face ∷ [])
faces_pushed uses at faces u up there run is f =
    found_pushed (λ h. h) (λ h k. h ≡ k) (record { own = λ h k e. sym e; one = λ h j k p q. sym p ∙ q }) uses at faces u.face up there run (λ d. ap (λ v. v.face) (is d)) f

pub faces_last : (rows : List Tet) (uses : List Use) (at : ℕ) (faces : List Face) → AreAllUses rows uses → at ≡ length uses → AreFacesBefore uses at faces → AreFacesOf rows faces
faces_last rows uses at faces a end f = record {
  exactly = λ g.
      let o = found_all (λ h. h) (λ h k. h ≡ k) rows uses at faces a end f g in
      (λ c. let w = o.0 c in subst (Contains (faces_of_rows rows)) w.2 w.1, λ c. o.1 (g, c, refl));
  ascending = f.ascending;
}
