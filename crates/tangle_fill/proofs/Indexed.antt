-- Rows are found by the sides of faces on which they lie.
use Rattle.std.proofs.Common.{◌≡◌, ◌⊎◌, inl, inr, Bool, true, false, cond, ◌||◌, ◌&&◌, List, [], ◌∷◌, ◌++◌, Option, Some, None, refl, ap, sym, subst, ◌∙◌, arith, eq-eqb}
use Rattle.std.specs.Prelude.{◌==◌, IsTrue, All, Contains, MatchOption, IfSome}
use Rattle.std.specs.List.{list_any, slice_index_or}
use Rattle.std.specs.Map.{lookup}
use Rattle.std.proofs.lemmas.List.Elements.{All-push, Contains-append_left, Contains-push, Contains-get_or}
use Rattle.indexmap.specs.IndexMap.{IndexMap, get}
use Rattle.geo_laws.specs.OrientedFace as oriented_face
use Rattle.geo_laws.specs.declared.faces.Face.{Face}
use Rattle.geo_laws.specs.declared.tetrahedra.Tet.{Tet}
use Rattle.geo_laws.proofs.Members.{IsMember, here, there, some_true, any_true, both_true}
use Rattle.crossing_laws.specs.Crossing.{faces_of, is_same}
use Rattle.crossing_laws.proofs.Tests.{decided}
use Rattle.crossing_laws.proofs.Faces.{Same, straight, onward, backward, eq_of, same_of, same_test, same_back, same_bool}
use Rattle.tangle_laws.specs.Tangle.{lies_on}
use Rattle.tangle_laws.proofs.Apart.{fails_true}
use Rattle.tangle_laws.proofs.Sides.{same_alike}
use Rattle.tangle_fill.specs.Fill.{as_oriented}
use Rattle.tangle_fill.specs.Indexed.{same_face_side, face_side_of, has_side, IsIndexed, IsSidePut}
use Rattle.tangle_fill.specs.declared.growth.FaceSide.{FaceSide}
use Rattle.tangle_fill.specs.declared.growth.Growth.{Growth}

-- ---- rows are put in

pub none_indexed : (g : Growth) → g.rows ≡ [] → g.sides.entries ≡ [] → IsIndexed g
none_indexed g r e = record {
  found = λ q. subst (λ (es : List (FaceSide × Tet)). IfSome (lookup (same_face_side q) es) (λ t. Contains g.rows t × IsTrue (has_side t q))) (sym e) tt;
  none = λ q n. subst (All (λ t. has_side t q ≡ false)) (sym r) (λ k d l. absurd (omega arith));
}

twice : (a b : Bool) (w x y z : Option Tet) → y ≡ cond a w x → z ≡ cond b w y → z ≡ cond (a || b) w x
twice true true w x y z e f = f
twice true false w x y z e f = f ∙ e
twice false true w x y z e f = f
twice false false w x y z e f = f ∙ e

regroup : (a b c d : Bool) → ((a || b) || c) || d ≡ a || (b || (c || (d || false)))
regroup true b c d = refl
regroup false true c d = refl
regroup false false true d = refl
regroup false false false true = refl
regroup false false false false = refl

-- when the sides of all four faces of the row are put in
pub four_put : {S : Type 0} (m0 m1 m2 m3 m4 : IndexMap FaceSide Tet S) (row : Tet)
    → IsSidePut m0 m1 (face_side_of (record { a = row.b; b = row.d; c = row.c })) row → IsSidePut m1 m2 (face_side_of (record { a = row.a; b = row.c; c = row.d })) row
    → IsSidePut m2 m3 (face_side_of (record { a = row.a; b = row.d; c = row.b })) row → IsSidePut m3 m4 (face_side_of (record { a = row.a; b = row.b; c = row.c })) row
    → (q : FaceSide) → get same_face_side m4 q ≡ cond (has_side row q) (Some row) (get same_face_side m0 q)
four_put m0 m1 m2 m3 m4 row p1 p2 p3 p4 q =
    twice ((s1 || s2) || s3) s4 w x0 x3 x4 (twice (s1 || s2) s3 w x0 x2 x3 (twice s1 s2 w x0 x1 x2 (p1 q) (p2 q)) (p3 q)) (p4 q)
    ∙ ap (λ b. cond b w x0) (regroup s1 s2 s3 s4)
  where
    w : Option Tet
    w = Some row

    x0 : Option Tet
    x0 = get same_face_side m0 q

    x1 : Option Tet
    x1 = get same_face_side m1 q

    x2 : Option Tet
    x2 = get same_face_side m2 q

    x3 : Option Tet
    x3 = get same_face_side m3 q

    x4 : Option Tet
    x4 = get same_face_side m4 q

    s1 : Bool
    s1 = same_face_side (face_side_of (record { a = row.b; b = row.d; c = row.c })) q

    s2 : Bool
    s2 = same_face_side (face_side_of (record { a = row.a; b = row.c; c = row.d })) q

    s3 : Bool
    s3 = same_face_side (face_side_of (record { a = row.a; b = row.d; c = row.b })) q

    s4 : Bool
    s4 = same_face_side (face_side_of (record { a = row.a; b = row.b; c = row.c })) q

pub indexed_more : (g h : Growth) (row : Tet) → IsIndexed g → h.rows ≡ g.rows ++ row ∷ []
    → ((q : FaceSide) → get same_face_side h.sides q ≡ cond (has_side row q) (Some row) (get same_face_side g.sides q)) → IsIndexed h
indexed_more g h row i rows put = record { found = found; none = none }
  where
    Found : List Tet → FaceSide → Option Tet → Type 0
    Found xs q x = IfSome x (λ t. Contains xs t × IsTrue (has_side t q))

    more : (q : FaceSide) (x : Option Tet) → IfSome x (λ t. Contains g.rows t × IsTrue (has_side t q)) → IfSome x (λ t. Contains (g.rows ++ row ∷ []) t × IsTrue (has_side t q))
    more q None f = f
    more q (Some t) f = (Contains-append_left g.rows (row ∷ []) t f.0, f.1)

    by : (q : FaceSide) (b : Bool) → has_side row q ≡ b → IfSome (cond b (Some row) (get same_face_side g.sides q)) (λ t. Contains (g.rows ++ row ∷ []) t × IsTrue (has_side t q))
    by q true e = (Contains-push g.rows row, e)
    by q false e = more q (get same_face_side g.sides q) (i.found q)

    found : (q : FaceSide) → IfSome (get same_face_side h.sides q) (λ t. Contains h.rows t × IsTrue (has_side t q))
    found q =
        subst (λ (xs : List Tet). IfSome (get same_face_side h.sides q) (λ t. Contains xs t × IsTrue (has_side t q))) (sym rows)
        (subst (λ (x : Option Tet). IfSome x (λ t. Contains (g.rows ++ row ∷ []) t × IsTrue (has_side t q))) (sym (put q)) (by q (has_side row q) refl))

    absent : (q : FaceSide) (b : Bool) → has_side row q ≡ b → cond b (Some row) (get same_face_side g.sides q) ≡ None → All (λ t. has_side t q ≡ false) (g.rows ++ row ∷ [])
    absent q true e n = absurd (let m : Some row ≡ None = n in cc)
    absent q false e n = All-push (λ t. has_side t q ≡ false) g.rows row (i.none q n) e

    none : (q : FaceSide) → get same_face_side h.sides q ≡ None → All (λ t. has_side t q ≡ false) h.rows
    none q n = subst (All (λ t. has_side t q ≡ false)) (sym rows) (absent q (has_side row q) refl (sym (put q) ∙ n))

-- the order of the rows does not matter
pub indexed_order : (g h : Growth) → IsIndexed g → h.sides ≡ g.sides → ((t : Tet) → Contains h.rows t → Contains g.rows t) → ((t : Tet) → Contains g.rows t → Contains h.rows t) → IsIndexed h
indexed_order g h i sides back forth = record { found = found; none = none }
  where
    more : (q : FaceSide) (x : Option Tet) → IfSome x (λ t. Contains g.rows t × IsTrue (has_side t q)) → IfSome x (λ t. Contains h.rows t × IsTrue (has_side t q))
    more q None f = f
    more q (Some t) f = (forth t f.0, f.1)

    found : (q : FaceSide) → IfSome (get same_face_side h.sides q) (λ t. Contains h.rows t × IsTrue (has_side t q))
    found q = more q (get same_face_side h.sides q) (subst (λ (x : Option Tet). IfSome x (λ t. Contains g.rows t × IsTrue (has_side t q))) (sym (ap (λ m. get same_face_side m q) sides)) (i.found q))

    none : (q : FaceSide) → get same_face_side h.sides q ≡ None → All (λ t. has_side t q ≡ false) h.rows
    none q n k d l =
        let c = back (slice_index_or h.rows k d) (Contains-get_or h.rows k d l) in
        subst (λ t. has_side t q ≡ false) c.2 (i.none q (ap (λ m. get same_face_side m q) (sym sides) ∙ n) c.0 _ c.1)

-- ---- rows are found

same_three : (f : oriented_face.Face) (q : FaceSide) → same_face_side (face_side_of f) q ≡ true → (f.a ≡ q.face.a) × (f.b ≡ q.face.b) × (f.c ≡ q.face.c)
same_three f q e =
    let one = both_true (f.a == q.face.a && f.b == q.face.b) (f.c == q.face.c) e in
    let two = both_true (f.a == q.face.a) (f.b == q.face.b) one.0 in
    (eq_of f.a q.face.a two.0, eq_of f.b q.face.b two.1, eq_of f.c q.face.c one.1)

pub three_same : (f : oriented_face.Face) (q : FaceSide) → f.a ≡ q.face.a → f.b ≡ q.face.b → f.c ≡ q.face.c → same_face_side (face_side_of f) q ≡ true
three_same f q a b c = λ j. (eq-eqb f.a q.face.a a j && eq-eqb f.b q.face.b b j) && eq-eqb f.c q.face.c c j

-- the side with its corners in this order, or turned once or twice
abbrev pub straight_side : Face → FaceSide
straight_side f = record { face = f }

abbrev pub onward_side : Face → FaceSide
onward_side f = record { face = record { a = f.b; b = f.c; c = f.a } }

abbrev pub backward_side : Face → FaceSide
backward_side f = record { face = record { a = f.c; b = f.a; c = f.b } }

has_of : (t : Tet) (g : oriented_face.Face) (q : FaceSide) → IsMember g (faces_of t) → g.a ≡ q.face.a → g.b ≡ q.face.b → g.c ≡ q.face.c → has_side t q ≡ true
has_of t g q m a b c = any_true (λ f. same_face_side (face_side_of f) q) (faces_of t) g m (three_same g q a b c)

side_cases : (f : Face) (t : Tet) → lies_on (as_oriented f) t ≡ true → (has_side t (straight_side f) ≡ true) ⊎ ((has_side t (onward_side f) ≡ true) ⊎ (has_side t (backward_side f) ≡ true))
side_cases f t h = let g = some_true (is_same (as_oriented f)) (faces_of t) h in go g.0 g.1 (same_of (as_oriented f) g.0 g.2)
  where
    go : (g : oriented_face.Face) → IsMember g (faces_of t) → Same (as_oriented f) g → (has_side t (straight_side f) ≡ true) ⊎ ((has_side t (onward_side f) ≡ true) ⊎ (has_side t (backward_side f) ≡ true))
    go g m (straight a b c) = inl (has_of t g (straight_side f) m (sym a) (sym b) (sym c))
    go g m (onward a b c) = inr (inr (has_of t g (backward_side f) m (sym c) (sym a) (sym b)))
    go g m (backward a b c) = inr (inl (has_of t g (onward_side f) m (sym b) (sym c) (sym a)))

lies_by : (f : Face) (t : Tet) (q : FaceSide) → ((g : oriented_face.Face) → (g.a ≡ q.face.a) × (g.b ≡ q.face.b) × (g.c ≡ q.face.c) → Same (as_oriented f) g) → has_side t q ≡ true → lies_on (as_oriented f) t ≡ true
lies_by f t q same h =
    let g = some_true (λ f. same_face_side (face_side_of f) q) (faces_of t) h in
    any_true (is_same (as_oriented f)) (faces_of t) g.0 g.1 (same_test (as_oriented f) g.0 (same g.0 (same_three g.0 q g.2)))

pub lies_straight : (f : Face) (t : Tet) → has_side t (straight_side f) ≡ true → lies_on (as_oriented f) t ≡ true
lies_straight f t h = lies_by f t (straight_side f) (λ g e. straight (sym e.0) (sym e.1) (sym e.2)) h

pub lies_onward : (f : Face) (t : Tet) → has_side t (onward_side f) ≡ true → lies_on (as_oriented f) t ≡ true
lies_onward f t h = lies_by f t (onward_side f) (λ g e. backward (sym e.2) (sym e.0) (sym e.1)) h

pub lies_backward : (f : Face) (t : Tet) → has_side t (backward_side f) ≡ true → lies_on (as_oriented f) t ≡ true
lies_backward f t h = lies_by f t (backward_side f) (λ g e. onward (sym e.1) (sym e.2) (sym e.0)) h

-- the row that is kept for a side has it
pub found_at : (g : Growth) (q : FaceSide) (t : Tet) → IsIndexed g → Some t ≡ get same_face_side g.sides q → Contains g.rows t × (has_side t q ≡ true)
found_at g q t i e = subst (λ (x : Option Tet). IfSome x (λ t. Contains g.rows t × (has_side t q ≡ true))) (sym e) (i.found q)

none_on : (g : Growth) (f : Face) → IsIndexed g → get same_face_side g.sides (straight_side f) ≡ None → get same_face_side g.sides (onward_side f) ≡ None → get same_face_side g.sides (backward_side f) ≡ None
    → All (λ t. lies_on (as_oriented f) t ≡ false) g.rows
none_on g f i a b c k d l = go (decided (lies_on (as_oriented f) t))
  where
    t : Tet
    t = slice_index_or g.rows k d

    by : (has_side t (straight_side f) ≡ true) ⊎ ((has_side t (onward_side f) ≡ true) ⊎ (has_side t (backward_side f) ≡ true)) → lies_on (as_oriented f) t ≡ false
    by (inl h) = fails_true (has_side t (straight_side f)) (i.none (straight_side f) a k d l) h
    by (inr (inl h)) = fails_true (has_side t (onward_side f)) (i.none (onward_side f) b k d l) h
    by (inr (inr h)) = fails_true (has_side t (backward_side f)) (i.none (backward_side f) c k d l) h

    go : (lies_on (as_oriented f) t ≡ true) ⊎ (lies_on (as_oriented f) t ≡ false) → lies_on (as_oriented f) t ≡ false
    go (inl h) = by (side_cases f t h)
    go (inr h) = h

-- the row on a side, by the last of the three orders
pub last_on : (g : Growth) (f : Face) (r : Option Tet) → IsIndexed g → None ≡ get same_face_side g.sides (straight_side f) → None ≡ get same_face_side g.sides (onward_side f) → r ≡ get same_face_side g.sides (backward_side f)
    → MatchOption r (All (λ t. lies_on (as_oriented f) t ≡ false) g.rows) (λ t. Contains g.rows t × IsTrue (lies_on (as_oriented f) t))
last_on g f None i a b c = none_on g f i (sym a) (sym b) (sym c)
last_on g f (Some t) i a b c = let h = found_at g (backward_side f) t i c in (h.0, lies_backward f t h.1)

-- a row lies on a face whichever corner stands first
pub lies_turned : (g f : Face) (t : Tet) → Same (as_oriented g) (as_oriented f) → lies_on (as_oriented g) t ≡ lies_on (as_oriented f) t
lies_turned g f t s = same_bool (lies_on (as_oriented g) t) (lies_on (as_oriented f) t) (kept (as_oriented g) (as_oriented f) s) (kept (as_oriented f) (as_oriented g) (same_back (as_oriented g) (as_oriented f) s))
  where
    kept : (h k : oriented_face.Face) → Same h k → lies_on h t ≡ true → lies_on k t ≡ true
    kept h k s e =
        let m = some_true (is_same h) (faces_of t) e in
        any_true (is_same k) (faces_of t) m.0 m.1 (same_test k m.0 (same_alike h k m.0 s (same_of h m.0 m.2)))

pub on_turned : (rows : List Tet) (g f : Face) → ((t : Tet) → lies_on (as_oriented g) t ≡ lies_on (as_oriented f) t) → (r : Option Tet)
    → MatchOption r (All (λ t. lies_on (as_oriented g) t ≡ false) rows) (λ t. Contains rows t × IsTrue (lies_on (as_oriented g) t))
    → MatchOption r (All (λ t. lies_on (as_oriented f) t ≡ false) rows) (λ t. Contains rows t × IsTrue (lies_on (as_oriented f) t))
on_turned rows g f same None h = λ k d l. sym (same (slice_index_or rows k d)) ∙ h k d l
on_turned rows g f same (Some t) h = (h.0, sym (same t) ∙ h.1)

-- ---- rows that lie with a row on one side of a face

pub shares : (row t : Tet) (f : oriented_face.Face) → IsMember f (faces_of row) → lies_on f t ≡ true → list_any (λ f. lies_on f t) (faces_of row) ≡ true
shares row t f m h = any_true (λ f. lies_on f t) (faces_of row) f m h

pub last_rival : (rows : List Tet) (row : Tet) (r : Option Tet)
    → All (λ t. lies_on (record { a = row.b; b = row.d; c = row.c }) t ≡ false) rows → All (λ t. lies_on (record { a = row.a; b = row.c; c = row.d }) t ≡ false) rows
    → All (λ t. lies_on (record { a = row.a; b = row.d; c = row.b }) t ≡ false) rows
    → MatchOption r (All (λ t. lies_on (record { a = row.a; b = row.b; c = row.c }) t ≡ false) rows) (λ t. Contains rows t × IsTrue (lies_on (record { a = row.a; b = row.b; c = row.c }) t))
    → MatchOption r (All (λ t. list_any (λ f. lies_on f t) (faces_of row) ≡ false) rows) (λ t. Contains rows t × IsTrue (list_any (λ f. lies_on f t) (faces_of row)))
last_rival rows row None a b c d = λ k e l i. a k e l i || (b k e l i || (c k e l i || (d k e l i || false)))
last_rival rows row (Some t) a b c d = (d.0, shares row t (record { a = row.a; b = row.b; c = row.c }) (there (there (there here))) d.1)
