-- The sides of faces on which rows lie, and the rows that are kept for them.
use Rattle.std.proofs.Common.{◌≡◌, ◌≢◌, ℕ, zero, suc, ◌+◌, ◌<◌, ◌≤◌, ℤ, pos, ◌<ℤ◌, Bool, true, false, cond, eqb, List, length, Option, Some, None, refl, ap, sym, subst, ◌∙◌, arith, inl, inr, eqb-true}
use Rattle.std.specs.Prelude.{◌⊎◌, ◌&&◌, int_lt}
use Rattle.std.proofs.lemmas.Int.{ints}
use Rattle.std.proofs.lemmas.Bool.{cases_Bool, cases_lt, cond-true, cond-false}
use Rattle.geo_laws.proofs.Sorting.{int_lt_true, int_lt_false}
use Rattle.sign_predicates.specs.Point.{Point}
use Rattle.geo_laws.specs.declared.faces.Face.{Face}
use Rattle.geo_laws.specs.declared.tetrahedra.Tet.{Tet}
use Rattle.mesh_check.specs.Corners.{point_in, face_in, IsShared}
use Rattle.mesh_check.specs.Defects.{point_side, AreOppositeSigns, LieOnOneSide, IsSameSide, PairBefore}
use Rattle.mesh_check.specs.Searches.{IsLeastOf, IsLeastPair}
use Rattle.mesh_check.specs.Sides.{side_of_face, same_side, sign_code, side_at, HasSideBelow, HasFaceSide, AreAlike, IsLaterOn, AreFirstsFrom, IsLaterLike, MeetsLater, IsPutBelow, lesser_of, paired}
use Rattle.mesh_check.specs.declared.same_side.FaceSide.{FaceSide}
use Rattle.mesh_check.proofs.Firsts.{first_of_either, first_as}
use Rattle.geo_laws.specs.Delaunay.{row_at}

-- ---- signs

is_false : (x y : ℤ) → int_lt x y ≡ false → ¬ (x <ℤ y)
is_false x y h lt = let le = int_lt_false x y h in absurd (omega (arith, ints))

pub data Signed (z : ℤ) : Type 0 where
  below : z <ℤ pos 0 → sign_code z ≡ 0 → Signed z
  above : pos 0 <ℤ z → sign_code z ≡ 2 → Signed z
  on : ¬ (z <ℤ pos 0) → ¬ (pos 0 <ℤ z) → sign_code z ≡ 1 → Signed z

pub signed : (z : ℤ) → Signed z
signed z =
    elim (cases_Bool (int_lt z (pos 0))) [
      | inl b ↦ below (int_lt_true z (pos 0) b) (cond-true _ _ _ b)
      | inr nb ↦ elim (cases_Bool (int_lt (pos 0) z)) [
        | inl a ↦ above (int_lt_true (pos 0) z a) (cond-false _ _ _ nb ∙ cond-true _ _ _ a)
        | inr na ↦ on (is_false z (pos 0) nb) (is_false (pos 0) z na) (cond-false _ _ _ nb ∙ cond-false _ _ _ na)
      ]
    ]

pub code_small : (z : ℤ) → sign_code z ≤ 2
code_small z = go (signed z)
  where
    go : Signed z → sign_code z ≤ 2
    go (below lt is) = omega arith
    go (above lt is) = omega arith
    go (on a b is) = omega arith

-- codes alike: not those of opposite signs
abbrev Alike : ℕ → ℕ → Type 0
Alike m n = (m ≡ n) ⊎ ((m ≡ 1) ⊎ (n ≡ 1))

alike_of : (x y : ℤ) → ¬ AreOppositeSigns x y → Alike (sign_code x) (sign_code y)
alike_of x y apart = go (signed x) (signed y)
  where
    go : Signed x → Signed y → Alike (sign_code x) (sign_code y)
    go (on a b is) t = inr (inl is)
    go (below lt is) (on a b it) = inr (inr it)
    go (above lt is) (on a b it) = inr (inr it)
    go (below lt is) (below mt it) = inl (is ∙ sym it)
    go (above lt is) (above mt it) = inl (is ∙ sym it)
    go (below lt is) (above mt it) = absurd (apart (inr (lt, mt)))
    go (above lt is) (below mt it) = absurd (apart (inl (lt, mt)))

not_opposite : (x y : ℤ) → Alike (sign_code x) (sign_code y) → ¬ AreOppositeSigns x y
not_opposite x y alike apart = go (signed x) (signed y) apart alike
  where
    go : Signed x → Signed y → AreOppositeSigns x y → Alike (sign_code x) (sign_code y) → ⊥
    go (on a b is) t (inl p) alike = b p.0
    go (on a b is) t (inr p) alike = a p.0
    go (below lt is) t (inl p) alike = let q = p.0 in absurd (omega (arith, ints))
    go (above lt is) t (inr p) alike = let q = p.0 in absurd (omega (arith, ints))
    go (below lt is) (on a b it) (inr p) alike = b p.1
    go (below lt is) (below mt it) (inr p) alike = let q = p.1 in absurd (omega (arith, ints))
    go (below lt is) (above mt it) (inr p) (inl e) = absurd (omega arith)
    go (below lt is) (above mt it) (inr p) (inr (inl e)) = absurd (omega arith)
    go (below lt is) (above mt it) (inr p) (inr (inr e)) = absurd (omega arith)
    go (above lt is) (on a b it) (inl p) alike = a p.1
    go (above lt is) (above mt it) (inl p) alike = let q = p.1 in absurd (omega (arith, ints))
    go (above lt is) (below mt it) (inl p) (inl e) = absurd (omega arith)
    go (above lt is) (below mt it) (inl p) (inr (inl e)) = absurd (omega arith)
    go (above lt is) (below mt it) (inl p) (inr (inr e)) = absurd (omega arith)

-- ---- rows that meet

pub side_small : (ps : List Point) (t : Tet) (k : ℕ) → (side_at ps t k).side ≤ 2
unfolding side_at
side_small ps t k = code_small (point_side ps (face_in t k) (point_in t k))

-- two corners of two rows lie on sides that are alike exactly where their opposite faces are one and they lie on one side of it
alike_shared : (ps : List Point) (s t : Tet) (p q : ℕ) → AreAlike (side_at ps s p) (side_at ps t q) → face_in s p ≡ face_in t q
unfolding side_at
alike_shared ps s t p q h = λ j. record { a = h.a j; b = h.b j; c = h.c j }

alike_side : (ps : List Point) (s t : Tet) (p q : ℕ) → AreAlike (side_at ps s p) (side_at ps t q) → ¬ AreOppositeSigns (point_side ps (face_in s p) (point_in s p)) (point_side ps (face_in t q) (point_in t q))
unfolding side_at
alike_side ps s t p q h = not_opposite _ _ h.side

shared_alike : (ps : List Point) (s t : Tet) (p q : ℕ) → face_in s p ≡ face_in t q → ¬ AreOppositeSigns (point_side ps (face_in s p) (point_in s p)) (point_side ps (face_in t q) (point_in t q)) → AreAlike (side_at ps s p) (side_at ps t q)
unfolding side_at
shared_alike ps s t p q e apart = record {
  a = ap (λ (f : Face). f.a) e;
  b = ap (λ (f : Face). f.b) e;
  c = ap (λ (f : Face). f.c) e;
  side = alike_of _ _ apart;
}

pub meets_same : (ps : List Point) (rows : List Tet) (i : ℕ) (row : Tet) (j : ℕ) → row_at rows i ≡ row → MeetsLater ps rows (i + 1) row 4 j → IsSameSide ps rows i j
meets_same ps rows i row j is (p, small, (q, alike, (le, lt, (k, less, at)))) =
    let like : AreAlike (side_at ps row p) (side_at ps (row_at rows j) k) = subst (AreAlike (side_at ps row p)) (sym at) alike in
    (omega arith, lt, subst (λ (t : Tet). LieOnOneSide ps t (row_at rows j)) (sym is) (p, k, record { corner = small; other = less; same = alike_shared ps row (row_at rows j) p k like }, alike_side ps row (row_at rows j) p k like))

pub same_meets : (ps : List Point) (rows : List Tet) (i : ℕ) (row : Tet) (j : ℕ) → row_at rows i ≡ row → IsSameSide ps rows i j → MeetsLater ps rows (i + 1) row 4 j
same_meets ps rows i row j is h =
    let lie = subst (λ (t : Tet). LieOnOneSide ps t (row_at rows j)) is h.2 in
    let p = lie.0 in
    let q = lie.1 in
    let shared = lie.2 in
    let lt = h.0 in
    (p, shared.corner, (side_at ps (row_at rows j) q, shared_alike ps row (row_at rows j) p q shared.same lie.3, (omega arith, h.1, (q, shared.other, refl))))

-- ---- what is kept

none_later : (ps : List Point) (rows : List Tet) (q : FaceSide) (from k : ℕ) → length rows ≤ from → ¬ IsLaterOn ps rows from q k
none_later ps rows q from k le h = let a = h.0 in let b = h.1 in absurd (omega arith)

pub firsts_none : (ps : List Point) (rows : List Tet) (look : FaceSide → Option ℕ) → ((q : FaceSide) → look q ≡ None) → AreFirstsFrom ps rows (length rows) look
firsts_none ps rows look none q = subst (λ (o : Option ℕ). IsLeastOf (IsLaterOn ps rows (length rows) q) o) (sym (none q)) (λ k. none_later ps rows q (length rows) k (omega arith))

here : (ps : List Point) (rows : List Tet) (i : ℕ) (q : FaceSide) → i < length rows → HasFaceSide ps (row_at rows i) q → IsLeastOf (IsLaterOn ps rows i q) (Some i)
here ps rows i q lt has = ((omega arith, lt, has), λ k less h. let a = h.0 in absurd (omega arith))

later : (ps : List Point) (rows : List Tet) (i : ℕ) (q : FaceSide) (k : ℕ) → ¬ HasFaceSide ps (row_at rows i) q → IsLaterOn ps rows i q k → IsLaterOn ps rows (i + 1) q k
later ps rows i q k none h =
    elim (cases_lt i k) [
      | inl less ↦ (omega arith, h.1, h.2)
      | inr le ↦ let a = h.0 in let e : k ≡ i = omega arith in absurd (none (subst (λ (n : ℕ). HasFaceSide ps (row_at rows n) q) e h.2))
    ]

sooner : (ps : List Point) (rows : List Tet) (i : ℕ) (q : FaceSide) (k : ℕ) → IsLaterOn ps rows (i + 1) q k → IsLaterOn ps rows i q k
sooner ps rows i q k h = let a = h.0 in (omega arith, h.1, h.2)

-- one row more, before the others
pub firsts_put : (ps : List Point) (rows : List Tet) (i : ℕ) (row : Tet) (old new : FaceSide → Option ℕ) → i < length rows → row_at rows i ≡ row → AreFirstsFrom ps rows (i + 1) old → IsPutBelow ps row 4 i old new → AreFirstsFrom ps rows i new
firsts_put ps rows i row old new lt is firsts put q =
    elim (put q) [
      | inl h ↦ subst (λ (o : Option ℕ). IsLeastOf (IsLaterOn ps rows i q) o) (sym h.1) (here ps rows i q lt (subst (λ (t : Tet). HasFaceSide ps t q) (sym is) h.0))
      | inr h ↦
          let none = subst (λ (t : Tet). ¬ HasFaceSide ps t q) (sym is) h.0 in
          subst (λ (o : Option ℕ). IsLeastOf (IsLaterOn ps rows i q) o) (sym h.1)
          (first_as (IsLaterOn ps rows (i + 1) q) (IsLaterOn ps rows i q) (old q) (firsts q) (λ k. sooner ps rows i q k) (λ k. later ps rows i q k none))
    ]

-- ---- a row is put in, corner by corner

same_key : (p q : FaceSide) → same_side p q ≡ true → p ≡ q
same_key p q e =
    let h = both (eqb p.a q.a) _ e in
    let k = both (eqb p.b q.b) _ h.1 in
    let m = both (eqb p.c q.c) _ k.1 in
    λ j. record { a = eqb-true p.a q.a h.0 j; b = eqb-true p.b q.b k.0 j; c = eqb-true p.c q.c m.0 j; side = eqb-true p.side q.side m.1 j }
  where
    both : (a b : Bool) → (a && b) ≡ true → (a ≡ true) × (b ≡ true)
    both true b e = (refl, e)
    both false b e = absurd (cc)

nat_self : (n : ℕ) → eqb n n ≡ true
nat_self n = grind arith

self_key : (p : FaceSide) → same_side p p ≡ true
self_key p = λ j. nat_self p.a j && (nat_self p.b j && (nat_self p.c j && nat_self p.side j))

pub put_none : (ps : List Point) (t : Tet) (place : ℕ) (old : FaceSide → Option ℕ) → IsPutBelow ps t 0 place old old
put_none ps t place old q = inr (λ h. let lt = h.1 in absurd (omega arith), refl)

pub put_more : (ps : List Point) (t : Tet) (n place : ℕ) (old mid new : FaceSide → Option ℕ) (at : FaceSide) → at ≡ side_at ps t n → IsPutBelow ps t n place old mid → ((q : FaceSide) → new q ≡ cond (same_side at q) (Some place) (mid q))
    → IsPutBelow ps t (n + 1) place old new
put_more ps t n place old mid new at is put updates q =
    elim (cases_Bool (same_side at q)) [
      | inl holds ↦ inl ((n, omega arith, sym is ∙ same_key at q holds), updates q ∙ cond-true _ _ _ holds)
      | inr fails ↦ elim (put q) [
        | inl h ↦ inl ((h.0.0, let lt = h.0.1 in omega arith, h.0.2), updates q ∙ cond-false _ _ _ fails ∙ h.1)
        | inr h ↦ inr (λ has. none fails h.0 has, updates q ∙ cond-false _ _ _ fails ∙ h.1)
      ]
    ]
  where
    none : same_side at q ≡ false → ¬ HasSideBelow ps t n q → ¬ HasSideBelow ps t (n + 1) q
    none fails before has =
        elim (cases_lt has.0 n) [
          | inl less ↦ before (has.0, less, has.2)
          | inr le ↦
              let lt = has.1 in
              let e : has.0 ≡ n = omega arith in
              let same : at ≡ q = is ∙ subst (λ (k : ℕ). side_at ps t k ≡ q) e has.2 in
              let holds : same_side at q ≡ true = subst (λ (r : FaceSide). same_side at r ≡ true) same (self_key at) in
              absurd (cc)
        ]

-- ---- what meets one side

-- a row lies on a side of the same face
on_side : (ps : List Point) (rows : List Tet) (from : ℕ) (p : FaceSide) (side : ℕ) (j : ℕ) → (p.side ≡ side) ⊎ ((p.side ≡ 1) ⊎ (side ≡ 1)) → IsLaterOn ps rows from (record p { side = side }) j → IsLaterLike ps rows from p j
on_side ps rows from p side j alike h = (record p { side = side }, record { a = refl; b = refl; c = refl; side = alike }, h)

of_side : (ps : List Point) (rows : List Tet) (from : ℕ) (p q : FaceSide) (side j : ℕ) → AreAlike p q → q.side ≡ side → IsLaterOn ps rows from q j → IsLaterOn ps rows from (record p { side = side }) j
of_side ps rows from p q side j alike is h =
    let e : q ≡ record p { side = side } = λ i. record { a = sym alike.a i; b = sym alike.b i; c = sym alike.c i; side = is i } in
    subst (λ (r : FaceSide). IsLaterOn ps rows from r j) e h

side_of_row : (ps : List Point) (rows : List Tet) (from : ℕ) (q : FaceSide) (j : ℕ) → IsLaterOn ps rows from q j → q.side ≤ 2
side_of_row ps rows from q j h = subst (λ (r : FaceSide). r.side ≤ 2) h.2.2 (side_small ps (row_at rows j) h.2.0)

abbrev On : List Point → List Tet → ℕ → FaceSide → ℕ → ℕ → Type 0
On ps rows from p side j = IsLaterOn ps rows from (record p { side = side }) j

numbers : (n : ℕ) → n ≤ 2 → (n ≡ 1) ⊎ ((n ≡ 0) ⊎ (n ≡ 2))
numbers n le = grind arith

on_some_side : (ps : List Point) (rows : List Tet) (from : ℕ) (p : FaceSide) (j : ℕ) → IsLaterLike ps rows from p j → On ps rows from p 1 j ⊎ (On ps rows from p 0 j ⊎ On ps rows from p 2 j)
on_some_side ps rows from p j (q, alike, h) = at (numbers q.side (side_of_row ps rows from q j h))
  where
    at : (q.side ≡ 1) ⊎ ((q.side ≡ 0) ⊎ (q.side ≡ 2)) → On ps rows from p 1 j ⊎ (On ps rows from p 0 j ⊎ On ps rows from p 2 j)
    at (inl e) = inl (of_side ps rows from p q 1 j alike e h)
    at (inr (inl e)) = inr (inl (of_side ps rows from p q 0 j alike e h))
    at (inr (inr e)) = inr (inr (of_side ps rows from p q 2 j alike e h))

-- on the plane of the face: all three sides are like it
pub met_on_plane : (ps : List Point) (rows : List Tet) (from : ℕ) (p : FaceSide) (o0 o1 o2 : Option ℕ) → p.side ≡ 1
    → IsLeastOf (IsLaterOn ps rows from (record p { side = 0 })) o0 → IsLeastOf (IsLaterOn ps rows from (record p { side = 1 })) o1 → IsLeastOf (IsLaterOn ps rows from (record p { side = 2 })) o2
    → IsLeastOf (IsLaterLike ps rows from p) (lesser_of o1 (lesser_of o0 o2))
met_on_plane ps rows from p o0 o1 o2 is f0 f1 f2 =
    let both = first_of_either (On ps rows from p 0) (On ps rows from p 2) (λ j. On ps rows from p 0 j ⊎ On ps rows from p 2 j) o0 o2 f0 f2 (λ k h. h) (λ k h. inl h) (λ k h. inr h) in
    first_of_either (On ps rows from p 1) (λ j. On ps rows from p 0 j ⊎ On ps rows from p 2 j) (IsLaterLike ps rows from p) o1 (lesser_of o0 o2) f1 both (on_some_side ps rows from p)
    (λ j h. on_side ps rows from p 1 j (inr (inr refl)) h)
    (λ j h. elim h [ inl a ↦ on_side ps rows from p 0 j (inr (inl is)) a | inr b ↦ on_side ps rows from p 2 j (inr (inl is)) b ])

-- off the plane: its own side and the plane are like it
pub met_off_plane : (ps : List Point) (rows : List Tet) (from : ℕ) (p : FaceSide) (o1 o : Option ℕ) → p.side ≢ 1
    → IsLeastOf (IsLaterOn ps rows from (record p { side = 1 })) o1 → IsLeastOf (IsLaterOn ps rows from p) o → IsLeastOf (IsLaterLike ps rows from p) (lesser_of o1 o)
met_off_plane ps rows from p o1 o off f1 f =
    first_of_either (IsLaterOn ps rows from (record p { side = 1 })) (IsLaterOn ps rows from p) (IsLaterLike ps rows from p) o1 o f1 f split
    (λ j h. on_side ps rows from p 1 j (inr (inr refl)) h) (λ j h. (p, record { a = refl; b = refl; c = refl; side = inl refl }, h))
  where
    split : (j : ℕ) → IsLaterLike ps rows from p j → IsLaterOn ps rows from (record p { side = 1 }) j ⊎ IsLaterOn ps rows from p j
    split j (q, alike, h) = at alike.side
      where
        at : (p.side ≡ q.side) ⊎ ((p.side ≡ 1) ⊎ (q.side ≡ 1)) → IsLaterOn ps rows from (record p { side = 1 }) j ⊎ IsLaterOn ps rows from p j
        at (inl e) = inr (of_side ps rows from p q p.side j alike (sym e) h)
        at (inr (inl e)) = absurd (off e)
        at (inr (inr e)) = inl (of_side ps rows from p q 1 j alike e h)

-- ---- corner by corner

pub meets_none : (ps : List Point) (rows : List Tet) (from : ℕ) (t : Tet) → IsLeastOf (MeetsLater ps rows from t 0) None
meets_none ps rows from t j h = let lt = h.1 in absurd (omega arith)

pub meets_more : (ps : List Point) (rows : List Tet) (from : ℕ) (t : Tet) (n : ℕ) (at : FaceSide) (o r : Option ℕ) → at ≡ side_at ps t n → IsLeastOf (MeetsLater ps rows from t n) o → IsLeastOf (IsLaterLike ps rows from at) r
    → IsLeastOf (MeetsLater ps rows from t (n + 1)) (lesser_of o r)
meets_more ps rows from t n at o r is before here = first_of_either (MeetsLater ps rows from t n) (IsLaterLike ps rows from at) (MeetsLater ps rows from t (n + 1)) o r before here split left right
  where
    split : (j : ℕ) → MeetsLater ps rows from t (n + 1) j → MeetsLater ps rows from t n j ⊎ IsLaterLike ps rows from at j
    split j (k, lt, h) =
        elim (cases_lt k n) [
          | inl less ↦ inl (k, less, h)
          | inr le ↦ let e : k ≡ n = omega arith in inr (subst (λ (p : FaceSide). IsLaterLike ps rows from p j) (ap (side_at ps t) e ∙ sym is) h)
        ]

    left : (j : ℕ) → MeetsLater ps rows from t n j → MeetsLater ps rows from t (n + 1) j
    left j (k, lt, h) = (k, omega arith, h)

    right : (j : ℕ) → IsLaterLike ps rows from at j → MeetsLater ps rows from t (n + 1) j
    right j h = (n, omega arith, subst (λ (p : FaceSide). IsLaterLike ps rows from p j) is h)

-- ---- row by row, from the last one

-- the first pair of rows from a place on
abbrev pub FirstFrom : List Point → List Tet → ℕ → Option (ℕ × ℕ) → Type 0
FirstFrom ps rows from o = IsLeastPair (λ i j. (from ≤ i) × IsSameSide ps rows i j) o

pub from_end : (ps : List Point) (rows : List Tet) → FirstFrom ps rows (length rows) None
from_end ps rows i j h = let le = h.0 in let lt = h.1.0 in let mt = h.1.1 in absurd (omega arith)

pub from_met : (ps : List Point) (rows : List Tet) (i : ℕ) (row : Tet) (j : ℕ) → row_at rows i ≡ row → IsLeastOf (MeetsLater ps rows (i + 1) row 4) (Some j) → FirstFrom ps rows i (Some (i, j))
from_met ps rows i row j is first = ((omega arith, meets_same ps rows i row j is first.0), λ a b before h. at a b before h)
  where
    at : (a b : ℕ) → PairBefore (a, b) (i, j) → (i ≤ a) × IsSameSide ps rows a b → ⊥
    at a b (inl lt) h = let le = h.0 in absurd (omega arith)
    at a b (inr e) h = first.1 b e.1 (same_meets ps rows i row b is (subst (λ (n : ℕ). IsSameSide ps rows n b) e.0 h.1))

pub from_unmet : (ps : List Point) (rows : List Tet) (i : ℕ) (row : Tet) (o : Option (ℕ × ℕ)) → row_at rows i ≡ row → IsLeastOf (MeetsLater ps rows (i + 1) row 4) None → FirstFrom ps rows (i + 1) o → FirstFrom ps rows i o
from_unmet ps rows i row None is none rest = λ a b h. rest a b (later a b h)
  where
    later : (a b : ℕ) → (i ≤ a) × IsSameSide ps rows a b → (i + 1 ≤ a) × IsSameSide ps rows a b
    later a b h =
        elim (cases_lt i a) [
          | inl less ↦ (omega arith, h.1)
          | inr le ↦ let ge = h.0 in let e : a ≡ i = omega arith in absurd (none b (same_meets ps rows i row b is (subst (λ (n : ℕ). IsSameSide ps rows n b) e h.1)))
        ]
from_unmet ps rows i row (Some p) is none rest = ((let le = rest.0.0 in omega arith, rest.0.1), λ a b before h. rest.1 a b before (later a b h))
  where
    later : (a b : ℕ) → (i ≤ a) × IsSameSide ps rows a b → (i + 1 ≤ a) × IsSameSide ps rows a b
    later a b h =
        elim (cases_lt i a) [
          | inl less ↦ (omega arith, h.1)
          | inr le ↦ let ge = h.0 in let e : a ≡ i = omega arith in absurd (none b (same_meets ps rows i row b is (subst (λ (n : ℕ). IsSameSide ps rows n b) e h.1)))
        ]

pub from_start : (ps : List Point) (rows : List Tet) (o : Option (ℕ × ℕ)) → FirstFrom ps rows 0 o → IsLeastPair (IsSameSide ps rows) o
from_start ps rows None first = λ a b h. first a b (omega arith, h)
from_start ps rows (Some p) first = (first.0.1, λ a b before h. first.1 a b before (omega arith, h))

pub from_step : (ps : List Point) (rows : List Tet) (i : ℕ) (row : Tet) (r : Option ℕ) (o : Option (ℕ × ℕ)) → row_at rows i ≡ row → IsLeastOf (MeetsLater ps rows (i + 1) row 4) r → FirstFrom ps rows (i + 1) o → FirstFrom ps rows i (paired i r o)
from_step ps rows i row (Some j) o is first rest = from_met ps rows i row j is first
from_step ps rows i row None o is first rest = from_unmet ps rows i row o is first rest
