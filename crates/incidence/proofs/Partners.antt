-- The partner of a row across a face, from the uses of faces.
use Rattle.std.proofs.Common.{◌≡◌, ◌⊎◌, inl, inr, ℕ, ◌+◌, ◌<◌, ◌≤◌, Bool, true, false, not, ◌&&◌, ◌||◌, Some, None, List, [], ◌∷◌, length, get_or, zero, suc, refl, sym, subst, ap, ◌∙◌, add-zero, zero-add, arith}
use Rattle.std.specs.Prelude.{Contains, AllPairs}
use Rattle.std.proofs.lemmas.List.Elements.{Contains-append_left, Contains-append_right, Contains-append_cases}
use Rattle.std.proofs.lemmas.Bool.{eqb-true, eq-eqb, ne_eqb, or_cases, or_left, or_right, false_from_ne_true, true≢false, cases_order}
use Rattle.geo_laws.specs.Faces.{face_of}
use Rattle.geo_laws.specs.declared.faces.Face.{Face}
use Rattle.geo_laws.specs.declared.tetrahedra.Tet.{Tet}
use Rattle.incidence.specs.declared.half_faces.Corner.{Corner}
use Rattle.incidence.specs.declared.half_faces.Corner.TheVariants.{A, B, C, D}
use Rattle.incidence.specs.declared.uses.Use.{Use}
use Rattle.incidence.specs.HalfFaces.{opposite_row_face, IsByRow}
use Rattle.incidence.specs.Pairs.{is_face, has_face, is_partner, partner}
use Rattle.incidence.specs.Uses.{row_uses, uses_from, uses_of_rows, UseBefore, AreAllUses, IsRunStart}
use Rattle.std.proofs.lemmas.List.{get_or_read, get_or_default}
use Rattle.incidence.proofs.Firsts.{first_is, first_is_none}
use Rattle.incidence.proofs.Orders.{face_by_numbers, row_less, between}
use Rattle.geo_laws.specs.Delaunay.{row_at}

pub and_true : (a b : Bool) → (a && b) ≡ true → (a ≡ true) × (b ≡ true)
and_true true b h = (refl, h)
and_true false b h = cc

pub both : (a b : Bool) → a ≡ true → b ≡ true → (a && b) ≡ true
both a b h k = rw h k

pub face_same : (f g : Face) → is_face f g ≡ true → f ≡ g
face_same f g h =
    let first = and_true _ _ h in
    let rest = and_true _ _ first.1 in
    face_by_numbers f g (eqb-true f.a g.a first.0) (eqb-true f.b g.b rest.0) (eqb-true f.c g.c rest.1)

pub face_itself : (f g : Face) → f ≡ g → is_face f g ≡ true
face_itself f g e = both _ _ (eq-eqb f.a g.a (ap (λ x. x.a) e)) (both _ _ (eq-eqb f.b g.b (ap (λ x. x.b) e)) (eq-eqb f.c g.c (ap (λ x. x.c) e)))

cons_cases : {X : Type 0} (x y : X) (xs : List X) → Contains (y ∷ xs) x → (y ≡ x) ⊎ Contains xs x
cons_cases x y xs h = at h.0 h.1 h.2
  where
    at : (k : ℕ) → k < suc (length xs) → get_or (y ∷ xs) k x ≡ x → (y ≡ x) ⊎ Contains xs x
    at zero l e = inl e
    at (suc k) l e = inr (k, omega (arith, l), e)

pub has_0 : (f : Face) (t : Tet) → is_face (face_of t.b t.c t.d) f ≡ true → has_face f t ≡ true
has_0 f t e = or_left (is_face (face_of t.b t.c t.d) f) (is_face (face_of t.a t.c t.d) f || (is_face (face_of t.a t.b t.d) f || is_face (face_of t.a t.b t.c) f)) e

pub has_1 : (f : Face) (t : Tet) → is_face (face_of t.a t.c t.d) f ≡ true → has_face f t ≡ true
has_1 f t e =
    or_right (is_face (face_of t.b t.c t.d) f) (is_face (face_of t.a t.c t.d) f || (is_face (face_of t.a t.b t.d) f || is_face (face_of t.a t.b t.c) f))
    (or_left (is_face (face_of t.a t.c t.d) f) (is_face (face_of t.a t.b t.d) f || is_face (face_of t.a t.b t.c) f) e)

pub has_2 : (f : Face) (t : Tet) → (is_face (face_of t.a t.b t.d) f || is_face (face_of t.a t.b t.c) f) ≡ true → has_face f t ≡ true
has_2 f t e =
    or_right (is_face (face_of t.b t.c t.d) f) (is_face (face_of t.a t.c t.d) f || (is_face (face_of t.a t.b t.d) f || is_face (face_of t.a t.b t.c) f))
    (or_right (is_face (face_of t.a t.c t.d) f) (is_face (face_of t.a t.b t.d) f || is_face (face_of t.a t.b t.c) f) e)

-- the face opposite a corner is a face of the row
pub has_opposite : (t : Tet) (k : Corner) → has_face (opposite_row_face t k) t ≡ true
has_opposite t A = has_0 (opposite_row_face t A) t (face_itself (opposite_row_face t A) (opposite_row_face t A) refl)
has_opposite t B = has_1 (opposite_row_face t B) t (face_itself (opposite_row_face t B) (opposite_row_face t B) refl)
has_opposite t C = has_2 (opposite_row_face t C) t
    (or_left (is_face (face_of t.a t.b t.d) (opposite_row_face t C)) (is_face (face_of t.a t.b t.c) (opposite_row_face t C))
    (face_itself (opposite_row_face t C) (opposite_row_face t C) refl))
has_opposite t D = has_2 (opposite_row_face t D) t
    (or_right (is_face (face_of t.a t.b t.d) (opposite_row_face t D)) (is_face (face_of t.a t.b t.c) (opposite_row_face t D))
    (face_itself (opposite_row_face t D) (opposite_row_face t D) refl))

-- a use in a list of four is one of the four
pub of_four : (place : ℕ) (t : Tet) (u : Use) → Contains (row_uses place t) u → (u.row ≡ place) × (has_face u.face t ≡ true)
of_four place t u h = first (cons_cases u (face (face_of t.b t.c t.d)) (face (face_of t.a t.c t.d) ∷ face (face_of t.a t.b t.d) ∷ face (face_of t.a t.b t.c) ∷ []) h)
  where
    face : Face → Use
    face f = record { face = f; row = place }

    row : (f : Face) → face f ≡ u → u.row ≡ place
    row f e = sym (ap (λ x. x.row) e)

    same : (f : Face) → face f ≡ u → is_face f u.face ≡ true
    same f e = face_itself f u.face (ap (λ x. x.face) e)

    fourth : (face (face_of t.a t.b t.c) ≡ u) ⊎ Contains {X = Use} [] u → (u.row ≡ place) × (has_face u.face t ≡ true)
    fourth (inl e) = (row (face_of t.a t.b t.c) e, has_2 u.face t (or_right (is_face (face_of t.a t.b t.d) u.face) (is_face (face_of t.a t.b t.c) u.face) (same (face_of t.a t.b t.c) e)))
    fourth (inr n) = absurd (omega (arith, n.1))

    third : (face (face_of t.a t.b t.d) ≡ u) ⊎ Contains (face (face_of t.a t.b t.c) ∷ []) u → (u.row ≡ place) × (has_face u.face t ≡ true)
    third (inl e) = (row (face_of t.a t.b t.d) e, has_2 u.face t (or_left (is_face (face_of t.a t.b t.d) u.face) (is_face (face_of t.a t.b t.c) u.face) (same (face_of t.a t.b t.d) e)))
    third (inr k) = fourth (cons_cases u (face (face_of t.a t.b t.c)) [] k)

    second : (face (face_of t.a t.c t.d) ≡ u) ⊎ Contains (face (face_of t.a t.b t.d) ∷ face (face_of t.a t.b t.c) ∷ []) u → (u.row ≡ place) × (has_face u.face t ≡ true)
    second (inl e) = (row (face_of t.a t.c t.d) e, has_1 u.face t (same (face_of t.a t.c t.d) e))
    second (inr k) = third (cons_cases u (face (face_of t.a t.b t.d)) (face (face_of t.a t.b t.c) ∷ []) k)

    first : (face (face_of t.b t.c t.d) ≡ u) ⊎ Contains (face (face_of t.a t.c t.d) ∷ face (face_of t.a t.b t.d) ∷ face (face_of t.a t.b t.c) ∷ []) u → (u.row ≡ place) × (has_face u.face t ≡ true)
    first (inl e) = (row (face_of t.b t.c t.d) e, has_0 u.face t (same (face_of t.b t.c t.d) e))
    first (inr k) = second (cons_cases u (face (face_of t.a t.c t.d)) (face (face_of t.a t.b t.d) ∷ face (face_of t.a t.b t.c) ∷ []) k)

-- each face of a row is in its list of four
pub in_four : (place : ℕ) (t : Tet) (f : Face) → has_face f t ≡ true → Contains (row_uses place t) (record { face = f; row = place })
in_four place t f h = first (or_cases _ _ h)
  where
    made : Face → Use
    made g = record { face = g; row = place }

    third : (is_face (face_of t.a t.b t.d) f ≡ true) ⊎ (is_face (face_of t.a t.b t.c) f ≡ true) → Contains (row_uses place t) (made f)
    third (inl e) = (2, omega arith, ap made (face_same _ _ e))
    third (inr e) = (3, omega arith, ap made (face_same _ _ e))

    second : (is_face (face_of t.a t.c t.d) f ≡ true) ⊎ ((is_face (face_of t.a t.b t.d) f || is_face (face_of t.a t.b t.c) f) ≡ true) → Contains (row_uses place t) (made f)
    second (inl e) = (1, omega arith, ap made (face_same _ _ e))
    second (inr k) = third (or_cases _ _ k)

    first : (is_face (face_of t.b t.c t.d) f ≡ true) ⊎ ((is_face (face_of t.a t.c t.d) f || (is_face (face_of t.a t.b t.d) f || is_face (face_of t.a t.b t.c) f)) ≡ true) → Contains (row_uses place t) (made f)
    first (inl e) = (0, omega arith, ap made (face_same _ _ e))
    first (inr k) = second (or_cases _ _ k)

-- a use is by a row that has the face
abbrev IsUse : ℕ → List Tet → Use → Type 0
IsUse n rows u = (k : ℕ) × (k < length rows) × (u.row ≡ n + k) × ((d : Tet) → has_face u.face (get_or rows k d) ≡ true)

is_use : (n : ℕ) (rows : List Tet) (u : Use) → Contains (uses_from n rows) u → IsUse n rows u
is_use n [] u h = absurd (omega (arith, h.1))
is_use n (t ∷ ts) u h =
    elim (Contains-append_cases (row_uses n t) (uses_from (n + 1) ts) u h) [
      | inl k ↦ let o = of_four n t u k in (0, omega arith, o.0 ∙ sym (add-zero n), λ d. o.1)
      | inr k ↦ let o = is_use (n + 1) ts u k in (suc o.0, omega (arith, o.1), omega (arith, o.2), o.3)
    ]

has_use : (n : ℕ) (rows : List Tet) (k : ℕ) (d : Tet) (f : Face) → k < length rows → has_face f (get_or rows k d) ≡ true
    → Contains (uses_from n rows) (record { face = f; row = n + k })
has_use n [] k d f h e = absurd (omega (arith, h))
has_use n (t ∷ ts) zero d f h e =
    let P : ℕ → Type 0 = λ m. Contains (uses_from n (t ∷ ts)) (record { face = f; row = m }) in
    subst P (sym (add-zero n)) (Contains-append_left (row_uses n t) (uses_from (n + 1) ts) _ (in_four n t f e))
has_use n (t ∷ ts) (suc k) d f h e =
    let P : ℕ → Type 0 = λ m. Contains (uses_from n (t ∷ ts)) (record { face = f; row = m }) in
    let same : (n + 1) + k ≡ n + suc k = omega arith in
    subst P same (Contains-append_right (row_uses n t) (uses_from (n + 1) ts) _ (has_use (n + 1) ts k d f (omega (arith, h)) e))

-- a use of a row's face is by a row that is there and has the face
pub by_row : (rows : List Tet) (u : Use) → Contains (uses_of_rows rows) u → IsByRow rows u
by_row rows u h =
    let o = is_use 0 rows u h in
    let same : o.0 ≡ u.row = omega (arith, o.2) in
    (subst (λ r. r < length rows) same o.1, subst (λ r. has_face u.face (row_at rows r) ≡ true) same (o.3 (record { a = 0; b = 0; c = 0; d = 0 })))

-- each use in the list is by a row that has the face
pub of_row : (rows : List Tet) (uses : List Use) → AreAllUses rows uses → (k : ℕ) (d : Use) → k < length uses
    → ((get_or uses k d).row < length rows) × ((e : Tet) → has_face (get_or uses k d).face (get_or rows (get_or uses k d).row e) ≡ true)
of_row rows uses a k d h =
    let u = get_or uses k d in
    let o = is_use 0 rows u ((a.exactly u).0 (k, h, get_or_default uses k u d h)) in
    let same : o.0 ≡ u.row = omega (arith, o.2) in
    (subst (λ r. r < length rows) same o.1, λ e. subst (λ r. has_face u.face (get_or rows r e) ≡ true) same (o.3 e))

-- a row that has a face is in the list with it
pub at_place : (rows : List Tet) (uses : List Use) → AreAllUses rows uses → (k : ℕ) (e : Tet) (f : Face) (d : Use) → k < length rows → has_face f (get_or rows k e) ≡ true
    → (j : ℕ) × (j < length uses) × (get_or uses j d ≡ record { face = f; row = k })
at_place rows uses a k e f d h y =
    let u : Use = record { face = f; row = k } in
    let c : Contains (uses_of_rows rows) u = subst (λ m. Contains (uses_of_rows rows) (record { face = f; row = m })) (zero-add k) (has_use 0 rows k e f h y) in
    let o = (a.exactly u).1 c in
    (o.0, o.1, sym (get_or_read uses o.0 u o.1 (sym o.2) d))

not_partner : (i k : ℕ) (f : Face) (t : Tet) → (has_face f t ≡ true → k ≡ i) → is_partner i f (k, t) ≡ false
not_partner i k f t b = false_from_ne_true _ (λ e. let h = and_true _ _ e in absurd (true≢false (sym h.0 ∙ ap not (eq-eqb k i (b h.1)))))

-- no row with the face is less than the one that uses it first
no_lesser : (rows : List Tet) (uses : List Use) (first at : ℕ) (d : Use) (t : Tet) → AreAllUses rows uses → IsRunStart uses first at → at < length uses
    → (k : ℕ) → k < (get_or uses first d).row → k < length rows → has_face (get_or uses at d).face (get_or rows k t) ≡ true → ⊥
no_lesser rows uses first at d t a run there k l h y =
    let v = get_or uses at d in
    let o = at_place rows uses a k t v.face d h y in
    let w = get_or uses o.0 d in
    let face : w.face ≡ v.face = ap (λ u. u.face) o.2 in
    let row : w.row ≡ k = ap (λ u. u.row) o.2 in
    place o.0 o.1 face row (cases_order o.0 first)
  where
    place : (j : ℕ) → j < length uses → (get_or uses j d).face ≡ (get_or uses at d).face → (get_or uses j d).row ≡ k → (j ≡ first) ⊎ ((j < first) ⊎ (first < j)) → ⊥
    place j b f r (inl e) = omega (arith, l, r, ap (λ i. (get_or uses i d).row) e)
    place j b f r (inr (inl e)) = run.least j d e f
    place j b f r (inr (inr e)) = omega (arith, l, r, row_less (get_or uses first d) (get_or uses j d) (a.ascending first j d e b) (run.like d ∙ sym f))

-- a row with the face of a first use is the one that uses it, or it uses it later
pub only_this : (rows : List Tet) (uses : List Use) (first at : ℕ) (d : Use) (t : Tet) → AreAllUses rows uses → IsRunStart uses first at → at ≤ first
    → (k : ℕ) → k < length rows → has_face (get_or uses at d).face (get_or rows k t) ≡ true
    → ((j : ℕ) → at < j → j < length uses → get_or uses j d ≡ record { face = (get_or uses at d).face; row = k } → ⊥) → k ≡ (get_or uses at d).row
only_this rows uses first at d t a run le k h y later =
    let o = at_place rows uses a k t (get_or uses at d).face d h y in
    place o.0 o.1 o.2 (cases_order o.0 at)
  where
    place : (j : ℕ) → j < length uses → get_or uses j d ≡ record { face = (get_or uses at d).face; row = k } → (j ≡ at) ⊎ ((j < at) ⊎ (at < j)) → k ≡ (get_or uses at d).row
    place j b u (inl e) = sym (ap (λ x. x.row) u) ∙ ap (λ i. (get_or uses i d).row) e
    place j b u (inr (inl e)) = absurd (run.least j d (omega (arith, e, le, run.within)) (ap (λ x. x.face) u))
    place j b u (inr (inr e)) = absurd (later j e b u)

-- a row that has a face is the partner of another one where each lesser row that has the face is that one
partner_is : (rows : List Tet) (i j : ℕ) (f : Face) (d : Tet) → j < length rows → ¬ (j ≡ i) → has_face f (get_or rows j d) ≡ true
    → ((k : ℕ) → k < j → has_face f (get_or rows k d) ≡ true → k ≡ i) → partner rows i f ≡ Some j
partner_is rows i j f d h n t b =
    first_is (is_partner i f) 0 j rows d h (subst (λ m. is_partner i f (m, get_or rows j d) ≡ true) (sym (zero-add j)) (both _ _ (ap not (ne_eqb j i n)) t))
    (λ k l. subst (λ m. is_partner i f (m, get_or rows k d) ≡ false) (sym (zero-add k)) (not_partner i k f (get_or rows k d) (b k l)))
    ∙ ap Some (zero-add j)

-- a row has no partner where each row that has the face is that one
partner_is_none : (rows : List Tet) (i : ℕ) (f : Face) (d : Tet)
    → ((k : ℕ) → k < length rows → has_face f (get_or rows k d) ≡ true → k ≡ i) → partner rows i f ≡ None
partner_is_none rows i f d b =
    first_is_none (is_partner i f) 0 rows d (λ k l. subst (λ m. is_partner i f (m, get_or rows k d) ≡ false) (sym (zero-add k)) (not_partner i k f (get_or rows k d) (b k l)))

-- the least row that uses a face is the partner of the other rows that use it
pub partner_first : (rows : List Tet) (uses : List Use) (first at : ℕ) (d : Use) → AreAllUses rows uses → IsRunStart uses first at → first < at → at < length uses
    → partner rows (get_or uses at d).row (get_or uses at d).face ≡ Some (get_or uses first d).row
partner_first rows uses first at d a run lt there =
    let u = get_or uses first d in
    let v = get_or uses at d in
    let o = of_row rows uses a first d (omega arith) in
    let t : Tet = record { a = 0; b = 0; c = 0; d = 0 } in
    let less : u.row < v.row = row_less u v (a.ascending first at d lt there) (run.like d) in
    partner_is rows v.row u.row v.face t o.0 (λ e. omega (arith, less, e)) (subst (λ f. has_face f (get_or rows u.row t) ≡ true) (run.like d) (o.1 t))
    (λ k l y. absurd (no_lesser rows uses first at d t a run there k l (omega (arith, l, o.0)) y))

-- the use after one is of its face where a later one is
pub next_like : (uses : List Use) (at : ℕ) (d : Use) → AllPairs UseBefore uses → (j : ℕ) → at < j → j < length uses
    → (get_or uses j d).face ≡ (get_or uses at d).face → (get_or uses (at + 1) d).face ≡ (get_or uses at d).face
next_like uses at d up j b h f = place (cases_order j (at + 1))
  where
    place : (j ≡ at + 1) ⊎ ((j < at + 1) ⊎ (at + 1 < j)) → (get_or uses (at + 1) d).face ≡ (get_or uses at d).face
    place (inl e) = subst (λ i. (get_or uses i d).face ≡ (get_or uses at d).face) e f
    place (inr (inl e)) = absurd (omega (arith, b, e))
    place (inr (inr e)) = between (get_or uses at d) (get_or uses (at + 1) d) (get_or uses j d) (up at (at + 1) d (omega arith) (omega arith)) (up (at + 1) j d e h) (sym f) ∙ f

-- no use after the next one is by a lesser row
after_next : (uses : List Use) (at : ℕ) (d : Use) → AllPairs UseBefore uses → (j : ℕ) → at < j → j < length uses → {k : ℕ} → (get_or uses j d).row ≡ k
    → (get_or uses j d).face ≡ (get_or uses at d).face → (get_or uses (at + 1) d).face ≡ (get_or uses at d).face → k < (get_or uses (at + 1) d).row → ⊥
after_next uses at d up j b h {k} r f e l = place (cases_order j (at + 1))
  where
    place : (j ≡ at + 1) ⊎ ((j < at + 1) ⊎ (at + 1 < j)) → ⊥
    place (inl p) = omega (arith, l, r, ap (λ i. (get_or uses i d).row) p)
    place (inr (inl p)) = omega (arith, b, p)
    place (inr (inr p)) = omega (arith, l, r, row_less (get_or uses (at + 1) d) (get_or uses j d) (up (at + 1) j d p h) (e ∙ sym f))

-- a use that follows the first one of its face has the least other row that uses it
pub partner_next : (rows : List Tet) (uses : List Use) (first at : ℕ) (d : Use) → AreAllUses rows uses → IsRunStart uses first at → at ≤ first → at + 1 < length uses
    → (get_or uses (at + 1) d).face ≡ (get_or uses at d).face → partner rows (get_or uses at d).row (get_or uses at d).face ≡ Some (get_or uses (at + 1) d).row
partner_next rows uses first at d a run le there e =
    let v = get_or uses at d in
    let w = get_or uses (at + 1) d in
    let o = of_row rows uses a (at + 1) d there in
    let t : Tet = record { a = 0; b = 0; c = 0; d = 0 } in
    let less : v.row < w.row = row_less v w (a.ascending at (at + 1) d (omega arith) there) (sym e) in
    partner_is rows v.row w.row v.face t o.0 (λ e. omega (arith, less, e)) (subst (λ f. has_face f (get_or rows w.row t) ≡ true) e (o.1 t))
    (λ k l y. only_this rows uses first at d t a run le k (omega (arith, l, o.0)) y (λ j b h u. after_next uses at d a.ascending j b h (ap (λ x. x.row) u) (ap (λ x. x.face) u) e l))

-- a use has no partner where no other one is of its face
pub partner_none : (rows : List Tet) (uses : List Use) (first at : ℕ) (d : Use) → AreAllUses rows uses → IsRunStart uses first at → at ≤ first → at < length uses
    → (at + 1 < length uses → ¬ ((get_or uses (at + 1) d).face ≡ (get_or uses at d).face)) → partner rows (get_or uses at d).row (get_or uses at d).face ≡ None
partner_none rows uses first at d a run le there n =
    let t : Tet = record { a = 0; b = 0; c = 0; d = 0 } in
    partner_is_none rows _ _ t (λ k l y. only_this rows uses first at d t a run le k l y (λ j b h u. n (omega arith) (next_like uses at d a.ascending j b h (ap (λ x. x.face) u))))
