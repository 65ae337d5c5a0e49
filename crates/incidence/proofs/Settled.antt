-- What is across the faces of rows while the uses of faces are gone through.
use Rattle.std.proofs.Common.{◌≡◌, ◌⊎◌, inl, inr, ℕ, ◌+◌, ◌<◌, ◌≤◌, Bool, true, false, cond, Option, None, List, length, get_or, set, refl, sym, subst, ap, ◌∙◌, zero-add, arith}
use Rattle.std.specs.List.{enumerate_from}
use Rattle.std.proofs.lemmas.Grind.{get_or-set_at}
use Rattle.std.proofs.lemmas.List.{get_or_default, get_or-set_other, get_or-map, length-map, ext_get_or}
use Rattle.std.proofs.lemmas.List.FromFn.{length-enumerate_from, get_or-enumerate_from}
use Rattle.std.proofs.lemmas.Bool.{cases_order, true≢false}
use Rattle.geo_laws.specs.Faces.{face_of}
use Rattle.geo_laws.specs.declared.faces.Face.{Face}
use Rattle.geo_laws.specs.declared.tetrahedra.Tet.{Tet}
use Rattle.incidence.specs.declared.half_faces.Corner.TheVariants.{A, B, C, D}
use Rattle.incidence.specs.declared.uses.Use.{Use}
use Rattle.incidence.specs.HalfFaces.{opposite_row_face}
use Rattle.incidence.specs.declared.pairs.Across.{Across}
use Rattle.incidence.specs.Pairs.{is_face, has_face, is_partner, partner, across_of, pairs_of, with_partner, IsAcrossWithin, AreAllWithin}
use Rattle.incidence.specs.Uses.{AreAllUses}
use Rattle.incidence.proofs.Firsts.{first_within}
use Rattle.incidence.proofs.Partners.{face_same, face_itself, at_place, has_opposite}

-- what is across a face of a row is its partner, or the use of the face by the row is still to come
abbrev pub IsSettled : List Tet → List Use → ℕ → ℕ → Face → Option ℕ → Type 0
IsSettled rows uses at place f o = (o ≡ partner rows place f) ⊎ ((j : ℕ) × (at ≤ j) × (j < length uses) × ((d : Use) → get_or uses j d ≡ record { face = f; row = place }))

pub record AreSettled (rows : List Tet) (uses : List Use) (at place : ℕ) (t : Tet) (x : Across) : Type 0 where
  pub across_0 : IsSettled rows uses at place (face_of t.b t.c t.d) x.n0
  pub across_1 : IsSettled rows uses at place (face_of t.a t.c t.d) x.n1
  pub across_2 : IsSettled rows uses at place (face_of t.a t.b t.d) x.n2
  pub across_3 : IsSettled rows uses at place (face_of t.a t.b t.c) x.n3

abbrev pub AllSettled : List Tet → List Use → ℕ → List Across → Type 0
AllSettled rows uses at xs = (i : ℕ) (t : Tet) (x : Across) → i < length rows → AreSettled rows uses at i (get_or rows i t) (get_or xs i x)

-- the row that uses the face at this place gets its partner across that face
settled_here : (rows : List Tet) (uses : List Use) (at : ℕ) (here : Use) (f : Face) (o p : Option ℕ) → ((d : Use) → get_or uses at d ≡ here) → p ≡ partner rows here.row here.face
    → IsSettled rows uses at here.row f o → IsSettled rows uses (at + 1) here.row f (cond (is_face f here.face) p o)
settled_here rows uses at here f o p is e s = by (is_face f here.face) refl s
  where
    later : (j : ℕ) → at ≤ j → j < length uses → ((d : Use) → get_or uses j d ≡ record { face = f; row = here.row }) → is_face f here.face ≡ false → (j ≡ at) ⊎ ((j < at) ⊎ (at < j)) → IsSettled rows uses (at + 1) here.row f o
    later j m l u n (inl q) = absurd (true≢false (sym (face_itself f here.face (ap (λ x. x.face) (sym (u here) ∙ ap (λ i. get_or uses i here) q ∙ is here))) ∙ n))
    later j m l u n (inr (inl q)) = absurd (omega (arith, m, q))
    later j m l u n (inr (inr q)) = inr (j, omega (arith, q), l, u)

    by : (b : Bool) → is_face f here.face ≡ b → IsSettled rows uses at here.row f o → IsSettled rows uses (at + 1) here.row f (cond b p o)
    by true q h = inl (e ∙ ap (partner rows here.row) (sym (face_same f here.face q)))
    by false q (inl h) = inl h
    by false q (inr h) = later h.0 h.1 h.2 h.3 q (cases_order h.0 at)

-- the others stay as they are
settled_there : (rows : List Tet) (uses : List Use) (at i : ℕ) (here : Use) (f : Face) (o : Option ℕ) → ((d : Use) → get_or uses at d ≡ here) → ¬ (i ≡ here.row)
    → IsSettled rows uses at i f o → IsSettled rows uses (at + 1) i f o
settled_there rows uses at i here f o is n (inl h) = inl h
settled_there rows uses at i here f o is n (inr h) = later h.0 h.1 h.2 h.3 (cases_order h.0 at)
  where
    later : (j : ℕ) → at ≤ j → j < length uses → ((d : Use) → get_or uses j d ≡ record { face = f; row = i }) → (j ≡ at) ⊎ ((j < at) ⊎ (at < j)) → IsSettled rows uses (at + 1) i f o
    later j m l u (inl q) = absurd (n (ap (λ x. x.row) (sym (u here) ∙ ap (λ i. get_or uses i here) q ∙ is here)))
    later j m l u (inr (inl q)) = absurd (omega (arith, m, q))
    later j m l u (inr (inr q)) = inr (j, omega (arith, q), l, u)

pub settled_next : (rows : List Tet) (uses : List Use) (at : ℕ) (xs : List Across) (here : Use) (row : Tet) (p : Option ℕ)
    (d new : Across) → length xs ≡ length rows → here.row < length rows → ((u : Use) → get_or uses at u ≡ here) → ((t : Tet) → get_or rows here.row t ≡ row)
    → p ≡ partner rows here.row here.face → new ≡ with_partner row here.face p (get_or xs here.row d) → AllSettled rows uses at xs → AllSettled rows uses (at + 1) (set xs here.row new)
settled_next rows uses at xs here row p d new long within is is_row e made s i t x l = by (cases_order i here.row)
  where
    old : Across
    old = get_or xs here.row d

    one : AreSettled rows uses at here.row row old
    one = subst (λ r. AreSettled rows uses at here.row r old) (is_row t) (s here.row t d within)

    same : i ≡ here.row → AreSettled rows uses (at + 1) i (get_or rows i t) (get_or (set xs here.row new) i x)
    same q =
        let at_new : get_or (set xs here.row new) i x ≡ new = get_or-set_at xs here.row i new x q (omega (arith, long, within)) in
        let at_row : get_or rows i t ≡ row = ap (λ k. get_or rows k t) q ∙ is_row t in
        let P : ℕ → Tet → Across → Type 0 = AreSettled rows uses (at + 1) in
        let now : P here.row row (with_partner row here.face p old) = record {
          across_0 = settled_here rows uses at here (face_of row.b row.c row.d) old.n0 p is e one.across_0;
          across_1 = settled_here rows uses at here (face_of row.a row.c row.d) old.n1 p is e one.across_1;
          across_2 = settled_here rows uses at here (face_of row.a row.b row.d) old.n2 p is e one.across_2;
          across_3 = settled_here rows uses at here (face_of row.a row.b row.c) old.n3 p is e one.across_3;
        } in
        subst (λ k. P k (get_or rows i t) (get_or (set xs here.row new) i x)) (sym q) (subst (λ r. P here.row r (get_or (set xs here.row new) i x)) (sym at_row) (subst (P here.row row) (sym (at_new ∙ made)) now))

    other : ¬ (i ≡ here.row) → AreSettled rows uses (at + 1) i (get_or rows i t) (get_or (set xs here.row new) i x)
    other n =
        let was = s i t x l in
        let at_old : get_or (set xs here.row new) i x ≡ get_or xs i x = get_or-set_other xs here.row i new x n in
        subst (AreSettled rows uses (at + 1) i (get_or rows i t)) (sym at_old) (record {
          across_0 = settled_there rows uses at i here _ _ is n was.across_0;
          across_1 = settled_there rows uses at i here _ _ is n was.across_1;
          across_2 = settled_there rows uses at i here _ _ is n was.across_2;
          across_3 = settled_there rows uses at i here _ _ is n was.across_3;
        })

    by : (i ≡ here.row) ⊎ ((i < here.row) ⊎ (here.row < i)) → AreSettled rows uses (at + 1) i (get_or rows i t) (get_or (set xs here.row new) i x)
    by (inl q) = same q
    by (inr (inl q)) = other (λ e. omega (arith, q, e))
    by (inr (inr q)) = other (λ e. omega (arith, q, e))

-- at the beginning all uses are still to come
pub settled_first : (rows : List Tet) (uses : List Use) (xs : List Across) → AreAllUses rows uses → AllSettled rows uses 0 xs
settled_first rows uses xs a i t x l = record {
  across_0 = to_come (opposite_row_face r A) (get_or xs i x).n0 (has_opposite r A);
  across_1 = to_come (opposite_row_face r B) (get_or xs i x).n1 (has_opposite r B);
  across_2 = to_come (opposite_row_face r C) (get_or xs i x).n2 (has_opposite r C);
  across_3 = to_come (opposite_row_face r D) (get_or xs i x).n3 (has_opposite r D);
}
  where
    r : Tet
    r = get_or rows i t

    to_come : (f : Face) (o : Option ℕ) → has_face f r ≡ true → IsSettled rows uses 0 i f o
    to_come f o h =
        let u = at_place rows uses a i t f (record { face = f; row = i }) l h in
        inr (u.0, omega arith, u.1, λ d. get_or_default uses u.0 d (record { face = f; row = i }) u.1 ∙ u.2)

-- what is across the faces opposite the corners decides all
pub by_corners : (x y : Across) → x.n0 ≡ y.n0 → x.n1 ≡ y.n1 → x.n2 ≡ y.n2 → x.n3 ≡ y.n3 → x ≡ y
by_corners x y e0 e1 e2 e3 =
    let across : Option ℕ → Option ℕ → Option ℕ → Option ℕ → Across = λ a b c d. record { n0 = a; n1 = b; n2 = c; n3 = d } in
    ap (λ a. across a x.n1 x.n2 x.n3) e0 ∙ ap (λ b. across y.n0 b x.n2 x.n3) e1 ∙ ap (λ c. across y.n0 y.n1 c x.n3) e2 ∙ ap (λ d. across y.n0 y.n1 y.n2 d) e3

is_partner_now : (rows : List Tet) (uses : List Use) (at i : ℕ) (f : Face) (o : Option ℕ) → length uses ≤ at → IsSettled rows uses at i f o → o ≡ partner rows i f
is_partner_now rows uses at i f o over (inl e) = e
is_partner_now rows uses at i f o over (inr h) = absurd (omega (arith, over, h.1, h.2))

none : Across
none = record { n0 = None; n1 = None; n2 = None; n3 = None }

no_row : Tet
no_row = record { a = 0; b = 0; c = 0; d = 0 }

pairs_of-length : (rows : List Tet) → length (pairs_of rows) ≡ length rows
pairs_of-length rows = length-map (enumerate_from 0 rows) (λ r. across_of rows r.0 r.1) ∙ length-enumerate_from 0 rows

-- the row at a place has its partners
pairs_of-at : (rows : List Tet) (i : ℕ) (d : Across) → i < length rows → get_or (pairs_of rows) i d ≡ across_of rows i (get_or rows i no_row)
pairs_of-at rows i d l =
    get_or-map at_row (enumerate_from 0 rows) i (0, no_row) d (omega (arith, l, length-enumerate_from 0 rows))
    ∙ ap at_row (get_or-enumerate_from 0 rows i (0, no_row) l ∙ ap (λ k. (k, get_or rows i no_row)) (zero-add i))
  where
    at_row : ℕ × Tet → Across
    at_row r = across_of rows r.0 r.1

-- partners are rows
pub pairs_within : (rows : List Tet) (xs : List Across) → xs ≡ pairs_of rows → AreAllWithin (length xs) xs
pairs_within rows xs e i d l =
    let long : length xs ≡ length rows = ap length e ∙ pairs_of-length rows in
    let l' : i < length rows = omega (arith, l, long) in
    let t : Tet = get_or rows i no_row in
    let at : get_or xs i d ≡ across_of rows i t = ap (λ ys. get_or ys i d) e ∙ pairs_of-at rows i d l' in
    let P : ℕ → Across → Type 0 = IsAcrossWithin in
    subst (λ x. P (length xs) x) (sym at) (subst (λ n. P n (across_of rows i t)) (sym (long ∙ sym (zero-add (length rows)))) (
      first_within (is_partner i (face_of t.b t.c t.d)) 0 rows,
      first_within (is_partner i (face_of t.a t.c t.d)) 0 rows,
      first_within (is_partner i (face_of t.a t.b t.d)) 0 rows,
      first_within (is_partner i (face_of t.a t.b t.c)) 0 rows,
    ))

-- at the end each row has its partners
pub settled_last : (rows : List Tet) (uses : List Use) (at : ℕ) (xs : List Across) → length xs ≡ length rows → length uses ≤ at → AllSettled rows uses at xs → xs ≡ pairs_of rows
settled_last rows uses at xs long over s = ext_get_or none xs (pairs_of rows) (long ∙ sym (pairs_of-length rows)) same
  where
    same : (i : ℕ) → i < length xs → get_or xs i none ≡ get_or (pairs_of rows) i none
    same i l =
        let within : i < length rows = omega (arith, l, long) in
        let h = s i no_row none within in
        let now = is_partner_now rows uses at i in
        by_corners (get_or xs i none) (across_of rows i (get_or rows i no_row)) (now _ _ over h.across_0) (now _ _ over h.across_1) (now _ _ over h.across_2) (now _ _ over h.across_3)
        ∙ sym (pairs_of-at rows i none within)
