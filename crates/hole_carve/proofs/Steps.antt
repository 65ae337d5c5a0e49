-- Ways from rows, by their partners.
use Rattle.std.proofs.Common.{◌≡◌, ℕ, zero, suc, ◌+◌, ◌<◌, Bool, true, false, cond, Some, None, List, [], ◌∷◌, length, map, refl, ap, sym, subst, ◌∙◌, arith}
use Rattle.std.specs.Prelude.{slice_index_or, Contains, Option, ◌↔◌}
use Rattle.std.proofs.lemmas.Bool.{true≢false}
use Rattle.geo_laws.specs.Faces.{face_of}
use Rattle.geo_laws.proofs.Members.{contains_of, member_of, some_true, any_true}
use Rattle.std.specs.List.{enumerate_from}
use Rattle.geo_laws.specs.declared.faces.Face.{Face}
use Rattle.geo_laws.specs.declared.tetrahedra.Tet.{Tet}
use Rattle.incidence.specs.declared.pairs.Across.{Across}
use Rattle.incidence.specs.Pairs.{is_face, across_of, pairs_of, across_at}
use Rattle.incidence.proofs.Partners.{face_same, face_itself}
use Rattle.hole_carve.specs.Ways.{other_side, is_closed, way_through, ways_through, ways_of, IsWayThrough, AreWaysThrough, AreWays}
use Rattle.geo_laws.specs.Delaunay.{row_at}

at_numbered : (f : ℕ × Tet → Across) (from : ℕ) (rows : List Tet) (i : ℕ) (d : Across) (e : Tet) → i < length rows → slice_index_or (map f (enumerate_from from rows)) i d ≡ f (from + i, slice_index_or rows i e)
at_numbered f from [] i d e h = absurd (omega arith)
at_numbered f from (t ∷ rows) zero d e h = ap (λ n. f (n, t)) (let z : from ≡ from + 0 = omega arith in z)
at_numbered f from (t ∷ rows) (suc i) d e h = at_numbered f (from + 1) rows i d e (omega arith) ∙ ap (λ n. f (n, slice_index_or rows i e)) (let z : from + 1 + i ≡ from + suc i = omega arith in z)

map-length : (f : ℕ × Tet → Across) (from : ℕ) (rows : List Tet) → length (map f (enumerate_from from rows)) ≡ length rows
map-length f from [] = refl
map-length f from (t ∷ rows) = let r = map-length f (from + 1) rows in omega arith

-- what is across the faces of each row
pub pairs_at : (rows : List Tet) (i : ℕ) (d : Across) → i < length rows → slice_index_or (pairs_of rows) i d ≡ across_of rows i (row_at rows i)
pairs_at rows i d h = at_numbered (λ r. across_of rows r.0 r.1) 0 rows i d _ h ∙ ap (λ n. across_of rows n (row_at rows i)) (let z : 0 + i ≡ i = omega arith in z)

pub pairs-length : (rows : List Tet) → length (pairs_of rows) ≡ length rows
pairs-length rows = map-length (λ r. across_of rows r.0 r.1) 0 rows

-- ---- closed faces

pub closed_is : (closed : List Face) (f : Face) (b : Bool) → (b ≡ true) ↔ Contains closed f → is_closed closed f ≡ b
closed_is closed f b h = by (is_closed closed f) b refl refl
  where
    found : b ≡ true → is_closed closed f ≡ true
    found e = let c = h.0 e in any_true (λ g. is_face g f) closed f (member_of closed f c) (face_itself f f refl)

    back : is_closed closed f ≡ true → b ≡ true
    back e = let g = some_true (λ g. is_face g f) closed e in h.1 (subst (Contains closed) (face_same g.0 f g.2) (contains_of closed g.0 g.1))

    by : (x y : Bool) → is_closed closed f ≡ x → b ≡ y → is_closed closed f ≡ b
    by true true d e = d ∙ sym e
    by false false d e = d ∙ sym e
    by true false d e = absurd (true≢false (sym (back d) ∙ e))
    by false true d e = absurd (true≢false (sym (found e) ∙ d))

pub has_closed : (closed : List Face) (f : Face) → Contains closed f → is_closed closed f ≡ true
has_closed closed f c = closed_is closed f true (λ e. c, λ d. refl)

pub not_closed : (closed : List Face) (f : Face) → ¬ Contains closed f → is_closed closed f ≡ false
not_closed closed f n = closed_is closed f false (λ e. absurd (true≢false (sym e)), λ c. absurd (n c))

-- ---- the ways

abbrev row_ways : List Face → List Tet → ℕ × Tet → Across
row_ways closed rows r = ways_through closed r.1 (across_of rows r.0 r.1) (length rows)

pub ways-length : (closed : List Face) (rows : List Tet) → length (ways_of closed rows) ≡ length rows
ways-length closed rows = map-length (row_ways closed rows) 0 rows

pub ways_at : (closed : List Face) (rows : List Tet) (i : ℕ) → i < length rows → across_at (ways_of closed rows) i ≡ ways_through closed (row_at rows i) (across_of rows i (row_at rows i)) (length rows)
ways_at closed rows i h = at_numbered (row_ways closed rows) 0 rows i _ _ h ∙ ap (λ n. row_ways closed rows (n, row_at rows i)) (let z : 0 + i ≡ i = omega arith in z)

pub is_through : (closed : List Face) (f : Face) (partner : Option ℕ) (beyond : ℕ) → IsWayThrough closed f partner beyond (way_through closed f partner beyond)
is_through closed f partner beyond = record {
  closes = λ c. ap (λ b. cond b None (Some (other_side partner beyond))) (has_closed closed f c);
  opens = λ n. ap (λ b. cond b None (Some (other_side partner beyond))) (not_closed closed f n);
}

are_through : (closed : List Face) (t : Tet) (x : Across) (beyond : ℕ) → AreWaysThrough closed t x beyond (ways_through closed t x beyond)
are_through closed t x beyond zero h = is_through closed (face_of t.b t.c t.d) x.n0 beyond
are_through closed t x beyond (suc zero) h = is_through closed (face_of t.a t.c t.d) x.n1 beyond
are_through closed t x beyond (suc (suc zero)) h = is_through closed (face_of t.a t.b t.d) x.n2 beyond
are_through closed t x beyond (suc (suc (suc zero))) h = is_through closed (face_of t.a t.b t.c) x.n3 beyond
are_through closed t x beyond (suc (suc (suc (suc k)))) h = absurd (omega arith)

pub are_ways : (closed : List Face) (rows : List Tet) → AreWays closed rows (ways_of closed rows)
are_ways closed rows = record {
  long = ways-length closed rows;
  each = λ i h. subst (AreWaysThrough closed (row_at rows i) (across_of rows i (row_at rows i)) (length rows)) (sym (ways_at closed rows i h))
      (are_through closed (row_at rows i) (across_of rows i (row_at rows i)) (length rows));
}
