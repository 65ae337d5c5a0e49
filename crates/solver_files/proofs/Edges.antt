-- Edges that ascend, and their places.
use Rattle.std.proofs.Common.{◌≡◌, inl, inr, ℕ, suc, ◌<◌, true, false, List, [], ◌∷◌, length, get_or, sym, ap, subst, ◌∙◌, arith}
use Rattle.std.specs.Prelude.{AllPairs, Contains}
use Rattle.std.specs.List.Sorted.{IsPartitionedBy}
use Rattle.std.proofs.lemmas.Bool.{cases_eq}
use Rattle.std.proofs.lemmas.Bool.Decides.{nat_tests}
use Rattle.std.proofs.lemmas.List.{get_or_default}
use Rattle.std.proofs.lemmas.List.Sums.{prefix_len_is}
use Rattle.geo_laws.specs.Faces.{AreSidesOf, SideBefore, sides_of_rows}
use Rattle.geo_laws.specs.declared.faces.Side.{Side}
use Rattle.geo_laws.specs.declared.tetrahedra.Tet.{Tet}
use Rattle.geo_laws.proofs.Members.{contains_of, found_of, member_of}
use Rattle.geo_laws.proofs.Ascending.{Rises, none, more, rises-same}
use Rattle.solver_files.specs.Second.{is_before, place_of}
use Rattle.solver_files.specs.SecondLaws.{MiddleLaw}

pub before_is : (s t : Side) → SideBefore s t → is_before s t ≡ true
before_is s t (inl lt) = grind (arith, nat_tests)
before_is s t (inr both) = let e = both.0 in let lt = both.1 in grind (arith, nat_tests)

pub before_of : (s t : Side) → is_before s t ≡ true → SideBefore s t
before_of s t e = grind (arith, nat_tests)

not_before_itself : (s : Side) → is_before s s ≡ false
not_before_itself s = grind (arith, nat_tests)

never_itself : (s : Side) → SideBefore s s → ⊥
never_itself s (inl lt) = omega (arith, lt)
never_itself s (inr both) = let lt = both.1 in omega (arith, lt)

onward : (s t u : Side) → SideBefore s t → SideBefore t u → SideBefore s u
onward s t u (inl h) (inl k) = inl (omega (arith, h, k))
onward s t u (inl h) (inr k) = let e = k.0 in inl (omega (arith, h, e))
onward s t u (inr h) (inl k) = let e = h.0 in inl (omega (arith, k, e))
onward s t u (inr h) (inr k) = let l = h.1 in let r = k.1 in inr (h.0 ∙ k.0, omega (arith, l, r))

-- those before an edge are in front
pub parted : (sides : List Side) (s : Side) → AllPairs SideBefore sides → IsPartitionedBy (λ t. is_before t s) sides
parted sides s up i j d le lt e =
    elim (cases_eq i j) [
      | inl is ↦ subst (λ (k : ℕ). is_before (get_or sides k d) s ≡ true) (sym is) e
      | inr not ↦ before_is (get_or sides i d) s (onward (get_or sides i d) (get_or sides j d) s (up i j d (omega (arith, le, not)) lt) (before_of (get_or sides j d) s e))
    ]

-- the place of the edge at a place is that place
place_at : (sides : List Side) → AllPairs SideBefore sides → (k : ℕ) (s : Side) → k < length sides → get_or sides k s ≡ s → place_of sides s ≡ k
place_at sides up k s lt is =
    prefix_len_is (λ t. is_before t s) sides k s (omega (arith, lt))
    (λ i l. before_is (get_or sides i s) s (subst (SideBefore (get_or sides i s)) is (up i k s l lt)))
    (λ l. subst (λ (t : Side). is_before t s ≡ false) (sym is) (not_before_itself s))

pub law_middles : MiddleLaw
law_middles m are = record {
  places = λ s c.
      let found = (are.exactly s).1 c in
      let here : place_of m.sides s ≡ found.0 = place_at m.sides are.ascending found.0 s found.1 found.2 in
      λ d. ap (λ (k : ℕ). get_or m.sides k d) here ∙ get_or_default m.sides found.0 d s found.1 ∙ found.2;
  once = λ i j d l k e. never_itself (get_or m.sides j d) (subst (λ (t : Side). SideBefore t (get_or m.sides j d)) e (are.ascending i j d l k));
  only = λ s c. (are.exactly s).0 c;
}

-- ---- the edges of tetrahedra are one list

rises : (xs : List Side) → AllPairs SideBefore xs → Rises SideBefore xs
rises [] h = none
rises (x ∷ xs) h =
    more (λ y m. let f = found_of xs y m in let l = f.within in subst (SideBefore x) (f.is x) (h 0 (suc f.place) x (omega arith) (omega arith)))
    (rises xs (λ i j d l k. h (suc i) (suc j) d (omega arith) (omega arith)))

never : (s t : Side) → SideBefore s t → SideBefore t s → ⊥
never s t h k = never_itself s (onward s t s h k)

pub sides_same : (rows rows' : List Tet) (xs ys : List Side) → rows ≡ rows' → AreSidesOf rows xs → AreSidesOf rows' ys → xs ≡ ys
sides_same rows rows' xs ys is a b =
    let across = λ (s : Side) (c : Contains (sides_of_rows rows) s). subst (λ (r : List Tet). Contains (sides_of_rows r) s) is c in
    let back = λ (s : Side) (c : Contains (sides_of_rows rows') s). subst (λ (r : List Tet). Contains (sides_of_rows r) s) (sym is) c in
    rises-same SideBefore never xs ys (rises xs a.ascending) (rises ys b.ascending)
    (λ s m. member_of ys s ((b.exactly s).1 (across s ((a.exactly s).0 (contains_of xs s m)))))
    (λ s m. member_of xs s ((a.exactly s).1 (back s ((b.exactly s).0 (contains_of ys s m)))))
