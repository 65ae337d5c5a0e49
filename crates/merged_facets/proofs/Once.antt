-- At how many places a polygon has a side, and how its other sides are met.
use Rattle.std.proofs.Common.{◌≡◌, ◌≢◌, ◌⊎◌, inl, inr, ℕ, zero, suc, ◌+◌, ◌<◌, ◌≤◌, Bool, true, false, cond, List, [], ◌∷◌, ◌++◌, map, take, drop, length, get_or, nat_eq, refl, ap, sym, ◌∙◌, subst, arith, eqb-true, eq-eqb, ne_eqb}
use Rattle.std.specs.Prelude.{◌==◌, not, count_by, fold, zip, IsTrue, ◌↔◌}
use Rattle.std.specs.List.{AllByRecursion}
use Rattle.std.proofs.lemmas.List.Sums.{fold-append}
use Rattle.sign_predicates.specs.Point.{Point}
use Rattle.geo_laws.specs.Delaunay.{HasDistinctPoints}
use Rattle.geo_laws.specs.Segment.{piece, sides, same_ends}
use Rattle.geo_laws.specs.Simplex.{ProperlyMet}
use Rattle.geo_laws.specs.declared.complex.Piece.{Piece}
use Rattle.geo_laws.proofs.Members.{IsMember, in_cons, in_head, here, there, map_cases, in_map, filter_cases, in_filter}
use Rattle.facet_laws.proofs.Facets.{all_append, all_in}
use Rattle.facet_laws.proofs.Chains.{all_at, all_sides as sides_all}
use Rattle.facet_laws.proofs.Pieces.{points_differ}
use Rattle.merged_facets.specs.Merged.{MeetsOthers}
use Rattle.incidence.proofs.Polygons.{sides_before, IsNext, before_more, all_sides}
use Rattle.simplex_meets.specs.Proper.{IsSegment}
use Rattle.merged_facets.specs.Beside.{IsSideAmong, HasSideOnce}

-- a side with other ends is properly met
abbrev pub IsMetApart : List Point → Piece → Piece → Type 0
IsMetApart ps s r = same_ends s r ≡ false → ProperlyMet ps (s.a ∷ s.b ∷ []) (r.a ∷ r.b ∷ [])

count_more : (p : Piece → Bool) (xs : List Piece) (x : Piece) → count_by p (xs ++ x ∷ []) ≡ count_by p xs + cond (p x) 1 0
count_more p xs x = fold-append (λ n y. n + cond (p y) 1 0) 0 xs (x ∷ [])

append_nil : {X : Type 0} (xs : List X) → xs ++ [] ≡ xs
append_nil [] = refl
append_nil (x ∷ xs) = ap (λ zs. x ∷ zs) (append_nil xs)

-- one side more
pub one_more : (polygon : List ℕ) (k next a b : ℕ) → k < length polygon → IsNext polygon k next → get_or polygon k 0 ≡ a → get_or polygon next 0 ≡ b → a ≢ b
    → sides_before (k + 1) polygon ≡ sides_before k polygon ++ piece a b 0 ∷ []
one_more polygon k next a b h is first second differs =
    before_more polygon k next a b h is first second ∙ ap (λ t. sides_before k polygon ++ cond (not t) (piece a b 0 ∷ []) []) (ne_eqb a b differs)

-- or none
pub none_more : (polygon : List ℕ) (k next a b : ℕ) → k < length polygon → IsNext polygon k next → get_or polygon k 0 ≡ a → get_or polygon next 0 ≡ b → a ≡ b
    → sides_before (k + 1) polygon ≡ sides_before k polygon
none_more polygon k next a b h is first second same =
    before_more polygon k next a b h is first second ∙ ap (λ t. sides_before k polygon ++ cond (not t) (piece a b 0 ∷ []) []) (eq-eqb a b same) ∙ append_nil (sides_before k polygon)

-- the count and the test with one side more
pub count_with : (s r : Piece) (xs : List Piece) → same_ends s r ≡ true → count_by (same_ends s) (xs ++ r ∷ []) ≡ count_by (same_ends s) xs + 1
count_with s r xs e = count_more (same_ends s) xs r ∙ ap (λ b. count_by (same_ends s) xs + cond b 1 0) e

pub count_without : (s r : Piece) (xs : List Piece) → same_ends s r ≡ false → count_by (same_ends s) (xs ++ r ∷ []) ≡ count_by (same_ends s) xs
count_without s r xs e = count_more (same_ends s) xs r ∙ ap (λ b. count_by (same_ends s) xs + cond b 1 0) e ∙ plus_none (count_by (same_ends s) xs)
  where
    plus_none : (n : ℕ) → n + 0 ≡ n
    plus_none n = omega arith

pub met_with : (ps : List Point) (s r : Piece) (xs : List Piece) → AllByRecursion (IsMetApart ps s) xs → IsMetApart ps s r → AllByRecursion (IsMetApart ps s) (xs ++ r ∷ [])
met_with ps s r xs h k = all_append (IsMetApart ps s) xs (r ∷ []) h (k, tt)

clash : (b : Bool) → b ≡ true → b ≡ false → ⊥
clash b h k = cc

pub met_same : (ps : List Point) (s r : Piece) → same_ends s r ≡ true → IsMetApart ps s r
met_same ps s r e f = absurd (clash (same_ends s r) e f)

-- ---- the count so far

-- of the sides from the first k corners so many have the ends, and the others are properly met
pub record IsCounted (ps : List Point) (s : Piece) (polygon : List ℕ) (k places : ℕ) : Type 0 where
  pub counted : places ≡ count_by (same_ends s) (sides_before k polygon)
  pub few : places ≤ k
  pub met : AllByRecursion (IsMetApart ps s) (sides_before k polygon)

pub counted_same : (ps : List Point) (s r : Piece) (polygon : List ℕ) (k places new : ℕ) → IsCounted ps s polygon k places → sides_before (k + 1) polygon ≡ sides_before k polygon ++ r ∷ []
    → same_ends s r ≡ true → new ≡ places + 1 → IsCounted ps s polygon (k + 1) new
counted_same ps s r polygon k places new h e same is = record {
  counted = is ∙ ap (λ n. n + 1) h.counted ∙ sym (count_with s r (sides_before k polygon) same) ∙ ap (count_by (same_ends s)) (sym e);
  few = omega (arith, h.few);
  met = subst (λ (xs : List Piece). AllByRecursion (IsMetApart ps s) xs) (sym e) (met_with ps s r (sides_before k polygon) h.met (met_same ps s r same));
}

pub counted_other : (ps : List Point) (s r : Piece) (polygon : List ℕ) (k places new : ℕ) → IsCounted ps s polygon k places → sides_before (k + 1) polygon ≡ sides_before k polygon ++ r ∷ []
    → same_ends s r ≡ false → ProperlyMet ps (s.a ∷ s.b ∷ []) (r.a ∷ r.b ∷ []) → new ≡ places → IsCounted ps s polygon (k + 1) new
counted_other ps s r polygon k places new h e other met is = record {
  counted = is ∙ h.counted ∙ sym (count_without s r (sides_before k polygon) other) ∙ ap (count_by (same_ends s)) (sym e);
  few = omega (arith, h.few);
  met = subst (λ (xs : List Piece). AllByRecursion (IsMetApart ps s) xs) (sym e) (met_with ps s r (sides_before k polygon) h.met (λ f. met));
}

pub counted_none : (ps : List Point) (s : Piece) (polygon : List ℕ) (k places new : ℕ) → IsCounted ps s polygon k places → sides_before (k + 1) polygon ≡ sides_before k polygon → new ≡ places
    → IsCounted ps s polygon (k + 1) new
counted_none ps s polygon k places new h e is = record {
  counted = is ∙ h.counted ∙ ap (count_by (same_ends s)) (sym e);
  few = omega (arith, h.few);
  met = subst (λ (xs : List Piece). AllByRecursion (IsMetApart ps s) xs) (sym e) h.met;
}

pub counted_all : (ps : List Point) (s : Piece) (polygon : List ℕ) (k places : ℕ) → IsCounted ps s polygon k places → k ≡ length polygon → IsTrue (nat_eq places 1) ↔ HasSideOnce ps s polygon
counted_all ps s polygon k places h e = (
  λ t. record { once = ap (count_by (same_ends s)) (sym (all_sides polygon k e)) ∙ sym h.counted ∙ eqb-true places 1 t; met = subst (λ (xs : List Piece). AllByRecursion (IsMetApart ps s) xs) (all_sides polygon k e) h.met },
  λ o. eq-eqb places 1 (h.counted ∙ ap (count_by (same_ends s)) (all_sides polygon k e) ∙ o.once),
)

pub refused : {P : Type 0} → (P → ⊥) → IsTrue false ↔ P
refused n = (λ e. absurd (never e), λ p. absurd (n p))
  where
    never : IsTrue false → ⊥
    never e = cc

pub not_true : IsTrue false → ⊥
not_true e = cc

-- ---- the sides so far are among all

pub taken : {X : Type 0} (x : X) (k : ℕ) (xs : List X) → IsMember x (take k xs) → IsMember x xs
taken x zero [] m = m
taken x zero (y ∷ xs) m = elim m [ ]
taken x (suc k) [] m = m
taken x (suc k) (y ∷ xs) m = go (in_cons x y (take k xs) m) (taken x k xs)
  where
    go : (x ≡ y) ⊎ IsMember x (take k xs) → (IsMember x (take k xs) → IsMember x xs) → IsMember x (y ∷ xs)
    go (inl e) rest = in_head x y xs e
    go (inr n) rest = there (rest n)

abbrev pub ways : List ℕ → List (ℕ × ℕ)
ways polygon = zip polygon (drop 1 polygon ++ take 1 polygon)

pub among : (r : Piece) (k : ℕ) (polygon : List ℕ) → IsMember r (sides_before k polygon) → IsMember r (sides polygon)
among r k polygon m =
    let f = filter_cases (λ (s : Piece). not (s.a == s.b)) r (map (λ (e : ℕ × ℕ). piece e.0 e.1 0) (take k (ways polygon))) m in
    let w = map_cases (λ (e : ℕ × ℕ). piece e.0 e.1 0) r (take k (ways polygon)) f.0 in
    in_filter (λ (s : Piece). not (s.a == s.b)) r (map (λ (e : ℕ × ℕ). piece e.0 e.1 0) (ways polygon))
    (subst (λ (x : Piece). IsMember x (map (λ (e : ℕ × ℕ). piece e.0 e.1 0) (ways polygon))) (sym w.2) (in_map (λ (e : ℕ × ℕ). piece e.0 e.1 0) w.0 (ways polygon) (taken w.0 k (ways polygon) w.1)))
    f.1

in_last : {X : Type 0} (x : X) (xs : List X) → IsMember x (xs ++ x ∷ [])
in_last x [] = here
in_last x (y ∷ xs) = there (in_last x xs)

-- a side that is not met
pub not_met : (ps : List Point) (s : Piece) (polygon : List ℕ) (k : ℕ) (r : Piece) → sides_before (k + 1) polygon ≡ sides_before k polygon ++ r ∷ [] → same_ends s r ≡ false
    → (ProperlyMet ps (s.a ∷ s.b ∷ []) (r.a ∷ r.b ∷ []) → ⊥) → MeetsOthers ps s polygon → ⊥
not_met ps s polygon k r e differs not h =
    not (all_at (IsMetApart ps s) r (sides polygon) h (among r (k + 1) polygon (subst (λ (xs : List Piece). IsMember r xs) (sym e) (in_last r (sides_before k polygon)))) differs)

-- ---- segments

pub side_segment : (ps : List Point) (s : Piece) → HasDistinctPoints ps → IsSideAmong ps s → IsSegment ps (record { a = s.a; b = s.b })
side_segment ps s distinct h = record { a_on = h.a_there; b_on = h.b_there; apart = points_differ ps distinct s.a s.b h.a_there h.b_there h.two }

pub two_segment : (ps : List Point) (a b : ℕ) → HasDistinctPoints ps → a < length ps → b < length ps → a ≢ b → IsSegment ps (record { a = a; b = b })
two_segment ps a b distinct ha hb n = record { a_on = ha; b_on = hb; apart = points_differ ps distinct a b ha hb n }

-- ---- a side that stands there has its ends among the corners

found_from : (p : Piece → Bool) (xs : List Piece) (n : ℕ) → (fold (λ n y. n + cond (p y) 1 0) n xs ≡ n → ⊥) → (x : Piece) × IsMember x xs × (p x ≡ true)
found_from p [] n h = absurd (h refl)
found_from p (x ∷ xs) n h = go (p x) refl (found_from p xs n)
  where
    plus : (n : ℕ) → n + 0 ≡ n
    plus n = omega arith

    go : (b : Bool) → p x ≡ b → ((fold (λ n y. n + cond (p y) 1 0) n xs ≡ n → ⊥) → (y : Piece) × IsMember y xs × (p y ≡ true)) → (y : Piece) × IsMember y (x ∷ xs) × (p y ≡ true)
    go true f rest = (x, here, f)
    go false f rest =
        let r = rest (λ e. h (ap (λ b. fold (λ n y. n + cond (p y) 1 0) (n + cond b 1 0) xs) f ∙ ap (λ m. fold (λ n y. n + cond (p y) 1 0) m xs) (plus n) ∙ e)) in
        (r.0, there r.1, r.2)

pub counted : (p : Piece → Bool) (xs : List Piece) → count_by p xs ≡ 1 → (x : Piece) × IsMember x xs × (p x ≡ true)
counted p xs e = found_from p xs 0 (λ f. never (count_by p xs) e f)
  where
    never : (n : ℕ) → n ≡ 1 → n ≡ 0 → ⊥
    never n e f = omega arith

pub side_ends : (p : List ℕ) (r : Piece) → IsMember r (sides p) → IsMember r.a p × IsMember r.b p
side_ends p r m = all_at (λ (s : Piece). IsMember s.a p × IsMember s.b p) r (sides p) (sides_all (λ i. IsMember i p) p (all_in p)) m
