-- How many points have no mark, and which of them are hidden.
use Rattle.std.proofs.Common.{◌≡◌, ℕ, suc, ◌+◌, ◌<◌, Bool, true, false, cond, List, [], ◌∷◌, length, get_or, refl, sym, ap, subst, ◌∙◌, arith, eq-eqb, eqb-true}
use Rattle.std.specs.Prelude.{not, count_by, ◌==◌, ◌↔◌, IsTrue, Any, Contains}
use Rattle.std.specs.List.{range_with_len, list_any}
use Rattle.std.proofs.lemmas.List.Sums.{sum_by-cons}
use Rattle.geo_laws.specs.Delaunay.{numbers, has_corner}
use Rattle.geo_laws.specs.declared.tetrahedra.Tet.{Tet}
use Rattle.geo_laws.proofs.Members.{some_true, any_true, contains_of, member_of, found_of}
use Rattle.weighted_mesh.specs.Regular.{IsHiddenPoint}
use Rattle.weighted_mesh.specs.Hidden.{is_corner_of_none, hidden_count}
use Rattle.geo_laws.specs.Marks.{is_marked}

-- ---- counts

-- as many pass one test as pass another of their places
counted_by_place : {X : Type 0} (p : X → Bool) (q : ℕ → Bool) (xs : List X) (d : X) (low : ℕ) → ((k : ℕ) → k < length xs → p (get_or xs k d) ≡ q (low + k))
    → count_by p xs ≡ count_by q (range_with_len low (length xs))
counted_by_place p q [] d low same = refl
counted_by_place p q (x ∷ xs) d low same =
    let first : p x ≡ q low = same 0 (omega arith) ∙ (let e : low + 0 ≡ low = omega arith in ap q e) in
    let rest = counted_by_place p q xs d (low + 1) (λ k lt. same (suc k) (omega arith) ∙ (let e : low + suc k ≡ low + 1 + k = omega arith in ap q e)) in
    let others = range_with_len (low + 1) (length xs) in
    sum_by-cons (λ y. cond (p y) 1 0) x xs ∙ one (p x) (q low) first (count_by p xs) (count_by q others) rest ∙ sym (sum_by-cons (λ y. cond (q y) 1 0) low others)
  where
    one : (b c : Bool) → b ≡ c → (m n : ℕ) → m ≡ n → cond b 1 0 + m ≡ cond c 1 0 + n
    one b c e m n f = ap (λ b. cond b 1 0 + m) e ∙ ap (λ (k : ℕ). cond c 1 0 + k) f

-- the points that no row marks are the hidden ones
pub unmarked_are_hidden : (marks : List Bool) (n : ℕ) (rows : List Tet) → length marks ≡ n → ((i : ℕ) → is_marked marks i ≡ list_any (λ t. has_corner t i) rows)
    → count_by not marks ≡ hidden_count n rows
unmarked_are_hidden marks n rows long same =
    counted_by_place not (is_corner_of_none rows) marks false 0 (λ k lt. ap not (same k) ∙ (let e : k ≡ 0 + k = omega arith in ap (is_corner_of_none rows) e))
    ∙ ap (λ (k : ℕ). count_by (is_corner_of_none rows) (range_with_len 0 k)) long

-- ---- hidden points

corner_test : (t : Tet) (i : ℕ) → has_corner t i ≡ true → Contains (numbers t) i
corner_test t i is =
    let found = some_true (λ j. j == i) (numbers t) is in
    let same : found.0 ≡ i = eqb-true found.0 i found.2 in
    subst (Contains (numbers t)) same (contains_of (numbers t) found.0 found.1)

test_corner : (t : Tet) (i : ℕ) → Contains (numbers t) i → has_corner t i ≡ true
test_corner t i c = any_true (λ j. j == i) (numbers t) i (member_of (numbers t) i c) (eq-eqb i i refl)

-- a point counts as hidden where it is a corner of no row
pub hidden_or_corner : (rows : List Tet) (i : ℕ) → IsTrue (is_corner_of_none rows i) ↔ IsHiddenPoint rows i
hidden_or_corner rows i = (
  λ hidden any.
      let yes = any_true (λ t. has_corner t i) rows any.1 (member_of rows any.1 (any.0, any.2, any.3)) (test_corner any.1 i any.4) in
      let no : not (list_any (λ t. has_corner t i) rows) ≡ false = ap not yes in
      absurd (cc),
  λ none. decide none (list_any (λ t. has_corner t i) rows) refl,
)
  where
    decide : ¬ Any (λ t. Contains (numbers t) i) rows → (b : Bool) → list_any (λ t. has_corner t i) rows ≡ b → not (list_any (λ t. has_corner t i) rows) ≡ true
    decide none false e = ap not e
    decide none true e =
        let r = some_true (λ t. has_corner t i) rows e in
        let f = found_of rows r.0 r.1 in
        absurd (none (f.place, r.0, f.within, f.is r.0, corner_test r.0 i r.2))
