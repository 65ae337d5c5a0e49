-- The members of a group, along the numbers that are next.
use Rattle.std.proofs.Common.{◌≡◌, ◌≢◌, ◌⊎◌, inl, inr, ℕ, zero, suc, ◌+◌, ◌-◌, ◌<◌, ◌≤◌, Bool, true, false, cond, List, [], ◌∷◌, ◌++◌, drop, length, get_or, set, refl, ap, sym, subst, ◌∙◌, arith, append_assoc, eqb-true, eq-eqb}
use Rattle.std.specs.Prelude.{Option, Some, None, filter, flat_map, ◌==◌, HoldsAt}
use lib.Seq.{drop-cons}
use Rattle.std.proofs.lemmas.List.{drop_all, get_or-set_same, get_or-set_other, length-set, length-append}
use Rattle.std.proofs.lemmas.Bool.{cases_order}
use Rattle.geo_laws.specs.Facet.{Facet}
use Rattle.geo_laws.specs.Complex.{Complex, flat_facet}
use Rattle.geo_laws.specs.declared.complex.Facet.{Facet as StoredFacet}
use Rattle.merged_facets.specs.Merged.{no_facet, merged_facet}
use Rattle.merged_facets.specs.MergedComplex.{IsFirstFrom, AreMemberChains, AreNone, IsMaking, HasParts, with_parts}
use Rattle.merged_facets.proofs.Outer.{append_nil, numbered, numbered_at, numbered_length}
use Rattle.merged_facets.proofs.Parts.{no_parts, parts_then}

-- what was read at a place
pub found_at : (xs : List (Option ℕ)) (i : ℕ) (o : Option ℕ) → i < length xs → o ≡ get_or xs i o → get_or xs i None ≡ o
found_at [] i o l e = absurd (omega arith)
found_at (x ∷ xs) zero o l e = sym e
found_at (x ∷ xs) (suc i) o l e = found_at xs i o (omega arith) e

-- ---- how the chains are made

pub none_more : (n : ℕ) (list new : List (Option ℕ)) → AreNone n list → new ≡ list ++ None ∷ [] → AreNone (n + 1) new
none_more n list new h put = subst (AreNone (n + 1)) (sym put) (record { long = length-append list (None ∷ []) ∙ ap (λ m. m + 1) h.long; none = λ k. by list k (h.none k) })
  where
    nothing : List (Option ℕ)
    nothing = None ∷ []

    past : (k : ℕ) → get_or nothing k None ≡ None
    past zero = refl
    past (suc k) = refl

    by : (xs : List (Option ℕ)) (k : ℕ) → get_or xs k None ≡ None → get_or (xs ++ nothing) k None ≡ None
    by [] k e = past k
    by (x ∷ xs) zero e = e
    by (x ∷ xs) (suc k) e = by xs k e

pub no_chains : (group : ℕ → ℕ) (n : ℕ) (first next : List (Option ℕ)) → AreNone n first → AreNone n next → AreMemberChains group n n first next
no_chains group n first next one two = record {
  first_long = one.long;
  next_long = two.long;
  first_is = λ k h. subst (IsFirstFrom group n k n) (sym (one.none k)) (λ i l u. absurd (omega arith));
  next_is = λ g l u. absurd (omega arith);
}

pub chain_more : (group : ℕ → ℕ) (n g : ℕ) (first next : List (Option ℕ)) → g < n → group g < n → AreMemberChains group n (g + 1) first next
    → AreMemberChains group n g (set first (group g) (Some g)) (set next g (get_or first (group g) None))
chain_more group n g first next h l so = record {
  first_long = length-set first (group g) (Some g) ∙ so.first_long;
  next_long = length-set next g (get_or first (group g) None) ∙ so.next_long;
  first_is = first_is;
  next_is = next_is;
}
  where
    self : IsFirstFrom group n (group g) g (Some g)
    self = (omega arith, h, refl, λ i a b. absurd (omega arith))

    wider : (k : ℕ) (o : Option ℕ) → group g ≢ k → IsFirstFrom group n k (g + 1) o → IsFirstFrom group n k g o
    wider k None d none = λ i a b e. by i a b e (cases_order i g)
      where
        by : (i : ℕ) → g ≤ i → i < n → group i ≡ k → (i ≡ g) ⊎ ((i < g) ⊎ (g < i)) → ⊥
        by i a b e (inl same) = d (ap group (sym same) ∙ e)
        by i a b e (inr (inl less)) = absurd (omega arith)
        by i a b e (inr (inr more)) = none i (omega arith) b e
    wider k (Some m) d is = (omega (arith, is.0), is.1, is.2, λ i a b e. by i a b e (cases_order i g))
      where
        by : (i : ℕ) → g ≤ i → i < m → group i ≡ k → (i ≡ g) ⊎ ((i < g) ⊎ (g < i)) → ⊥
        by i a b e (inl same) = d (ap group (sym same) ∙ e)
        by i a b e (inr (inl less)) = absurd (omega arith)
        by i a b e (inr (inr more)) = is.3 i (omega arith) b e

    first_is : (k : ℕ) → k < n → IsFirstFrom group n k g (get_or (set first (group g) (Some g)) k None)
    first_is k u = by (cases_order (group g) k)
      where
        there : group g < length first
        there = let e = so.first_long in omega arith

        other : group g ≢ k → IsFirstFrom group n k g (get_or (set first (group g) (Some g)) k None)
        other d = subst (IsFirstFrom group n k g) (sym (get_or-set_other first (group g) k (Some g) None (λ e. d (sym e)))) (wider k (get_or first k None) d (so.first_is k u))

        by : (group g ≡ k) ⊎ ((group g < k) ⊎ (k < group g)) → IsFirstFrom group n k g (get_or (set first (group g) (Some g)) k None)
        by (inl e) = subst (λ k. IsFirstFrom group n k g (get_or (set first (group g) (Some g)) k None)) e (subst (IsFirstFrom group n (group g) g) (sym (get_or-set_same first (group g) (Some g) None there)) self)
        by (inr (inl less)) = other (λ e. absurd (omega arith))
        by (inr (inr more)) = other (λ e. absurd (omega arith))

    next_is : (i : ℕ) → g ≤ i → i < n → IsFirstFrom group n (group i) (i + 1) (get_or (set next g (get_or first (group g) None)) i None)
    next_is i a b = by (cases_order g i)
      where
        there : g < length next
        there = let e = so.next_long in omega arith

        by : (g ≡ i) ⊎ ((g < i) ⊎ (i < g)) → IsFirstFrom group n (group i) (i + 1) (get_or (set next g (get_or first (group g) None)) i None)
        by (inl e) =
            subst (λ i. IsFirstFrom group n (group i) (i + 1) (get_or (set next g (get_or first (group g) None)) i None)) e
            (subst (IsFirstFrom group n (group g) (g + 1)) (sym (get_or-set_same next g (get_or first (group g) None) None there)) (so.first_is (group g) l))
        by (inr (inl less)) =
            subst (IsFirstFrom group n (group i) (i + 1)) (sym (get_or-set_other next g i (get_or first (group g) None) None (λ e. absurd (omega arith)))) (so.next_is i (omega arith) b)
        by (inr (inr more)) = absurd (omega arith)

-- the facet i from behind put first in its group
pub chain_step : (group : ℕ → ℕ) (n i r : ℕ) (first next : List (Option ℕ)) (o : Option ℕ) → i < n → r ≡ group (n - 1 - i) → group (n - 1 - i) ≤ n - 1 - i → o ≡ get_or first r o → AreMemberChains group n (n - i) first next
    → AreMemberChains group n (n - (i + 1)) (set first r (Some (n - 1 - i))) (set next (n - 1 - i) o)
chain_step group n i r first next o l is least found so =
    subst (λ r. AreMemberChains group n (n - (i + 1)) (set first r (Some g)) (set next g o)) (sym is)
    (subst (λ o. AreMemberChains group n (n - (i + 1)) (set first (group g) (Some g)) (set next g o)) (found_at first (group g) o (omega (arith, so.first_long)) (subst (λ r. o ≡ get_or first r o) is found))
    (subst (λ m. AreMemberChains group n m (set first (group g) (Some g)) (set next g (get_or first (group g) None))) here
    (chain_more group n g first next (omega arith) (omega arith) (subst (λ m. AreMemberChains group n m first next) above so))))
  where
    g : ℕ
    g = n - 1 - i

    above : n - i ≡ g + 1
    above = omega arith

    here : g ≡ n - (i + 1)
    here = omega arith

-- ---- the members from a number on

-- those of the group from this number on
abbrev pub members_from : (ℕ → ℕ) → Complex → ℕ → ℕ → List (ℕ × Facet)
members_from group c k from = filter (λ g. group g.0 == k) (drop from (numbered c))

-- the polygons and hole points of some facets
abbrev pub parts_of : List (ℕ × Facet) → Facet
parts_of es = record { polygons = flat_map (λ g. g.1.polygons) es; holes = flat_map (λ g. g.1.holes) es }

differs : (i j : ℕ) → i ≢ j → (i == j) ≡ false
differs i j d = by (i == j) refl
  where
    by : (b : Bool) → (i == j) ≡ b → (i == j) ≡ false
    by true e = absurd (d (eqb-true i j e))
    by false e = e

no_stored : StoredFacet
no_stored = record { first = 0; past = 0; holes = []; marker = None }

from_cons : (c : Complex) (f : ℕ) (x : StoredFacet) → f < length c.facets → HoldsAt (λ g. g ≡ x) c.facets f → drop f (numbered c) ≡ (f, flat_facet c.polygons x) ∷ drop (suc f) (numbered c)
from_cons c f x l is =
    let n = numbered_length c in
    drop-cons (numbered c) f (0, no_facet) (omega arith) ∙ ap (λ (e : ℕ × Facet). e ∷ drop (suc f) (numbered c)) (numbered_at c f x l is)

pub member_here : (group : ℕ → ℕ) (c : Complex) (k f : ℕ) (x : StoredFacet) → f < length c.facets → HoldsAt (λ g. g ≡ x) c.facets f → group f ≡ k
    → members_from group c k f ≡ (f, flat_facet c.polygons x) ∷ members_from group c k (suc f)
member_here group c k f x l is e =
    ap (filter (λ g. group g.0 == k)) (from_cons c f x l is)
    ∙ ap (λ b. cond b ((f, flat_facet c.polygons x) ∷ members_from group c k (suc f)) (members_from group c k (suc f))) (eq-eqb (group f) k e)

none_here : (group : ℕ → ℕ) (c : Complex) (k f : ℕ) → f < length c.facets → group f ≢ k → members_from group c k f ≡ members_from group c k (suc f)
none_here group c k f l d =
    ap (filter (λ g. group g.0 == k)) (from_cons c f x l (λ e. any c.facets f e l))
    ∙ ap (λ b. cond b ((f, flat_facet c.polygons x) ∷ members_from group c k (suc f)) (members_from group c k (suc f))) (differs (group f) k d)
  where
    x : StoredFacet
    x = get_or c.facets f no_stored

    any : (fs : List StoredFacet) (i : ℕ) (e : StoredFacet) → i < length fs → get_or fs i e ≡ get_or fs i no_stored
    any [] i e h = absurd (omega arith)
    any (f ∷ fs) zero e h = refl
    any (f ∷ fs) (suc i) e h = any fs i e (omega arith)

passed : (group : ℕ → ℕ) (c : Complex) (k from to m : ℕ) → from + m ≡ to → to ≤ length c.facets → ((h : ℕ) → from ≤ h → h < to → group h ≢ k) → members_from group c k from ≡ members_from group c k to
passed group c k from to zero e l none = ap (members_from group c k) (omega arith)
passed group c k from to (suc m) e l none =
    none_here group c k from (omega arith) (none from (omega arith) (omega arith)) ∙ passed group c k (suc from) to m (omega arith) l (λ h a b. none h (omega arith) b)

pub passed_to : (group : ℕ → ℕ) (c : Complex) (k from to : ℕ) → from ≤ to → to ≤ length c.facets → ((h : ℕ) → from ≤ h → h < to → group h ≢ k) → members_from group c k from ≡ members_from group c k to
passed_to group c k from to a l none = passed group c k from to (to - from) (omega arith) l none

none_past : (group : ℕ → ℕ) (c : Complex) (k : ℕ) → members_from group c k (length c.facets) ≡ []
none_past group c k = let n = numbered_length c in ap (filter (λ g. group g.0 == k)) (drop_all (length c.facets) (numbered c) (omega arith))

-- ---- the walk

-- what was put in, and what is left from a number on, is the merged facet
pub record HasSome (group : ℕ → ℕ) (c : Complex) (k : ℕ) (start d : Complex) (member : Option ℕ) : Type 0 where
  pub so : Facet
  pub has : HasParts c.polygons start so d
  pub from : ℕ
  pub below : from ≤ length c.facets
  pub is_next : IsFirstFrom group (length c.facets) k from member
  pub left : with_parts (parts_of (members_from group c k from)) so ≡ merged_facet group c k

pub some_first : (group : ℕ → ℕ) (c : Complex) (k : ℕ) (start : Complex) (member : Option ℕ) → IsMaking c.polygons start → IsFirstFrom group (length c.facets) k 0 member → HasSome group c k start start member
some_first group c k start member making is = record { so = no_facet; has = no_parts c.polygons start making; from = 0; below = omega arith; is_next = is; left = refl }

pub some_more : (group : ℕ → ℕ) (c : Complex) (k g : ℕ) (x : StoredFacet) (start d new : Complex) (next : Option ℕ) → HoldsAt (λ f. f ≡ x) c.facets g → HasSome group c k start d (Some g)
    → HasParts c.polygons d (flat_facet c.polygons x) new → IsFirstFrom group (length c.facets) (group g) (g + 1) next → HasSome group c k start new next
some_more group c k g x start d new next is some parts then =
    let i = some.is_next in
    let low = i.0 in
    let high = i.1 in
    let one : g + 1 ≡ suc g = omega arith in
    let members : members_from group c k some.from ≡ (g, flat_facet c.polygons x) ∷ members_from group c k (g + 1) =
    passed_to group c k some.from g low (omega arith) i.3 ∙ member_here group c k g x high is i.2 ∙ ap (λ m. (g, flat_facet c.polygons x) ∷ members_from group c k m) (sym one) in
    record {
      so = with_parts (flat_facet c.polygons x) some.so;
      has = parts_then c.polygons start d new some.so (flat_facet c.polygons x) some.has parts;
      from = g + 1;
      below = omega arith;
      is_next = subst (λ m. IsFirstFrom group (length c.facets) m (g + 1) next) i.2 then;
      left =
          (λ j. record {
            polygons = append_assoc some.so.polygons (flat_facet c.polygons x).polygons (flat_map (λ (e : ℕ × Facet). e.1.polygons) (members_from group c k (g + 1))) j;
            holes = append_assoc some.so.holes x.holes (flat_map (λ (e : ℕ × Facet). e.1.holes) (members_from group c k (g + 1))) j;
          })
          ∙ ap (λ (es : List (ℕ × Facet)). with_parts (parts_of es) some.so) (sym members) ∙ some.left;
    }

pub some_all : (group : ℕ → ℕ) (c : Complex) (k : ℕ) (start d : Complex) → HasSome group c k start d None → HasParts c.polygons start (merged_facet group c k) d
some_all group c k start d some =
    subst (λ g. HasParts c.polygons start g d)
    ((λ j. record { polygons = sym (append_nil some.so.polygons) j; holes = sym (append_nil some.so.holes) j })
    ∙ ap (λ (es : List (ℕ × Facet)). with_parts (parts_of es) some.so) (sym (passed_to group c k some.from (length c.facets) some.below (omega arith) some.is_next ∙ none_past group c k)) ∙ some.left)
    some.has

-- how far it is to the end
abbrev pub left_to : ℕ → Option ℕ → ℕ
left_to n None = 0
left_to n (Some g) = n - g

pub falls : (group : ℕ → ℕ) (n g k : ℕ) (next : Option ℕ) → g < n → IsFirstFrom group n k (g + 1) next → left_to n next < n - g
falls group n g k None h is = omega arith
falls group n g k (Some m) h is = omega (arith, is.0, is.1)
