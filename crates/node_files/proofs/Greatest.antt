-- The greatest numbers of a list of points, and its first point over the limit, front to back.
use Rattle.std.proofs.Common.{◌≡◌, ℕ, zero, suc, ◌+◌, ◌<◌, ◌≤◌, true, false, List, [], ◌∷◌, length, get_or, drop, Option, Some, None, Err, refl, sym, ap, ◌∙◌, arith, inl, inr}
use Rattle.std.specs.Prelude.{max, All, find, option_map, nat_lt}
use Rattle.std.proofs.Math.Seq.{drop-cons}
use Rattle.std.proofs.lemmas.List.{at_drop_all}
use Rattle.std.proofs.lemmas.List.Recursion.{max_bounds}
use Rattle.std.proofs.lemmas.Bool.{cond-true, cond-false, lt-ltb, cases_lt, cases_Bool}
use Rattle.grid_coords.specs.declared.grid.Grid.{Grid}
use Rattle.grid_coords.specs.declared.points.DecimalPoint.{DecimalPoint}
use Rattle.grid_coords.specs.Units.{limit, if_at_most}
use Rattle.grid_coords.specs.Choice.{unless_over}
use Rattle.grid_coords.proofs.Products.{over_within, kept_within}
use Rattle.node_files.specs.LeastGrid.{greatest, twos_of, fives_of, coarsest, size_on, is_over_units, first_over_units, IsPointInUnits}

-- the rest of a list from the place of p on
from_here : {X : Type 0} (xs : List X) (i : ℕ) (x : X) → i < length xs → x ≡ get_or xs i x → drop i xs ≡ x ∷ drop (i + 1) xs
from_here xs i x lt is =
    let e : suc i ≡ i + 1 = omega arith in
    drop-cons xs i x lt ∙ ap (λ y. y ∷ drop (suc i) xs) (sym is) ∙ ap (λ (j : ℕ). x ∷ drop j xs) e

pub greatest_more : (f : DecimalPoint → ℕ) (ps : List DecimalPoint) (i : ℕ) (p : DecimalPoint) (most : ℕ) → i < length ps → p ≡ get_or ps i p
    → max (max (f p) most) (greatest f (drop (i + 1) ps)) ≡ max most (greatest f (drop i ps))
unfolding greatest
greatest_more f ps i p most lt is =
    let e : greatest f (drop i ps) ≡ max (f p) (greatest f (drop (i + 1) ps)) = ap (greatest f) (from_here ps i p lt is) in
    omega arith

pub greatest_all : (f : DecimalPoint → ℕ) (ps : List DecimalPoint) (i most : ℕ) → length ps ≤ i → max most (greatest f (drop i ps)) ≡ most
unfolding greatest
greatest_all f ps i most le = let e : greatest f (drop i ps) ≡ 0 = at_drop_all (greatest f) ps i le in omega arith

-- a size that is not kept is over each number up to the limit
pub over_is : (wide n : ℕ) → wide ≤ limit → if_at_most limit n ≡ None → nat_lt wide n ≡ true
over_is wide n within none = lt-ltb wide n (let over = over_within limit n none in omega arith)

-- and one that is kept is as large as it is
pub small_is : (wide n m : ℕ) → if_at_most limit n ≡ Some m → nat_lt wide n ≡ nat_lt wide m
small_is wide n m some = let kept = kept_within limit n m some in ap (nat_lt wide) kept.0

pub first_more : (wide : ℕ) (g : Grid) (ps : List DecimalPoint) (i : ℕ) (p : DecimalPoint) → i < length ps → p ≡ get_or ps i p → is_over_units wide g p ≡ false → first_over_units wide g (drop i ps) ≡ first_over_units wide g (drop (i + 1) ps)
unfolding first_over_units
first_more wide g ps i p lt is small = ap (first_over_units wide g) (from_here ps i p lt is) ∙ cond-false _ _ _ small

pub first_here : (wide : ℕ) (g : Grid) (ps : List DecimalPoint) (i : ℕ) (p : DecimalPoint) → i < length ps → p ≡ get_or ps i p → is_over_units wide g p ≡ true → first_over_units wide g (drop i ps) ≡ Some p
unfolding first_over_units
first_here wide g ps i p lt is over = ap (first_over_units wide g) (from_here ps i p lt is) ∙ cond-true _ _ _ over

pub first_all : (wide : ℕ) (g : Grid) (ps : List DecimalPoint) (i : ℕ) → length ps ≤ i → first_over_units wide g (drop i ps) ≡ None
unfolding first_over_units
first_all wide g ps i le = at_drop_all (first_over_units wide g) ps i le

pub line_some : (o : Option DecimalPoint) (g : Grid) (line : ℕ) → option_map (λ p. p.line) o ≡ Some line → unless_over o g ≡ Err (record { line = line })
line_some None g line is = absurd (cc)
line_some (Some p) g line is = let same : p.line ≡ line = cc in ap (λ (l : ℕ). Err (record { line = l })) same

pub line_none : (o : Option DecimalPoint) → option_map (λ p. p.line) o ≡ None → o ≡ None
line_none None is = refl
line_none (Some p) is = absurd (cc)

none_found : (wide : ℕ) (g : Grid) (ps : List DecimalPoint) (k : ℕ) (d : DecimalPoint) → find (is_over_units wide g) ps ≡ None → k < length ps → is_over_units wide g (get_or ps k d) ≡ false
none_found wide g [] k d none lt = absurd (omega arith)
none_found wide g (p ∷ ps) zero d none lt =
    elim (cases_Bool (is_over_units wide g p)) [
      | inl over ↦ let found : find (is_over_units wide g) (p ∷ ps) ≡ Some p = cond-true _ _ _ over in absurd (cc)
      | inr small ↦ small
    ]
none_found wide g (p ∷ ps) (suc k) d none lt =
    elim (cases_Bool (is_over_units wide g p)) [
      | inl over ↦ let found : find (is_over_units wide g) (p ∷ ps) ≡ Some p = cond-true _ _ _ over in absurd (cc)
      | inr small ↦ none_found wide g ps k d (sym (cond-false _ _ _ small) ∙ none) (omega arith)
    ]

not_over : (wide n : ℕ) → nat_lt wide n ≡ false → n ≤ wide
not_over wide n is =
    elim (cases_lt wide n) [
      | inl over ↦ let e = lt-ltb wide n over in absurd (cc)
      | inr le ↦ le
    ]

-- each point is on the grid that is chosen, where none is over so many of its units
pub points_on : (wide : ℕ) (ps : List DecimalPoint) → wide ≤ limit → first_over_units wide (coarsest ps) ps ≡ None → All (IsPointInUnits (coarsest ps)) ps
unfolding first_over_units greatest
points_on wide ps within none k d lt =
    let g = coarsest ps in
    let p = get_or ps k d in
    let five = max_bounds (greatest fives_of) fives_of refl (λ _ _. refl) ps k d lt in
    let two = max_bounds (greatest twos_of) twos_of refl (λ _ _. refl) ps k d lt in
    let small = not_over wide (size_on g p) (none_found wide g ps k d none lt) in
    record {
      x = record { fives = omega arith; twos = omega arith; small = omega arith };
      y = record { fives = omega arith; twos = omega arith; small = omega arith };
      z = record { fives = omega arith; twos = omega arith; small = omega arith };
    }
