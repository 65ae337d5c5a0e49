-- The greatest numbers of a list of points, front to back.
use Rattle.std.proofs.Common.{◌≡◌, ℕ, zero, suc, ◌+◌, ◌-◌, ◌*◌, ◌^◌, ◌<◌, ◌≤◌, Bool, true, false, cond, List, [], ◌∷◌, ◌++◌, length, get_or, drop, Option, Some, None, refl, sym, ap, ◌∙◌, arith, inl, inr, Ok, Err}
use Rattle.std.specs.Prelude.{max, All, unsigned_abs, filter}
use Rattle.std.specs.List.{range_with_len}
use Rattle.std.proofs.lemmas.List.Elements.{filter-append}
use Rattle.std.proofs.Math.Nat.{mul-le-mul_right}
use Rattle.std.proofs.lemmas.List.Recursion.{max_bounds}
use Rattle.tet_text.specs.Decimals.{Scaled}
use Rattle.grid_coords.specs.declared.grid.Range.{Range}
use Rattle.std.proofs.Math.Seq.{drop-cons}
use Rattle.std.proofs.lemmas.List.{at_drop_all}
use Rattle.std.proofs.lemmas.Bool.{cond-true, cond-false, le-leb, lt-leb, lt-ltb, le-ltb, cases_lt}
use Rattle.grid_coords.specs.declared.points.DecimalPoint.{DecimalPoint}
use Rattle.grid_coords.specs.Units.{limit, units, IsDecimalOnGrid, IsPointOnGrid}
use Rattle.grid_coords.specs.Choice.{decimals_of, most_decimals, size_of, greatest_size, first_over, fits, numbers_up_to, largest, halvings_for, unless_over}

-- the rest of a list from the place of p on
pub from_here : {X : Type 0} (xs : List X) (i : ℕ) (x : X) → i < length xs → x ≡ get_or xs i x → drop i xs ≡ x ∷ drop (i + 1) xs
from_here xs i x lt is =
    let e : suc i ≡ i + 1 = omega arith in
    drop-cons xs i x lt ∙ ap (λ y. y ∷ drop (suc i) xs) (sym is) ∙ ap (λ (j : ℕ). x ∷ drop j xs) e

pub most_more : (ps : List DecimalPoint) (i : ℕ) (p : DecimalPoint) (most : ℕ) → i < length ps → p ≡ get_or ps i p → max (max (decimals_of p) most) (most_decimals (drop (i + 1) ps)) ≡ max most (most_decimals (drop i ps))
unfolding most_decimals
most_more ps i p most lt is =
    let e : most_decimals (drop i ps) ≡ max (decimals_of p) (most_decimals (drop (i + 1) ps)) = ap most_decimals (from_here ps i p lt is) in
    omega arith

pub most_all : (ps : List DecimalPoint) (i most : ℕ) → length ps ≤ i → max most (most_decimals (drop i ps)) ≡ most
unfolding most_decimals
most_all ps i most le = let e : most_decimals (drop i ps) ≡ 0 = at_drop_all most_decimals ps i le in omega arith

pub greatest_more : (decimals : ℕ) (ps : List DecimalPoint) (i : ℕ) (p : DecimalPoint) (greatest : ℕ) → i < length ps → p ≡ get_or ps i p
    → max (max (size_of decimals p) greatest) (greatest_size decimals (drop (i + 1) ps)) ≡ max greatest (greatest_size decimals (drop i ps))
unfolding greatest_size
greatest_more decimals ps i p greatest lt is =
    let e : greatest_size decimals (drop i ps) ≡ max (size_of decimals p) (greatest_size decimals (drop (i + 1) ps)) = ap (greatest_size decimals) (from_here ps i p lt is) in
    omega arith

pub greatest_all : (decimals : ℕ) (ps : List DecimalPoint) (i greatest : ℕ) → length ps ≤ i → max greatest (greatest_size decimals (drop i ps)) ≡ greatest
unfolding greatest_size
greatest_all decimals ps i greatest le = let e : greatest_size decimals (drop i ps) ≡ 0 = at_drop_all (greatest_size decimals) ps i le in omega arith

pub first_more : (wide : ℕ) (decimals : ℕ) (ps : List DecimalPoint) (i : ℕ) (p : DecimalPoint) → i < length ps → p ≡ get_or ps i p → size_of decimals p ≤ wide → first_over wide decimals (drop i ps) ≡ first_over wide decimals (drop (i + 1) ps)
unfolding first_over
first_more wide decimals ps i p lt is small = ap (first_over wide decimals) (from_here ps i p lt is) ∙ cond-false _ _ _ (le-ltb wide (size_of decimals p) small)

pub first_here : (wide : ℕ) (decimals : ℕ) (ps : List DecimalPoint) (i : ℕ) (p : DecimalPoint) → i < length ps → p ≡ get_or ps i p → wide < size_of decimals p → first_over wide decimals (drop i ps) ≡ Some p
unfolding first_over
first_here wide decimals ps i p lt is over = ap (first_over wide decimals) (from_here ps i p lt is) ∙ cond-true _ _ _ (lt-ltb wide (size_of decimals p) over)

pub first_all : (wide : ℕ) (decimals : ℕ) (ps : List DecimalPoint) (i : ℕ) → length ps ≤ i → first_over wide decimals (drop i ps) ≡ None
unfolding first_over
first_all wide decimals ps i le = at_drop_all (first_over wide decimals) ps i le

-- ---- the largest number of halvings

largest-append : (xs ys : List ℕ) → largest (xs ++ ys) ≡ max (largest xs) (largest ys)
unfolding largest
largest-append [] ys = omega arith
largest-append (x ∷ xs) ys = omega (arith, largest-append xs ys)

numbers_more : (a n : ℕ) → range_with_len a (suc n) ≡ range_with_len a n ++ (a + n) ∷ []
numbers_more a zero = ap (λ (k : ℕ). k ∷ []) (let e : a ≡ a + 0 = omega arith in e)
numbers_more a (suc n) =
    let e : a + 1 + n ≡ a + suc n = omega arith in
    ap (λ (ks : List ℕ). a ∷ ks) (numbers_more (a + 1) n) ∙ ap (λ (k : ℕ). a ∷ (range_with_len (a + 1) n ++ k ∷ [])) e

one_more : (p : ℕ → Bool) (most : ℕ) → largest (filter p (numbers_up_to (most + 1))) ≡ max (largest (filter p (numbers_up_to most))) (cond (p (most + 1)) (most + 1) 0)
unfolding largest
one_more p most =
    let e : most + 1 + 1 ≡ suc (most + 1) = omega arith in
    let z : 0 + (most + 1) ≡ most + 1 = omega arith in
    ap (λ (n : ℕ). largest (filter p (range_with_len 0 n))) e
    ∙ ap (λ (ks : List ℕ). largest (filter p ks)) (numbers_more 0 (most + 1) ∙ ap (λ (k : ℕ). numbers_up_to most ++ k ∷ []) z)
    ∙ ap largest (filter-append p (numbers_up_to most) ((most + 1) ∷ []))
    ∙ largest-append (filter p (numbers_up_to most)) (filter p ((most + 1) ∷ []))
    ∙ ap (max (largest (filter p (numbers_up_to most)))) (last (p (most + 1)))
  where
    last : (b : Bool) → largest (cond b ((most + 1) ∷ []) []) ≡ cond b (most + 1) 0
    last true = omega arith
    last false = refl

none_halved : (wide : ℕ) (size : ℕ) → halvings_for wide 0 size ≡ 0
unfolding halvings_for largest
none_halved wide size = at (fits wide size 0)
  where
    at : (b : Bool) → largest (cond b (0 ∷ []) []) ≡ 0
    at true = refl
    at false = refl

once_more : (wide : ℕ) (most size : ℕ) → halvings_for wide (most + 1) size ≡ max (halvings_for wide most size) (cond (fits wide size (most + 1)) (most + 1) 0)
unfolding halvings_for
once_more wide most size = one_more (fits wide size) most

cond_le : (b : Bool) (n : ℕ) → cond b n 0 ≤ n
cond_le true n = omega arith
cond_le false n = omega arith

pub halvings_le : (wide : ℕ) (most size : ℕ) → halvings_for wide most size ≤ most
halvings_le wide zero size = omega (arith, none_halved wide size)
halvings_le wide (suc most) size =
    let e : suc most ≡ most + 1 = omega arith in
    rw e (omega (arith, once_more wide most size, halvings_le wide most size, cond_le (fits wide size (most + 1)) (most + 1)))

-- with one more halving allowed, that many where the size still fits, and else as many as before
halvings_more : (wide : ℕ) (most size : ℕ) → halvings_for wide (most + 1) size ≡ cond (fits wide size (most + 1)) (most + 1) (halvings_for wide most size)
halvings_more wide most size = once_more wide most size ∙ by_test (fits wide size (most + 1)) (halvings_for wide most size) (halvings_le wide most size)
  where
    by_test : (b : Bool) (before : ℕ) → before ≤ most → max before (cond b (most + 1) 0) ≡ cond b (most + 1) before
    by_test true before le = omega arith
    by_test false before le = omega arith

-- one halving less where there are too many
pub halvings_less : (wide : ℕ) (halvings size : ℕ) → 0 < halvings → wide < size * 2 ^ halvings → halvings_for wide (halvings - 1) size ≡ halvings_for wide halvings size
halvings_less wide zero size some over = absurd (omega arith)
halvings_less wide (suc halvings) size some over =
    let e : suc halvings ≡ halvings + 1 = omega arith in
    let less : suc halvings - 1 ≡ halvings = omega arith in
    let too_large : wide < size * 2 ^ (halvings + 1) = rw e at over in
    rw (less, e) (sym (halvings_more wide halvings size ∙ cond-false _ _ _ (lt-leb (size * 2 ^ (halvings + 1)) wide too_large)))

pub halvings_found : (wide : ℕ) (halvings size : ℕ) → size * 2 ^ halvings ≤ wide → halvings_for wide halvings size ≡ halvings
halvings_found wide zero size small = none_halved wide size
halvings_found wide (suc halvings) size small =
    let e : suc halvings ≡ halvings + 1 = omega arith in
    let fits_so : size * 2 ^ (halvings + 1) ≤ wide = rw e at small in
    rw e (halvings_more wide halvings size ∙ cond-true _ _ _ (le-leb (size * 2 ^ (halvings + 1)) wide fits_so))

pub halvings_none : (wide : ℕ) (halvings size : ℕ) → halvings ≡ 0 → halvings_for wide halvings size ≡ 0
halvings_none wide halvings size none = omega (arith, halvings_le wide halvings size, none)

-- the size still fits with the halvings
pub halvings_fit : (wide : ℕ) (most size : ℕ) → size ≤ wide → size * 2 ^ halvings_for wide most size ≤ wide
halvings_fit wide zero size small = rw (none_halved wide size) (omega arith)
halvings_fit wide (suc most) size small =
    let e : suc most ≡ most + 1 = omega arith in
    rw (e, halvings_more wide most size) (elim (cases_lt wide (size * 2 ^ (most + 1))) [
      | inl over ↦ rw (lt-leb (size * 2 ^ (most + 1)) wide over) (halvings_fit wide most size small)
      | inr le ↦ rw (le-leb (size * 2 ^ (most + 1)) wide le) le
    ])

pub fits_limit : (n wide : ℕ) → n ≤ wide → wide ≤ limit → n ≤ limit
fits_limit n wide small low = omega arith

-- what was found, or the point that was too large
pub over_same : {X Y : Type 0} (o : Option DecimalPoint) (x : X) (y : Y) (r : Range) → unless_over o x ≡ Err r → unless_over o y ≡ Err r
over_same None x y r is = cc
over_same (Some p) x y r is = let same : record { line = p.line } ≡ r = cc in ap Err same

pub none_over : {X : Type 0} (o : Option DecimalPoint) (x y : X) → unless_over o x ≡ Ok y → (o ≡ None) × (x ≡ y)
none_over None x y is = (refl, cc)
none_over (Some p) x y is = cc

-- each number of a point is on the grid that is chosen
units_halved : (decimals halvings : ℕ) (d : Scaled) → units decimals halvings d ≡ units decimals 0 d * 2 ^ halvings
unfolding units
units_halved decimals halvings d = let e : unsigned_abs d.value * 10 ^ (decimals - d.scale) * 2 ^ 0 ≡ unsigned_abs d.value * 10 ^ (decimals - d.scale) = omega arith in rw e refl

pub units_small : (decimals halvings size wide : ℕ) (d : Scaled) → units decimals 0 d ≤ size → size * 2 ^ halvings ≤ wide → units decimals halvings d ≤ wide
units_small decimals halvings size wide d small fits =
    let e = units_halved decimals halvings d in
    let le : units decimals 0 d * 2 ^ halvings ≤ size * 2 ^ halvings = mul-le-mul_right (2 ^ halvings) small in
    omega arith

number_on : (decimals halvings size : ℕ) (d : Scaled) → d.scale ≤ decimals → units decimals 0 d ≤ size → size * 2 ^ halvings ≤ limit → IsDecimalOnGrid (record { decimals = decimals; halvings = halvings }) d
number_on decimals halvings size d whole small fits = record { whole = whole; small = units_small decimals halvings size limit d small fits }

pub point_on : (decimals halvings size : ℕ) (p : DecimalPoint) → decimals_of p ≤ decimals → size_of decimals p ≤ size → size * 2 ^ halvings ≤ limit → IsPointOnGrid (record { decimals = decimals; halvings = halvings }) p
point_on decimals halvings size p whole small fits = record {
  x = number_on decimals halvings size p.x (omega arith) (omega arith) fits;
  y = number_on decimals halvings size p.y (omega arith) (omega arith) fits;
  z = number_on decimals halvings size p.z (omega arith) (omega arith) fits;
}

pub points_on : (ps : List DecimalPoint) (decimals halvings size : ℕ) → decimals ≡ most_decimals ps → greatest_size decimals ps ≡ size → size * 2 ^ halvings ≤ limit → All (IsPointOnGrid (record { decimals = decimals; halvings = halvings })) ps
unfolding most_decimals greatest_size
points_on ps decimals halvings size decimals-is size-is fits k d lt =
    let few = max_bounds most_decimals decimals_of refl (λ _ _. refl) ps k d lt in
    let small = max_bounds (greatest_size decimals) (size_of decimals) refl (λ _ _. refl) ps k d lt in
    point_on decimals halvings size (get_or ps k d) (omega arith) (omega arith) fits
