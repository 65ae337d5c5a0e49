-- Points that are off each grid.
use Rattle.std.proofs.Common.{◌≡◌, ℕ, ◌-◌, ◌*◌, ◌^◌, ◌<◌, ◌≤◌, Bool, true, false, List, [], ◌∷◌, length, get_or, drop, map, Some, None, ◌+◌, refl, sym, ap, ◌∙◌, subst, arith, inl, inr}
use Rattle.std.specs.Prelude.{max, find, nat_lt, unsigned_abs, is_some, not, Option, ◌||◌, ◌⊎◌, if◌then◌else◌}
use Rattle.std.specs.List.{list_any}
use Rattle.std.proofs.Math.Nat.{mul-le-mul_left, mul-le-mul_right, pow-le-pow_right}
use Rattle.std.proofs.lemmas.Bool.{cond-true, cond-false, lt-ltb, le-ltb, lt-leb, le-leb, cases_lt}
use Rattle.std.proofs.lemmas.List.Recursion.{max_bounds}
use borrow.Author.Tests.{ltb-true}
use Rattle.std.proofs.lemmas.List.{at_drop_all}
use Rattle.grid_coords.proofs.Sizes.{from_here}
use Rattle.grid_coords.specs.Choice.{decimals_of, most_decimals, size_of, is_over, first_over, grid_of}
use Rattle.grid_coords.specs.Units.{if_at_most, units}
use Rattle.grid_coords.specs.declared.points.DecimalPoint.{DecimalPoint}
use Rattle.grid_coords.specs.declared.origin.WholePoint.{WholePoint}
use Rattle.tet_text.specs.Decimals.{Scaled}
use Rattle.tetfit_run.specs.Grids.{point_at, IsOffRounded}
use Rattle.tetfit_run.specs.Hints.{finest_at}

-- ---- the most decimals

-- a rounded point has no more decimals than the list of them
pub one_most : (o : Option WholePoint) (m : ℕ) (ps : List DecimalPoint) (i : ℕ) (p : DecimalPoint) → i < length ps → p ≡ get_or ps i p
    → decimals_of (point_at o m p) ≤ most_decimals (map (point_at o m) ps)
unfolding most_decimals
one_most o m ps i p lt is =
    let all : decimals_of (point_at o m (get_or ps i p)) ≤ most_decimals (map (point_at o m) ps) =
    max_bounds (λ (qs : List DecimalPoint). most_decimals (map (point_at o m) qs)) (λ q. decimals_of (point_at o m q)) refl (λ q qs. refl) ps i p lt in
    subst (λ (q : DecimalPoint). decimals_of (point_at o m q) ≤ most_decimals (map (point_at o m) ps)) (sym is) all

-- so have one more point and those before it
pub either_most : (one before all greatest : ℕ) {here : ℕ} → one ≡ here → here ≤ all → before ≤ all → greatest ≡ max one before → greatest ≤ all
either_most one before all greatest same here earlier is = omega arith

-- the most decimals of rounded points, front to back
pub finest_more : (o : Option WholePoint) (m : ℕ) (ps : List DecimalPoint) (i : ℕ) (p : DecimalPoint) (most one greatest : ℕ) → i < length ps → p ≡ get_or ps i p
    → one ≡ decimals_of (point_at o m p) → greatest ≡ max one most → max greatest (finest_at o m (drop (i + 1) ps)) ≡ max most (finest_at o m (drop i ps))
unfolding most_decimals
finest_more o m ps i p most one greatest lt is same next =
    let e : finest_at o m (drop i ps) ≡ max (decimals_of (point_at o m p)) (finest_at o m (drop (i + 1) ps)) = ap (finest_at o m) (from_here ps i p lt is) in
    at (decimals_of (point_at o m p)) (finest_at o m (drop (i + 1) ps)) (finest_at o m (drop i ps)) same e
  where
    at : (here behind all : ℕ) → one ≡ here → all ≡ max here behind → max greatest behind ≡ max most all
    at here behind all s t = omega arith

pub finest_all : (o : Option WholePoint) (m : ℕ) (ps : List DecimalPoint) (i most : ℕ) → length ps ≤ i → max most (finest_at o m (drop i ps)) ≡ most
unfolding most_decimals
finest_all o m ps i most le = let e : finest_at o m (drop i ps) ≡ 0 = at_drop_all (finest_at o m) ps i le in omega arith

-- ---- sizes

-- a size is over the limit, or within it
pub over_test : (most n : ℕ) (o : Option ℕ) (b : Bool) → o ≡ if_at_most most n → is_some o ≡ not b → b ≡ nat_lt most n
over_test most n o b e same = opposite b (nat_lt most n) (sym same ∙ ap is_some e ∙ at (cases_lt most n))
  where
    opposite : (b c : Bool) → not b ≡ not c → b ≡ c
    opposite true true e = refl
    opposite false false e = refl
    opposite true false e = cc
    opposite false true e = cc

    at : (most < n) ⊎ (n ≤ most) → is_some (if_at_most most n) ≡ not (nat_lt most n)
    at (inl over) = ap is_some (cond-false _ _ _ (lt-leb n most over)) ∙ sym (ap not (lt-ltb most n over))
    at (inr le) = ap is_some (cond-true _ _ _ (le-leb n most le)) ∙ sym (ap not (le-ltb most n le))

-- with more decimals a number has no fewer units
units_rise : (few many : ℕ) (d : Scaled) → few ≤ many → units few 0 d ≤ units many 0 d
unfolding units
units_rise few many d le =
    let steps : few - d.scale ≤ many - d.scale = omega arith in
    let tens : unsigned_abs d.value * 10 ^ (few - d.scale) ≤ unsigned_abs d.value * 10 ^ (many - d.scale) = mul-le-mul_left (unsigned_abs d.value) (pow-le-pow_right (omega arith) steps) in
    mul-le-mul_right (2 ^ 0) tens

over_rises : (wide few many : ℕ) (p : DecimalPoint) → few ≤ many → is_over wide few p ≡ true → is_over wide many p ≡ true
over_rises wide few many p le over =
    let x = units_rise few many p.x le in
    let y = units_rise few many p.y le in
    let z = units_rise few many p.z le in
    lt-ltb wide (size_of many p) (let lt = ltb-true wide (size_of few p) over in omega (arith, x, y, z, lt))

-- what one test finds in a list, where the other passes no fewer
found_here : {X : Type 0} (a b : Bool) (first : X) (rest : Option X) (any : Bool) → (a ≡ true → b ≡ true) → (any ≡ true → (y : X) × (rest ≡ Some y)) → (a || any) ≡ true
    → (y : X) × ((if b then Some first else rest) ≡ Some y)
found_here true true first rest any more others e = (first, refl)
found_here false true first rest any more others e = (first, refl)
found_here true false first rest any more others e = let e : false ≡ true = more refl in absurd (cc)
found_here false false first rest any more others e = others e

found : {X : Type 0} (p q : X → Bool) (r : X → X) (xs : List X) → ((x : X) → p x ≡ true → q x ≡ true) → list_any (λ x. p (r x)) xs ≡ true → (y : X) × (find q (map r xs) ≡ Some y)
found p q r [] more any = absurd (cc)
found p q r (x ∷ xs) more any = found_here (p (r x)) (q (r x)) (r x) (find q (map r xs)) (list_any (λ x. p (r x)) xs) (more (r x)) (found p q r xs more) any

-- a point over the limit at no more decimals than the points have
pub off_rounded : (wide : ℕ) (o : Option WholePoint) (m few : ℕ) (ps : List DecimalPoint) → few ≤ most_decimals (map (point_at o m) ps) → list_any (λ p. is_over wide few (point_at o m p)) ps ≡ true → IsOffRounded wide o ps m
unfolding grid_of first_over
off_rounded wide o m few ps le any =
    let most = most_decimals (map (point_at o m) ps) in
    let one = found (is_over wide few) (is_over wide most) (point_at o m) ps (λ p. over_rises wide few most p le) any in
    record { line = one.0.line; off = λ halvings. rw one.1 refl }

-- ---- searches front to back

pub any_more : {X : Type 0} (q : X → Bool) (xs : List X) (i : ℕ) (x : X) → i < length xs → x ≡ get_or xs i x → q x ≡ false → list_any q (drop (i + 1) xs) ≡ list_any q (drop i xs)
any_more q xs i x lt is none = sym (ap (list_any q) (from_here xs i x lt is) ∙ ap (λ b. b || list_any q (drop (i + 1) xs)) none)

pub any_here : {X : Type 0} (q : X → Bool) (xs : List X) (i : ℕ) (x : X) → i < length xs → x ≡ get_or xs i x → q x ≡ true → list_any q (drop i xs) ≡ true
any_here q xs i x lt is some = ap (list_any q) (from_here xs i x lt is) ∙ ap (λ b. b || list_any q (drop (i + 1) xs)) some

pub any_all : {X : Type 0} (q : X → Bool) (xs : List X) (i : ℕ) → length xs ≤ i → list_any q (drop i xs) ≡ false
any_all q xs i le = at_drop_all (list_any q) xs i le

pub find_more : {X : Type 0} (q : X → Bool) (xs : List X) (i : ℕ) (x : X) → i < length xs → x ≡ get_or xs i x → q x ≡ false → find q (drop (i + 1) xs) ≡ find q (drop i xs)
find_more q xs i x lt is none = sym (ap (find q) (from_here xs i x lt is) ∙ cond-false _ _ _ none)

pub find_here : {X : Type 0} (q : X → Bool) (xs : List X) (i : ℕ) (x : X) → i < length xs → x ≡ get_or xs i x → q x ≡ true → find q (drop i xs) ≡ Some x
find_here q xs i x lt is some = ap (find q) (from_here xs i x lt is) ∙ cond-true _ _ _ some

pub find_all : {X : Type 0} (q : X → Bool) (xs : List X) (i : ℕ) → length xs ≤ i → find q (drop i xs) ≡ None
find_all q xs i le = at_drop_all (find q) xs i le
