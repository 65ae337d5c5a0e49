-- The rule of least numbers decides ties as the points by rising number do.
use Rattle.std.proofs.Common.{◌≡◌, ◌≢◌, ℕ, zero, suc, ◌<◌, ℤ, pos, negsuc, Bool, true, false, cond, ◌&&◌, ◌||◌, nat_lt, List, [], ◌∷◌, map, filter, refl, sym, ap, ◌∙◌, arith}
use Rattle.std.specs.Prelude.{int_lt, int_le, Some, None}
use Rattle.std.specs.List.{list_all, list_any}
use Rattle.std.proofs.lemmas.Bool.{ltb-true}
use Rattle.std.proofs.lemmas.Bool.Decides.{nat_tests}
use Rattle.sign_predicates.specs.Point.{Point}
use Rattle.sign_predicates.specs.Orientation.{Triangle, side}
use Rattle.sign_predicates.specs.declared.tetrahedron.Corners.{Corners}
use Rattle.sign_predicates.specs.declared.tetrahedron.Numbers.{Numbers}
use Rattle.sign_predicates.specs.Sphere.{in_sphere, opposite_faces, alongside, wins_tie}
use Rattle.sign_predicates.specs.Ties.{Decision, decision_of, decisions, put_by_number, by_rising_number, first_decision, AreFiveDifferent, TieLaw}

-- ---- the numbers of the points for outside and against it

abbrev pub against_and : (ℕ → Bool) → Decision → Bool → Bool
against_and p (i, None) r = r
against_and p (i, Some true) r = r
against_and p (i, Some false) r = p i && r

-- p holds of the number of each point against outside
abbrev pub all_against : (ℕ → Bool) → List Decision → Bool
all_against p [] = true
all_against p (d ∷ ds) = against_and p d (all_against p ds)

abbrev pub for_or : (ℕ → Bool) → Decision → Bool → Bool
for_or p (i, None) r = r
for_or p (i, Some true) r = p i || r
for_or p (i, Some false) r = r

-- p holds of the number of some point for outside
abbrev pub any_for : (ℕ → Bool) → List Decision → Bool
any_for p [] = false
any_for p (d ∷ ds) = for_or p d (any_for p ds)

-- some point for outside has a number less than those of all points against it
abbrev pub least_is_for : List Decision → Bool
least_is_for ds = any_for (λ i. all_against (nat_lt i) ds) ds

-- ---- the order of the points doesn't matter for these

swap_and : (a b r : Bool) → a && (b && r) ≡ b && (a && r)
swap_and true true r = refl
swap_and true false r = refl
swap_and false true r = refl
swap_and false false r = refl

swap_or : (a b r : Bool) → a || (b || r) ≡ b || (a || r)
swap_or true true r = refl
swap_or true false r = refl
swap_or false true r = refl
swap_or false false r = refl

against_swap : (p : ℕ → Bool) (d e : Decision) (r : Bool) → against_and p d (against_and p e r) ≡ against_and p e (against_and p d r)
against_swap p (i, None) e r = refl
against_swap p (i, Some true) e r = refl
against_swap p (i, Some false) (j, None) r = refl
against_swap p (i, Some false) (j, Some true) r = refl
against_swap p (i, Some false) (j, Some false) r = swap_and (p i) (p j) r

for_swap : (p : ℕ → Bool) (d e : Decision) (r : Bool) → for_or p d (for_or p e r) ≡ for_or p e (for_or p d r)
for_swap p (i, None) e r = refl
for_swap p (i, Some false) e r = refl
for_swap p (i, Some true) (j, None) r = refl
for_swap p (i, Some true) (j, Some false) r = refl
for_swap p (i, Some true) (j, Some true) r = swap_or (p i) (p j) r

against_put : (p : ℕ → Bool) (d : Decision) (xs : List Decision) → all_against p (put_by_number d xs) ≡ against_and p d (all_against p xs)
against_put p d [] = refl
against_put p d (x ∷ xs) = go (nat_lt x.0 d.0) (against_put p d xs)
  where
    go : (b : Bool) → all_against p (put_by_number d xs) ≡ against_and p d (all_against p xs) → all_against p (cond b (x ∷ put_by_number d xs) (d ∷ x ∷ xs)) ≡ against_and p d (against_and p x (all_against p xs))
    go true later = ap (against_and p x) later ∙ against_swap p x d (all_against p xs)
    go false later = refl

for_put : (p : ℕ → Bool) (d : Decision) (xs : List Decision) → any_for p (put_by_number d xs) ≡ for_or p d (any_for p xs)
for_put p d [] = refl
for_put p d (x ∷ xs) = go (nat_lt x.0 d.0) (for_put p d xs)
  where
    go : (b : Bool) → any_for p (put_by_number d xs) ≡ for_or p d (any_for p xs) → any_for p (cond b (x ∷ put_by_number d xs) (d ∷ x ∷ xs)) ≡ for_or p d (for_or p x (any_for p xs))
    go true later = ap (for_or p x) later ∙ for_swap p x d (any_for p xs)
    go false later = refl

against_sorted : (p : ℕ → Bool) (ds : List Decision) → all_against p (by_rising_number ds) ≡ all_against p ds
against_sorted p [] = refl
against_sorted p (d ∷ ds) = against_put p d (by_rising_number ds) ∙ ap (against_and p d) (against_sorted p ds)

for_sorted : (p : ℕ → Bool) (ds : List Decision) → any_for p (by_rising_number ds) ≡ any_for p ds
for_sorted p [] = refl
for_sorted p (d ∷ ds) = for_put p d (by_rising_number ds) ∙ ap (for_or p d) (for_sorted p ds)

least_sorted : (ds : List Decision) → least_is_for (by_rising_number ds) ≡ least_is_for ds
least_sorted ds = (λ t. any_for (λ i. against_sorted (nat_lt i) ds t) (by_rising_number ds)) ∙ for_sorted (λ i. all_against (nat_lt i) ds) ds

-- ---- points by rising number

-- each number is above i
abbrev pub AllAbove : ℕ → List Decision → Type 0
AllAbove i [] = Unit {0}
AllAbove i (d ∷ ds) = (i < d.0) × AllAbove i ds

abbrev pub IsAscending : List Decision → Type 0
IsAscending [] = Unit {0}
IsAscending (d ∷ ds) = AllAbove d.0 ds × IsAscending ds

-- no number is i
abbrev pub NoneIs : ℕ → List Decision → Type 0
NoneIs i [] = Unit {0}
NoneIs i (d ∷ ds) = (i ≢ d.0) × NoneIs i ds

abbrev pub AllDiffer : List Decision → Type 0
AllDiffer [] = Unit {0}
AllDiffer (d ∷ ds) = NoneIs d.0 ds × AllDiffer ds

all_pass : (i : ℕ) (ds : List Decision) → AllAbove i ds → all_against (nat_lt i) ds ≡ true
all_pass i [] h = refl
all_pass i ((j, None) ∷ ds) h = all_pass i ds h.1
all_pass i ((j, Some true) ∷ ds) h = all_pass i ds h.1
all_pass i ((j, Some false) ∷ ds) h = both (nat_lt i j) (all_against (nat_lt i) ds) (passes i j h.0) (all_pass i ds h.1)
  where
    passes : (i j : ℕ) → i < j → nat_lt i j ≡ true
    passes i j h = grind (arith, nat_tests)

    both : (a b : Bool) → a ≡ true → b ≡ true → a && b ≡ true
    both a b ha hb = ap (λ x. x && b) ha ∙ hb

none_pass : (q : ℕ → Bool) (i : ℕ) (ds : List Decision) → ((j : ℕ) → i < j → q j ≡ false) → AllAbove i ds → any_for q ds ≡ false
none_pass q i [] fails h = refl
none_pass q i ((j, None) ∷ ds) fails h = none_pass q i ds fails h.1
none_pass q i ((j, Some false) ∷ ds) fails h = none_pass q i ds fails h.1
none_pass q i ((j, Some true) ∷ ds) fails h = ap (λ x. x || any_for q ds) (fails j h.0) ∙ none_pass q i ds fails h.1

first_is : (ds : List Decision) → IsAscending ds → first_decision ds ≡ least_is_for ds
first_is [] h = refl
first_is ((i, None) ∷ ds) h = first_is ds h.1
first_is ((i, Some true) ∷ ds) h = sym (ap (λ x. x || any_for (λ j. all_against (nat_lt j) ds) ds) (all_pass i ds h.0))
first_is ((i, Some false) ∷ ds) h = sym (none_pass (λ j. nat_lt j i && all_against (nat_lt j) ds) i ds fails h.0)
  where
    no_less : (j : ℕ) → i < j → nat_lt j i ≡ false
    no_less j l = grind (arith, nat_tests)

    fails : (j : ℕ) → i < j → nat_lt j i && all_against (nat_lt j) ds ≡ false
    fails j l = ap (λ x. x && all_against (nat_lt j) ds) (no_less j l)

above_put : (i : ℕ) (d : Decision) (xs : List Decision) → i < d.0 → AllAbove i xs → AllAbove i (put_by_number d xs)
above_put i d [] l h = (l, tt)
above_put i d (x ∷ xs) l h = go (nat_lt x.0 d.0) (above_put i d xs l h.1)
  where
    go : (b : Bool) → AllAbove i (put_by_number d xs) → AllAbove i (cond b (x ∷ put_by_number d xs) (d ∷ x ∷ xs))
    go true later = (h.0, later)
    go false later = (l, h)

above_more : (i j : ℕ) (xs : List Decision) → i < j → AllAbove j xs → AllAbove i xs
above_more i j [] l h = tt
above_more i j (x ∷ xs) l h = (omega (arith, l, h.0), above_more i j xs l h.1)

none_put : (i : ℕ) (d : Decision) (xs : List Decision) → i ≢ d.0 → NoneIs i xs → NoneIs i (put_by_number d xs)
none_put i d [] n h = (n, tt)
none_put i d (x ∷ xs) n h = go (nat_lt x.0 d.0) (none_put i d xs n h.1)
  where
    go : (b : Bool) → NoneIs i (put_by_number d xs) → NoneIs i (cond b (x ∷ put_by_number d xs) (d ∷ x ∷ xs))
    go true later = (h.0, later)
    go false later = (n, h)

ascending_put : (d : Decision) (xs : List Decision) → NoneIs d.0 xs → IsAscending xs → IsAscending (put_by_number d xs)
ascending_put d [] n h = (tt, tt)
ascending_put d (x ∷ xs) n h = go (nat_lt x.0 d.0) refl (ascending_put d xs n.1 h.1)
  where
    less : (i j : ℕ) → nat_lt i j ≡ false → j ≢ i → j < i
    less i j e ne = grind (arith, nat_tests)

    go : (b : Bool) → nat_lt x.0 d.0 ≡ b → IsAscending (put_by_number d xs) → IsAscending (cond b (x ∷ put_by_number d xs) (d ∷ x ∷ xs))
    go true e later = (above_put x.0 d xs (ltb-true x.0 d.0 e) h.0, later)
    go false e later =
        let l = less x.0 d.0 e n.0 in
        ((l, above_more d.0 x.0 xs l h.0), h)

none_sorted : (i : ℕ) (ds : List Decision) → NoneIs i ds → NoneIs i (by_rising_number ds)
none_sorted i [] h = tt
none_sorted i (d ∷ ds) h = none_put i d (by_rising_number ds) h.0 (none_sorted i ds h.1)

ascending_sorted : (ds : List Decision) → AllDiffer ds → IsAscending (by_rising_number ds)
ascending_sorted [] h = tt
ascending_sorted (d ∷ ds) h = ascending_put d (by_rising_number ds) (none_sorted d.0 ds h.0) (ascending_sorted ds h.1)

-- where all numbers differ, the least of them decides
pub first_decides : (ds : List Decision) → AllDiffer ds → first_decision (by_rising_number ds) ≡ least_is_for ds
first_decides ds h = first_is (by_rising_number ds) (ascending_sorted ds h) ∙ least_sorted ds

-- ---- corners by their faces

not_both : (s : ℤ) → int_lt s (pos 0) && int_lt (pos 0) s ≡ false
not_both (pos zero) = refl
not_both (pos (suc n)) = grind (arith, nat_tests)
not_both (negsuc n) = refl

against_step : (p : ℕ → Bool) (i : ℕ) (b c r : Bool) → b && c ≡ false → against_and p (i, cond b (Some true) (cond c (Some false) None)) r ≡ cond c (p i && r) r
against_step p i true true r e = absurd cc
against_step p i true false r e = refl
against_step p i false true r e = refl
against_step p i false false r e = refl

for_step : (p : ℕ → Bool) (i : ℕ) (b c r : Bool) → for_or p (i, cond b (Some true) (cond c (Some false) None)) r ≡ cond b (p i || r) r
for_step p i true c r = refl
for_step p i false true r = refl
for_step p i false false r = refl

all_cond : (p : ℕ → Bool) (b : Bool) (f : ℕ × Triangle) (fs : List (ℕ × Triangle))
    → list_all p (map (λ g. g.0) (cond b (f ∷ fs) fs)) ≡ cond b (p f.0 && list_all p (map (λ g. g.0) fs)) (list_all p (map (λ g. g.0) fs))
all_cond p true f fs = refl
all_cond p false f fs = refl

any_cond : (p : ℕ → Bool) (b : Bool) (f : ℕ × Triangle) (fs : List (ℕ × Triangle))
    → list_any p (map (λ g. g.0) (cond b (f ∷ fs) fs)) ≡ cond b (p f.0 || list_any p (map (λ g. g.0) fs)) (list_any p (map (λ g. g.0) fs))
any_cond p true f fs = refl
any_cond p false f fs = refl

all_are : (p : ℕ → Bool) (e : Point) (fs : List (ℕ × Triangle))
    → all_against p (map (λ f. (f.0, decision_of (side f.1 e))) fs) ≡ list_all p (map (λ f. f.0) (filter (λ f. int_lt (pos 0) (side f.1 e)) fs))
all_are p e [] = refl
all_are p e (f ∷ fs) =
    let s = side f.1 e in
    let rest : List (ℕ × Triangle) = filter (λ f. int_lt (pos 0) (side f.1 e)) fs in
    against_step p f.0 (int_lt s (pos 0)) (int_lt (pos 0) s) (all_against p (map (λ f. (f.0, decision_of (side f.1 e))) fs)) (not_both s)
    ∙ ap (λ r. cond (int_lt (pos 0) s) (p f.0 && r) r) (all_are p e fs)
    ∙ sym (all_cond p (int_lt (pos 0) s) f rest)

any_are : (p : ℕ → Bool) (e : Point) (fs : List (ℕ × Triangle))
    → any_for p (map (λ f. (f.0, decision_of (side f.1 e))) fs) ≡ list_any p (map (λ f. f.0) (filter (λ f. int_lt (side f.1 e) (pos 0)) fs))
any_are p e [] = refl
any_are p e (f ∷ fs) =
    let s = side f.1 e in
    let rest : List (ℕ × Triangle) = filter (λ f. int_lt (side f.1 e) (pos 0)) fs in
    for_step p f.0 (int_lt s (pos 0)) (int_lt (pos 0) s) (any_for p (map (λ f. (f.0, decision_of (side f.1 e))) fs))
    ∙ ap (λ r. cond (int_lt s (pos 0)) (p f.0 || r) r) (any_are p e fs)
    ∙ sym (any_cond p (int_lt s (pos 0)) f rest)

least_is : (t : Corners) (n : Numbers) (e : Point) (m : ℕ) → least_is_for (decisions t n e m) ≡ wins_tie t n e m
least_is t n e m =
    let fs = opposite_faces t n in
    let ds : List Decision = map (λ f. (f.0, decision_of (side f.1 e))) fs in
    let wins : ℕ → Bool = λ i. list_all (nat_lt i) (alongside t n e) in
    (λ k. all_are (nat_lt m) e fs k || any_for (λ i. all_are (nat_lt i) e fs k) ds) ∙ ap (λ b. wins m || b) (any_are wins e fs)

differ : (t : Corners) (n : Numbers) (e : Point) (m : ℕ) → AreFiveDifferent n m → AllDiffer (decisions t n e m)
differ t n e m h = (
  (h 0 1 0 (omega arith) (omega arith), (h 0 2 0 (omega arith) (omega arith), (h 0 3 0 (omega arith) (omega arith), (h 0 4 0 (omega arith) (omega arith), tt)))),
  (
    (h 1 2 0 (omega arith) (omega arith), (h 1 3 0 (omega arith) (omega arith), (h 1 4 0 (omega arith) (omega arith), tt))),
    ((h 2 3 0 (omega arith) (omega arith), (h 2 4 0 (omega arith) (omega arith), tt)), ((h 3 4 0 (omega arith) (omega arith), tt), (tt, tt))),
  ),
)

-- ---- the sphere first

sphere_first : (s : ℤ) (tie : Bool) → int_lt s (pos 0) || int_le s (pos 0) && tie ≡ cond (int_lt s (pos 0)) true (cond (int_lt (pos 0) s) false tie)
sphere_first (pos zero) tie = refl
sphere_first (pos (suc n)) tie = by_tests _ _ _ tie (no_less n) (no_at_most n) (above n)
  where
    no_less : (n : ℕ) → int_lt (pos (suc n)) (pos 0) ≡ false
    no_less n = grind (arith, nat_tests)

    no_at_most : (n : ℕ) → int_le (pos (suc n)) (pos 0) ≡ false
    no_at_most n = grind (arith, nat_tests)

    above : (n : ℕ) → int_lt (pos 0) (pos (suc n)) ≡ true
    above n = grind (arith, nat_tests)

    by_tests : (a b c tie : Bool) → a ≡ false → b ≡ false → c ≡ true → a || b && tie ≡ cond a true (cond c false tie)
    by_tests false false true tie ha hb hc = refl
    by_tests true b c tie ha hb hc = absurd cc
    by_tests false true c tie ha hb hc = absurd cc
    by_tests false false false tie ha hb hc = absurd cc
sphere_first (negsuc n) tie = refl

pub tie_law : TieLaw
tie_law t n e m h =
    sphere_first (in_sphere t e) (wins_tie t n e m)
    ∙ ap (λ tie. cond (int_lt (in_sphere t e) (pos 0)) true (cond (int_lt (pos 0) (in_sphere t e)) false tie)) (sym (first_decides (decisions t n e m) (differ t n e m h) ∙ least_is t n e m))
