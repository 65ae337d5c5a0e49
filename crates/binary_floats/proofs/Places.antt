-- From place to place.
use Rattle.std.proofs.Common.{◌≡◌, ℕ, zero, suc, ◌+◌, ◌-◌, ◌*◌, ◌/◌, ◌%◌, ◌^◌, ◌<◌, ◌≤◌, Bool, true, false, ◌==◌, nat_le, nat_lt, Some, None, if◌then◌else◌, refl, sym, ap, ◌∙◌, arith, inl, inr}
use Rattle.std.specs.Prelude.{IfSome}
use Rattle.std.proofs.lemmas.Bool.{cases_lt, lt-ltb, le-ltb}
use Rattle.std.proofs.lemmas.Bool.Decides.{nat_tests}
use Rattle.std.proofs.lemmas.Nat.{pow_pos, pow-add, mul-pow, div-mul-add, mod-mul-add, div-add-mod', mod_below}
use Rattle.std.proofs.Math.Nat.{mul-le-mul, mul-le-mul_right, mul-lt-mul_of_pos_right, le_of_mul-le-mul_right, le-mul_of_pos_right, pow-le-pow_right, pow-suc, mul_comm, mul_assoc}
use Rattle.std.proofs.Math.Pow.{pow_mono}
use Rattle.binary_floats.specs.declared.steps.Steps.{Steps}
use Rattle.binary_floats.specs.declared.place.Place.{Place}
use Rattle.binary_floats.specs.Nearest.{is_reached, first_reached, nearest, at_places}
use Rattle.binary_floats.specs.Shortest.{least_places, shortest}
use Rattle.binary_floats.specs.Place.{IsDecimalPlace, IsNextPlace}

-- ---- the nearest whole number

pub first_of_none : (b : Bool) (m : ℕ) (c : Bool) (n : ℕ) → first_reached b m c n ≡ None → (b ≡ false) × (c ≡ false)
first_of_none true m c n none = cc
first_of_none false m true n none = cc
first_of_none false m false n none = (refl, refl)

first_of_fits : (b : Bool) (m : ℕ) (c : Bool) (n most : ℕ) → m ≤ most → n ≤ most → IfSome (first_reached b m c n) (λ k. k ≤ most)
first_of_fits true m c n most le le2 = le
first_of_fits false m true n most le le2 = le2
first_of_fits false m false n most le le2 = tt

not_reached : (closed : Bool) (a b : ℕ) → is_reached closed a b ≡ false → b ≤ a
not_reached true a b is = grind (arith, nat_tests)
not_reached false a b is = grind (arith, nat_tests)

quarters : (rest unit quarter below : ℕ) → 1 ≤ below → below * quarter ≤ rest → rest + 2 * quarter ≤ unit → 3 * quarter ≤ unit
quarters rest unit quarter below some lower upper =
    let one : 1 * quarter ≤ below * quarter = mul-le-mul_right quarter some in
    omega arith

-- where no whole number reads back, three quarters are at most a unit
pub none_near : (whole rest unit quarter below : ℕ) (closed : Bool) → 1 ≤ below → nearest whole rest unit quarter below closed ≡ None → 3 * quarter ≤ unit
none_near whole rest unit quarter below closed some none = go (if 2 * rest == unit then whole % 2 == 0 else nat_lt (2 * rest) unit) none
  where
    go : (b : Bool)
        → (if b then first_reached (is_reached closed rest (below * quarter)) whole (is_reached closed unit (rest + 2 * quarter)) (whole + 1)
        else first_reached (is_reached closed unit (rest + 2 * quarter)) (whole + 1) (is_reached closed rest (below * quarter)) whole) ≡ None → 3 * quarter ≤ unit
    go true is = let both = first_of_none (is_reached closed rest (below * quarter)) whole (is_reached closed unit (rest + 2 * quarter)) (whole + 1) is in
        quarters rest unit quarter below some (not_reached closed rest (below * quarter) both.0) (not_reached closed unit (rest + 2 * quarter) both.1)
    go false is = let both = first_of_none (is_reached closed unit (rest + 2 * quarter)) (whole + 1) (is_reached closed rest (below * quarter)) whole is in
        quarters rest unit quarter below some (not_reached closed rest (below * quarter) both.1) (not_reached closed unit (rest + 2 * quarter) both.0)

pub near_fits : (whole rest unit quarter below : ℕ) (closed : Bool) → IfSome (nearest whole rest unit quarter below closed) (λ n. n ≤ whole + 1)
near_fits whole rest unit quarter below closed = go (if 2 * rest == unit then whole % 2 == 0 else nat_lt (2 * rest) unit)
  where
    go : (b : Bool)
        → IfSome (if b then first_reached (is_reached closed rest (below * quarter)) whole (is_reached closed unit (rest + 2 * quarter)) (whole + 1)
        else first_reached (is_reached closed unit (rest + 2 * quarter)) (whole + 1) (is_reached closed rest (below * quarter)) whole) (λ n. n ≤ whole + 1)
    go true = first_of_fits (is_reached closed rest (below * quarter)) whole (is_reached closed unit (rest + 2 * quarter)) (whole + 1) (whole + 1) (omega arith) (omega arith)
    go false = first_of_fits (is_reached closed unit (rest + 2 * quarter)) (whole + 1) (is_reached closed rest (below * quarter)) whole (whole + 1) (omega arith) (omega arith)

-- ---- the same factor on all sides

lt_times : (a b p : ℕ) → 0 < p → nat_lt (a * p) (b * p) ≡ nat_lt a b
lt_times a b p some =
    elim (cases_lt a b) [
      | inl lt ↦ lt-ltb (a * p) (b * p) (mul-lt-mul_of_pos_right lt some) ∙ sym (lt-ltb a b lt)
      | inr le ↦ le-ltb (a * p) (b * p) (mul-le-mul_right p le) ∙ sym (le-ltb a b le)
    ]

le_times : (a b p : ℕ) → 0 < p → nat_le (a * p) (b * p) ≡ nat_le a b
le_times a b p some =
    elim (cases_lt b a) [
      | inl lt ↦ let more : b * p < a * p = mul-lt-mul_of_pos_right lt some in grind (arith, nat_tests)
      | inr le ↦ let more : a * p ≤ b * p = mul-le-mul_right p le in grind (arith, nat_tests)
    ]

same_times : (a b p : ℕ) → 0 < p → (a * p == b * p) ≡ (a == b)
same_times a b p some =
    elim (cases_lt a b) [
      | inl lt ↦ let more : a * p < b * p = mul-lt-mul_of_pos_right lt some in grind (arith, nat_tests)
      | inr le ↦ elim (cases_lt b a) [
        | inl lt ↦ let more : b * p < a * p = mul-lt-mul_of_pos_right lt some in grind (arith, nat_tests)
        | inr ge ↦ let e : a ≡ b = omega arith in rw e (grind (arith, nat_tests))
      ]
    ]

reached_times : (closed : Bool) (a b p : ℕ) → 0 < p → is_reached closed (a * p) (b * p) ≡ is_reached closed a b
reached_times true a b p some = le_times a b p some
reached_times false a b p some = lt_times a b p some

twice_out : (a p : ℕ) → 2 * (a * p) ≡ 2 * a * p
twice_out a p = sym (mul_assoc 2 a p)

pub nearest_times : (whole rest unit quarter below p : ℕ) (closed : Bool) → 0 < p → nearest whole (rest * p) (unit * p) (quarter * p) below closed ≡ nearest whole rest unit quarter below closed
nearest_times whole rest unit quarter below p closed some =
    let twice : 2 * (rest * p) ≡ 2 * rest * p = twice_out rest p in
    let lower : below * (quarter * p) ≡ below * quarter * p = sym (mul_assoc below quarter p) in
    let upper : rest * p + 2 * (quarter * p) ≡ (rest + 2 * quarter) * p = omega (arith, twice_out quarter p) in
    rw (twice, lower, upper, same_times (2 * rest) unit p some, lt_times (2 * rest) unit p some, reached_times closed rest (below * quarter) p some, reached_times closed unit (rest + 2 * quarter) p some) refl

-- ---- a place

tens : (k : ℕ) → 10 ^ k ≡ 5 ^ k * 2 ^ k
tens k = mul-pow 5 2 k

two_more : (n k : ℕ) → k ≤ n → 2 ^ n ≡ 2 ^ (n - k) * 2 ^ k
two_more n k le = let e : n ≡ n - k + k = omega arith in ap (λ (m : ℕ). 2 ^ m) e ∙ pow-add 2 (n - k) k

pub at_place : (s : Steps) (places : ℕ) (p : Place) → IsDecimalPlace s places p → places ≤ s.halvings
    → at_places s places ≡ nearest p.whole p.rest p.unit p.quarter s.below (s.count % 2 == 0)
unfolding at_places
at_place s places p is le =
    let twos = 2 ^ places in
    let some : 0 < twos = pow_pos places in
    let number : 4 * s.count * 10 ^ places ≡ p.whole * (p.unit * twos) + p.rest * twos =
    ap (λ (t : ℕ). 4 * s.count * t) (tens places) ∙ sym (mul_assoc (4 * s.count) (5 ^ places) twos) ∙ ap (λ (n : ℕ). n * twos) is.number ∙ spread p.whole p.unit p.rest twos in
    let unit : 2 ^ (s.halvings + 2) ≡ p.unit * twos = two_more (s.halvings + 2) places (omega arith) ∙ ap (λ (u : ℕ). u * twos) (sym is.unit) in
    let quarter : 10 ^ places ≡ p.quarter * twos = tens places ∙ ap (λ (q : ℕ). q * twos) (sym is.quarter) in
    let less : p.rest * twos < p.unit * twos = mul-lt-mul_of_pos_right is.rest some in
    let whole : 4 * s.count * 10 ^ places / 2 ^ (s.halvings + 2) ≡ p.whole =
    ap (λ (u : ℕ). 4 * s.count * 10 ^ places / u) unit ∙ ap (λ (n : ℕ). n / (p.unit * twos)) number ∙ div-mul-add p.whole (p.unit * twos) (p.rest * twos) less in
    let rest : 4 * s.count * 10 ^ places % 2 ^ (s.halvings + 2) ≡ p.rest * twos =
    ap (λ (u : ℕ). 4 * s.count * 10 ^ places % u) unit ∙ ap (λ (n : ℕ). n % (p.unit * twos)) number ∙ mod-mul-add p.whole (p.unit * twos) (p.rest * twos) less in
    ap (λ (n : ℕ). nearest n (4 * s.count * 10 ^ places % 2 ^ (s.halvings + 2)) (2 ^ (s.halvings + 2)) (10 ^ places) s.below (s.count % 2 == 0)) whole
    ∙ ap (λ (n : ℕ). nearest p.whole n (2 ^ (s.halvings + 2)) (10 ^ places) s.below (s.count % 2 == 0)) rest
    ∙ ap (λ (n : ℕ). nearest p.whole (p.rest * twos) n (10 ^ places) s.below (s.count % 2 == 0)) unit
    ∙ ap (λ (n : ℕ). nearest p.whole (p.rest * twos) (p.unit * twos) n s.below (s.count % 2 == 0)) quarter
    ∙ nearest_times p.whole p.rest p.unit p.quarter s.below twos (s.count % 2 == 0) some
  where
    spread : (w u r t : ℕ) → (w * u + r) * t ≡ w * (u * t) + r * t
    spread w u r t = omega (arith, mul_assoc w u t)

-- ---- the first place

pub unit_small : (halvings first : ℕ) → halvings ≤ 149 → first ≡ halvings - 118 → 2 ^ (halvings + 2 - first) ≤ 2 ^ 120
unit_small halvings first le is = let h : halvings + 2 - first ≤ 120 = omega arith in pow_mono h

pub fives_small : (k : ℕ) → k ≤ 31 → 5 ^ k ≤ 2 ^ 72
fives_small k le = let h : 5 ^ k ≤ 5 ^ 31 = pow-le-pow_right (omega arith) le in omega (arith, h)

pub number_small : (count k : ℕ) → count < 2 ^ 24 → k ≤ 31 → 4 * count * 5 ^ k ≤ 2 ^ 98
number_small count k less le =
    let four : 4 * count ≤ 2 ^ 26 = omega arith in
    let h : 4 * count * 5 ^ k ≤ 2 ^ 26 * 2 ^ 72 = mul-le-mul four (fives_small k le) in
    omega (arith, h)

pub started : (s : Steps) (first number unit quarter : ℕ) → s.count < 2 ^ 24 → s.halvings ≤ 149 → first ≡ s.halvings - 118
    → unit ≡ 2 ^ (s.halvings + 2 - first) → quarter ≡ 5 ^ first → number ≡ 4 * s.count * quarter
    → IsDecimalPlace s first (record { whole = number / unit; rest = number % unit; unit = unit; quarter = quarter })
started s first number unit quarter less le first-is unit-is quarter-is number-is =
    let some : 0 < unit = rw unit-is (pow_pos (s.halvings + 2 - first)) in
    let small : 4 * s.count * 5 ^ first ≤ 2 ^ 98 = number_small s.count first less (omega arith) in
    let e : 4 * s.count * 5 ^ first ≡ number = sym (number-is ∙ ap (λ (q : ℕ). 4 * s.count * q) quarter-is) in
    record {
      number = e ∙ sym (div-add-mod' number unit);
      rest = mod_below number unit some;
      unit = unit-is;
      quarter = quarter-is;
      unit_fits = rw unit-is (unit_small s.halvings first le first-is);
      quarter_fits = rw quarter-is (omega (arith, fives_small first (omega arith)));
      whole_fits = omega (arith, small, e, div_le number unit some);
    }
  where
    div_le : (n u : ℕ) → 0 < u → n / u ≤ n
    div_le n u some = let h : n / u ≤ n / u * u = le-mul_of_pos_right (n / u) some in omega (arith, h, div-add-mod' n u)

-- ---- the next place

pub goes_on : (s : Steps) (places : ℕ) (p q : Place) → IsDecimalPlace s places p → s.count < 2 ^ 24 → places ≤ s.halvings → 3 * p.quarter ≤ p.unit → IsNextPlace p q → IsDecimalPlace s (places + 1) q
goes_on s places p q is few le quarters next =
    let shorter : s.halvings + 2 - places ≡ suc (s.halvings + 2 - (places + 1)) = omega arith in
    let half : p.unit ≡ 2 ^ (s.halvings + 2 - (places + 1)) * 2 = is.unit ∙ ap (λ (k : ℕ). 2 ^ k) shorter ∙ pow-suc 2 (s.halvings + 2 - (places + 1)) in
    let unit : q.unit ≡ 2 ^ (s.halvings + 2 - (places + 1)) = next.unit ∙ halved p.unit (2 ^ (s.halvings + 2 - (places + 1))) half in
    let double : p.unit ≡ q.unit * 2 = half ∙ ap (λ (u : ℕ). u * 2) (sym unit) in
    let some : 0 < q.unit = rw unit (pow_pos (s.halvings + 2 - (places + 1))) in
    let five : 5 ^ (places + 1) ≡ 5 ^ places * 5 = fives places in
    let rest : q.rest ≡ p.rest * 5 % q.unit = next.rest ∙ ap (λ (u : ℕ). p.rest * 5 % u) (sym next.unit) in
    let whole : q.whole ≡ p.whole * 10 + p.rest * 5 / q.unit = next.whole ∙ ap (λ (u : ℕ). p.whole * 10 + p.rest * 5 / u) (sym next.unit) in
    let number : 4 * s.count * 5 ^ (places + 1) ≡ q.whole * q.unit + q.rest =
    ap (λ (f : ℕ). 4 * s.count * f) five ∙ sym (mul_assoc (4 * s.count) (5 ^ places) 5) ∙ ap (λ (n : ℕ). n * 5) is.number
    ∙ carried p.whole p.unit p.rest q.whole q.unit q.rest double whole rest in
    let quarter : q.quarter ≡ 5 ^ (places + 1) = next.quarter ∙ ap (λ (f : ℕ). f * 5) is.quarter ∙ sym five in
    let most : 4 * s.count * 5 ^ (places + 1) ≤ 2 ^ 26 * 5 ^ (places + 1) = mul-le-mul_right (5 ^ (places + 1)) (omega arith) in
    record {
      number = number;
      rest = rw rest (mod_below (p.rest * 5) q.unit some);
      unit = unit;
      quarter = quarter;
      unit_fits = omega (arith, is.unit_fits, double);
      quarter_fits = omega (arith, is.unit_fits, quarters, next.quarter);
      whole_fits = few_whole q.whole q.unit q.quarter (omega (arith, quarters, double, next.quarter)) some (omega (arith, number, most, quarter));
    }
  where
    halved : (n m : ℕ) → n ≡ m * 2 → n / 2 ≡ m
    halved n m is = omega arith

    fives : (k : ℕ) → 5 ^ (k + 1) ≡ 5 ^ k * 5
    fives k = let e : k + 1 ≡ suc k = omega arith in ap (λ (n : ℕ). 5 ^ n) e ∙ pow-suc 5 k

    carried : (w u r v t x : ℕ) → u ≡ t * 2 → v ≡ w * 10 + r * 5 / t → x ≡ r * 5 % t → (w * u + r) * 5 ≡ v * t + x
    carried w u r v t x double whole rest =
        let e : w * u ≡ w * t * 2 = ap (λ (n : ℕ). w * n) double ∙ sym (mul_assoc w t 2) in
        let f : v * t ≡ (w * 10 + r * 5 / t) * t = ap (λ (n : ℕ). n * t) whole in
        let g : (w * 10 + r * 5 / t) * t ≡ w * 10 * t + r * 5 / t * t = omega arith in
        let h : w * 10 * t ≡ 10 * (w * t) = ap (λ (n : ℕ). n * t) (mul_comm w 10) ∙ mul_assoc 10 w t in
        omega (arith, e, f, g, h, rest, div-add-mod' (r * 5) t)

    few_whole : (v t q : ℕ) → 3 * q ≤ 10 * t → 0 < t → v * t ≤ 2 ^ 26 * q → v ≤ 2 ^ 100
    few_whole v t q less some le =
        let h : v * t ≤ 2 ^ 28 * t = omega arith in
        let k : v ≤ 2 ^ 28 = le_of_mul-le-mul_right h some in
        omega arith

-- ---- the search

pub not_yet : (s : Steps) (more places : ℕ) → at_places s places ≡ None → least_places (suc more) places s ≡ least_places more (places + 1) s
unfolding least_places
not_yet s more places none = rw none refl

pub here : (s : Steps) (more places n : ℕ) → at_places s places ≡ Some n → least_places (suc more) places s ≡ Some (n, places)
unfolding least_places
here s more places n is = rw is refl

pub never : (s : Steps) (places : ℕ) → least_places 0 places s ≡ None
unfolding least_places
never s places = refl

-- the search may begin behind places where nothing reads back
pub skipped : (s : Steps) (all k : ℕ) → k ≤ all → ((i : ℕ) → i < k → at_places s i ≡ None) → least_places (all - k) k s ≡ least_places all 0 s
skipped s all zero le none = let e : all - 0 ≡ all = omega arith in ap (λ (n : ℕ). least_places n 0 s) e
skipped s all (suc k) le none =
    let e : all - k ≡ suc (all - suc k) = omega arith in
    let f : k + 1 ≡ suc k = omega arith in
    ap (λ (n : ℕ). least_places (all - suc k) n s) (sym f) ∙ sym (not_yet s (all - suc k) k (none k (omega arith)))
    ∙ ap (λ (n : ℕ). least_places n k s) (sym e) ∙ skipped s all k (omega arith) (λ i less. none i (omega arith))

-- a number below 1 with its quarters does not read back, where it is not 0
too_small : (number unit quarter below : ℕ) (closed : Bool) → below * quarter < number → number + 2 * quarter < unit → nearest (number / unit) (number % unit) unit quarter below closed ≡ None
too_small number unit quarter below closed more less =
    let zero-is : 0 * unit + number ≡ number = omega arith in
    let whole : number / unit ≡ 0 = ap (λ (n : ℕ). n / unit) (sym zero-is) ∙ div-mul-add 0 unit number (omega arith) in
    let rest : number % unit ≡ number = ap (λ (n : ℕ). n % unit) (sym zero-is) ∙ mod-mul-add 0 unit number (omega arith) in
    let lower : is_reached closed number (below * quarter) ≡ false = unreached closed number (below * quarter) more in
    let upper : is_reached closed unit (number + 2 * quarter) ≡ false = unreached closed unit (number + 2 * quarter) less in
    rw (whole, rest, lower, upper) (both (if 2 * number == unit then 0 % 2 == 0 else nat_lt (2 * number) unit))
  where
    unreached : (c : Bool) (a b : ℕ) → b < a → is_reached c a b ≡ false
    unreached true a b lt = grind (arith, nat_tests)
    unreached false a b lt = grind (arith, nat_tests)

    both : (b : Bool) → (if b then first_reached false 0 false (0 + 1) else first_reached false (0 + 1) false 0) ≡ None
    both true = refl
    both false = refl

pub nothing_before : (s : Steps) (i : ℕ) → 0 < s.count → s.count < 2 ^ 24 → s.below ≤ 2 → i < s.halvings - 118 → s.halvings ≤ 149 → at_places s i ≡ None
unfolding at_places
nothing_before s i some few below less le =
    let ten : 0 < 10 ^ i = rw (tens i) (omega (arith, mul-pos (5 ^ i) (2 ^ i) (pow5 i) (pow_pos i))) in
    let lower : s.below * 10 ^ i ≤ 2 * 10 ^ i = mul-le-mul_right (10 ^ i) below in
    let four : 4 * 10 ^ i ≤ 4 * s.count * 10 ^ i = mul-le-mul_right (10 ^ i) (omega arith) in
    let most : (4 * s.count + 2) * 10 ^ i ≤ (2 ^ 26 - 2) * 10 ^ i = mul-le-mul_right (10 ^ i) (omega arith) in
    let five : 5 ^ i * 2 ^ i ≤ 2 ^ 72 * 2 ^ i = mul-le-mul_right (2 ^ i) (fives_small i (omega arith)) in
    let wide : 2 ^ (i + 121) ≡ 2 ^ i * 2 ^ 121 = pow-add 2 i 121 in
    let unit : 2 ^ (i + 121) ≤ 2 ^ (s.halvings + 2) = (let h : i + 121 ≤ s.halvings + 2 = omega arith in pow_mono h) in
    too_small (4 * s.count * 10 ^ i) (2 ^ (s.halvings + 2)) (10 ^ i) s.below (s.count % 2 == 0) (omega (arith, ten, lower, four)) (omega (arith, most, five, wide, unit, tens i, pow_pos i))
  where
    pow5 : (k : ℕ) → 0 < 5 ^ k
    pow5 k = let none : 0 ≤ k = omega arith in let h : 5 ^ 0 ≤ 5 ^ k = pow-le-pow_right (omega arith) none in omega (arith, h)

    mul-pos : (a b : ℕ) → 0 < a → 0 < b → 0 < a * b
    mul-pos a b ha hb = let h : 1 * b ≤ a * b = mul-le-mul_right b ha in omega (arith, h)

-- zero
pub zero_here : (s : Steps) → s.count ≡ 0 → shortest s ≡ Some (0, 0)
unfolding at_places
zero_here s zero-is =
    let e : s.halvings + 1 ≡ suc s.halvings = omega arith in
    let some : 0 < 2 ^ (s.halvings + 2) = pow_pos (s.halvings + 2) in
    let number : 4 * s.count * 10 ^ 0 ≡ 0 = omega arith in
    let is : at_places s 0 ≡ Some 0 = rw (number, zero-is) (at_zero (2 ^ (s.halvings + 2)) s.below some) in
    ap (λ (n : ℕ). least_places n 0 s) e ∙ here s s.halvings 0 0 is
  where
    at_zero : (unit below : ℕ) → 0 < unit → nearest (0 / unit) (0 % unit) unit (10 ^ 0) below true ≡ Some 0
    at_zero unit below some =
        let whole : 0 / unit ≡ 0 = omega arith in
        let rest : 0 % unit ≡ 0 = omega arith in
        let other : (2 * 0 == unit) ≡ false = grind (arith, nat_tests) in
        let less : nat_lt (2 * 0) unit ≡ true = grind (arith, nat_tests) in
        let low : nat_le 0 (below * 10 ^ 0) ≡ true = grind (arith, nat_tests) in
        rw (whole, rest, other, less, low) refl
