-- The decimal that is found is the shortest.
use Rattle.std.proofs.Common.{◌≡◌, ◌≢◌, ℕ, zero, suc, ◌+◌, ◌-◌, ◌*◌, ◌/◌, ◌%◌, ◌^◌, ◌<◌, ◌≤◌, Bool, true, false, not, ◌==◌, nat_lt, Option, Some, None, if◌then◌else◌, refl, sym, ap, ◌∙◌, arith, inl, inr, ◌⊎◌}
use Rattle.std.specs.Option.{option_map, option_or}
use Rattle.std.proofs.lemmas.Bool.{cases_lt, true≢false}
use Rattle.std.proofs.lemmas.Bool.Decides.{nat_tests}
use Rattle.std.proofs.lemmas.Nat.{pow_pos, pow-add, mul-pow, mod-mul-add, div-add-mod', mod_below}
use Rattle.std.proofs.Math.Nat.{mul-le-mul_right, pow-le-pow_right, mul_assoc}
use Rattle.binary_floats.specs.declared.steps.Steps.{Steps}
use Rattle.binary_floats.specs.Nearest.{is_reached, first_reached, nearest, at_places}
use Rattle.binary_floats.specs.Shortest.{least_places, shortest}
use Rattle.binary_floats.specs.Laws.{IsReachedBy, ReadsBack, IsShortest}
use Rattle.binary_floats.proofs.Places.{first_of_none}

reached_true : (closed : Bool) (a b : ℕ) → IsReachedBy closed a b → is_reached closed a b ≡ true
reached_true true a b is = grind (arith, nat_tests)
reached_true false a b is = grind (arith, nat_tests)

true_reached : (closed : Bool) (a b : ℕ) → is_reached closed a b ≡ true → IsReachedBy closed a b
true_reached true a b is = grind (arith, nat_tests)
true_reached false a b is = grind (arith, nat_tests)

moved : (closed : Bool) (a b c d : ℕ) → IsReachedBy closed a b → c + b ≤ d + a → IsReachedBy closed c d
moved true a b c d is le = omega arith
moved false a b c d is le = omega arith

-- of a number that reads back, the whole number below the float, or that above, does too
below_too : (closed : Bool) (n unit quarter below whole rest d : ℕ) → n ≡ whole * unit + rest → d ≤ whole
    → IsReachedBy closed n (d * unit + below * quarter) → IsReachedBy closed rest (below * quarter)
below_too closed n unit quarter below whole rest d is le reached =
    let h : d * unit ≤ whole * unit = mul-le-mul_right unit le in
    moved closed n (d * unit + below * quarter) rest (below * quarter) reached (omega (arith, h, is))

above_too : (closed : Bool) (n unit quarter whole rest d : ℕ) → n ≡ whole * unit + rest → whole + 1 ≤ d
    → IsReachedBy closed (d * unit) (n + 2 * quarter) → IsReachedBy closed unit (rest + 2 * quarter)
above_too closed n unit quarter whole rest d is le reached =
    let h : (whole + 1) * unit ≤ d * unit = mul-le-mul_right unit le in
    moved closed (d * unit) (n + 2 * quarter) unit (rest + 2 * quarter) reached (omega (arith, h, is))

-- ---- which of the two is found

-- why the one that was looked at first, or second, is taken
abbrev First : Bool → Bool → Type 0
First b other = (b ≡ true) ⊎ (other ≡ false)

some_is : (n m : ℕ) → (let found : Option ℕ = Some m in found) ≡ Some n → n ≡ m
some_is n m is = cc

taken : (b lower upper : Bool) (whole n : ℕ) → (if b then first_reached lower whole upper (whole + 1) else first_reached upper (whole + 1) lower whole) ≡ Some n
    → ((n ≡ whole) × (lower ≡ true) × First b upper) ⊎ ((n ≡ whole + 1) × (upper ≡ true) × First (not b) lower)
taken true true upper whole n is = inl (some_is n whole is, refl, inl refl)
taken true false true whole n is = inr (some_is n (whole + 1) is, refl, inr refl)
taken true false false whole n is = absurd cc
taken false lower true whole n is = inr (some_is n (whole + 1) is, refl, inl refl)
taken false true false whole n is = inl (some_is n whole is, refl, inr refl)
taken false false false whole n is = absurd cc

none_taken : (b lower upper : Bool) (whole : ℕ) → (if b then first_reached lower whole upper (whole + 1) else first_reached upper (whole + 1) lower whole) ≡ None → (lower ≡ false) × (upper ≡ false)
none_taken true lower upper whole is = first_of_none lower whole upper (whole + 1) is
none_taken false lower upper whole is = let both = first_of_none upper (whole + 1) lower whole is in (both.1, both.0)

abbrev is_lower_nearer : ℕ → ℕ → ℕ → Bool
is_lower_nearer whole rest unit = if 2 * rest == unit then whole % 2 == 0 else nat_lt (2 * rest) unit

near_below : (whole rest unit : ℕ) → is_lower_nearer whole rest unit ≡ true → (2 * rest ≤ unit) × (2 * rest ≡ unit → whole % 2 ≡ 0)
near_below whole rest unit is = (grind (arith, nat_tests), λ tie. grind (arith, nat_tests))

near_above : (whole rest unit : ℕ) → not (is_lower_nearer whole rest unit) ≡ true → (unit ≤ 2 * rest) × (2 * rest ≡ unit → (whole + 1) % 2 ≡ 0)
near_above whole rest unit is = (grind (arith, nat_tests), λ tie. grind (arith, nat_tests))

-- ---- how far the others are

away : ℕ → ℕ → ℕ → ℕ
away n unit d = (d * unit - n) + (n - d * unit)

further_below : (n whole unit rest d : ℕ) → n ≡ whole * unit + rest → d ≤ whole → away n unit whole ≤ away n unit d
unfolding away
further_below n whole unit rest d is le = let h : d * unit ≤ whole * unit = mul-le-mul_right unit le in omega (arith, h, is)

further_above : (n whole unit rest d : ℕ) → n ≡ whole * unit + rest → rest < unit → whole + 1 ≤ d → away n unit (whole + 1) ≤ away n unit d
unfolding away
further_above n whole unit rest d is less le = let h : (whole + 1) * unit ≤ d * unit = mul-le-mul_right unit le in omega (arith, h, is)

below_nearest : (n whole unit rest d : ℕ) → n ≡ whole * unit + rest → rest < unit → 2 * rest ≤ unit → away n unit whole ≤ away n unit d
unfolding away
below_nearest n whole unit rest d is less half =
    elim (cases_lt whole d) [
      | inl lt ↦ let h : (whole + 1) * unit ≤ d * unit = mul-le-mul_right unit (omega arith) in omega (arith, h, is)
      | inr le ↦ let h : d * unit ≤ whole * unit = mul-le-mul_right unit le in omega (arith, h, is)
    ]

above_nearest : (n whole unit rest d : ℕ) → n ≡ whole * unit + rest → rest < unit → unit ≤ 2 * rest → away n unit (whole + 1) ≤ away n unit d
unfolding away
above_nearest n whole unit rest d is less half =
    elim (cases_lt whole d) [
      | inl lt ↦ let h : (whole + 1) * unit ≤ d * unit = mul-le-mul_right unit (omega arith) in omega (arith, h, is)
      | inr le ↦ let h : d * unit ≤ whole * unit = mul-le-mul_right unit le in omega (arith, h, is)
    ]

below_tie : (n whole unit rest d : ℕ) → n ≡ whole * unit + rest → rest < unit → d ≢ whole → away n unit d ≡ away n unit whole → (whole < d) × (unit ≤ 2 * rest)
unfolding away
below_tie n whole unit rest d is less other tie =
    elim (cases_lt whole d) [
      | inl lt ↦ let h : (whole + 1) * unit ≤ d * unit = mul-le-mul_right unit (omega arith) in (lt, omega (arith, h, is, tie))
      | inr le ↦ let lower : d + 1 ≤ whole = omega (arith, le, other) in let h : (d + 1) * unit ≤ whole * unit = mul-le-mul_right unit lower in absurd (omega (arith, h, is, tie))
    ]

above_tie : (n whole unit rest d : ℕ) → n ≡ whole * unit + rest → rest < unit → d ≢ whole + 1 → away n unit d ≡ away n unit (whole + 1) → (d ≤ whole) × (2 * rest ≤ unit)
unfolding away
above_tie n whole unit rest d is less other tie =
    elim (cases_lt whole d) [
      | inl lt ↦ let upper : whole + 2 ≤ d = omega (arith, lt, other) in let h : (whole + 2) * unit ≤ d * unit = mul-le-mul_right unit upper in absurd (omega (arith, h, is, tie))
      | inr le ↦ let h : d * unit ≤ whole * unit = mul-le-mul_right unit le in (le, omega (arith, h, is, tie))
    ]

-- ---- in one

strictly : (closed : Bool) (a b : ℕ) → a < b → IsReachedBy closed a b
strictly true a b lt = omega arith
strictly false a b lt = lt

ten_pos : (k : ℕ) → 0 < 10 ^ k
ten_pos k = let none : 0 ≤ k = omega arith in let h : 10 ^ 0 ≤ 10 ^ k = pow-le-pow_right (omega arith) none in omega (arith, h)

-- of no whole number at these places the decimal reads back
pub none_there : (s : Steps) (places d : ℕ) → at_places s places ≡ None → ReadsBack s places d → ⊥
unfolding at_places
none_there s places d none reads =
    let n = 4 * s.count * 10 ^ places in
    let unit = 2 ^ (s.halvings + 2) in
    let closed = s.count % 2 == 0 in
    let is : n ≡ n / unit * unit + n % unit = sym (div-add-mod' n unit) in
    let both = none_taken (is_lower_nearer (n / unit) (n % unit) unit) (is_reached closed (n % unit) (s.below * 10 ^ places)) (is_reached closed unit (n % unit + 2 * 10 ^ places)) (n / unit) none in
    elim (cases_lt (n / unit) d) [
      | inl lt ↦ true≢false (sym (reached_true closed unit (n % unit + 2 * 10 ^ places) (above_too closed n unit (10 ^ places) (n / unit) (n % unit) d is (omega arith) reads.under)) ∙ both.1)
      | inr le ↦ true≢false (sym (reached_true closed (n % unit) (s.below * 10 ^ places) (below_too closed n unit (10 ^ places) s.below (n / unit) (n % unit) d is le reads.above)) ∙ both.0)
    ]

-- the one that is found, for plain numbers
chosen : (n unit quarter below whole rest : ℕ) (closed : Bool) → n ≡ whole * unit + rest → rest < unit → 0 < quarter → (number : ℕ)
    → nearest whole rest unit quarter below closed ≡ Some number
    → (IsReachedBy closed n (number * unit + below * quarter) × IsReachedBy closed (number * unit) (n + 2 * quarter))
    × ((d : ℕ) → IsReachedBy closed n (d * unit + below * quarter) → IsReachedBy closed (d * unit) (n + 2 * quarter)
    → (away n unit number ≤ away n unit d) × (d ≢ number → away n unit d ≡ away n unit number → number % 2 ≡ 0))
chosen n unit quarter below whole rest closed is less some number found =
    elim (taken (is_lower_nearer whole rest unit) (is_reached closed rest (below * quarter)) (is_reached closed unit (rest + 2 * quarter)) whole number found) [
      | inl (number-is, reached, first) ↦
          let low = true_reached closed rest (below * quarter) reached in
          rw number-is (
            (moved closed rest (below * quarter) n (whole * unit + below * quarter) low (omega (arith, is)), strictly closed (whole * unit) (n + 2 * quarter) (omega (arith, is, some))),
            λ d above under. elim first [
              | inl nearer ↦ let near = near_below whole rest unit nearer in
                  (below_nearest n whole unit rest d is less near.0, λ other tie. near.1 (let both = below_tie n whole unit rest d is less other tie in omega (arith, both.1, near.0)))
              | inr alone ↦ let le : d ≤ whole = only_below d above under alone in
                  (further_below n whole unit rest d is le, λ other tie. absurd (let both = below_tie n whole unit rest d is less other tie in omega (arith, both.0, le)))
            ],
          )
      | inr (number-is, reached, first) ↦
          let high = true_reached closed unit (rest + 2 * quarter) reached in
          rw number-is (
            (strictly closed n ((whole + 1) * unit + below * quarter) (omega (arith, is, less)), moved closed unit (rest + 2 * quarter) ((whole + 1) * unit) (n + 2 * quarter) high (omega (arith, is))),
            λ d above under. elim first [
              | inl nearer ↦ let near = near_above whole rest unit nearer in
                  (above_nearest n whole unit rest d is less near.0, λ other tie. near.1 (let both = above_tie n whole unit rest d is less other tie in omega (arith, both.1, near.0)))
              | inr alone ↦ let le : whole + 1 ≤ d = only_above d above under alone in
                  (further_above n whole unit rest d is less le, λ other tie. absurd (let both = above_tie n whole unit rest d is less other tie in omega (arith, both.0, le)))
            ],
          )
    ]
  where
    only_below : (d : ℕ) → IsReachedBy closed n (d * unit + below * quarter) → IsReachedBy closed (d * unit) (n + 2 * quarter) → is_reached closed unit (rest + 2 * quarter) ≡ false → d ≤ whole
    only_below d above under alone = elim (cases_lt whole d) [
      | inl lt ↦ absurd (true≢false (sym (reached_true closed unit (rest + 2 * quarter) (above_too closed n unit quarter whole rest d is (omega arith) under)) ∙ alone))
      | inr le ↦ le
    ]

    only_above : (d : ℕ) → IsReachedBy closed n (d * unit + below * quarter) → IsReachedBy closed (d * unit) (n + 2 * quarter) → is_reached closed rest (below * quarter) ≡ false → whole + 1 ≤ d
    only_above d above under alone = elim (cases_lt whole d) [
      | inl lt ↦ omega arith
      | inr le ↦ absurd (true≢false (sym (reached_true closed rest (below * quarter) (below_too closed n unit quarter below whole rest d is le above)) ∙ alone))
    ]

-- ---- the search

there : (more places : ℕ) (s : Steps) (number last : ℕ) → least_places more places s ≡ Some (number, last) → (at_places s last ≡ Some number) × ((k : ℕ) → places ≤ k → k < last → at_places s k ≡ None)
unfolding least_places
there zero places s number last is = absurd cc
there (suc more) places s number last is = go (at_places s places) refl (there more (places + 1) s number last) is
  where
    first : (n p m q : ℕ) → (let found : Option (ℕ × ℕ) = Some (n, p) in found) ≡ Some (m, q) → n ≡ m
    first n p m q is = let one : ℕ × ℕ = (n, p) in let pair : one ≡ (m, q) = cc in ap (λ (x : ℕ × ℕ). x.0) pair

    second : (n p m q : ℕ) → (let found : Option (ℕ × ℕ) = Some (n, p) in found) ≡ Some (m, q) → p ≡ q
    second n p m q is = let one : ℕ × ℕ = (n, p) in let pair : one ≡ (m, q) = cc in ap (λ (x : ℕ × ℕ). x.1) pair

    go : (found : Option ℕ) → at_places s places ≡ found → (least_places more (places + 1) s ≡ Some (number, last) → (at_places s last ≡ Some number) × ((k : ℕ) → places + 1 ≤ k → k < last → at_places s k ≡ None))
        → option_or (option_map (λ n. (n, places)) found) (least_places more (places + 1) s) ≡ Some (number, last)
        → (at_places s last ≡ Some number) × ((k : ℕ) → places ≤ k → k < last → at_places s k ≡ None)
    go (Some n) e later h =
        let last-is : places ≡ last = second n places number last h in
        let number-is : n ≡ number = first n places number last h in
        (ap (at_places s) (sym last-is) ∙ e ∙ ap (λ (m : ℕ). let made : Option ℕ = Some m in made) number-is, λ k le less. absurd (omega (arith, last-is)))
    go None e later h =
        let rest = later h in (
          rest.0,
          λ k le less. elim (cases_lt places k) [
            | inl lt ↦ rest.1 k (omega arith) less
            | inr ge ↦ let same : places ≡ k = omega arith in ap (at_places s) (sym same) ∙ e
          ],
        )

pub is_shortest : (s : Steps) (places number : ℕ) → shortest s ≡ Some (number, places) → IsShortest s places number
unfolding at_places away
is_shortest s places number is =
    let found = there (s.halvings + 1) 0 s number places is in
    let n = 4 * s.count * 10 ^ places in
    let unit = 2 ^ (s.halvings + 2) in
    let all = chosen n unit (10 ^ places) s.below (n / unit) (n % unit) (s.count % 2 == 0) (sym (div-add-mod' n unit)) (mod_below n unit (pow_pos (s.halvings + 2))) (ten_pos places) number found.0 in
    record {
      reads_back = record { above = all.0.0; under = all.0.1 };
      fewest = λ fewer other less reads. none_there s fewer other (found.1 fewer (omega arith) less) reads;
      nearest = λ other reads. (all.1 other reads.above reads.under).0;
      even = λ other reads differs tie. (all.1 other reads.above reads.under).1 differs tie;
    }

-- ---- with as many places as halvings the float is whole

whole_there : (whole unit quarter below n : ℕ) (closed : Bool) → n ≡ whole * unit + 0 → 0 < unit → 0 < below * quarter → nearest (n / unit) (n % unit) unit quarter below closed ≡ Some (n / unit)
whole_there whole unit quarter below n closed is some more =
    let rest : n % unit ≡ 0 = ap (λ (m : ℕ). m % unit) is ∙ mod-mul-add whole unit 0 some in
    let other : (2 * 0 == unit) ≡ false = grind (arith, nat_tests) in
    let less : nat_lt (2 * 0) unit ≡ true = grind (arith, nat_tests) in
    let reached : is_reached closed 0 (below * quarter) ≡ true = reached_true closed 0 (below * quarter) (strictly closed 0 (below * quarter) more) in
    rw (rest, other, less, reached) refl

last_there : (s : Steps) → 1 ≤ s.below → (number : ℕ) × (at_places s s.halvings ≡ Some number)
unfolding at_places
last_there s some =
    let h = s.halvings in
    let unit : 2 ^ (h + 2) ≡ 2 ^ h * 4 = pow-add 2 h 2 in
    let n : 4 * s.count * 10 ^ h ≡ s.count * 5 ^ h * 2 ^ (h + 2) + 0 =
    ap (λ (t : ℕ). 4 * s.count * t) (mul-pow 5 2 h) ∙ spread s.count (5 ^ h) (2 ^ h) ∙ ap (λ (u : ℕ). s.count * 5 ^ h * u + 0) (sym unit) in
    let more : 1 * 10 ^ h ≤ s.below * 10 ^ h = mul-le-mul_right (10 ^ h) some in
    (4 * s.count * 10 ^ h / 2 ^ (h + 2), whole_there (s.count * 5 ^ h) (2 ^ (h + 2)) (10 ^ h) s.below (4 * s.count * 10 ^ h) (s.count % 2 == 0) n (pow_pos (h + 2)) (omega (arith, more, ten_pos h)))
  where
    spread : (c f t : ℕ) → 4 * c * (f * t) ≡ c * f * (t * 4) + 0
    spread c f t =
        let a : 4 * c * (f * t) ≡ 4 * (c * (f * t)) = mul_assoc 4 c (f * t) in
        let b : c * (f * t) ≡ c * f * t = sym (mul_assoc c f t) in
        let d : c * f * (t * 4) ≡ c * f * t * 4 = sym (mul_assoc (c * f) t 4) in
        omega (arith, a, b, d)

found_by : (more places last number : ℕ) (s : Steps) → at_places s last ≡ Some number → places ≤ last → last < places + more → least_places more places s ≢ None
unfolding least_places
found_by zero places last number s is le less = absurd (omega arith)
found_by (suc more) places last number s is le less = go (at_places s places) refl (λ lt. found_by more (places + 1) last number s is (omega arith) (omega arith))
  where
    none_some : (m : ℕ) → (let found : Option ℕ = None in found) ≡ Some m → ⊥
    none_some m is = cc

    go : (found : Option ℕ) → at_places s places ≡ found → (places < last → least_places more (places + 1) s ≢ None) → option_or (option_map (λ n. (n, places)) found) (least_places more (places + 1) s) ≢ None
    go (Some n) e later = λ none. cc
    go None e later = elim (cases_lt places last) [
      | inl lt ↦ later lt
      | inr ge ↦ let same : last ≡ places = omega arith in absurd (none_some number (sym e ∙ ap (at_places s) (sym same) ∙ is))
    ]

pub is_found : (s : Steps) → 1 ≤ s.below → shortest s ≢ None
is_found s some = let last = last_there s some in found_by (s.halvings + 1) 0 s.halvings last.0 s last.1 (omega arith) (omega arith)
