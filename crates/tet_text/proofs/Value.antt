-- The number that a decimal's text writes is the one that is read.
use Rattle.std.proofs.Common.{◌≡◌, ℕ, ◌+◌, ◌*◌, ◌^◌, Bool, true, false, cond, ltb, List, ◌++◌, length, Option, Some, None, Result, Ok, Err, refl, sym, ap, ◌∙◌, subst}
use Rattle.std.specs.Prelude.{IfOk}
use Rattle.std.specs.Option.{ok_or, option_map}
use Rattle.std.specs.Str.Parse.{digits_value, starts_with_minus, without_leading_sign}
use Rattle.tet_text.specs.declared.fault.TextFault.{TextFault}
use Rattle.tet_text.specs.Numbers.{are_digits, number_of}
use Rattle.tet_text.specs.Decimals.{◌>>=◌, Scaled, Parts, parts_of, steps_of, lowest, scaled_of, with_sign, decimal_of_parts, decimal_of, signed, exponent_size, raising, lowering, IsNumberOf}
use Rattle.tet_text.proofs.Scaling.{lowest_is, abs_signed}

some_step : {A B : Type 0} (o : Option A) (f : A → Option B) (y : B) → (o >>= f) ≡ Some y → (x : A) × (o ≡ Some x) × (f x ≡ Some y)
some_step (Some x) f y is = (x, refl, is)
some_step None f y is = absurd cc

some_if : {A : Type 0} (b : Bool) (x y : A) → cond b (Some x) None ≡ Some y → x ≡ y
some_if true x y is = cc
some_if false x y is = absurd cc

abbrev as_some : {A : Type 0} → A → Option A
as_some x = Some x

abbrev as_ok : Scaled → Result Scaled TextFault
as_ok d = Ok d

map_step : {A B : Type 0} (f : A → B) (o : Option A) (y : B) → option_map f o ≡ Some y → (x : A) × (o ≡ Some x) × (f x ≡ y)
map_step f (Some x) y is = (x, refl, cc)
map_step f None y is = absurd cc

abbrev as_steps : Bool → ℕ → ℕ × ℕ
as_steps falls size = cond falls (0, size) (size, 0)

steps_by : (falls : Bool) (size : ℕ) → ((as_steps falls size).0 ≡ cond falls 0 size) × ((as_steps falls size).1 ≡ cond falls size 0)
steps_by true size = (refl, refl)
steps_by false size = (refl, refl)

number_is : (most : ℕ) (text : List ℕ) (n : ℕ) → number_of most text ≡ Some n → digits_value 10 text ≡ n
number_is most text n is = some_if (are_digits most text) (digits_value 10 text) n is

steps_are : (exponent : List ℕ) (steps : ℕ × ℕ) → steps_of exponent ≡ Some steps → as_steps (starts_with_minus exponent) (digits_value 10 (without_leading_sign exponent)) ≡ steps
steps_are exponent steps is =
    let size = map_step (as_steps (starts_with_minus exponent)) (number_of 3 (without_leading_sign exponent)) steps is in
    ap (as_steps (starts_with_minus exponent)) (number_is 3 (without_leading_sign exponent) size.0 size.1) ∙ size.2

some_same : {A : Type 0} (x y : A) → as_some x ≡ as_some y → x ≡ y
some_same x y is = cc

ok_some : (o : Option Scaled) (d : Scaled) (fault : TextFault) → as_ok d ≡ ok_or o fault → o ≡ Some d
ok_some (Some e) d fault is = cc
ok_some None d fault is = absurd cc

-- from the value of the digits and the steps to the number
number_from : (parts : Parts) (digits raise lower : ℕ) (s : ℕ × ℕ) → digits_value 10 (parts.whole ++ parts.fraction) ≡ digits → raise ≡ raising parts → lower ≡ lowering parts → lowest (digits * 10 ^ raise) lower ≡ s → IsNumberOf parts (with_sign parts.negative s)
number_from parts digits raise lower s written raise_is lower_is low =
    let value = abs_signed parts.negative s.0 in
    let exact : s.0 * 10 ^ lower ≡ digits * 10 ^ raise * 10 ^ s.1 = subst (λ (p : ℕ × ℕ). p.0 * 10 ^ lower ≡ digits * 10 ^ raise * 10 ^ p.1) low (lowest_is (digits * 10 ^ raise) lower) in
    record {
      size = ap (λ (v : ℕ). v * 10 ^ lowering parts) value ∙ ap (λ (k : ℕ). s.0 * 10 ^ k) (sym lower_is) ∙ exact ∙ ap (λ (n : ℕ). n * 10 ^ raise * 10 ^ s.1) (sym written) ∙ ap (λ (k : ℕ). digits_value 10 (parts.whole ++ parts.fraction) * 10 ^ k * 10 ^ s.1) raise_is;
      sign = ap (signed parts.negative) (sym value);
    }

-- the parts of a text, and the number that was read
parts_number : (parts : Parts) (d : Scaled) → decimal_of_parts parts ≡ Some d → IsNumberOf parts d
unfolding decimal_of_parts scaled_of
parts_number parts d is =
    let digits = some_step (number_of 36 (parts.whole ++ parts.fraction)) (λ digits. steps_of parts.exponent >>= λ steps. scaled_of digits steps.0 (length parts.fraction + steps.1) >>= λ scaled. Some (with_sign parts.negative scaled)) d is in
    let steps = some_step (steps_of parts.exponent) (λ steps. scaled_of digits.0 steps.0 (length parts.fraction + steps.1) >>= λ scaled. Some (with_sign parts.negative scaled)) d digits.2 in
    let scaled = some_step (scaled_of digits.0 steps.0.0 (length parts.fraction + steps.0.1)) (λ scaled. Some (with_sign parts.negative scaled)) d steps.2 in
    let written : digits_value 10 (parts.whole ++ parts.fraction) ≡ digits.0 = some_if (are_digits 36 (parts.whole ++ parts.fraction)) (digits_value 10 (parts.whole ++ parts.fraction)) digits.0 digits.1 in
    let low : lowest (digits.0 * 10 ^ steps.0.0) (length parts.fraction + steps.0.1) ≡ scaled.0 = some_if (ltb (digits.0 * 10 ^ steps.0.0) (10 ^ (36 + (length parts.fraction + steps.0.1)))) (lowest (digits.0 * 10 ^ steps.0.0) (length parts.fraction + steps.0.1)) scaled.0 scaled.1 in
    let by = steps_by (starts_with_minus parts.exponent) (exponent_size parts) in
    let steps_is = steps_are parts.exponent steps.0 steps.1 in
    let raise_is : steps.0.0 ≡ raising parts = ap (λ (p : ℕ × ℕ). p.0) (sym steps_is) ∙ by.0 in
    let lower_is : length parts.fraction + steps.0.1 ≡ lowering parts = ap (λ (p : ℕ × ℕ). length parts.fraction + p.1) (sym steps_is) ∙ ap (λ (k : ℕ). length parts.fraction + k) by.1 in
    let made : Scaled = with_sign parts.negative scaled.0 in
    let fits : IsNumberOf parts made = number_from parts digits.0 steps.0.0 (length parts.fraction + steps.0.1) scaled.0 written raise_is lower_is low in
    subst (λ (e : Scaled). IsNumberOf parts e) (some_same made d scaled.2) fits

pub decimal_number : (r : Result Scaled TextFault) (text : List ℕ) (fault : TextFault) → r ≡ ok_or (decimal_of text) fault → IfOk r (IsNumberOf (parts_of text))
decimal_number (Err e) text fault is = tt
decimal_number (Ok d) text fault is = parts_number (parts_of text) d (ok_some (decimal_of text) d fault is)
