-- Whole numbers that are read have at most 18 digits.
use Rattle.std.proofs.Common.{◌≡◌, ℕ, ◌^◌, ◌<◌, ℤ, pos, neg_ℤ, unsigned_abs, zero, suc, Bool, true, false, cond, ◌&&◌, List, [], ◌∷◌, length, Option, Some, None, Result, Ok, Err, refl, ap, sym, subst, ◌∙◌}
use Rattle.std.specs.Prelude.{nat_lt, nat_le}
use Rattle.std.specs.Option.{ok_or}
use Rattle.std.specs.List.{list_all}
use Rattle.std.specs.Char.{is_ascii_digit}
use Rattle.std.specs.Str.{all_ascii_digits}
use Rattle.std.specs.Str.Parse.{digits_value, starts_with_minus, without_leading_sign, signed_digits_value}
use Rattle.std.proofs.lemmas.Bool.{and_parts, leb-true}
use Rattle.std.proofs.lemmas.Str.Parse.{numerals_by_value, tells_all_ascii_digits, digits_value_short}
use Rattle.tet_text.specs.declared.fault.TextFault.{TextFault}
use Rattle.tet_text.specs.Numbers.{are_digits, whole_of}
use Rattle.tet_text.specs.Faults.{ended, not_a_number}
use Rattle.tet_text.specs.Reading.{◌>>=◌, Fields, whole_at}
use Rattle.run_laws.specs.Reread.{IsShortNumber}

abbrev pub IsShortWhole : ℤ → Type 0
IsShortWhole z = IsShortNumber (unsigned_abs z)

as_test : (w : List ℕ) → all_ascii_digits w ≡ list_all is_ascii_digit w
as_test [] = refl
as_test (c ∷ w) = ap (λ (b : Bool). is_ascii_digit c && b) (as_test w)

digits_short : (w : List ℕ) → are_digits 18 w ≡ true → digits_value 10 w < 10 ^ 18
unfolding are_digits
digits_short w e =
    let parts = and_parts (nat_lt 0 (length w) && nat_le (length w) 18) (list_all is_ascii_digit w) e in
    let sizes = and_parts (nat_lt 0 (length w)) (nat_le (length w) 18) parts.0 in
    digits_value_short (numerals_by_value (λ ds. all_ascii_digits ds ≡ true) tells_all_ascii_digits) w 18 (as_test w ∙ parts.1) (leb-true (length w) 18 sizes.1)

sign_kept : (b : Bool) (n : ℕ) → unsigned_abs (cond b (neg_ℤ (pos n)) (pos n)) ≡ n
sign_kept false n = refl
sign_kept true zero = refl
sign_kept true (suc n) = refl

pub whole_short : (w : List ℕ) (z : ℤ) → whole_of w ≡ Some z → IsShortWhole z
whole_short w z e = go (are_digits 18 (without_leading_sign w)) refl e
  where
    some : (x y : ℤ) → Some x ≡ Some y → x ≡ y
    some x y e = cc

    never : None ≡ Some z → ⊥
    never e = cc

    go : (b : Bool) → are_digits 18 (without_leading_sign w) ≡ b → cond b (Some (signed_digits_value 10 w)) None ≡ Some z → IsShortWhole z
    go true digits e =
        subst IsShortWhole (some (signed_digits_value 10 w) z e)
        (subst (λ (n : ℕ). n < 10 ^ 18) (sym (sign_kept (starts_with_minus w) (digits_value 10 (without_leading_sign w)))) (digits_short (without_leading_sign w) digits))
    go false digits e = absurd (never e)

-- ---- fields

abbrev pub ok : {A : Type 0} → A → Result A TextFault
ok x = Ok x

pub same_ok : {A : Type 0} (x y : A) → ok x ≡ ok y → x ≡ y
same_ok x y e = cc

abbrev pub bad : {A : Type 0} → TextFault → Result A TextFault
bad fault = Err fault

pub err_ok : {A : Type 0} (fault : TextFault) (y : A) → bad fault ≡ ok y → ⊥
err_ok fault y e = cc

abbrev left_with : Fields → ℤ → Result (ℤ × Fields) TextFault
left_with ws n = Ok (n, ws)

pub whole_at_short : (line : ℕ) (fields : Fields) (z : ℤ) (rest : Fields) → whole_at line fields ≡ Ok (z, rest) → IsShortWhole z
whole_at_short line [] z rest e = absurd (err_ok (ended line) (z, rest) e)
whole_at_short line (w ∷ ws) z rest e = go (whole_of w) refl e
  where
    go : (o : Option ℤ) → whole_of w ≡ o → (ok_or o (not_a_number line) >>= left_with ws) ≡ Ok (z, rest) → IsShortWhole z
    go None is e = absurd (err_ok (not_a_number line) (z, rest) e)
    go (Some y) is e = subst IsShortWhole (ap (λ (x : ℤ × Fields). x.0) (same_ok (y, ws) (z, rest) e)) (whole_short w y is)
