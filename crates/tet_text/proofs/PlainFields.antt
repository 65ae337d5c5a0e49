-- The first field of a line, where it is a sign, or none, and digits with at most one point.
use Rattle.std.proofs.Common.{◌≡◌, ℕ, ◌+◌, ◌<◌, ◌^◌, Bool, true, false, eqb, List, [], ◌∷◌, ◌++◌, length, take, drop, Option, Ok, refl, sym, ap, ◌∙◌, arith, inl, inr, length-append, append_assoc}
use Rattle.std.specs.List.{list_all, prefix_len, position_or_len, before_first, after_first}
use Rattle.std.specs.Option.{ok_or}
use Rattle.std.specs.Str.Parse.{starts_with_minus, without_leading_sign}
use Rattle.std.proofs.lemmas.Bool.{cases_Bool, eqb-true, ne_eqb}
use Rattle.std.proofs.lemmas.List.Folds.{list_all-append}
use Rattle.std.proofs.Math.Seq.{take-append_seam, drop-append-add}
use Rattle.tet_text.specs.Lines.{is_blank, is_no_blank, without_blanks, fields_of}
use Rattle.tet_text.specs.Decimals.{Scaled, lowest, with_sign, decimal_of}
use Rattle.tet_text.specs.Reading.{◌>>=◌, decimal_at}
use Rattle.tet_text.specs.Faults.{not_a_number}
use Rattle.tet_text.specs.PlainTexts.{IsPlain, IsPlainField}
use Rattle.tet_text.proofs.Cutting.{skips_blank, next_fields_are}
use Rattle.tet_text.proofs.PlainTexts.{prefix_all, plain_is}

-- the sign before w
record IsSign (bytes w rest s : List ℕ) : Type 0 where
  joined : bytes ≡ s ++ (w ++ rest)
  no_blank : list_all is_no_blank s ≡ true
  minus : starts_with_minus (s ++ w) ≡ starts_with_minus bytes
  unsigned : without_leading_sign (s ++ w) ≡ w

no_sign : (c : ℕ) (t w rest : List ℕ) → c ∷ t ≡ w ++ rest → 0 < length w → eqb c 45 ≡ false → eqb c 43 ≡ false → IsSign (c ∷ t) w rest []
no_sign c t [] rest is some no_minus no_plus = absurd (omega arith)
no_sign c t (x ∷ w) rest is some no_minus no_plus =
    let first : x ≡ c = cc in
    let same : eqb x 45 ≡ eqb c 45 = ap (λ (y : ℕ). eqb y 45) first in
    let minus : eqb x 45 ≡ false = same ∙ no_minus in
    let plus : eqb x 43 ≡ false = ap (λ (y : ℕ). eqb y 43) first ∙ no_plus in
    record { joined = is; no_blank = refl; minus = same; unsigned = rw (minus, plus) refl }

minus_is_no_blank : (c : ℕ) → c ≡ 45 → is_no_blank c ≡ true
minus_is_no_blank c is = rw is refl

plus_is_no_blank : (c : ℕ) → c ≡ 43 → is_no_blank c ≡ true
plus_is_no_blank c is = rw is refl

sign_part : (bytes w rest : List ℕ) → without_leading_sign bytes ≡ w ++ rest → 0 < length w → (s : List ℕ) × IsSign bytes w rest s
sign_part [] w rest is some = absurd (omega (arith, ap length is, length-append w rest))
sign_part (c ∷ t) w rest is some =
    elim (cases_Bool (eqb c 45)) [
      | inl minus ↦
          let e : t ≡ w ++ rest = rw minus at is in (
            c ∷ [],
            record {
              joined = ap (λ (x : List ℕ). c ∷ x) e;
              no_blank = rw (minus_is_no_blank c (eqb-true c 45 minus)) refl;
              minus = refl;
              unsigned = rw minus refl;
            },
          )
      | inr no_minus ↦ elim (cases_Bool (eqb c 43)) [
        | inl plus ↦
            let e : t ≡ w ++ rest = rw (no_minus, plus) at is in (
              c ∷ [],
              record {
                joined = ap (λ (x : List ℕ). c ∷ x) e;
                no_blank = rw (plus_is_no_blank c (eqb-true c 43 plus)) refl;
                minus = refl;
                unsigned = rw (no_minus, plus) refl;
              },
            )
        | inr no_plus ↦
            let e : c ∷ t ≡ w ++ rest = rw (no_minus, no_plus) at is in
            ([], no_sign c t w rest e some no_minus no_plus)
      ]
    ]

-- past a blank
past_blank : (rest : List ℕ) → prefix_len is_no_blank rest ≡ 0 → without_blanks (drop 1 rest) ≡ without_blanks rest
past_blank [] stops = refl
past_blank (c ∷ rest) stops =
    elim (cases_Bool (is_blank c)) [
      | inl blank ↦ sym (skips_blank c rest blank)
      | inr other ↦ let e : 1 + prefix_len is_no_blank rest ≡ 0 = rw other at stops in absurd (omega arith)
    ]

pub plain_field_is : (bytes w rest : List ℕ) (negative : Bool) (n scale : ℕ) → negative ≡ starts_with_minus bytes
    → without_leading_sign bytes ≡ w ++ rest → 0 < length w
    → list_all is_no_blank w ≡ true → prefix_len is_no_blank rest ≡ 0
    → IsPlain w n scale → n < 10 ^ 19 → IsPlainField bytes negative n scale rest
plain_field_is bytes w rest negative n scale minus unsigned some no_blank stops plain small =
    let part = sign_part bytes w rest unsigned some in
    let s = part.0 in
    let sign = part.1 in
    let field = s ++ w in
    let whole : bytes ≡ field ++ rest = sign.joined ∙ sym (append_assoc s w rest) in
    let clear : list_all is_no_blank field ≡ true = list_all-append is_no_blank s w ∙ rw (sign.no_blank, no_blank) refl in
    let place : position_or_len is_blank bytes ≡ length field + 0 =
    ap (position_or_len is_blank) whole ∙ prefix_all is_no_blank field rest clear
    ∙ ap (λ (k : ℕ). length field + k) stops in
    let end : position_or_len is_blank bytes ≡ length field = omega arith in
    let before : before_first is_blank bytes ≡ field =
    ap (λ (k : ℕ). take k bytes) end ∙ ap (take (length field)) whole ∙ take-append_seam field rest in
    let after : after_first is_blank bytes ≡ drop 1 rest =
    ap (λ (k : ℕ). drop (k + 1) bytes) end ∙ ap (drop (length field + 1)) whole ∙ drop-append-add field rest 1 in
    let long = ap length whole in
    let more = length-append field rest in
    let sizes = length-append s w in
    record {
      some = omega arith;
      small = small;
      value = ap decimal_of before ∙ plain_is field w negative n scale (sign.minus ∙ sym minus) sign.unsigned plain (omega arith);
      behind = ap without_blanks after ∙ past_blank rest stops;
    }

-- the decimal of the first field, and the fields behind it
pub decimal_read : (line : ℕ) (bytes rest : List ℕ) (negative : Bool) (n scale : ℕ) → without_blanks bytes ≡ bytes
    → IsPlainField bytes negative n scale rest
    → (decimal_at line (fields_of bytes) ≡ Ok (with_sign negative (lowest n scale), fields_of (without_blanks rest)))
    × (fields_of (without_blanks rest) ≡ drop 1 (fields_of bytes))
decimal_read line bytes rest negative n scale front field =
    let some = field.some in
    let left = fields_of (without_blanks rest) in
    let e : fields_of bytes ≡ before_first is_blank bytes ∷ left =
    next_fields_are bytes (ne_eqb (length bytes) 0 (λ z. omega arith)) front
    ∙ ap (λ (r : List ℕ). before_first is_blank bytes ∷ fields_of r) field.behind in
    let read : decimal_at line (before_first is_blank bytes ∷ left) ≡ Ok (with_sign negative (lowest n scale), left) =
    ap (λ (o : Option Scaled). ok_or o (not_a_number line) >>= λ d. Ok (d, left)) field.value in
    (ap (decimal_at line) e ∙ read, sym (ap (drop 1) e))
