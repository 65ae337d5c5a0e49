use Rattle.std.proofs.Common.{◌≡◌, None, rules, ℕ, ◌+◌, ◌*◌, ◌^◌, ◌++◌, length, sym, ap, ◌∙◌, arith, length-append}
use Rattle.std.specs.Prelude.{option_and_then}
use Rattle.tet_text.specs.Numbers.{number_of, digits_from}
use Rattle.tet_text.proofs.Numerals.{number_of_fits, number_of_nothing, number_of_many, digits_from_joined, both_room, small_within}
use Rattle.tet_text.proofs.decimal.both_digits.Goals as goal
use Rattle.tet_text.proofs.decimal.both_digits.Goals.{then-count-eq0-via-then-count-eq0, then-count-eq0-via-else-count-eq0+then-count-gt36}

pub returns-then-count-eq0-clause-value : goal.returns-then-count-eq0-clause-value
returns-then-count-eq0-clause-value c =
    let text = c.args.whole.now ++ c.args.fraction.now in
    let e = length-append c.args.whole.now c.args.fraction.now in
    elim c.then-count-eq0.branch [
      | then-count-eq0-via-then-count-eq0 w ↦ sym (number_of_nothing 36 text (omega arith))
      | then-count-eq0-via-else-count-eq0+then-count-gt36 w ↦ sym (number_of_many 36 text (omega arith))
    ]

pub digits_after-requires-2 : goal.digits_after-requires-2
digits_after-requires-2 c = both_room c.in_ok-digits_after.field-0 (length c.args.whole.now) (length c.args.fraction.now) c.in_ok-digits_after.ensures.room (omega arith)

pub returns-clause-value : goal.returns-clause-value
returns-clause-value c =
    let text = c.args.whole.now ++ c.args.fraction.now in
    let e = length-append c.args.whole.now c.args.fraction.now in
    let first = sym c.digits_after.ensures.value ∙ c.in_ok-digits_after.was in
    c.digits_after-2.ensures.value ∙ sym (number_of_fits 36 text (omega arith) (omega arith) ∙ digits_from_joined 0 c.args.whole.now c.args.fraction.now ∙ ap (option_and_then (λ (m : ℕ). digits_from m c.args.fraction.now)) first)

pub returns-clause-small : goal.returns-clause-small
returns-clause-small c =
    let n = c.in_ok-digits_after.field-0 in
    let room = both_room n (length c.args.whole.now) (length c.args.fraction.now) c.in_ok-digits_after.ensures.room (omega arith) in
    small_within c.digits_after-2.result ((n + 1) * 10 ^ length c.args.fraction.now) c.digits_after-2.ensures.room room

pub returns-in_err-digits_after-clause-value : goal.returns-in_err-digits_after-clause-value
returns-in_err-digits_after-clause-value c =
    let text = c.args.whole.now ++ c.args.fraction.now in
    let e = length-append c.args.whole.now c.args.fraction.now in
    let first = sym c.digits_after.ensures.value ∙ c.in_err-digits_after.was in
    let none : number_of 36 text ≡ None = number_of_fits 36 text (omega arith) (omega arith) ∙ digits_from_joined 0 c.args.whole.now c.args.fraction.now ∙ ap (option_and_then (λ (m : ℕ). digits_from m c.args.fraction.now)) first in
    rw none (search rules)
