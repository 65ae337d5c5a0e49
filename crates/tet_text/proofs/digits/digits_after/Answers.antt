use Rattle.std.proofs.Common.{◌+◌, ◌-◌, ◌*◌, ◌^◌, length, get_or, sym, ◌∙◌, arith}
use Rattle.tet_text.proofs.Numerals.{digits_from_more, digits_from_stops, digits_from_all, digit_bounds, room_next, le_room}
use Rattle.tet_text.proofs.digits.digits_after.Goals as goal

pub returns-then-not-is_ascii_digit-clause-value : goal.returns-then-not-is_ascii_digit-clause-value
returns-then-not-is_ascii_digit-clause-value c =
    let is = sym c.is_ascii_digit.ensures.value ∙ c.if-not-is_ascii_digit.true in
    sym (digits_from_stops c.loop-byte.number c.args.text.now c.loop-byte.byte-index c.loop-byte-test.true is) ∙ c.loop-byte.invariant.0

pub overflow_mul-number : goal.overflow_mul-number
overflow_mul-number c = omega (arith, le_room (c.loop-byte.number + 1) (length c.args.text.now - c.loop-byte.byte-index))

pub overflow_add-number : goal.overflow_add-number
overflow_add-number c =
    let digit = digit_bounds (get_or c.args.text.now c.loop-byte.byte-index 0) (sym c.is_ascii_digit.ensures.value ∙ c.if-not-is_ascii_digit.false) in
    omega (arith, le_room (c.loop-byte.number + 1) (length c.args.text.now - c.loop-byte.byte-index))

pub loop-byte-preserved : goal.loop-byte-preserved
loop-byte-preserved c =
    let n = c.loop-byte.number in
    let at = c.loop-byte.byte-index in
    let is = sym c.is_ascii_digit.ensures.value ∙ c.if-not-is_ascii_digit.false in
    let digit = digit_bounds (get_or c.args.text.now at 0) is in
    let count = length c.args.text.now in
    let limit = (c.args.before + 1) * 10 ^ count in
    let room = room_next n (get_or c.args.text.now at 0 - 48) at count limit (omega arith) (omega arith) c.loop-byte.invariant.1 in
    rw c.from.ensures (sym (digits_from_more n c.args.text.now at c.loop-byte-test.true is) ∙ c.loop-byte.invariant.0, room)

pub returns-clause-value : goal.returns-clause-value
returns-clause-value c = sym (digits_from_all c.loop-byte.number c.args.text.now c.loop-byte.byte-index c.loop-byte-test.false) ∙ c.loop-byte.invariant.0
