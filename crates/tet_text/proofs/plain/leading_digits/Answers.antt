use Rattle.std.proofs.Common.{◌≡◌, ◌+◌, ◌-◌, ◌*◌, ◌^◌, length, get_or, sym, ◌∙◌, arith}
use Rattle.tet_text.proofs.Numerals.{nothing_more, digits_from_next, digit_bounds, digit_fits, room_next}
use Rattle.tet_text.proofs.plain.leading_digits.Goals as goal

pub loop-count-init : goal.loop-count-init
loop-count-init c =
    let all : length c.args.text.now - 0 ≡ length c.args.text.now = omega arith in
    (nothing_more c.args.before, rw all (omega arith), omega arith)

pub overflow_mul-number : goal.overflow_mul-number
overflow_mul-number c =
    let count = length c.args.text.now in
    let limit = (c.args.before + 1) * 10 ^ count in
    omega (arith, digit_fits c.loop-count.number 0 c.loop-count.count count limit (omega arith) (omega arith) c.loop-count.invariant.1)

pub overflow_add-number : goal.overflow_add-number
overflow_add-number c =
    let count = length c.args.text.now in
    let digit = get_or c.args.text.now c.loop-count.count 0 in
    let bounds = digit_bounds digit (sym c.is_ascii_digit.ensures.value ∙ c.if-is_ascii_digit.true) in
    let limit = (c.args.before + 1) * 10 ^ count in
    let fits = digit_fits c.loop-count.number (digit - 48) c.loop-count.count count limit
    (omega arith) (omega arith) c.loop-count.invariant.1 in
    omega arith

pub loop-count-preserved : goal.loop-count-preserved
loop-count-preserved c =
    let n = c.loop-count.number in
    let at = c.loop-count.count in
    let count = length c.args.text.now in
    let digit = get_or c.args.text.now at 0 in
    let is = sym c.is_ascii_digit.ensures.value ∙ c.if-is_ascii_digit.true in
    let bounds = digit_bounds digit is in
    rw c.from.ensures (
      digits_from_next c.args.before n c.args.text.now at (omega arith) is c.loop-count.invariant.0,
      room_next n (digit - 48) at count ((c.args.before + 1) * 10 ^ count) (omega arith) (omega arith) c.loop-count.invariant.1,
      omega arith,
    )
