use Rattle.std.proofs.Common.{◌≡◌, ◌≤◌, ◌+◌, ◌-◌, ◌*◌, ◌^◌, length, take, Some}
use Rattle.tet_text.specs.Numbers.{digits_from}
use Rattle.tet_text.proofs.plain.leading_digits.Given as goal

abbrev pub invariant-loop-count : goal.invariant-loop-count
invariant-loop-count l =
    (digits_from l.before (take l.count l.text) ≡ Some l.number)
    × ((l.number + 1) * 10 ^ (length l.text - l.count) ≤ (l.before + 1) * 10 ^ length l.text)
    × (l.count ≤ length l.text)

abbrev pub decreases-loop-count : goal.decreases-loop-count
decreases-loop-count l = length l.text - l.count
