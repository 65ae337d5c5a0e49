use Rattle.std.proofs.Common.{◌≡◌, ◌≤◌, ◌+◌, ◌-◌, ◌*◌, ◌^◌, length, drop}
use Rattle.tet_text.specs.Numbers.{digits_from}
use Rattle.tet_text.proofs.digits.digits_after.Given as goal

abbrev pub invariant-loop-byte : goal.invariant-loop-byte
invariant-loop-byte l =
    (digits_from l.number (drop l.byte-index l.text) ≡ digits_from l.before l.text)
    × ((l.number + 1) * 10 ^ (length l.text - l.byte-index) ≤ (l.before + 1) * 10 ^ length l.text)
