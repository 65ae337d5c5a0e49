use Rattle.std.proofs.Common.{◌≡◌, ◌+◌, ◌<◌, ◌≤◌, length, vec_len, vec_capacity}
use Rattle.mesh_files.specs.Fields.{AreFields, IsNumberField, with_last}
use Rattle.mesh_files.proofs.fields.Fields.below.Given as goal

-- the fields of the numbers so far, and a field that is that of the next number with its last digit
abbrev pub invariant-loop-number : goal.invariant-loop-number
invariant-loop-number l = record {
  count : length l.known.items ≡ l.number;
  right : AreFields l.known.items;
  text : length l.field.text ≡ 8;
  digit : 1 ≤ l.field.len;
  short : l.field.len ≤ 8;
  past : l.last ≤ 58;
  next : l.last < 58 → IsNumberField l.number (with_last l.field l.last);
  room : vec_len l.known + l.few ≤ vec_capacity l.known + l.number;
}
