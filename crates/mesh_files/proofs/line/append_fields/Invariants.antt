use Rattle.std.proofs.Common.{◌≡◌, ◌++◌, ◌+◌, ◌-◌, ◌*◌, ◌≤◌, take, length}
use Rattle.std.specs.Fmt.{decimal}
use Rattle.mesh_files.proofs.Pieces.{fields_text}
use Rattle.mesh_files.proofs.line.append_fields.Given as goal

-- the number and the fields so far are written after what was in the block, and there is room for those that are left
abbrev pub invariant-loop-field : goal.invariant-loop-field
invariant-loop-field l = record {
  room : l.at + 21 * (length l.fields - l.field-index) ≤ 992;
  used : l.out-inside.used ≤ 888;
  written : l.out-inside.text ++ take l.at l.out-inside.block ≡ l.fn.out ++ (decimal l.number ++ fields_text (take l.field-index l.fields));
}
