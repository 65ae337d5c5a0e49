use Rattle.std.proofs.Common.{◌+◌, ◌≤◌, length, vec_len, vec_capacity}
use Rattle.incidence.specs.HalfFaces.{used}
use Rattle.incidence.proofs.Halves.{ArePushed}
use Rattle.incidence.proofs.half_faces.push_halves.Given as goal

-- the uses before the place are put in, and there is room for the others
abbrev pub invariant-loop-at : goal.invariant-loop-at
invariant-loop-at l = record {
  pushed : ArePushed l.list (used l.list l.fn.halves.items) l.uses l.at l.halves.items;
  room : vec_len l.halves + length l.uses ≤ vec_capacity l.halves + l.at;
}
