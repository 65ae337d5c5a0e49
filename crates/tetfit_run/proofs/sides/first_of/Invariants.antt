use Rattle.std.proofs.Common.{◌≡◌, drop}
use Rattle.std.specs.Prelude.{find}
use Rattle.tetfit_run.specs.Sides.{is_open}
use Rattle.tetfit_run.proofs.sides.first_of.Given as goal

abbrev pub invariant-loop-s : goal.invariant-loop-s
invariant-loop-s l = find (is_open l.points l.sides) (drop l.s-index l.sides) ≡ find (is_open l.points l.sides) l.sides
