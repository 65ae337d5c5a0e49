use Rattle.std.proofs.Common.{◌≡◌, drop, map}
use Rattle.tetfit_run.specs.Grids.{point_at, AreAlike}
use Rattle.tetfit_run.proofs.grids.are_alike.Given as goal

-- the points are the same where those that are left are
abbrev pub invariant-loop-p : goal.invariant-loop-p
invariant-loop-p l =
    map (point_at l.origin l.fewer) (drop l.p-index l.points) ≡ map (point_at l.origin l.decimals) (drop l.p-index l.points)
    → AreAlike l.origin l.points l.decimals l.fewer
