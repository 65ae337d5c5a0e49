use Rattle.std.proofs.Common.{◌≡◌, ◌≤◌}
use Rattle.grid_coords.specs.Origins.{most_near, reach}
use Rattle.grid_coords.proofs.origin.most_near.Given as goal

abbrev pub invariant-loop-decimals : goal.invariant-loop-decimals
invariant-loop-decimals l = record {
  so_far : most_near l.fn.w l.decimals ≡ most_near l.fn.w l.fn.most;
  fine : l.decimals ≤ 17;
  reach : l.reach ≡ reach l.fn.w;
}

abbrev pub decreases-loop-decimals : goal.decreases-loop-decimals
decreases-loop-decimals l = l.decimals
