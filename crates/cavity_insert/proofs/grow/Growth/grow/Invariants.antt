use Rattle.std.proofs.Common.{◌≡◌, ◌<◌, ◌*◌, ◌≤◌, ◌-◌, ◌+◌, min, length}
use Rattle.cavity_insert.specs.Growth.{IsGrowing}
use Rattle.cavity_insert.proofs.grow.Growth.grow.Given as goal

abbrev pub invariant-loop-i : goal.invariant-loop-i
invariant-loop-i g l =
    record {
      inside : l.i ≤ length l.self.cavity;
      begun : 0 < length l.self.cavity;
      few : l.steps ≤ l.fn.steps + 4 * l.i;
      many : l.fn.steps + length l.self.cavity ≤ l.steps + 1;
      start : l.self.start ≡ l.fn.self.start;
      growing : IsGrowing (g.Z.Zone.slots l.zone) (g.Z.Zone.takes l.zone) l.self l.i (min l.i 1);
    }

abbrev pub decreases-loop-i : goal.decreases-loop-i
decreases-loop-i g l = length (g.Z.Zone.slots l.zone) - l.i
