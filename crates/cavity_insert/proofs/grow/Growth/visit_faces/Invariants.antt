use Rattle.std.proofs.Common.{◌≡◌, ◌≤◌, ◌+◌, length}
use Rattle.cavity_insert.specs.Growth.{IsGrowing, entry_of}
use Rattle.cavity_insert.proofs.grow.Growth.visit_faces.Given as goal

abbrev pub invariant-loop-k : goal.invariant-loop-k
invariant-loop-k g l =
    record {
      few : l.steps ≤ l.fn.steps + l.k;
      many : length l.self.cavity + l.fn.steps ≤ length l.fn.self.cavity + l.steps;
      longer : length l.fn.self.cavity ≤ length l.self.cavity;
      start : l.self.start ≡ l.fn.self.start;
      entry : entry_of l.self l.i ≡ l.entry;
      growing : IsGrowing (g.Z.Zone.slots l.zone) (g.Z.Zone.takes l.zone) l.self l.i l.k;
    }
