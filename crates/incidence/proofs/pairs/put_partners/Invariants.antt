use Rattle.std.proofs.Common.{map}
use Rattle.incidence.specs.HalfFaces.{used}
use Rattle.incidence.specs.Pairs.{across_in}
use Rattle.incidence.specs.Uses.{IsRunBefore}
use Rattle.incidence.proofs.Settled.{AllSettled}
use Rattle.incidence.proofs.pairs.put_partners.Given as goal

abbrev pub invariant-loop-at : goal.invariant-loop-at
invariant-loop-at l = record {
  settled : AllSettled l.list (used l.list l.uses) l.at (map across_in l.places);
  run : IsRunBefore (used l.list l.uses) l.first l.at;
}
