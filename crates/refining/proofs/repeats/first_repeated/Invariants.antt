use Rattle.std.specs.HashMap.{get}
use Rattle.node_files.proofs.KnownPlaces.{same_key}
use Rattle.refining.proofs.NewPoints.{AreNew}
use Rattle.refining.proofs.repeats.first_repeated.Given as goal

abbrev pub invariant-loop-i : goal.invariant-loop-i
invariant-loop-i l = AreNew (λ key. get same_key l.places key) l.points l.i
