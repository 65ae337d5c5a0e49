use Rattle.std.proofs.Common.{refl}
use Rattle.mesh_laws.proofs.Taken.{taken_live}
use Rattle.cavity_insert.proofs.Insertion.{grown_for}
use Rattle.cavity_insert.proofs.grow.grow_cavity.Goals as goal

pub test_slot-requires-clause-live : goal.test_slot-requires-clause-live
test_slot-requires-clause-live g c = taken_live _ c.args.points.now c.args.p c.args.number c.args.start.index c.requires.start

pub grow-requires-clause-begun : goal.grow-requires-clause-begun
grow-requires-clause-begun g c = let begun = c.begin.ensures in record { start_is = refl; cavity = begun.cavity; entries = begun.entries; rim = begun.rim }

pub grow-requires-clause-live : goal.grow-requires-clause-live
grow-requires-clause-live g c = rw (c.new-zone.ensures, c.begin.ensures.start_is) (taken_live _ c.args.points.now c.args.p c.args.number c.args.start.index c.requires.start)

pub grow-requires-clause-start : goal.grow-requires-clause-start
grow-requires-clause-start g c = rw (c.new-zone.ensures, c.begin.ensures.start_is) c.requires.start

pub returns-clause-grown : goal.returns-clause-grown
returns-clause-grown g c = rw c.into_cavity.ensures (grown_for _ _ _ _ _ _ _ _ _ c.new-zone.ensures c.begin.ensures.start_is c.in_ok-grow.ensures.grown)
