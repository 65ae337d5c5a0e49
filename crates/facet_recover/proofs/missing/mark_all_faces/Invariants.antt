use Rattle.std.proofs.Common.{◌≡◌, take, length}
use Rattle.facet_recover.proofs.Listed.{AreMarked}
use Rattle.facet_recover.proofs.missing.mark_all_faces.Given as goal

abbrev pub invariant-loop-i : goal.invariant-loop-i
invariant-loop-i l = record { long : length l.marks ≡ length l.initial.marks; marked : AreMarked l.table (take l.i l.list) l.marks }
