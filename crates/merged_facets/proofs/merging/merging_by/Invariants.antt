use Rattle.merged_facets.specs.Merging.{HasFound}
use Rattle.merged_facets.proofs.merging.merging_by.Given as goal

-- the sides so far are noted
abbrev pub invariant-loop-i : goal.invariant-loop-i
invariant-loop-i l = HasFound l.points l.complex l.list l.i l.found.down.items l.found.inner.keys
