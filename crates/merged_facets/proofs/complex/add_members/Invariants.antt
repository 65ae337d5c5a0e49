use Rattle.std.specs.Prelude.{length}
use Rattle.merged_facets.specs.Merging.{group_of}
use Rattle.merged_facets.proofs.Walk.{HasSome, left_to}
use Rattle.merged_facets.proofs.complex.add_members.Given as goal

-- the members before the next one
abbrev pub invariant-loop-member : goal.invariant-loop-member
invariant-loop-member l = HasSome (group_of l.merging) l.complex l.group l.initial.made l.made l.member

abbrev pub decreases-loop-member : goal.decreases-loop-member
decreases-loop-member l = left_to (length l.complex.facets) l.member
