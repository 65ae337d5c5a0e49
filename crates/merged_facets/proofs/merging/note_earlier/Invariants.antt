use Rattle.merged_facets.proofs.Notes.{HasNoting, IsAlikeBefore, rank}
use Rattle.merged_facets.proofs.merging.note_earlier.Given as goal

-- those behind the next one are noted
abbrev pub invariant-loop-next : goal.invariant-loop-next
invariant-loop-next l = record {
  noting : HasNoting l.points l.complex l.list l.i l.next l.found.down.items l.found.inner.keys;
  alike : IsAlikeBefore l.list l.i l.next;
}

abbrev pub decreases-loop-next : goal.decreases-loop-next
decreases-loop-next l = rank l.next
