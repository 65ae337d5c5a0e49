use Rattle.std.proofs.Common.{◌≡◌}
use Rattle.std.specs.Prelude.{All}
use Rattle.segment_protect.specs.Watch.{pieces_of, IsSeenOrSide}
use Rattle.segment_protect.proofs.first_look.see_row.Given as goal

abbrev pub invariant-loop-side : goal.invariant-loop-side
invariant-loop-side l = (pieces_of l.watched.items ≡ pieces_of l.fn.watched.items) × All (IsSeenOrSide l.living.points) l.watched.items
