use Rattle.std.proofs.Common.{◌≡◌, drop}
use Rattle.std.specs.Prelude.{nat_eq}
use Rattle.std.specs.List.{list_any}
use lib.Pointwise.{pointwise}
use Rattle.facet_plane.proofs.prepared.is_listed.Given as goal

abbrev pub invariant-loop-i : goal.invariant-loop-i
invariant-loop-i l = list_any (pointwise nat_eq l.places) (drop l.i l.lists) ≡ list_any (pointwise nat_eq l.places) l.lists
