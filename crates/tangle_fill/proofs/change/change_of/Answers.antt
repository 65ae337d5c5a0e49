use Rattle.std.proofs.Common.{Bool, List, Option, sym, subst}
use Rattle.std.specs.Prelude.{All, IfSome}
use Rattle.tangle_fill.specs.Change.{IsMarkedRow, HoldsNearRows}
use Rattle.tangle_fill.specs.declared.growth.Growth.{Growth}
use Rattle.tangle_fill.proofs.Removal.{removed_of}
use Rattle.tangle_fill.proofs.change.change_of.Goals as goal

pub returns-clause-change : goal.returns-clause-change
returns-clause-change c =
    let found : HoldsNearRows c.deref.result.now c.args.rows c.in-Some.near = subst (λ (x : Option Growth). IfSome x (HoldsNearRows c.deref.result.now c.args.rows)) c.in-Some.is c.in_ok-near.ensures in
    record {
      added = c.in_ok-added.ensures;
      removed = removed_of c.args.list.now c.args.rows c.in_ok-rest.rest c.in_ok-removed.removed c.in_ok-rest.ensures c.in_ok-removed.ensures.rows c.in_ok-removed.ensures.indexed;
      added_rows = c.are_rows.ensures c.if-not-are_rows.false;
      added_marked = c.in_ok-marks.ensures.added;
      removed_marked = subst (All (IsMarkedRow c.in_ok-marks.marks.items)) (sym c.in_ok-removed.ensures.rows) c.in_ok-marks.ensures.removed;
      near = subst (λ (marks : List Bool). HoldsNearRows marks c.args.rows c.in-Some.near) c.deref.ensures.value found;
    }
