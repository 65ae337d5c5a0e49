use Rattle.std.proofs.Common.{◌<◌, Bool, List, sym, subst}
use Rattle.std.specs.Prelude.{IsTrue}
use Rattle.geo_laws.specs.Marks.{is_marked}
use Rattle.constrained_laws.specs.Constrained.{IsCornerOfSome}
use Rattle.tangle_fill.specs.Change.{MarksOnly}
use Rattle.tangle_fill.proofs.Marking.{each_marked}
use Rattle.tangle_fill.proofs.corners.has_each_point.Goals as goal

pub returns : goal.returns
returns c h =
    let ps = c.args.points.now in
    let rows = c.args.rows.now in
    let marks = c.mark_rows.new.marks.items in
    each_marked ps rows marks (subst (λ (old : List Bool). MarksOnly (IsCornerOfSome rows) old marks) c.new-marks.ensures.items c.in_ok-mark_rows.ensures.only)
    (λ i l. subst (λ (items : List Bool). IsTrue (is_marked items i)) c.deref.ensures.value (c.are_marked.ensures h i (subst (λ n. i < n) (sym c.len.ensures.count) l)))
