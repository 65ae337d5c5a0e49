use Rattle.std.proofs.Common.{◌≡◌, length, ap, sym, subst, arith}
use Rattle.facet_recover.specs.Missing.{AreListed}
use Rattle.facet_recover.proofs.Listed.{listed_are, front_of}
use Rattle.facet_recover.proofs.missing.listed_triangles.Goals as goal

pub returns : goal.returns
returns c =
    let long : c.resize.new.self.len ≡ length c.mark_all_faces.new.marks = omega (arith, c.in_ok-resize.ensures.len, c.deref_mut.ensures.len, c.mark_all_faces.ensures.long, ap length c.deref_mut.ensures.value) in
    subst (AreListed c.args.triangles.now c.args.list.now) (sym (front_of c.mark_all_faces.new.marks _ _ long))
    (listed_are c.args.triangles.now c.in_ok-table.table c.args.list.now c.mark_all_faces.new.marks c.in_ok-table.ensures
    (omega (arith, long, c.in_ok-resize.ensures.len, c.len.ensures.count)) c.mark_all_faces.ensures.marked)
