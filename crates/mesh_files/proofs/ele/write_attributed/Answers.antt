use Rattle.std.proofs.Common.{ℕ, ◌<◌, ◌++◌, length, Option, sym, subst, ap, ◌∙◌, arith}
use Rattle.std.specs.Prelude.{None, IfSome}
use Rattle.mesh_files.specs.Texts.{attributed_line, marked_line}
use Rattle.geo_laws.specs.Delaunay.{numbers}
use Rattle.geo_laws.specs.declared.tetrahedra.Tet.{Tet}
use Rattle.mesh_files.specs.Texts.{AreNamed}
use Rattle.mesh_files.proofs.Lines.{next_line, line_with_mark}
use Rattle.mesh_files.proofs.ele.write_attributed.Goals as goal

pub loop-i-preserved : goal.loop-i-preserved
loop-i-preserved c =
    let regions = c.args.complex.now.regions in
    let names = c.args.names.now in
    let first = c.args.first in
    let line = line_with_mark regions names first c.loop-i.i c.at.result c.at-in-loop-i.result c.loop-i.out _ _ c.in_ok-append_corners.ensures c.in_ok-end_with_attribute.ensures in
    next_line (attributed_line c.args.marks.now regions names first) c.loop-i.i c.args.list.now c.at.result c.loop-i.out _ _ (omega arith) (c.at.ensures c.at.result)
    (line ∙ ap (λ mark. c.loop-i.out ++ marked_line regions names first c.loop-i.i c.at.result mark) (sym (c.at-in-loop-i.ensures None))) c.loop-i.invariant

pub end_with_attribute-requires : goal.end_with_attribute-requires
end_with_attribute-requires c =
    subst (λ (m : Option ℕ). IfSome m (λ r. r < length c.args.complex.now.regions)) (c.at-in-loop-i.ensures None) (c.requires.regions c.loop-i.i None (omega arith))

pub append_corners-requires-clause-named : goal.append_corners-requires-clause-named
append_corners-requires-clause-named c =
    subst (λ (t : Tet). AreNamed c.args.names.now (numbers t)) (c.at.ensures c.at.result) (c.requires.named c.loop-i.i c.at.result (omega arith))
