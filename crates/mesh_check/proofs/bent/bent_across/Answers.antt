use Rattle.std.proofs.Common.{◌≡◌, ℕ, Some, None, subst, sym, ◌∙◌, arith}
use Rattle.geo_laws.specs.declared.tetrahedra.Tet.{Tet}
use Rattle.mesh_check.specs.Bending.{AreBentIn}
use Rattle.mesh_check.proofs.Bends.{entry_below, across_holds, across_fails, corner_holds, corner_fails}
use Rattle.mesh_check.proofs.Rows.{row_is, row_on}
use Rattle.mesh_check.proofs.bent.bent_across.Goals as goal
use Rattle.geo_laws.specs.Delaunay.{row_at}

pub first_bent_corner-requires-clause-s : goal.first_bent_corner-requires-clause-s
first_bent_corner-requires-clause-s c = row_on c.args.mesh.points.now c.args.mesh.list.now c.args.place c.at-s.result c.requires.rows c.requires.place c.at-s.ensures

pub first_bent_corner-requires-clause-t : goal.first_bent_corner-requires-clause-t
first_bent_corner-requires-clause-t c =
    row_on c.args.mesh.points.now c.args.mesh.list.now c.in_ok-two.two c.at-t.result c.requires.rows
    (entry_below _ c.args.across c.args.corner c.in_ok-two.two c.requires.within (sym c.entry_in.ensures ∙ c.in_ok-two.was)) c.at-t.ensures

pub returns-then-is_some : goal.returns-then-is_some
returns-then-is_some c =
    let m = c.args.mesh in
    let rows = m.list.now in
    let bent = corner_holds m.points.now m.listed.now c.at-s.result c.at-t.result c.first_bent_corner.result c.first_bent_corner.ensures (sym c.is_some.ensures ∙ c.if-is_some.true) in
    let one = subst (λ (t : Tet). AreBentIn m.points.now m.listed.now t c.at-t.result) (sym (row_is rows c.args.place c.at-s.result c.at-s.ensures)) bent in
    let both = subst (λ (t : Tet). AreBentIn m.points.now m.listed.now (row_at rows c.args.place) t) (sym (row_is rows c.in_ok-two.two c.at-t.result c.at-t.ensures)) one in
    across_holds m.points.now m.listed.now rows c.args.place c.args.across c.args.corner c.in_ok-two.two (sym c.entry_in.ensures ∙ c.in_ok-two.was) (omega arith) both

pub returns-else-is_some : goal.returns-else-is_some
returns-else-is_some c =
    let m = c.args.mesh in
    let rows = m.list.now in
    let none = corner_fails m.points.now m.listed.now c.at-s.result c.at-t.result c.first_bent_corner.result c.first_bent_corner.ensures (sym c.is_some.ensures ∙ c.if-is_some.false) in
    across_fails m.points.now m.listed.now rows c.args.place c.args.across c.args.corner c.in_ok-two.two (sym c.entry_in.ensures ∙ c.in_ok-two.was)
    (λ lt h. none (subst (λ (t : Tet). AreBentIn m.points.now m.listed.now c.at-s.result t) (row_is rows c.in_ok-two.two c.at-t.result c.at-t.ensures)
    (subst (λ (t : Tet). AreBentIn m.points.now m.listed.now t (row_at rows c.in_ok-two.two)) (row_is rows c.args.place c.at-s.result c.at-s.ensures) h)))
