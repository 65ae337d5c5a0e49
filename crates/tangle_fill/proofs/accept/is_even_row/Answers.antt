use Rattle.std.proofs.Common.{subst}
use Rattle.geo_laws.specs.declared.faces.Face.{Face}
use Rattle.tangle_fill.specs.Accept.{IsEvenAcross}
use Rattle.tangle_fill.proofs.accept.is_even_row.Goals as goal

pub returns-then-are_even_at : goal.returns-then-are_even_at
returns-then-are_even_at c h =
    let P : Face → Type 0 = IsEvenAcross c.args.points.now c.args.faces.now c.args.growth.now.rows c.args.row in
    let first = c.are_even_at.ensures c.if-are_even_at.true in
    let second = c.are_even_at-then-are_even_at.ensures h in (
      subst P c.face_of-opposite_a.ensures first.0,
      (subst P c.face_of-opposite_b.ensures first.1, (subst P c.face_of-opposite_c.ensures second.0, (subst P c.face_of-opposite_d.ensures second.1, tt))),
    )
