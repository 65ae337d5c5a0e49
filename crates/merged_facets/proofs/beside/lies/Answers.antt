use Rattle.std.proofs.Common.{sym, subst}
use Rattle.std.specs.Prelude.{IsTrue, ◌↔◌}
use Rattle.sign_predicates.specs.Point.{origin}
use Rattle.merged_facets.specs.Beside.{Lies}
use Rattle.merged_facets.specs.declared.beside.Lie.{Lie}
use Rattle.merged_facets.proofs.BesideOf.{plane_at, beside_is, across_is}
use Rattle.merged_facets.proofs.beside.lies.Goals as goal

pub returns-in-InPlane : goal.returns-in-InPlane
returns-in-InPlane c =
    subst (λ (lie : Lie). IsTrue c.coplanar.result ↔ Lies lie c.args.points.now c.args.s c.args.i c.args.j) (sym c.in-InPlane.is)
    (plane_at c.args.points.now c.args.s c.args.i c.args.j c.at.result c.at-in-InPlane.result c.at-in-InPlane-2.result c.at-in-InPlane-3.result c.coplanar.result
    (c.at.ensures origin) (c.at-in-InPlane.ensures origin) (c.at-in-InPlane-2.ensures origin) (c.at-in-InPlane-3.ensures origin) c.coplanar.ensures)

pub returns-in-Beside : goal.returns-in-Beside
returns-in-Beside c =
    subst (λ (lie : Lie). IsTrue c.is_not_below.result ↔ Lies lie c.args.points.now c.args.s c.args.i c.args.j) (sym c.in-Beside.is)
    (beside_is c.args.points.now c.args.s c.args.i c.args.j c.turn_of.result c.is_not_below.result c.turn_of.ensures c.is_not_below.ensures)

pub returns-in-Across : goal.returns-in-Across
returns-in-Across c =
    subst (λ (lie : Lie). IsTrue c.is_not_above.result ↔ Lies lie c.args.points.now c.args.s c.args.i c.args.j) (sym c.in-Across.is)
    (across_is c.args.points.now c.args.s c.args.i c.args.j c.turn_of-in-Across.result c.is_not_above.result c.turn_of-in-Across.ensures c.is_not_above.ensures)
