use Rattle.std.proofs.Common.{◌≡◌, ℕ, ◌<◌, subst, sym, ◌∙◌, arith, false, true}
use Rattle.geo_laws.specs.Delaunay.{corners}
use Rattle.geo_laws.specs.declared.tetrahedra.Tet.{Tet}
use Rattle.sign_predicates.specs.Orientation.{IsPositive}
use Rattle.mesh_check.specs.Defects.{IsNotPositive}
use Rattle.mesh_check.proofs.Firsts.{none_more, none_at_all}
use Rattle.mesh_check.proofs.Rows.{row_is, row_on}
use Rattle.mesh_check.proofs.positive.first_not_positive.Goals as goal

pub is_positive-requires : goal.is_positive-requires
is_positive-requires c = row_on c.args.points.now c.args.list.now c.loop-i.i c.at-row.result c.requires (omega arith) c.at-row.ensures

pub returns-then-not-is_positive : goal.returns-then-not-is_positive
returns-then-not-is_positive c =
    let is = row_is c.args.list.now c.loop-i.i c.at-row.result c.at-row.ensures in
    ((omega arith, λ p. let yes = c.is_positive.ensures.1 (subst (λ (t : Tet). IsPositive (corners c.args.points.now t)) is p) in absurd (cc)), c.loop-i.invariant)

pub loop-i-preserved : goal.loop-i-preserved
loop-i-preserved c =
    let is = row_is c.args.list.now c.loop-i.i c.at-row.result c.at-row.ensures in
    none_more (IsNotPositive c.args.points.now c.args.list.now) c.loop-i.i c.loop-i.invariant
    (λ h. h.1 (subst (λ (t : Tet). IsPositive (corners c.args.points.now t)) (sym is) (c.is_positive.ensures.0 (cc))))

pub returns : goal.returns
returns c = λ k h. c.loop-i.invariant k (let lt = h.0 in omega arith) h
