use Rattle.std.proofs.Common.{◌≡◌, ◌<◌, length, sym, subst, arith}
use Rattle.std.specs.List.{AllWithin}
use Rattle.std.proofs.lemmas.List.Elements.{AllWithin-more, All-from_all_within}
use Rattle.sign_predicates.specs.Orientation.{IsPositive}
use Rattle.geo_laws.specs.Delaunay.{corners, IsOn}
use Rattle.geo_laws.specs.declared.tetrahedra.Tet.{Tet}
use Rattle.tangle_laws.proofs.Apart.{fails_true}
use Rattle.tangle_fill.proofs.accept.are_crossed.Goals as goal
use Rattle.geo_laws.specs.Facet.{IsUncrossed}

pub uncrossed_near-requires-clause-on : goal.uncrossed_near-requires-clause-on
uncrossed_near-requires-clause-on c =
    let l : c.loop-i.i < length c.args.rows.now = omega arith in
    subst (IsOn c.args.points.now) (c.at.ensures c.at.result) (c.requires.rows c.loop-i.i c.at.result l).0

pub uncrossed_near-requires-clause-positive : goal.uncrossed_near-requires-clause-positive
uncrossed_near-requires-clause-positive c =
    let l : c.loop-i.i < length c.args.rows.now = omega arith in
    subst (λ t. IsPositive (corners c.args.points.now t)) (c.at.ensures c.at.result) (c.requires.rows c.loop-i.i c.at.result l).1

pub loop-i-preserved : goal.loop-i-preserved
loop-i-preserved c =
    let P : Tet → Type 0 = λ t. ¬ IsUncrossed c.args.points.now c.args.triangles.now t in
    AllWithin-more P c.args.rows.now 0 c.loop-i.i c.loop-i.invariant (λ d. subst P (sym (c.at.ensures d)) (λ free. fails_true c.uncrossed_near.result c.if-uncrossed_near.false (c.uncrossed_near.ensures.1 free)))

pub returns : goal.returns
returns c h =
    let P : Tet → Type 0 = λ t. ¬ IsUncrossed c.args.points.now c.args.triangles.now t in
    let all : c.loop-i.i ≡ length c.args.rows.now = omega arith in
    All-from_all_within P c.args.rows.now (subst (λ n. AllWithin P c.args.rows.now 0 n) all c.loop-i.invariant)
