use Rattle.std.proofs.Common.{◌≡◌, ◌<◌, length, sym, subst, arith}
use Rattle.std.specs.List.{AllWithin}
use Rattle.std.proofs.lemmas.List.Elements.{AllWithin-more, All-from_all_within}
use Rattle.geo_laws.specs.Delaunay.{IsOn}
use Rattle.geo_laws.specs.declared.tetrahedra.Tet.{Tet}
use Rattle.tangle_fill.specs.Change.{IsClosedNear}
use Rattle.tangle_fill.proofs.Changes.{near_rows}
use Rattle.tangle_fill.proofs.accept.are_closed.Goals as goal

pub is_closed-requires-clause-on : goal.is_closed-requires-clause-on
is_closed-requires-clause-on c =
    let l : c.loop-i.i < length c.args.change.now.near.rows = omega arith in
    subst (IsOn c.args.points.now) (c.at.ensures c.at.result) (near_rows c.args.points.now c.args.list.now c.args.change.now c.requires.delaunay c.requires.change c.loop-i.i c.at.result l).0

pub loop-i-preserved : goal.loop-i-preserved
loop-i-preserved c =
    let P : Tet → Type 0 = IsClosedNear c.args.points.now c.args.change.now in
    AllWithin-more P c.args.change.now.near.rows 0 c.loop-i.i c.loop-i.invariant (λ d. subst P (sym (c.at.ensures d)) (c.is_closed.ensures c.if-not-is_closed.false))

pub returns : goal.returns
returns c h =
    let rows = c.args.change.now.near.rows in
    let P : Tet → Type 0 = IsClosedNear c.args.points.now c.args.change.now in
    let all : c.loop-i.i ≡ length rows = omega arith in
    All-from_all_within P rows (subst (λ n. AllWithin P rows 0 n) all c.loop-i.invariant)
