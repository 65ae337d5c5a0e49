use Rattle.std.proofs.Common.{◌≡◌, length, sym, subst, arith}
use Rattle.std.specs.List.{AllWithin}
use Rattle.std.proofs.lemmas.List.Elements.{AllWithin-more, All-from_all_within}
use Rattle.geo_laws.specs.declared.tetrahedra.Tet.{Tet}
use Rattle.tangle_fill.specs.Accept.{IsEvenRow}
use Rattle.tangle_fill.proofs.accept.are_even.Goals as goal

pub is_even_row-requires-clause-row : goal.is_even_row-requires-clause-row
is_even_row-requires-clause-row c = c.requires.rows c.at.result (c.loop-j.j, omega arith, c.at.ensures c.at.result)

pub loop-j-preserved : goal.loop-j-preserved
loop-j-preserved c =
    let P : Tet → Type 0 = IsEvenRow c.args.points.now c.args.faces.now c.args.growth.now.rows in
    AllWithin-more P c.args.rows.now 0 c.loop-j.j c.loop-j.invariant (λ d. subst P (sym (c.at.ensures d)) (c.is_even_row.ensures c.if-not-is_even_row.false))

pub returns : goal.returns
returns c h =
    let rows = c.args.rows.now in
    let P : Tet → Type 0 = IsEvenRow c.args.points.now c.args.faces.now c.args.growth.now.rows in
    let all : c.loop-j.j ≡ length rows = omega arith in
    All-from_all_within P rows (subst (λ n. AllWithin P rows 0 n) all c.loop-j.invariant)
