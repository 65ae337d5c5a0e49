use Rattle.std.proofs.Common.{◌≡◌, length, sym, subst, arith}
use Rattle.std.specs.List.{AllWithin}
use Rattle.std.proofs.lemmas.List.Elements.{AllWithin-more, All-from_all_within}
use Rattle.geo_laws.specs.declared.complex.FacetTriangle.{FacetTriangle}
use Rattle.tangle_fill.specs.Accept.{HasTriangle}
use Rattle.tangle_fill.proofs.accept.has_triangles.Goals as goal

pub loop-i-preserved : goal.loop-i-preserved
loop-i-preserved c =
    let P : FacetTriangle → Type 0 = HasTriangle c.args.growth.now.rows in
    AllWithin-more P c.args.triangles.now 0 c.loop-i.i c.loop-i.invariant (λ d. subst P (sym (c.at.ensures d)) (c.has_triangle.ensures c.if-not-has_triangle.false))

pub returns : goal.returns
returns c h =
    let P : FacetTriangle → Type 0 = HasTriangle c.args.growth.now.rows in
    let all : c.loop-i.i ≡ length c.args.triangles.now = omega arith in
    All-from_all_within P c.args.triangles.now (subst (λ n. AllWithin P c.args.triangles.now 0 n) all c.loop-i.invariant)
