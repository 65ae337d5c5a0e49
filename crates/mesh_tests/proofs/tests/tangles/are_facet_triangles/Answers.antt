use Rattle.std.proofs.Common.{◌≡◌, length, sym, subst, arith}
use Rattle.std.proofs.lemmas.List.Elements.{AllWithin-more}
use Rattle.tangle_fill.specs.Sample.{IsPlaneTriangle}
use Rattle.mesh_tests.proofs.tests.tangles.are_facet_triangles.Goals as goal

pub loop-i-preserved : goal.loop-i-preserved
loop-i-preserved c =
    AllWithin-more (IsPlaneTriangle c.args.points.now) c.args.triangles.now 0 c.loop-i.i c.loop-i.invariant
    (λ d. subst (IsPlaneTriangle c.args.points.now) (sym (c.at.ensures d)) (c.is_facet_triangle.ensures c.if-not-is_facet_triangle.false))

pub returns : goal.returns
returns c t =
    let all : c.loop-i.i ≡ length c.args.triangles.now = omega arith in
    record {
      ascend = λ k d l. (c.loop-i.invariant k d (omega arith) (omega arith)).ascends;
      within = λ k d l. (c.loop-i.invariant k d (omega arith) (omega arith)).within;
      spans = λ k d l. (c.loop-i.invariant k d (omega arith) (omega arith)).spans;
    }
