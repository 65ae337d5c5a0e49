use Rattle.geo_laws.specs.declared.complex.FacetTriangle.{FacetTriangle}
use Rattle.simplex_meets.specs.Proper.{IsTriangle, triangle_face}
use Rattle.simplex_meets.proofs.Lists.{all_more}
use Rattle.mesh_tests.proofs.tests.complex_parts.are_triangles.Goals as goal

pub loop-i-preserved : goal.loop-i-preserved
loop-i-preserved c =
    let P : FacetTriangle → Type 0 = λ t. IsTriangle c.args.points.now (triangle_face t) in
    all_more P c.args.triangles.now c.loop-i.i c.at-t.result c.at-t.ensures (c.is_triangle-is.ensures.0 c.if-not-is.false) c.loop-i.invariant
