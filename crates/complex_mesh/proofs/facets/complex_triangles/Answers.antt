use Rattle.complex_mesh.proofs.Triangles.{flat_at, segments_at, added_triangles}
use Rattle.complex_mesh.proofs.facets.complex_triangles.Goals as goal

pub facet_triangles_in-requires-clause-flat : goal.facet_triangles_in-requires-clause-flat
facet_triangles_in-requires-clause-flat c =
    let n = c.facet_count-facet-end.ensures.count in
    flat_at c.args.points.now c.requires.segs c.args.complex.now c.loop-facet.facet c.facet_count-facet-end.result n c.loop-facet-test.true c.requires.sound

pub facet_triangles_in-requires-clause-pieces : goal.facet_triangles_in-requires-clause-pieces
facet_triangles_in-requires-clause-pieces c =
    let n = c.facet_count-facet-end.ensures.count in
    segments_at c.args.points.now c.requires.segs c.args.complex.now c.loop-facet.facet c.facet_count-facet-end.result n c.loop-facet-test.true c.requires.has_pieces c.requires.sound

pub loop-facet-preserved : goal.loop-facet-preserved
loop-facet-preserved c =
    added_triangles c.args.points.now c.args.complex.now c.loop-facet.facet c.facet_count-facet-end.result c.loop-facet.triangles c.in_ok-found.found c.extend_from_slice.new.self c.as_slice.result.now
    c.facet_count-facet-end.ensures.count c.loop-facet-test.true c.loop-facet.invariant c.in_ok-found.ensures c.as_slice.ensures c.in_ok-extend_from_slice.ensures.ok
