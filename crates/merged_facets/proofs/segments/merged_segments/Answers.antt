use Rattle.std.proofs.Common.{◌≡◌, List, subst, arith, IfOk}
use Rattle.geo_laws.specs.declared.complex.Piece.{Piece}
use Rattle.merged_facets.specs.Merging.{is_inner}
use Rattle.merged_facets.proofs.Outer.{facet_more, all_facets}
use Rattle.merged_facets.proofs.segments.merged_segments.Goals as goal

pub loop-f-preserved : goal.loop-f-preserved
loop-f-preserved c =
    facet_more (is_inner c.args.merging.now) c.args.complex.now c.loop-f.f c.facet.result.now c.loop-f.set c.put_facet.new.set
    (omega (arith, c.facet_count-f-end.ensures.count, c.loop-f-test.true)) c.facet.ensures.value c.loop-f.invariant c.in_ok-put_facet.ensures

pub returns : goal.returns
returns c =
    let P : List Piece → Type 0 = λ ps. IfOk c.pieces.result (λ found. found ≡ ps) in
    subst P (all_facets (is_inner c.args.merging.now) c.args.complex.now c.loop-f.f c.loop-f.set (omega (arith, c.facet_count-f-end.ensures.count)) c.loop-f.invariant) c.pieces.ensures
