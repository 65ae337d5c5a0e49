use Rattle.std.proofs.Common.{◌≡◌, arith}
use Rattle.std.specs.Prelude.{length}
use Rattle.merged_facets.specs.Merging.{group_of}
use Rattle.merged_facets.proofs.Parts.{facet_making, merged_more, merged_all}
use Rattle.merged_facets.proofs.complex.merged_complex.Goals as goal

pub add_members-requires-clause-making : goal.add_members-requires-clause-making
add_members-requires-clause-making c =
    facet_making c.args.complex.now.polygons _ c.loop-f.made c.add_facet.new.self c.loop-f.invariant.making c.in_ok-add_facet.ensures.ok

pub loop-f-preserved : goal.loop-f-preserved
loop-f-preserved c =
    merged_more (group_of c.args.merging.now) c.args.complex.now c.loop-f.f c.facet.result.now c.loop-f.made c.add_facet.new.self c.add_members.new.made (omega (arith, c.loop-f-test.true, c.facet_count-f-end.ensures.count)) c.facet.ensures.value c.loop-f.invariant c.in_ok-add_facet.ensures.ok c.in_ok-add_members.ensures

pub returns : goal.returns
returns c =
    let e : c.loop-f.f ≡ length c.args.complex.now.facets = omega (arith, c.loop-f-test.false, c.loop-f.auto.f-end, c.facet_count-f-end.ensures.count) in
    merged_all (group_of c.args.merging.now) c.args.complex.now c.loop-f.f c.loop-f.made e c.loop-f.invariant
