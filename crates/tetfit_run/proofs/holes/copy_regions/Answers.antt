use Rattle.std.proofs.Common.{◌∙◌, ◌∷◌, [], ap, arith, length, length-append, sym}
use Rattle.geo_laws.specs.Complex.{Complex}
use Rattle.plc_files.specs.Appending.{plus_regions}
use Rattle.plc_files.proofs.Folded.{regions_more, regions_all}
use Rattle.tetfit_run.proofs.holes.copy_regions.Goals as goal

pub add_region-requires : goal.add_region-requires
add_region-requires c = omega (arith, c.loop-i.invariant.count, c.loop-i-test.true, c.region_count-i-end.type_inv)

pub loop-i-preserved : goal.loop-i-preserved
loop-i-preserved c =
    let r = c.region-region.result.now in
    let regions = c.args.complex.now.regions in
    let made = c.in_ok-add_region.ensures.ok in
    let lt = c.loop-i-test.true in
    record {
      made = regions_more regions c.loop-i.i r c.loop-i.made c.add_region.new.self (plus_regions regions c.args.made.now) (omega (arith, lt, c.region_count-i-end.ensures)) (sym (c.region-region.ensures r)) made c.loop-i.invariant.made;
      count = omega (arith, ap (λ (v : Complex). length v.regions) made ∙ length-append c.loop-i.made.regions (r ∷ []), c.loop-i.invariant.count);
    }

pub returns : goal.returns
returns c =
    let regions = c.args.complex.now.regions in
    regions_all regions c.loop-i.i c.loop-i.made (plus_regions regions c.args.made.now) (omega (arith, c.loop-i-test.false, c.region_count-i-end.ensures)) c.loop-i.invariant.made
