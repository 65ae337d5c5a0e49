use Rattle.std.proofs.Common.{◌∙◌, ap, arith, sym}
use Rattle.geo_laws.specs.Complex.{Complex}
use Rattle.plc_files.specs.Appending.{plus_facet_holes}
use Rattle.plc_files.proofs.Folded.{facet_holes_more, facet_holes_all}
use Rattle.plc_files.proofs.Appended.{facets_counted}
use Rattle.tetfit_run.proofs.holes.copy_facet_holes.Goals as goal

pub add_facet_hole-requires : goal.add_facet_hole-requires
add_facet_hole-requires c = omega (arith, c.requires, c.loop-i.invariant.facets)

pub loop-i-preserved : goal.loop-i-preserved
loop-i-preserved c =
    let made = c.in_ok-add_facet_hole.ensures.ok in
    record {
      made = facet_holes_more c.args.holes.now c.loop-i.i c.at.result c.loop-i.made c.add_facet_hole.new.self (plus_facet_holes c.args.holes.now c.args.made.now) (omega arith) (sym (c.at.ensures c.at.result)) made c.loop-i.invariant.made;
      facets = facets_counted _ c.loop-i.made c.add_facet_hole.new.self (ap (λ (v : Complex). v.facets) made) ∙ c.loop-i.invariant.facets;
    }

pub returns : goal.returns
returns c = facet_holes_all c.args.holes.now c.loop-i.i c.loop-i.made (plus_facet_holes c.args.holes.now c.args.made.now) (omega arith) c.loop-i.invariant.made
