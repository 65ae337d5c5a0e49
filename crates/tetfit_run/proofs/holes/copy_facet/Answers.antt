use Rattle.std.proofs.Common.{◌+◌, ◌∙◌, ap, arith, length, length-append, sym}
use Rattle.std.proofs.lemmas.Result.{on_ok_weaker}
use Rattle.geo_laws.specs.Complex.{Complex}
use Rattle.plc_files.specs.Folding.{polygons_between}
use Rattle.plc_files.specs.Appending.{plus_polygons, plus_facet_holes}
use Rattle.plc_files.proofs.Appended.{facets_counted}
use Rattle.tetfit_run.proofs.Copied.{copied_more, next_begins}
use Rattle.tetfit_run.proofs.holes.copy_facet.Goals as goal

pub copy_polygons-requires-clause-place : goal.copy_polygons-requires-clause-place
copy_polygons-requires-clause-place c =
    let facet = c.facet-facet.result.now in
    let begins = next_begins c.args.complex.now c.args.i facet c.args.made.now c.requires.there (sym (c.facet-facet.ensures.value facet)) c.requires.before in
    ap (λ (v : Complex). length v.polygons) c.in_ok-add_facet.ensures.ok ∙ sym begins.0

pub copy_facet_holes-requires : goal.copy_facet_holes-requires
copy_facet_holes-requires c =
    let facet = c.facet-facet.result.now in
    let own = polygons_between facet.first facet.past c.args.complex.now.polygons in
    let same = facets_counted (λ g. record g { past = g.past + length own }) c.add_facet.new.self c.copy_polygons.new.made (ap (λ (v : Complex). v.facets) c.in_ok-copy_polygons.ensures) in
    let one = ap (λ (v : Complex). length v.facets) c.in_ok-add_facet.ensures.ok ∙ length-append c.args.made.now.facets _ in
    omega (arith, same, one)

pub returns : goal.returns
returns c =
    let facet = c.facet-facet.result.now in
    let complex = c.args.complex.now in
    let own = polygons_between facet.first facet.past complex.polygons in
    let with_polygons = c.in_ok-copy_polygons.ensures ∙ ap (plus_polygons own) c.in_ok-add_facet.ensures.ok in
    on_ok_weaker c.copy_facet_holes.result
    (λ made. copied_more complex c.args.i facet c.args.made.now c.copy_facet_holes.new.made c.requires.there (sym (c.facet-facet.ensures.value facet)) c.facet-facet.ensures.range
    (made ∙ ap (plus_facet_holes facet.holes) with_polygons) c.requires.before)
    c.copy_facet_holes.ensures
