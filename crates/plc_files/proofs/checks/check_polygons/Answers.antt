use Rattle.std.proofs.Common.{◌≡◌, ◌∙◌, sym, ap}
use Rattle.std.proofs.lemmas.Result.{err_from_is_err_and}
use Rattle.plc_files.specs.Text.{Plc}
use Rattle.plc_files.specs.Checks.{facet_size_check, first_fault}
use Rattle.plc_files.proofs.FirstFaults.{fault_more, fault_found, no_fault}
use Rattle.plc_files.proofs.checks.check_polygons.Goals as goal

pub returns-in_err-check_facet_sizes : goal.returns-in_err-check_facet_sizes
returns-in_err-check_facet_sizes c =
    let check = facet_size_check c.args.limits in
    let items = c.deref-facet-items.result.now in
    let seen : items ≡ c.args.text.now.facets = c.deref-facet-items.ensures.value ∙ ap (λ (v : Plc). v.facets) c.text.view_is in
    let p = err_from_is_err_and c.from_residual.result c.from_residual.ensures.1 in
    rw (p.1, p.2) (fault_found check items c.loop-facet.facet-index c.facet-item.result c.in_err-check_facet_sizes.field-0.0 (first_fault check items) c.loop-facet-test.true c.facet-item.is (sym c.in_err-check_facet_sizes.ensures) c.loop-facet.invariant ∙ ap (first_fault check) seen)

pub loop-facet-preserved : goal.loop-facet-preserved
loop-facet-preserved c =
    let check = facet_size_check c.args.limits in
    let items = c.deref-facet-items.result.now in
    fault_more check items c.loop-facet.facet-index c.facet-item.result (first_fault check items) c.loop-facet-test.true c.facet-item.is (sym c.in_ok-check_facet_sizes.ensures) c.loop-facet.invariant

pub returns : goal.returns
returns c =
    let check = facet_size_check c.args.limits in
    let items = c.deref-facet-items.result.now in
    let seen : items ≡ c.args.text.now.facets = c.deref-facet-items.ensures.value ∙ ap (λ (v : Plc). v.facets) c.text.view_is in
    no_fault check items c.loop-facet.facet-index (first_fault check items) c.loop-facet-test.false c.loop-facet.invariant ∙ ap (first_fault check) seen
