use Rattle.std.proofs.Common.{List, Ok, ap, rules, sym, ◌∙◌}
use Rattle.grid_coords.specs.declared.points.DecimalPoint.{DecimalPoint}
use Rattle.mesh_check.proofs.Differences.{all_moved, first_all, first_here, first_more, list_all, list_more, point_none, point_some, refused_here}
use Rattle.mesh_check.proofs.centering.moved_points.Goals as goal

pub returns-in-None-clause-answer : goal.returns-in-None-clause-answer
returns-in-None-clause-answer c =
    let w = c.args.w in
    let ps = c.args.points.now in
    let long = point_none w c.p-item.result (sym c.moved_point_within.ensures ∙ c.in-None.is) in
    refused_here w ps c.p-item.result (sym c.loop-p.invariant.first ∙ first_here w ps c.loop-p.p-index c.p-item.result c.loop-p-test.true c.p-item.is long)

pub loop-p-preserved : goal.loop-p-preserved
loop-p-preserved c =
    let w = c.args.w in
    let ps = c.args.points.now in
    let m = point_some w c.p-item.result c.in-Some.moved (sym c.moved_point_within.ensures ∙ c.in-Some.is) in
    record {
      list = list_more w ps c.loop-p.p-index c.p-item.result c.in-Some.moved c.loop-p.list _ c.loop-p-test.true c.p-item.is m.is c.loop-p.invariant.list (search rules);
      first = sym (first_more w ps c.loop-p.p-index c.p-item.result c.loop-p-test.true c.p-item.is m.short) ∙ c.loop-p.invariant.first;
    }

pub returns-clause-answer : goal.returns-clause-answer
returns-clause-answer c =
    let w = c.args.w in
    let ps = c.args.points.now in
    let none = sym c.loop-p.invariant.first ∙ first_all w ps c.loop-p.p-index c.loop-p-test.false in
    all_moved w ps none ∙ ap (λ (list : List DecimalPoint). Ok list) (sym (list_all w ps c.loop-p.p-index c.loop-p.list c.loop-p-test.false c.loop-p.invariant.list))
