use Rattle.std.proofs.Common.{◌≡◌, ◌∙◌, ap, length, arith, get_or}
use Rattle.std.proofs.lemmas.List.{length_push}
use Rattle.geo_laws.specs.Delaunay.{point}
use Rattle.cavity_insert.proofs.Lifts.{one_more, point_read}
use Rattle.cavity_insert.proofs.lifting.lift_points.Goals as goal

pub loop-p-preserved : goal.loop-p-preserved
loop-p-preserved c =
    let ps = c.args.points.now in
    let n = c.loop-p.p-index in
    let within = c.loop-p-test.true in
    let read : point ps n ≡ c.p-item.result =
    point_read ps n c.p-item.result (omega (arith, ap length c.as_slice-p-items.ensures)) (c.p-item.is ∙ ap (λ qs. get_or qs n c.p-item.result) c.as_slice-p-items.ensures) in
    let pushed = c.in-Ok.ensures.ok in
    record {
      count = omega (arith, ap length pushed, length_push c.loop-p.lifted c.in_ok-lift.field-0);
      each = one_more _ ps c.loop-p.lifted c.push.new.self n c.in_ok-lift.field-0 c.p-item.result c.loop-p.invariant.count c.loop-p.invariant.each pushed read c.in_ok-lift.ensures.there;
    }
