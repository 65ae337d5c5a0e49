use Rattle.std.proofs.Common.{◌∙◌}
use Rattle.tetfit_run.specs.Sides.{boxes_share, has_more_points}
use Rattle.tetfit_run.proofs.FacetSides.{stored}
use Rattle.tetfit_run.proofs.sides.boxes_share.Goals as goal

pub returns : goal.returns
returns c =
    let a = stored (record { x = c.a.inside.x; y = c.a.inside.y; z = c.a.inside.z }) c.a.invariant ∙ c.a.view_is in
    let b = stored (record { x = c.b.inside.x; y = c.b.inside.y; z = c.b.inside.z }) c.b.invariant ∙ c.b.view_is in
    let d = stored (record { x = c.c.inside.x; y = c.c.inside.y; z = c.c.inside.z }) c.c.invariant ∙ c.c.view_is in
    let e = stored (record { x = c.d.inside.x; y = c.d.inside.y; z = c.d.inside.z }) c.d.invariant ∙ c.d.view_is in
    c.has_more_points.ensures ∙ (λ j. has_more_points (c.common.ensures j) (c.common-2.ensures j) (c.common-3.ensures j)) ∙ (λ j. boxes_share (a j) (b j) (d j) (e j))
