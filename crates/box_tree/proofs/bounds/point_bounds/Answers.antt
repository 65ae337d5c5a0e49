use Rattle.std.proofs.Common.{subst, ◌∙◌, ap}
use Rattle.sign_predicates.specs.Point.{Point}
use Rattle.sign_predicates.proofs.Vectors.{grid_back}
use Rattle.box_tree.specs.Bounds.{IsIn}
use Rattle.box_tree.proofs.bounds.point_bounds.Goals as goal

pub returns : goal.returns
returns c =
    let g = c.p.invariant in
    record {
      x = subst (IsIn c.interval_at.result) (grid_back c.p.inside.x g.x_low g.x_high ∙ ap (λ (p : Point). p.x) c.p.view_is) c.interval_at.ensures;
      y = subst (IsIn c.interval_at-2.result) (grid_back c.p.inside.y g.y_low g.y_high ∙ ap (λ (p : Point). p.y) c.p.view_is) c.interval_at-2.ensures;
      z = subst (IsIn c.interval_at-3.result) (grid_back c.p.inside.z g.z_low g.z_high ∙ ap (λ (p : Point). p.z) c.p.view_is) c.interval_at-3.ensures;
    }
