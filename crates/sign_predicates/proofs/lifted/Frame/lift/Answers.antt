use Rattle.std.proofs.Common.{subst, sym, w32, to_z, of_z}
use Rattle.sign_predicates.specs.Lifted.{IsInFrame}
use Rattle.sign_predicates.proofs.Lifting.{steps_in_frame, steps_as_read}
use Rattle.sign_predicates.proofs.Vectors.{grid_size_back}
use Rattle.sign_predicates.proofs.lifted.Frame.lift.Goals as goal

pub steps_from-requires-3-clause-corner : goal.steps_from-requires-3-clause-corner
steps_from-requires-3-clause-corner c = grid_size_back c.self.inside.0.0.z c.self.invariant.z_low c.self.invariant.z_high

pub steps_from-requires-3-clause-x : goal.steps_from-requires-3-clause-x
steps_from-requires-3-clause-x c = grid_size_back c.p.inside.z c.p.invariant.z_low c.p.invariant.z_high

pub returns-clause-there : goal.returns-clause-there
returns-clause-there c =
    let step = c.self.inside.0.1.0 in
    let corner = c.self.inside.0.0 in
    let p = c.p.inside in
    let g = c.self.invariant in
    let h = c.p.invariant in
    subst (λ f. IsInFrame f c.new.result c.args.p) c.self.view_is
    (subst (λ q. IsInFrame (record { corner = record { x = corner.x; y = corner.y; z = corner.z }; step = step }) q c.args.p) (sym c.new.ensures)
    (subst (λ e. IsInFrame (record { corner = record { x = corner.x; y = corner.y; z = corner.z }; step = step })
    (record { x = to_z w32 (of_z w32 c.in_ok-x.x); y = to_z w32 (of_z w32 c.in_ok-y.y); z = to_z w32 (of_z w32 c.in_ok-z.z) }) e) c.p.view_is
    (record {
      x_is = steps_in_frame step corner.x c.in_ok-x.x p.x g.x_low g.x_high h.x_low h.x_high c.in_ok-x.ensures.there;
      y_is = steps_in_frame step corner.y c.in_ok-y.y p.y g.y_low g.y_high h.y_low h.y_high c.in_ok-y.ensures.there;
      z_is = steps_in_frame step corner.z c.in_ok-z.z p.z g.z_low g.z_high h.z_low h.z_high c.in_ok-z.ensures.there;
    })))

pub returns-in_err-y-clause-none : goal.returns-in_err-y-clause-none
returns-in_err-y-clause-none c =
    let step = c.self.inside.0.1.0 in
    let corner = c.self.inside.0.0 in
    let p = c.p.inside in
    let g = c.self.invariant in
    let h = c.p.invariant in
    rw c.from_residual-in_err-y.ensures
    (λ q narrow has. c.in_err-y.ensures.none q.y narrow.y_low narrow.y_high
    (steps_as_read step corner.y q.y p.y g.y_low g.y_high h.y_low h.y_high
    (subst (λ e. IsInFrame (record { corner = record { x = corner.x; y = corner.y; z = corner.z }; step = step }) q e) (sym c.p.view_is)
    (subst (λ f. IsInFrame f q c.args.p) (sym c.self.view_is) has)).y_is))

pub returns-in_err-z-clause-none : goal.returns-in_err-z-clause-none
returns-in_err-z-clause-none c =
    let step = c.self.inside.0.1.0 in
    let corner = c.self.inside.0.0 in
    let p = c.p.inside in
    let g = c.self.invariant in
    let h = c.p.invariant in
    rw c.from_residual-in_err-z.ensures
    (λ q narrow has. c.in_err-z.ensures.none q.z narrow.z_low narrow.z_high
    (steps_as_read step corner.z q.z p.z g.z_low g.z_high h.z_low h.z_high
    (subst (λ e. IsInFrame (record { corner = record { x = corner.x; y = corner.y; z = corner.z }; step = step }) q e) (sym c.p.view_is)
    (subst (λ f. IsInFrame f q c.args.p) (sym c.self.view_is) has)).z_is))
