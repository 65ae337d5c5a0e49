use Rattle.std.proofs.Common.{Option, subst, arith}
use Rattle.std.specs.Prelude.{IfSome}
use Rattle.grid_coords.specs.Origins.{IsNear}
use Rattle.grid_coords.specs.declared.origin.WholePoint.{WholePoint}
use Rattle.grid_coords.proofs.Moved.{near_can}
use Rattle.tetfit_run.proofs.model.complex_from.Goals as goal

pub measured_plc-requires : goal.measured_plc-requires
measured_plc-requires c =
    near_can c.args.most 6 c.in-Some.w (omega arith) (subst (λ (o : Option WholePoint). IfSome o (IsNear c.args.most)) c.in-Some.is c.requires)
