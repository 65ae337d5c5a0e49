use Rattle.std.proofs.Common.{◌<◌, length, subst, ◌∙◌}
use Rattle.std.specs.Prelude.{IfSome}
use Rattle.solver_files.proofs.Marks.{attribute_at}
use Rattle.solver_files.proofs.attribute.attribute_of.Goals as goal

pub returns-in-Some : goal.returns-in-Some
returns-in-Some c =
    let regions = c.args.complex.now.regions in
    c.as_slice.ensures
    ∙ attribute_at regions c.args.mark c.in-Some.region c.region.result.now c.in-Some.is (subst (λ m. IfSome m (λ r. r < length regions)) c.in-Some.is c.requires) c.region.ensures
