use Rattle.std.proofs.Common.{◌≡◌, ◌++◌, ◌<◌, length, subst, ◌∙◌}
use Rattle.std.specs.Prelude.{OnOk, IfSome}
use Rattle.mesh_files.proofs.Lines.{attribute_at}
use Rattle.mesh_files.proofs.ele.append_attribute.Goals as goal

pub returns-in-Some : goal.returns-in-Some
returns-in-Some c =
    let regions = c.args.complex.now.regions in
    subst (λ bytes. OnOk c.append.result (c.append.new.self ≡ c.args.out.now ++ bytes))
    (c.as_slice.ensures ∙ attribute_at regions c.args.mark c.in-Some.region c.region.result.now c.in-Some.is (subst (λ m. IfSome m (λ r. r < length regions)) c.in-Some.is c.requires) c.region.ensures)
    c.append.ensures
