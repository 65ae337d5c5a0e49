use Rattle.std.proofs.Common.{◌↔◌, subst}
use Rattle.std.specs.Prelude.{IsTrue}
use Rattle.cavity_insert.specs.Living.{LivingMesh, IsDelaunaySide}
use Rattle.cavity_insert.proofs.living.Living.has_side.Goals as goal

pub returns-in-Some : goal.returns-in-Some
returns-in-Some c = subst (λ (m : LivingMesh). IsTrue c.in-Some.answer ↔ IsDelaunaySide m.points c.args.a c.args.b) c.self.view_is c.in-Some.ensures

pub returns-in-None : goal.returns-in-None
returns-in-None c = subst (λ (m : LivingMesh). IsTrue c.side_by_scan.result ↔ IsDelaunaySide m.points c.args.a c.args.b) c.self.view_is c.side_by_scan.ensures
