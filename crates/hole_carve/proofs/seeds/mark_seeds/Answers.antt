use Rattle.std.proofs.Common.{sym, subst}
use Rattle.std.specs.Prelude.{Contains, ◌↔◌}
use Rattle.hole_carve.specs.Seeds.{RowHolds}
use Rattle.hole_carve.proofs.seeds.mark_seeds.Goals as goal

pub mark_found-requires-clause-holders : goal.mark_found-requires-clause-holders
mark_found-requires-clause-holders c i = subst (λ s. Contains s i ↔ RowHolds c.args.mesh.now.points.now c.args.mesh.now.list.now c.args.x i) (sym c.deref.ensures.value) (c.in_ok-holders.ensures i)
