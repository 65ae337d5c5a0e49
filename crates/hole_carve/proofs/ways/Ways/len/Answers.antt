use Rattle.std.proofs.Common.{length, ap, sym, ◌∙◌}
use Rattle.hole_carve.proofs.Steps.{ways-length}
use Rattle.hole_carve.proofs.ways.Ways.len.Goals as goal

pub returns : goal.returns
returns c = c.len.ensures.count ∙ sym (ways-length c.self.inside.closed.now c.self.inside.list.now) ∙ ap length c.self.view_is
