use Rattle.std.proofs.Common.{◌∙◌}
use Rattle.tet_text.proofs.Cutting.{has_fields}
use Rattle.tet_text.proofs.lines.Fields.is_empty.Goals as goal

pub returns : goal.returns
returns c = rw (← c.self.view_is) (c.is_empty.ensures ∙ has_fields c.self.inside.rest.now c.self.invariant)
