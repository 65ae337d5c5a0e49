use Rattle.std.proofs.Common.{ap, ◌∙◌}
use Rattle.std.specs.Prelude.{position}
use Rattle.geo_laws.specs.Segment.{same_ends}
use Rattle.incidence.proofs.Found.{place_alike}
use Rattle.incidence.proofs.set.PieceSet.place_of.Goals as goal

pub returns : goal.returns
returns c =
    c.get_index_of.ensures.index ∙ place_alike c.self.inside.found.keys (record { piece = c.args.piece }) ∙ ap (position (same_ends c.args.piece)) c.self.view_is
