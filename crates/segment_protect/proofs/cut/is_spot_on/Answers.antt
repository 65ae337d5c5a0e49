use Rattle.std.proofs.Common.{ap, sym, ◌∙◌}
use Rattle.sign_predicates.specs.Point.{origin}
use Rattle.geo_laws.specs.Segment.{is_on_segment}
use Rattle.segment_protect.proofs.Between.{off_segment}
use Rattle.segment_protect.proofs.cut.is_spot_on.Goals as goal

pub returns-then-not-is_near : goal.returns-then-not-is_near
returns-then-not-is_near c = sym (off_segment c.args.points.now c.args.a c.args.b c.args.spot c.requires.spot c.requires.differ (sym c.is_near.ensures ∙ c.if-not-is_near.true))

pub returns : goal.returns
returns c = c.is_on_segment.ensures ∙ ap (is_on_segment c.args.a c.args.b) (sym (c.at.ensures origin))
