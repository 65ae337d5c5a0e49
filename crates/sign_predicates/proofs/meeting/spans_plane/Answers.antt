use Rattle.std.proofs.Common.{◌∙◌, subst}
use Rattle.std.specs.Prelude.{IsTrue, ◌↔◌}
use Rattle.sign_predicates.specs.Point.{Point}
use Rattle.sign_predicates.specs.Orientation.{cross}
use Rattle.sign_predicates.specs.Meeting.{triangle_of}
use Rattle.sign_predicates.specs.Turns.{IsZeroVector}
use Rattle.sign_predicates.proofs.Meets.{spans_of}
use Rattle.sign_predicates.proofs.meeting.spans_plane.Goals as goal

pub returns : goal.returns
returns c =
    spans_of c.is_zero.result (triangle_of c.args.a c.args.b c.args.c)
    (subst (λ (n : Point). IsTrue c.is_zero.result ↔ IsZeroVector n) (c.cross.ensures ∙ (λ t. cross (c.from_to.ensures t) (c.from_to-2.ensures t))) c.is_zero.ensures)
