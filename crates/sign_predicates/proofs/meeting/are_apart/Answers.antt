use Rattle.sign_predicates.proofs.Meets.{meets_back}
use Rattle.sign_predicates.proofs.meeting.are_apart.Goals as goal

pub returns-else-lies_apart : goal.returns-else-lies_apart
returns-else-lies_apart c h m = c.lies_apart-else-lies_apart.ensures h (meets_back m)
