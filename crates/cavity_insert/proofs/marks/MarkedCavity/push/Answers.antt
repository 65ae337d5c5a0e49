use Rattle.cavity_insert.proofs.Marking.{one_marked, same_marks}
use Rattle.cavity_insert.proofs.marks.MarkedCavity.push.Goals as goal

pub invariant_of-self-2 : goal.invariant_of-self-2
invariant_of-self-2 c =
    let found = c.self.inside.found in
    let marks = c.lengthen.new.marks.items in
    rw c.in_ok-push.ensures.ok
    (one_marked found marks c.args.s c.in_ok-lengthen.ensures.inside (same_marks found c.self.inside.marks.items marks c.lengthen.ensures.same c.self.invariant))
