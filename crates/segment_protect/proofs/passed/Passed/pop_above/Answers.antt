use Rattle.std.proofs.Common.{◌≡◌, ◌∷◌, [], ◌++◌, length, ap, ◌∙◌, subst}
use Rattle.segment_protect.specs.Watch.{pieces_of}
use Rattle.segment_protect.specs.Passed.{AreLinked}
use Rattle.segment_protect.proofs.Linked.{linked_pop}
use Rattle.segment_protect.proofs.Watching.{pieces_push}
use Rattle.segment_protect.proofs.passed.Passed.pop_above.Goals as goal

pub returns-clause-linked : goal.returns-clause-linked
returns-clause-linked c =
    let old = c.args.self.now in
    let w = c.in_ok-w.w in
    let e = c.in_ok-earlier.earlier in
    let n = length old.latest.items in
    let pieces : pieces_of old.watched.items ≡ pieces_of c.pop.new.self.items ++ w.piece ∷ [] = ap pieces_of c.in_ok-w.ensures.items ∙ pieces_push c.pop.new.self.items w in
    linked_pop n (pieces_of c.pop.new.self.items) c.pop-2.new.self.items old.latest.items w.piece e
    (subst (λ links. AreLinked n (pieces_of c.pop.new.self.items ++ w.piece ∷ []) links old.latest.items) c.in_ok-earlier.ensures.items
    (subst (λ qs. AreLinked n qs old.earlier.items old.latest.items) pieces c.requires))
