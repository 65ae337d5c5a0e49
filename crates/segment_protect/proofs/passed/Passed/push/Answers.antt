use Rattle.std.proofs.Common.{◌≡◌, ◌+◌, ◌∷◌, [], ◌++◌, length, ap, ◌∙◌, arith}
use Rattle.std.proofs.lemmas.Grind.{get_or_default_zero}
use Rattle.std.proofs.lemmas.List.{length_push}
use Rattle.segment_protect.specs.Watch.{pieces_of}
use Rattle.segment_protect.proofs.Linked.{linked_push}
use Rattle.segment_protect.proofs.Watching.{pieces_push, pieces_length}
use Rattle.segment_protect.proofs.passed.Passed.push.Goals as goal

pub returns-clause-linked : goal.returns-clause-linked
returns-clause-linked c =
    let old = c.args.self.now in
    let w = c.args.w in
    let e = c.index.result.now in
    let is = c.index.ensures ∙ get_or_default_zero old.latest.items w.piece.a e c.requires.inside in
    let pieces : pieces_of c.push-2.new.self.items ≡ pieces_of old.watched.items ++ w.piece ∷ [] = ap pieces_of c.in_ok-push-2.ensures.items ∙ pieces_push old.watched.items w in
    let long = pieces_length old.watched.items in
    let more = ap length c.in_ok-push-2.ensures.items ∙ length_push old.watched.items w in
    let count : c.len.result ≡ length (pieces_of old.watched.items) + 1 = omega arith in
    rw (pieces, c.in_ok-push.ensures.items, count)
    (linked_push (length old.latest.items) (pieces_of old.watched.items) old.earlier.items old.latest.items w.piece e c.requires.inside is c.requires.linked)
