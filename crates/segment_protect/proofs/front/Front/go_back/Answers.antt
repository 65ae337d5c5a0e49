use Rattle.std.proofs.Common.{◌∷◌, [], ◌++◌, length, get_or, reverse, refl, ap, sym, subst, ◌∙◌, arith}
use Rattle.std.proofs.lemmas.List.{get_or_append_left, length_push}
use Rattle.segment_protect.specs.Watch.{pieces_of, IsWatched}
use Rattle.segment_protect.specs.Passed.{IsLinked, IsSide}
use Rattle.segment_protect.specs.declared.watch.Watched.{Watched}
use Rattle.segment_protect.proofs.Watching.{pieces_moved, all_and_last, all_with}
use Rattle.segment_protect.proofs.front.Front.go_back.Goals as goal

pub loop-w-preserved : goal.loop-w-preserved
loop-w-preserved c =
    let front = c.loop-w.self in
    let ps = front.living.points in
    let so = c.loop-w.invariant in
    let w = c.in-Some.w in
    let new = c.pop_above.new.self in
    let popped = c.in-Some.ensures.items in
    let more = length_push new.watched.items w in
    let long = ap length popped in
    let Kept : Watched → Type 0 = λ v. IsWatched ps front.touched.items v in
    let each = all_and_last Kept front.passed.watched.items new.watched.items w popped so.watching.passed.watched in
    record {
      living = so.living;
      pieces =
          ap (λ ws. pieces_of (new.watched.items ++ reverse ws)) c.in_ok-push.ensures.items ∙ sym (pieces_moved new.watched.items front.rest.items w w refl)
          ∙ ap (λ ws. pieces_of (ws ++ reverse front.rest.items)) (sym popped) ∙ so.pieces;
      watching = record {
        marks = so.watching.marks;
        passed = record { linked = subst (λ n. IsLinked n new) so.watching.passed.linked.points c.in-Some.ensures.linked; watched = each.0 };
        rest = all_with Kept _ front.rest.items w c.in_ok-push.ensures.items so.watching.rest each.1;
      };
      sides = λ j d h l.
          subst (IsSide ps) (ap (λ ws. get_or ws j d) popped ∙ get_or_append_left new.watched.items (w ∷ []) d j l) (so.sides j d h (omega arith));
    }
