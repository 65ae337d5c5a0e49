use Rattle.std.proofs.Common.{◌≡◌, ℕ, zero, suc, false, ◌-◌, ◌<◌, ◌∷◌, [], ◌++◌, take, vec_len, length, reverse, refl, ap, sym, subst, ◌∙◌, arith}
use Rattle.std.specs.Prelude.{◌==◌}
use Rattle.std.proofs.lemmas.Bool.{false≢true}
use Rattle.segment_protect.specs.Watch.{pieces_of, IsWatched}
use Rattle.segment_protect.specs.Passed.{IsLinked, IsSide}
use Rattle.segment_protect.specs.declared.watch.Watched.{Watched}
use Rattle.segment_protect.proofs.Watching.{pieces_moved, last_is, top_is, all_and_last, all_with}
use Rattle.segment_protect.proofs.front.Front.pass_sides.Goals as goal

not_zero : (n : ℕ) → (n == 0) ≡ false → 0 < n
not_zero zero e = absurd (false≢true (sym e))
not_zero (suc n) e = omega arith

pub returns-then-not-is_side-clause-next : goal.returns-then-not-is_side-clause-next
returns-then-not-is_side-clause-next c =
    let rest = c.loop-self.self.rest.items in
    let w = c.index-w.result.now in
    let some = not_zero (vec_len c.loop-self.self.rest) (sym c.loop-self-test.ensures) in
    record { top = top_is rest (c.len.result - 1) w (omega arith) c.index-w.ensures; missing = λ side. false≢true (c.if-not-is_side.ensures.1 side) }

pub loop-self-preserved : goal.loop-self-preserved
loop-self-preserved c =
    let front = c.loop-self.self in
    let ps = front.living.points in
    let so = c.loop-self.invariant in
    let rest = front.rest.items in
    let others = c.pop.new.self.items in
    let w = c.index-w.result.now in
    let passed = front.passed.watched.items in
    let some = not_zero (vec_len front.rest) (sym c.loop-self-test.ensures) in
    let v : Watched = record { piece = w.piece; seen = c.len-now.result } in
    let popped : rest ≡ others ++ w ∷ [] =
    last_is rest (c.len.result - 1) w (omega arith) c.index-w.ensures ∙ ap (λ ws. ws ++ w ∷ []) (ap (λ n. take (n - 1) rest) c.len.ensures ∙ sym c.pop.ensures.rest) in
    let Kept : Watched → Type 0 = λ u. IsWatched ps front.touched.items u in
    let each = all_and_last Kept rest others w popped so.watching.rest in
    let side = c.is_side.ensures.0 c.if-not-is_side.false in
    let count = ap length c.points.ensures in
    let same = ap (λ l. length l.points) so.living in
    record {
      living = so.living;
      pieces =
          ap (λ ws. pieces_of (ws ++ reverse others)) c.in_ok-push.ensures.items ∙ pieces_moved passed others v w refl
          ∙ ap (λ ws. pieces_of (passed ++ reverse ws)) (sym popped) ∙ so.pieces;
      watching = record {
        marks = so.watching.marks;
        passed = record {
          linked = subst (λ n. IsLinked n c.push.new.self) so.watching.passed.linked.points c.in_ok-push.ensures.linked;
          watched = all_with Kept _ passed v c.in_ok-push.ensures.items so.watching.passed.watched (record { ends = each.1.ends; seen = omega arith; side = λ known. side });
        };
        rest = each.0;
      };
      sides = all_with (IsSide ps) _ passed v c.in_ok-push.ensures.items so.sides side;
    }
