use Rattle.std.proofs.Common.{sym, subst}
use Rattle.refining.specs.Refining.{IsTakenMesh, IsTurn}
use Rattle.refining.specs.Rounds.{AreShown}
use Rattle.refining.proofs.Shown.{both_shown, none_shown}
use Rattle.refining.proofs.refining.improved.Goals as goal
use Rattle.refining.proofs.refining.improved.Goals.{in-Refused+else-is_whole, in-More+in_ok-show-in-More+in_ok-is_better-in-More+then-branch, in-More+in_ok-show-in-More+in_ok-is_better-in-More+else-branch}

pub returns-in_err-show-in-More-clause-shown : goal.returns-in_err-show-in-More-clause-shown
returns-in_err-show-in-More-clause-shown g c =
    let t = c.args.task in
    both_shown g.W.Watch.shown g.met.W.Watch.both t.bounds.now.shapes.now t.options.now t.bound.now _ _ _ c.loop.invariant.shown c.show.ensures

pub returns-in_err-is_better-in-More-clause-shown : goal.returns-in_err-is_better-in-More-clause-shown
returns-in_err-is_better-in-More-clause-shown g c =
    let t = c.args.task in
    both_shown g.W.Watch.shown g.met.W.Watch.both t.bounds.now.shapes.now t.options.now t.bound.now _ _ _ c.loop.invariant.shown c.show.ensures

pub returns-clause-shown : goal.returns-clause-shown
returns-clause-shown g c = c.loop.invariant.shown

pub loop-init : goal.loop-init
loop-init g c =
    let t = c.args.task in
    record {
      best = c.requires.first;
      shown = none_shown g.W.Watch.shown g.met.W.Watch.nothing t.bounds.now.shapes.now t.options.now t.bound.now c.args.watch.now;
    }

pub loop-preserved : goal.loop-preserved
loop-preserved g c =
    let W = g.W.Watch in
    let t = c.args.task in
    let options = t.options.now in
    let bound = t.bound.now in
    let shapes = t.bounds.now.shapes.now in
    let last = c.loop.invariant in
    elim c.match-branch-2.branch [
      | in-Refused+else-is_whole w ↦
          record {
            best = subst (IsTakenMesh options bound) (sym w.best-is) last.best;
            shown = subst (λ s. AreShown W.shown shapes options bound c.args.watch.now s) (sym w.watch-is) last.shown;
          }
      | in-More+in_ok-show-in-More+in_ok-is_better-in-More+then-branch w ↦
          record {
            best = subst (IsTakenMesh options bound) (sym w.best-is) (subst (IsTurn options bound) w.in-More.is c.in_ok-next_improved.ensures);
            shown = subst (λ s. AreShown W.shown shapes options bound c.args.watch.now s) (sym w.watch-is)
                (both_shown W.shown g.met.W.Watch.both shapes options bound _ _ _ last.shown w.show.ensures);
          }
      | in-More+in_ok-show-in-More+in_ok-is_better-in-More+else-branch w ↦
          record {
            best = subst (IsTakenMesh options bound) (sym w.best-is) last.best;
            shown = subst (λ s. AreShown W.shown shapes options bound c.args.watch.now s) (sym w.watch-is)
                (both_shown W.shown g.met.W.Watch.both shapes options bound _ _ _ last.shown w.show.ensures);
          }
    ]
