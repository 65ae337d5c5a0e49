use Rattle.std.proofs.Common.{sym, subst}
use Rattle.refining.specs.Refining.{IsTakenMesh, IsTurn}
use Rattle.refining.specs.Rounds.{AreShown}
use Rattle.refining.proofs.Shown.{both_shown, none_shown}
use Rattle.refining.proofs.refining.taken_last.Goals as goal
use Rattle.refining.proofs.refining.taken_last.Goals.{in-More+in_ok-show-in-More, in-Refused+else-step}

pub returns-in_err-show-in-More-clause-shown : goal.returns-in_err-show-in-More-clause-shown
returns-in_err-show-in-More-clause-shown g c =
    let W = g.W.Watch in
    let t = c.args.task in
    both_shown W.shown g.met.W.Watch.both t.bounds.now.shapes.now t.options.now t.bound.now _ _ _ c.loop-rounds.invariant.shown c.show.ensures

pub loop-rounds-init : goal.loop-rounds-init
loop-rounds-init g c =
    let t = c.args.task in
    record {
      taken = c.requires.first;
      shown = none_shown g.W.Watch.shown g.met.W.Watch.nothing t.bounds.now.shapes.now t.options.now t.bound.now c.args.watch.now;
    }

pub loop-rounds-preserved : goal.loop-rounds-preserved
loop-rounds-preserved g c =
    let W = g.W.Watch in
    let t = c.args.task in
    let options = t.options.now in
    let bound = t.bound.now in
    let shapes = t.bounds.now.shapes.now in
    let last = c.loop-rounds.invariant in
    elim c.match-branch-2.branch [
      | in-More+in_ok-show-in-More w ↦
          record {
            taken = subst (IsTakenMesh options bound) (sym w.taken-is) (subst (IsTurn options bound) w.in-More.is c.in_ok-next_taken.ensures);
            shown = subst (λ s. AreShown W.shown shapes options bound c.args.watch.now s) (sym w.watch-is)
                (both_shown W.shown g.met.W.Watch.both shapes options bound _ _ _ last.shown w.show.ensures);
          }
      | in-Refused+else-step w ↦
          record {
            taken = subst (IsTakenMesh options bound) (sym w.taken-is) last.taken;
            shown = subst (λ s. AreShown W.shown shapes options bound c.args.watch.now s) (sym w.watch-is) last.shown;
          }
    ]
