use Rattle.refining.proofs.Shown.{both_shown}
use Rattle.refining.proofs.refining.best_of.Goals as goal

pub returns-in_err-taken-clause-shown : goal.returns-in_err-taken-clause-shown
returns-in_err-taken-clause-shown g c =
    let t = c.args.task in
    both_shown g.W.Watch.shown g.met.W.Watch.both t.bounds.now.shapes.now t.options.now t.bound.now _ _ _ c.show.ensures c.taken_last.ensures.shown

pub returns-in_err-taken-2-clause-shown : goal.returns-in_err-taken-2-clause-shown
returns-in_err-taken-2-clause-shown g c =
    let t = c.args.task in
    let first = both_shown g.W.Watch.shown g.met.W.Watch.both t.bounds.now.shapes.now t.options.now t.bound.now _ _ _ c.show.ensures c.taken_last.ensures.shown in
    both_shown g.W.Watch.shown g.met.W.Watch.both t.bounds.now.shapes.now t.options.now t.bound.now _ _ _ first c.improved.ensures.shown

pub returns-in_err-taken-3-clause-shown : goal.returns-in_err-taken-3-clause-shown
returns-in_err-taken-3-clause-shown g c =
    let t = c.args.task in
    let first = both_shown g.W.Watch.shown g.met.W.Watch.both t.bounds.now.shapes.now t.options.now t.bound.now _ _ _ c.show.ensures c.taken_last.ensures.shown in
    let second = both_shown g.W.Watch.shown g.met.W.Watch.both t.bounds.now.shapes.now t.options.now t.bound.now _ _ _ first c.improved.ensures.shown in
    both_shown g.W.Watch.shown g.met.W.Watch.both t.bounds.now.shapes.now t.options.now t.bound.now _ _ _ second c.improved-2.ensures.shown

pub returns-clause-shown : goal.returns-clause-shown
returns-clause-shown g c =
    let t = c.args.task in
    let first = both_shown g.W.Watch.shown g.met.W.Watch.both t.bounds.now.shapes.now t.options.now t.bound.now _ _ _ c.show.ensures c.taken_last.ensures.shown in
    let second = both_shown g.W.Watch.shown g.met.W.Watch.both t.bounds.now.shapes.now t.options.now t.bound.now _ _ _ first c.improved.ensures.shown in
    both_shown g.W.Watch.shown g.met.W.Watch.both t.bounds.now.shapes.now t.options.now t.bound.now _ _ _ second c.improved-2.ensures.shown
