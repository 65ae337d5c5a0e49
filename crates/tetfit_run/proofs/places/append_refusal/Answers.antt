use Rattle.std.specs.Prelude.{codes}
use Rattle.tetfit_run.specs.Hints.{front_text}
use Rattle.tetfit_run.proofs.Appends.{behind}
use Rattle.tetfit_run.proofs.places.append_refusal.Goals as goal

pub returns : goal.returns
returns c =
    behind c.append.result c.args.text.now c.append_front.new.text c.append.new.self (front_text c.args.stated c.args.place) (codes ": coordinate off the grid\n") c.in_ok-append_front.ensures c.append.ensures.ok
