use Rattle.std.specs.Prelude.{codes}
use Rattle.tetfit_run.specs.Hints.{at_text}
use Rattle.tetfit_run.proofs.Appends.{behind}
use Rattle.tetfit_run.proofs.places.append_at_line.Goals as goal

pub returns : goal.returns
returns c = behind c.append.result c.args.text.now c.append_at.new.text c.append.new.self (at_text c.args.p.now) (codes "\n") c.in_ok-append_at.ensures c.append.ensures.ok
