use Rattle.tetfit_run.specs.Hints.{at_line, has_text}
use Rattle.tetfit_run.proofs.Appends.{behind}
use Rattle.tetfit_run.proofs.places.append_point.Goals as goal

pub returns : goal.returns
returns c =
    let p = c.args.p.now in
    behind c.append_at_line.result c.args.text.now c.append_has.new.text c.append_at_line.new.text (has_text c.args.stated p.line) (at_line p) c.in_ok-append_has.ensures c.append_at_line.ensures
