use Rattle.tetfit_run.specs.Hints.{point_line, refusal_line}
use Rattle.tetfit_run.proofs.Appends.{behind}
use Rattle.tetfit_run.proofs.places.append_lines.Goals as goal

pub returns : goal.returns
returns c =
    let p = c.args.p.now in
    behind c.append_point.result c.args.text.now c.append_refusal.new.text c.append_point.new.text (refusal_line c.args.stated p.line) (point_line c.args.stated p) c.in_ok-append_refusal.ensures c.append_point.ensures
