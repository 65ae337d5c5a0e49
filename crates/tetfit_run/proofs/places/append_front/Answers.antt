use Rattle.std.specs.Fmt.{decimal}
use Rattle.tetfit_run.specs.Hints.{front_of}
use Rattle.tetfit_run.proofs.Appends.{two}
use Rattle.tetfit_run.proofs.places.append_front.Goals as goal

pub returns : goal.returns
returns c =
    two c.append_number.result c.args.text.now c.append.new.self c.append_number.new.text c.front_of.result.now (decimal c.args.place) (front_of c.args.stated) c.in_ok-append.ensures.ok c.front_of.ensures
    c.append_number.ensures
