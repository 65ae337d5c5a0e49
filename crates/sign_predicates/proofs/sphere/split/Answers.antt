use Rattle.sign_predicates.proofs.Parts.{split_is}
use Rattle.sign_predicates.proofs.sphere.split.Goals as goal

pub returns-clause-value : goal.returns-clause-value
returns-clause-value c = split_is c.args.p c.requires
