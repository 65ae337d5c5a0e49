use Rattle.std.proofs.Common.{arith}
use Rattle.std.proofs.lemmas.Bool.{false≢true}
use Rattle.simplex_meets.proofs.Firsts.{unmet_of}
use Rattle.simplex_meets.proofs.pairing.settle_pair.Goals as goal

pub returns-clause-found : goal.returns-clause-found
returns-clause-found c =
    let a = c.args in
    unmet_of a.compared a.points.now a.parts.now a.i a.j (omega arith) c.requires.there (λ met. false≢true (c.if-are_met.ensures.1 met))
