use Rattle.std.proofs.Common.{below_more, refl, ◌∙◌, arith}
use Rattle.sign_predicates.specs.Point.{origin}
use Rattle.mesh_tests.proofs.tests.small_sets.are_distinct.Goals as goal

pub loop-j-preserved : goal.loop-j-preserved
loop-j-preserved c = below_more _ _ c.loop-j.invariant (λ i h e. c.if-not-is_new.ensures refl i h (e ∙ c.at.ensures origin))

pub returns : goal.returns
returns c = λ t i j h k. c.loop-j.invariant j (omega arith) i h
