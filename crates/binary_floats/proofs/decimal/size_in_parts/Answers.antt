use Rattle.std.proofs.Common.{◌∙◌, ap, sym}
use Rattle.binary_floats.specs.Shortest.{shortest}
use Rattle.binary_floats.proofs.Places.{zero_here}
use Rattle.binary_floats.proofs.decimal.size_in_parts.Goals as goal

pub returns-then-steps-eq0-clause-value : goal.returns-then-steps-eq0-clause-value
returns-then-steps-eq0-clause-value c = sym (zero_here c.steps_of-steps.result c.if-steps-eq0.true) ∙ ap shortest c.steps_of-steps.ensures.value
