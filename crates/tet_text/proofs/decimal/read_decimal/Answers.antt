use Rattle.std.proofs.Common.{ap, ◌∙◌, Option}
use Rattle.std.specs.Option.{ok_or}
use Rattle.tet_text.specs.Decimals.{Scaled, decimal_of}
use Rattle.tet_text.proofs.Value.{decimal_number}
use Rattle.tet_text.proofs.decimal.read_decimal.Goals as goal

pub returns-clause-exact : goal.returns-clause-exact
returns-clause-exact c =
    let read = c.decimal_in.ensures ∙ ap decimal_of c.bytes.ensures in
    decimal_number c.ok_or.result c.args.field.now.text.now c.no_number.result (c.ok_or.ensures.value ∙ ap (λ (o : Option Scaled). ok_or o c.no_number.result) read)
