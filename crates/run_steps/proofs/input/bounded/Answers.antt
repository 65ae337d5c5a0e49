use Rattle.std.proofs.Common.{◌≡◌, Ok, sym, subst, ◌∙◌}
use Rattle.plc_files.specs.Checks.{corners_check}
use Rattle.run_steps.proofs.input.bounded.Goals as goal

pub returns-in-Ok-clause-answer : goal.returns-in-Ok-clause-answer
returns-in-Ok-clause-answer c =
    let checked = sym c.check_corners.ensures ∙ c.in-Ok.is in (
      c.in-Ok.field-0,
      subst (λ n. corners_check c.args.nodes.first n c.args.complex ≡ Ok c.in-Ok.field-0) c.len.ensures.count checked,
      (λ i. record { nodes = c.args.nodes; complex = record c.args.complex { nodes = c.requires.own i } }),
    )
