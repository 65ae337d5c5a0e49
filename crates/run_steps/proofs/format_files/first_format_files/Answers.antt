use Rattle.std.proofs.Common.{◌≡◌, ◌≤◌, List, map, length, ap, ◌∙◌, arith}
use Rattle.std.proofs.lemmas.List.{take_all}
use Rattle.command_words.specs.declared.formats.Format.{Format}
use Rattle.solver_files.specs.Formats.{whole_text}
use Rattle.solver_files.specs.Mesh.{mesh_of}
use Rattle.run_steps.specs.Outputs.{format_file}
use Rattle.run_steps.proofs.format_files.first_format_files.Goals as goal

pub returns : goal.returns
returns c =
    let text = format_file c.args.options.now (whole_text (mesh_of c.args.mesh.now)) in
    let items = c.as_slice-format-items.result.now in
    let all : length items ≤ c.loop-format.format-index = omega (arith, c.loop-format-test.false) in
    c.loop-format.invariant ∙ ap (map text) (take_all c.loop-format.format-index items all)
    ∙ ap (λ (formats : List Format). map text formats) (c.as_slice-format-items.ensures ∙ c.in_ok-formats.ensures)
