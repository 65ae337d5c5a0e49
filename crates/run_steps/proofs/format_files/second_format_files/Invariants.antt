use Rattle.std.proofs.Common.{◌≡◌}
use Rattle.std.specs.Prelude.{map, take}
use Rattle.solver_files.specs.Formats.{second_whole_text}
use Rattle.solver_files.specs.Second.{second_of}
use Rattle.run_steps.specs.Outputs.{format_file}
use Rattle.run_steps.proofs.format_files.second_format_files.Given as goal

abbrev pub invariant-loop-format : goal.invariant-loop-format
invariant-loop-format l = l.files ≡ map (format_file l.options (second_whole_text (second_of l.mesh))) (take l.format-index l.format-items)
