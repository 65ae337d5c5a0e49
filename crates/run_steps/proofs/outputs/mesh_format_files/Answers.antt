use Rattle.std.proofs.Common.{◌≡◌, ◌∙◌, List, sym, subst}
use Rattle.std.specs.Prelude.{IfOk}
use Rattle.command_words.specs.Formats.{asks_whole}
use Rattle.solver_files.specs.Formats.{whole_text}
use Rattle.solver_files.specs.Mesh.{Mesh, IsWritten}
use Rattle.run_steps.specs.Outputs.{format_file, format_files, whole_of}
use Rattle.run_steps.proofs.Asked.{asked_by_whole, none_asked}
use Rattle.run_steps.proofs.Whole.{written_of}
use Rattle.run_steps.proofs.outputs.mesh_format_files.Goals as goal

pub first_format_files-requires : goal.first_format_files-requires
first_format_files-requires c =
    let options = c.args.options.now in
    let asked = asked_by_whole options.no_face (asks_whole options.formats) (sym c.asks_whole.ensures ∙ c.if-not-asks_whole.false) in
    subst IsWritten (sym c.whole.ensures) (written_of options.origin c.args.mesh.now c.args.faces.now c.requires.mesh c.requires.near (c.requires.named asked))

pub returns : goal.returns
returns c =
    let options = c.args.options.now in
    subst (λ (m : Mesh). IfOk c.first_format_files.result (λ files. files ≡ format_files options (whole_text m))) c.whole.ensures c.first_format_files.ensures
