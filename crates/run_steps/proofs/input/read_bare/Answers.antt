use Rattle.std.proofs.Common.{inr, Err}
use Rattle.command_words.specs.declared.options.Extension.TheVariants.{Poly, Smesh}
use Rattle.tet_ports.specs.Seen.{FolderSeen, folder_seen}
use Rattle.run_steps.specs.declared.status.Status.TheVariants.{Missing}
use Rattle.tet_ports.proofs.Windows.{IsWithin, first_within, last_within}
use Rattle.run_steps.proofs.Wider.{form_wider}
use Rattle.run_steps.proofs.input.read_bare.Goals as goal

pub returns-in-Err-Missing-clause-answer : goal.returns-in-Err-Missing-clause-answer
returns-in-Err-Missing-clause-answer g c =
    let F = g.F.Folder in
    let first : FolderSeen = folder_seen F.state c.args.folder.now c.read_form.new.folder in
    let second : FolderSeen = folder_seen F.state c.read_form.new.folder c.read_form-in-Err-Missing.new.folder in
    let wide : FolderSeen = folder_seen F.state c.args.folder.now c.read_form-in-Err-Missing.new.folder in
    let a = c.read_form.ensures in
    let b = c.read_form-in-Err-Missing.ensures in
    let one : IsWithin first wide = first_within F.state c.args.folder.now c.read_form.new.folder c.read_form-in-Err-Missing.new.folder b.only_read in
    let two : IsWithin second wide = last_within F.state c.args.folder.now c.read_form.new.folder c.read_form-in-Err-Missing.new.folder a.only_read in
    inr (
      c.in-Err-Missing.field-0-0,
      form_wider c.args.limits first wide one c.args.base.now Poly (Err (Missing c.in-Err-Missing.field-0-0)) (rw c.in-Err-Missing.field-0-is at c.in-Err-Missing.ensures.answer),
      form_wider c.args.limits second wide two c.args.base.now Smesh c.read_form-in-Err-Missing.result b.answer,
    )
