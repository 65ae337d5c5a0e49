use Rattle.std.proofs.Common.{sym, subst, Ok}
use Rattle.run_steps.specs.Reading.{SourceAnswer, NodesAnswer, BoundedAnswer, IsSound}
use Rattle.tet_ports.specs.Seen.{FolderSeen, folder_seen}
use Rattle.run_steps.specs.Steps.{AndThen}
use Rattle.run_steps.proofs.Steps.{and_then_ok}
use Rattle.tet_ports.proofs.Windows.{IsWithin, first_within, last_within}
use Rattle.run_steps.proofs.Inputs.{alone_sound}
use Rattle.run_steps.proofs.Wider.{source_wider, bounded_wider}
use Rattle.run_steps.proofs.input.read_input.Goals as goal

pub returns-then-options-clause-answer : goal.returns-then-options-clause-answer
returns-then-options-clause-answer g c =
    let F = g.F.Folder in
    let l = c.args.limits in
    let o = c.args.options.now in
    let file = c.in_ok-file.file in
    let first : FolderSeen = folder_seen F.state c.args.folder.now c.read_source.new.folder in
    let second : FolderSeen = folder_seen F.state c.read_source.new.folder c.with_points.new.folder in
    let wide : FolderSeen = folder_seen F.state c.args.folder.now c.with_points.new.folder in
    let a = c.read_source.ensures in
    let b = c.with_points.ensures in
    let one : IsWithin first wide = first_within F.state c.args.folder.now c.read_source.new.folder c.with_points.new.folder b.only_read in
    let two : IsWithin second wide = last_within F.state c.args.folder.now c.read_source.new.folder c.with_points.new.folder a.only_read in
    rw c.if-options.true (and_then_ok (SourceAnswer l wide o.base o.extension o.sample) (λ f. AndThen (NodesAnswer l wide o.base f.text.nodes) (BoundedAnswer f)) file c.with_points.result
    (source_wider l first wide one o.base o.extension o.sample (Ok file) c.in_ok-file.ensures.answer) (bounded_wider l second wide two o.base file c.with_points.result b.answer))

pub returns-clause-sound : goal.returns-clause-sound
returns-clause-sound g c =
    subst (λ complex. IsSound (record { nodes = c.in_ok-nodes.nodes; complex = complex })) (sym c.new.ensures) (alone_sound c.in_ok-nodes.nodes c.in_ok-nodes.ensures.table)
