use Rattle.std.proofs.Common.{◌++◌, inl, inr, refl, Ok, Err}
use Rattle.std.specs.Prelude.{codes}
use Rattle.std.proofs.lemmas.Result.{err_from_is_err_and}
use Rattle.mesh_check.specs.Reading.{nodes_in_text, rows_of}
use Rattle.tet_ports.specs.Seen.{folder_seen}
use Rattle.tet_ports.proofs.Windows.{only_read_refl, only_read_trans, within_of}
use Rattle.mesh_check.proofs.Windows.{file_wider}
use Rattle.tetwhere_run.proofs.reading.read_where.Goals as goal

pub returns-in_err-rows-clause-answer : goal.returns-in_err-rows-clause-answer
returns-in_err-rows-clause-answer g c =
    let F = g.F.Folder in
    let f0 = c.args.folder.now in
    let f1 = c.read_nodes.new.folder in
    let f2 = c.read_rows.new.folder in
    let a1 = c.read_nodes.ensures in
    let a2 = c.read_rows.ensures in
    let before_0 = only_read_refl F.state f0 in
    let before_1 = a1.only_read in
    let after_2 = only_read_refl F.state f2 in
    let after_1 = a2.only_read in
    let p = err_from_is_err_and c.from_residual-in_err-rows.result c.from_residual-in_err-rows.ensures.1 in
    rw (p.1, p.2) (inr (c.in_ok-nodes.nodes, file_wider (folder_seen F.state f0 f1) (folder_seen F.state f0 f2) (within_of F.state f0 f0 f1 f2 before_0 after_1) (c.args.base.now ++ codes ".node") nodes_in_text (Ok c.in_ok-nodes.nodes) c.in_ok-nodes.ensures.answer, inl (file_wider (folder_seen F.state f1 f2) (folder_seen F.state f0 f2) (within_of F.state f0 f1 f2 f2 before_1 after_2) (c.args.base.now ++ codes ".ele") (rows_of c.in_ok-nodes.nodes) (Err c.in_err-rows.field-0.0) c.in_err-rows.ensures.answer)))

pub returns-in_err-list-clause-answer : goal.returns-in_err-list-clause-answer
returns-in_err-list-clause-answer g c =
    let F = g.F.Folder in
    let f0 = c.args.folder.now in
    let f1 = c.read_nodes.new.folder in
    let f2 = c.read_rows.new.folder in
    let f3 = c.read_list.new.folder in
    let a1 = c.read_nodes.ensures in
    let a2 = c.read_rows.ensures in
    let a3 = c.read_list.ensures in
    let before_0 = only_read_refl F.state f0 in
    let before_1 = a1.only_read in
    let before_2 = only_read_trans F.state f0 f1 f2 before_1 a2.only_read in
    let after_3 = only_read_refl F.state f3 in
    let after_2 = a3.only_read in
    let after_1 = only_read_trans F.state f1 f2 f3 a2.only_read after_2 in
    let p = err_from_is_err_and c.from_residual-in_err-list.result c.from_residual-in_err-list.ensures.1 in
    rw (p.1, p.2) (inr (c.in_ok-nodes.nodes, file_wider (folder_seen F.state f0 f1) (folder_seen F.state f0 f3) (within_of F.state f0 f0 f1 f3 before_0 after_1) (c.args.base.now ++ codes ".node") nodes_in_text (Ok c.in_ok-nodes.nodes) c.in_ok-nodes.ensures.answer, inr (c.in_ok-rows.rows, file_wider (folder_seen F.state f1 f2) (folder_seen F.state f0 f3) (within_of F.state f0 f1 f2 f3 before_1 after_2) (c.args.base.now ++ codes ".ele") (rows_of c.in_ok-nodes.nodes) (Ok c.in_ok-rows.rows) c.in_ok-rows.ensures.answer, inl (file_wider (folder_seen F.state f2 f3) (folder_seen F.state f0 f3) (within_of F.state f0 f2 f3 f3 before_2 after_3) c.args.queries.now nodes_in_text (Err c.in_err-list.field-0.0) c.in_err-list.ensures.answer))))

pub returns-clause-answer : goal.returns-clause-answer
returns-clause-answer g c =
    let F = g.F.Folder in
    let f0 = c.args.folder.now in
    let f1 = c.read_nodes.new.folder in
    let f2 = c.read_rows.new.folder in
    let f3 = c.read_list.new.folder in
    let a1 = c.read_nodes.ensures in
    let a2 = c.read_rows.ensures in
    let a3 = c.read_list.ensures in
    let before_0 = only_read_refl F.state f0 in
    let before_1 = a1.only_read in
    let before_2 = only_read_trans F.state f0 f1 f2 before_1 a2.only_read in
    let after_3 = only_read_refl F.state f3 in
    let after_2 = a3.only_read in
    let after_1 = only_read_trans F.state f1 f2 f3 a2.only_read after_2 in
    (c.in_ok-nodes.nodes, file_wider (folder_seen F.state f0 f1) (folder_seen F.state f0 f3) (within_of F.state f0 f0 f1 f3 before_0 after_1) (c.args.base.now ++ codes ".node") nodes_in_text (Ok c.in_ok-nodes.nodes) c.in_ok-nodes.ensures.answer, (c.in_ok-rows.rows, file_wider (folder_seen F.state f1 f2) (folder_seen F.state f0 f3) (within_of F.state f0 f1 f2 f3 before_1 after_2) (c.args.base.now ++ codes ".ele") (rows_of c.in_ok-nodes.nodes) (Ok c.in_ok-rows.rows) c.in_ok-rows.ensures.answer, (c.in_ok-list.list, file_wider (folder_seen F.state f2 f3) (folder_seen F.state f0 f3) (within_of F.state f0 f2 f3 f3 before_2 after_3) c.args.queries.now nodes_in_text (Ok c.in_ok-list.list) c.in_ok-list.ensures.answer, refl)))
