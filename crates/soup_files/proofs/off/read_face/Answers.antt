use Rattle.std.proofs.Common.{None}
use Rattle.tet_text.specs.Views.{content_left, line_total}
use Rattle.plc_files.specs.Text.{empty_polygon}
use Rattle.soup_files.proofs.Faces.{face_has}
use Rattle.soup_files.proofs.Faults.{face_whole}
use Rattle.soup_files.proofs.off.read_face.Goals as goal

pub read_corners-requires : goal.read_corners-requires
read_corners-requires c = rw c.in_ok-start_face.ensures (face_has None (empty_polygon c.line.result) c.args.text.now)

pub returns-clause-value : goal.returns-clause-value
returns-clause-value c =
    let start = c.args.lines.now in
    face_whole (line_total start) (content_left start) (content_left c.want_line.new.self) c.in_ok-fields.fields c.in_ok-count.count c.some_count.new.fields.line c.line.result c.some_count.new.fields.fields
    c.read_corners.new.fields.fields c.args.text.now c.start_face.new.text c.read_corners.new.text c.read_corners.result
    c.in_ok-fields.ensures.value c.in_ok-count.ensures.value c.in_ok-count.ensures.line c.line.ensures c.in_ok-start_face.ensures c.read_corners.ensures
