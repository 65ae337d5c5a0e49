use Rattle.std.proofs.Common.{◌≡◌, ◌-◌, List}
use Rattle.tet_text.specs.Views.{content_left, line_total}
use Rattle.plc_files.specs.declared.parts.PolygonText.{PolygonText}
use Rattle.soup_files.specs.Off.{off_polygon}
use Rattle.soup_files.specs.Surface.{plus_faces}
use Rattle.soup_files.proofs.off.read_faces.Given as goal
use Rattle.tet_text.specs.Repeated.{so_many, onto}

abbrev pub invariant-loop : goal.invariant-loop
invariant-loop l =
    (faces : List PolygonText)
    × (l.text ≡ plus_faces faces l.fn.text)
    × (onto faces (so_many (off_polygon (line_total l.fn.lines)) (l.count - l.counter) (content_left l.lines)) ≡ so_many (off_polygon (line_total l.fn.lines)) l.count (content_left l.fn.lines))
    × (line_total l.lines ≡ line_total l.fn.lines)
