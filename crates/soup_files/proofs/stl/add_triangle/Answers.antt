use Rattle.std.proofs.Common.{◌≡◌, ap, ◌∙◌}
use Rattle.std.proofs.lemmas.Result.{on_ok_weaker}
use Rattle.plc_files.specs.Text.{empty_polygon, plus_corner, with_corner}
use Rattle.soup_files.specs.Surface.{marked_face, plus_facet}
use Rattle.soup_files.proofs.Faces.{face_has, corner_added}
use Rattle.soup_files.proofs.stl.add_triangle.Goals as goal

pub add_corner-requires : goal.add_corner-requires
add_corner-requires c = rw c.in_ok-start_face.ensures (face_has c.args.marker (empty_polygon c.args.triangle.line) c.args.text.now)

pub add_corner-requires-2 : goal.add_corner-requires-2
add_corner-requires-2 c =
    let t = c.args.triangle in
    let none = empty_polygon t.line in
    let one : c.add_corner.new.self ≡ plus_facet (marked_face c.args.marker (plus_corner t.a.place t.a.line none)) c.args.text.now =
    c.in_ok-add_corner.ensures.ok ∙ ap (with_corner t.a.place t.a.line) c.in_ok-start_face.ensures ∙ corner_added c.args.marker t.a.place t.a.line none c.args.text.now in
    rw one (face_has c.args.marker (plus_corner t.a.place t.a.line none) c.args.text.now)

pub add_corner-requires-3 : goal.add_corner-requires-3
add_corner-requires-3 c =
    let t = c.args.triangle in
    let none = empty_polygon t.line in
    let first = plus_corner t.a.place t.a.line none in
    let one : c.add_corner.new.self ≡ plus_facet (marked_face c.args.marker first) c.args.text.now =
    c.in_ok-add_corner.ensures.ok ∙ ap (with_corner t.a.place t.a.line) c.in_ok-start_face.ensures ∙ corner_added c.args.marker t.a.place t.a.line none c.args.text.now in
    let two : c.add_corner-2.new.self ≡ plus_facet (marked_face c.args.marker (plus_corner t.b.place t.b.line first)) c.args.text.now =
    c.in_ok-add_corner-2.ensures.ok ∙ ap (with_corner t.b.place t.b.line) one ∙ corner_added c.args.marker t.b.place t.b.line first c.args.text.now in
    rw two (face_has c.args.marker (plus_corner t.b.place t.b.line first) c.args.text.now)

pub returns : goal.returns
returns c =
    let t = c.args.triangle in
    let none = empty_polygon t.line in
    let first = plus_corner t.a.place t.a.line none in
    let second = plus_corner t.b.place t.b.line first in
    let one : c.add_corner.new.self ≡ plus_facet (marked_face c.args.marker first) c.args.text.now =
    c.in_ok-add_corner.ensures.ok ∙ ap (with_corner t.a.place t.a.line) c.in_ok-start_face.ensures ∙ corner_added c.args.marker t.a.place t.a.line none c.args.text.now in
    let two : c.add_corner-2.new.self ≡ plus_facet (marked_face c.args.marker second) c.args.text.now =
    c.in_ok-add_corner-2.ensures.ok ∙ ap (with_corner t.b.place t.b.line) one ∙ corner_added c.args.marker t.b.place t.b.line first c.args.text.now in
    on_ok_weaker c.add_corner-3.result
    (λ made. made ∙ ap (with_corner t.c.place t.c.line) two ∙ corner_added c.args.marker t.c.place t.c.line second c.args.text.now)
    c.add_corner-3.ensures.ok
