use Rattle.std.proofs.Common.{ap, ◌∙◌}
use Rattle.std.proofs.lemmas.Result.{on_ok_weaker}
use Rattle.plc_files.specs.Text.{with_polygon_text}
use Rattle.soup_files.proofs.Faces.{started}
use Rattle.soup_files.proofs.surface.start_face.Goals as goal

pub returns : goal.returns
returns c =
    on_ok_weaker c.add_polygon.result
    (λ made. made ∙ ap (with_polygon_text c.args.line) c.in_ok-add_facet.ensures.ok ∙ started c.args.marker c.args.line c.args.text.now)
    c.add_polygon.ensures.ok
