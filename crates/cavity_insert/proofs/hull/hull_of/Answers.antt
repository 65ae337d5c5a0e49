use Rattle.geo_laws.proofs.RowOrder.{face_before}
use Rattle.cavity_insert.proofs.HullFaces.{hull_faces}
use Rattle.cavity_insert.proofs.hull.hull_of.Goals as goal

pub returns : goal.returns
returns c rows list =
    hull_faces c.args.arena.now.slots c.args.points.now c.tet.ensures.mesh c.requires.mesh rows list c.in_ok-faces.faces c.keep_distinct.new.self c.in_ok-faces.ensures c.keep_distinct.ensures.exactly (λ i j d h k. face_before _ _ (c.keep_distinct.ensures.ascending i j d h k))
