use Rattle.simplex_meets.specs.declared.complex_parts.Part.TheVariants.{Triangle, Segment}
use Rattle.simplex_meets.proofs.Apart.{met_of}
use Rattle.simplex_meets.proofs.complex_parts.are_properly_met.Goals as goal

pub returns-in-Triangle-q : goal.returns-in-Triangle-q
returns-in-Triangle-q c =
    let a = c.args in
    met_of a.points.now a.p a.q (Triangle c.in-Triangle.t) (Triangle c.in-Triangle-q.u) c.faces_met.result c.in-Triangle.is c.in-Triangle-q.is c.faces_met.ensures

pub returns-in-Segment-q : goal.returns-in-Segment-q
returns-in-Segment-q c =
    let a = c.args in
    met_of a.points.now a.p a.q (Triangle c.in-Triangle.t) (Segment c.in-Segment-q.s) c.face_met_segment.result c.in-Triangle.is c.in-Segment-q.is c.face_met_segment.ensures

pub returns-in-Triangle-q-2 : goal.returns-in-Triangle-q-2
returns-in-Triangle-q-2 c =
    let a = c.args in
    met_of a.points.now a.p a.q (Segment c.in-Segment.r) (Triangle c.in-Triangle-q-2.u) c.segment_met_face.result c.in-Segment.is c.in-Triangle-q-2.is c.segment_met_face.ensures

pub returns-in-Segment-q-2 : goal.returns-in-Segment-q-2
returns-in-Segment-q-2 c =
    let a = c.args in
    met_of a.points.now a.p a.q (Segment c.in-Segment.r) (Segment c.in-Segment-q-2.s) c.segments_met.result c.in-Segment.is c.in-Segment-q-2.is c.segments_met.ensures
