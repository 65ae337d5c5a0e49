use Rattle.std.proofs.Common.{◌↔◌, IsTrue, List, sym, subst}
use Rattle.sign_predicates.specs.Point.{Point}
use Rattle.insert_laws.specs.Insertion.{HasOutside}
use Rattle.point_locate.specs.Place.{AreOn, row_corners}
use Rattle.cavity_insert.proofs.Lifts.{above_of}
use Rattle.cavity_insert.proofs.lifting.FramedLift.is_outside.Goals as goal

pub outside_in_frame-requires-clause-on : goal.outside_in_frame-requires-clause-on
outside_in_frame-requires-clause-on c = subst (λ (ps : List Point). AreOn ps (row_corners c.args.row)) (sym c.self.view_is) c.requires.on

pub returns : goal.returns
returns c = above_of c.args.self.now c.args.row c.args.number c.outside_in_frame.result (c.requires)
    (subst (λ (ps : List Point). IsTrue c.outside_in_frame.result ↔ HasOutside ps c.args.row c.args.number) c.self.view_is c.outside_in_frame.ensures)
