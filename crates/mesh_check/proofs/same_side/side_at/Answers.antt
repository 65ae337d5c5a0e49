use Rattle.mesh_check.proofs.Rows.{IsFaceOn, face_on, corner_on}
use Rattle.std.proofs.Common.{subst, sym, arith}
use Rattle.geo_laws.specs.declared.faces.Face.{Face}
use Rattle.mesh_check.proofs.same_side.side_at.Goals as goal

pub at-a-requires : goal.at-a-requires
at-a-requires c = (subst (λ (f : Face). IsFaceOn c.args.points.now f) (sym c.face_in-face.ensures) (face_on c.args.points.now c.args.row c.args.corner c.requires)).a

pub at-b-requires : goal.at-b-requires
at-b-requires c = (subst (λ (f : Face). IsFaceOn c.args.points.now f) (sym c.face_in-face.ensures) (face_on c.args.points.now c.args.row c.args.corner c.requires)).b

pub at-c-requires : goal.at-c-requires
at-c-requires c = (subst (λ (f : Face). IsFaceOn c.args.points.now f) (sym c.face_in-face.ensures) (face_on c.args.points.now c.args.row c.args.corner c.requires)).c
