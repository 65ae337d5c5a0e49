use Rattle.std.proofs.Common.{◌∙◌, arith, to_z, of_z, w16}
use Rattle.sign_predicates.proofs.Vectors.{coordinate_back}
use Rattle.mesh_tests.proofs.tests.protection.quadruple.Goals as goal

pub returns : goal.returns
returns c = record {
  x = to_z w16 (of_z w16 c.args.a);
  y = to_z w16 (of_z w16 c.args.b);
  z = to_z w16 (of_z w16 c.args.c);
  x_is = coordinate_back c.times_four-x.result (omega arith) ∙ c.times_four-x.ensures.value;
  y_is = coordinate_back c.times_four-y.result (omega arith) ∙ c.times_four-y.ensures.value;
  z_is = coordinate_back c.times_four-z.result (omega arith) ∙ c.times_four-z.ensures.value;
}
