use Rattle.std.proofs.Common.{arith}
use Rattle.std.proofs.Math.Nat.{div-add-mod, mod-lt}
use Rattle.tet_shapes.proofs.volume.mixed_of.Goals as goal

pub returns : goal.returns
returns c = record {
  value = omega (arith, div-add-mod c.args.number c.args.under);
  rest = mod-lt c.args.number c.requires;
}
