use Rattle.std.proofs.Common.{◌*◌, arith}
use Rattle.std.proofs.Math.Nat.{mod-lt}
use Rattle.tet_shapes.proofs.Volumes.{multiple}
use Rattle.tet_shapes.proofs.volume.times.Goals as goal

pub returns : goal.returns
returns c =
    let m = c.args.m in
    record {
      value = rw c.from-base.ensures (multiple m.whole m.rest c.args.base c.args.under);
      rest = rw c.from-base.ensures (mod-lt (m.rest * c.args.base) (omega (arith, c.requires.rest)));
    }
