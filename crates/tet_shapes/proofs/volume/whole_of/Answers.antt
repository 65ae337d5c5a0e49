use Rattle.std.proofs.Common.{◌+◌, ◌*◌, ◌^◌, arith, subst}
use Rattle.tet_shapes.specs.Volume.{IsMixedOrGreat}
use Rattle.tet_shapes.proofs.Volumes.{greater, whole_great}
use Rattle.tet_shapes.proofs.volume.whole_of.Goals as goal

pub returns-in-None-clause-value : goal.returns-in-None-clause-value
returns-in-None-clause-value c =
    let u = c.args.under in
    let n = (c.args.m.whole * u + c.args.m.rest) * 10 ^ c.args.tens in
    whole_great u (n * 2 ^ c.args.twos) (omega (arith, c.requires.rest)) (greater u n c.args.twos (subst (IsMixedOrGreat u n) c.in-None.is c.raised.ensures))
