use Rattle.std.proofs.Common.{◌+◌, ◌*◌, ◌^◌, arith, subst}
use Rattle.tet_shapes.specs.Volume.{IsMixedOrGreat}
use Rattle.tet_shapes.proofs.Volumes.{whole_great, whole_is}
use Rattle.tet_shapes.proofs.volume.doubled_whole.Goals as goal

pub returns-in-None-clause-value : goal.returns-in-None-clause-value
returns-in-None-clause-value c =
    let u = c.args.under in
    let n = (c.args.m.whole * u + c.args.m.rest) * 2 ^ c.args.twos in
    whole_great u n (omega (arith, c.requires.rest)) (subst (IsMixedOrGreat u n) c.in-None.is c.raised.ensures)

pub returns-in-Some-clause-value : goal.returns-in-Some-clause-value
returns-in-Some-clause-value c =
    let u = c.args.under in
    let n = (c.args.m.whole * u + c.args.m.rest) * 2 ^ c.args.twos in
    let m = subst (IsMixedOrGreat u n) c.in-Some.is c.raised.ensures in
    let is = whole_is u n c.in-Some.m.whole c.in-Some.m.rest m.value m.rest in
    omega (arith, is)
