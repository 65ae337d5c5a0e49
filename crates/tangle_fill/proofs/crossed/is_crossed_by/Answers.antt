use Rattle.std.proofs.Common.{arith}
use Rattle.geo_laws.proofs.Members.{contains_of, member_of}
use Rattle.tangle_fill.proofs.Entered.{enters_none}
use Rattle.tangle_fill.proofs.Boxed.{spans_of}
use Rattle.tangle_fill.proofs.crossed.is_crossed_by.Goals as goal

pub enters-requires-clause-of_facet : goal.enters-requires-clause-of_facet
enters-requires-clause-of_facet c = (c.args.place, omega arith, c.at.ensures c.at.result)

pub returns-then-place-len : goal.returns-then-place-len
returns-then-place-len c h free =
    let ps = c.args.points.now in
    let ts = c.args.triangles.now in
    let m = member_of ts c.at.result (c.args.place, omega arith, c.at.ensures c.at.result) in
    enters_none ps ts c.args.row c.at.result m (spans_of ps ts c.requires.facets c.at.result (contains_of ts c.at.result m)) free (c.enters.ensures.0 h)
