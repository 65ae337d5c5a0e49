use Rattle.geo_laws.proofs.Members.{here, there}
use Rattle.tangle_fill.proofs.Indexed.{shares, last_rival}
use Rattle.tangle_fill.proofs.growth.Growth.rival.Goals as goal

pub returns-in-Some : goal.returns-in-Some
returns-in-Some c =
    let t = c.args.row in
    (c.in-Some.ensures.0, shares t c.in-Some.other (record { a = t.b; b = t.d; c = t.c }) here c.in-Some.ensures.1)

pub returns-in-Some-row_on : goal.returns-in-Some-row_on
returns-in-Some-row_on c =
    let t = c.args.row in
    (c.in-Some-row_on.ensures.0, shares t c.in-Some-row_on.other (record { a = t.a; b = t.c; c = t.d }) (there here) c.in-Some-row_on.ensures.1)

pub returns-in-Some-row_on-2 : goal.returns-in-Some-row_on-2
returns-in-Some-row_on-2 c =
    let t = c.args.row in
    (c.in-Some-row_on-2.ensures.0, shares t c.in-Some-row_on-2.other (record { a = t.a; b = t.d; c = t.b }) (there (there here)) c.in-Some-row_on-2.ensures.1)

pub returns : goal.returns
returns c = last_rival c.args.self.now.rows c.args.row c.row_on-4.result c.in_default.ensures c.in_default-row_on.ensures c.in_default-row_on-2.ensures c.row_on-4.ensures
