use Rattle.tangle_fill.proofs.Indexed.{straight_side, onward_side, found_at, lies_straight, lies_onward, last_on}
use Rattle.tangle_fill.proofs.growth.Growth.row_round.Goals as goal

pub returns-in-Some : goal.returns-in-Some
returns-in-Some c =
    let h = found_at c.args.self.now (straight_side c.args.f) c.in-Some.row c.requires c.in-Some.ensures in
    (h.0, lies_straight c.args.f c.in-Some.row h.1)

pub returns-in-Some-row_of : goal.returns-in-Some-row_of
returns-in-Some-row_of c =
    let h = found_at c.args.self.now (onward_side c.args.f) c.in-Some-row_of.row c.requires c.in-Some-row_of.ensures in
    (h.0, lies_onward c.args.f c.in-Some-row_of.row h.1)

pub returns : goal.returns
returns c = last_on c.args.self.now c.args.f c.row_of-3.result c.requires c.in_default.ensures c.in_default-row_of.ensures c.row_of-3.ensures
