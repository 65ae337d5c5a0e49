use Rattle.std.proofs.Common.{ap, sym, ◌∙◌, arith}
use Rattle.hole_carve.specs.Flooding.{way, IsWay, goes_on}
use Rattle.hole_carve.proofs.flood.Flood.reach_from.Goals as goal

pub reach-requires-clause-there : goal.reach-requires-clause-there
reach-requires-clause-there c =
    let w : IsWay c.args.ways.now c.args.row c.in-Some.place = (c.loop-corner.corner, c.loop-corner-test.true, ap (λ x. way x c.loop-corner.corner) (sym c.at-across.ensures) ∙ sym c.way.ensures ∙ c.in-Some.is) in
    omega (arith, c.requires.within c.args.row c.in-Some.place w, c.loop-corner.invariant.goes_on.flood.long)

pub reach-requires-clause-comes : goal.reach-requires-clause-comes
reach-requires-clause-comes c = goes_on c.args.row c.in-Some.place c.requires.comes (c.loop-corner.corner, c.loop-corner-test.true, ap (λ x. way x c.loop-corner.corner) (sym c.at-across.ensures) ∙ sym c.way.ensures ∙ c.in-Some.is)
