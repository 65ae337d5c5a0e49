use Rattle.std.proofs.Common.{length, sym, ap, subst, ◌∙◌, arith}
use Rattle.hole_carve.specs.Flooding.{IsQueued}
use Rattle.hole_carve.proofs.Flooding.{filled_none}
use Rattle.hole_carve.proofs.flood.flooded.Goals as goal

pub fill-requires-clause-flood : goal.fill-requires-clause-flood
fill-requires-clause-flood c =
    let f = c.in_ok-flood.flood in
    let made = c.in_ok-flood.ensures in
    record {
      long = made.long ∙ c.requires.seeds;
      filled = subst (IsQueued c.args.ways.now c.args.seeds.now f.marks.items) (sym made.empty) (filled_none c.args.ways.now c.args.seeds.now f.marks.items made.clear);
    }

pub fill-requires-clause-done : goal.fill-requires-clause-done
fill-requires-clause-done c q l = let none = ap length c.in_ok-flood.ensures.empty in absurd (omega (arith, none, l))
