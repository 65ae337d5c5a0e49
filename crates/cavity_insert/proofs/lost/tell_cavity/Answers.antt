use Rattle.std.proofs.Common.{◌≡◌, sym, subst, arith, below_more}
use Rattle.mesh_arena.specs.Cavity.{slot_at}
use Rattle.cavity_insert.specs.Lost.{IsToldOf}
use Rattle.cavity_insert.proofs.LostSides.{told_more}
use Rattle.cavity_insert.proofs.lost.tell_cavity.Goals as goal

pub loop-i-preserved : goal.loop-i-preserved
loop-i-preserved c =
    let slots = c.args.arena.now.slots in
    let cavity = c.args.cavity.now in
    let now = c.tell_corners.new.lost.items in
    let is : slot_at cavity c.loop-i.i ≡ c.at.result.index = λ j. (c.at.ensures (record { index = 0 }) j).index in
    below_more (λ j. IsToldOf now slots (slot_at cavity j)) c.loop-i.i
    (λ j h. told_more slots (slot_at cavity j) c.loop-i.lost.items now c.in_ok-tell_corners.ensures.before (c.loop-i.invariant j h))
    (subst (IsToldOf now slots) (sym is) c.in_ok-tell_corners.ensures.told)

pub returns : goal.returns
returns c = λ u is. subst (IsToldOf c.loop-i.lost.items c.args.arena.now.slots) is.is (c.loop-i.invariant is.place (let h = is.inside in omega arith))
