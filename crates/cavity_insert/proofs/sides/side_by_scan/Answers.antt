use Rattle.std.proofs.Common.{below_more, refl, arith}
use Rattle.point_locate.specs.Place.{IsAt}
use Rattle.cavity_insert.specs.Living.{HasBoth}
use Rattle.cavity_insert.proofs.SlotSides.{side_of_slot, slot_of_side}
use Rattle.cavity_insert.proofs.sides.side_by_scan.Goals as goal

pub loop-i-preserved : goal.loop-i-preserved
loop-i-preserved c =
    below_more (λ s. IsAt c.args.arena.now.slots (λ cs. HasBoth cs c.args.a c.args.b) s → ⊥) c.loop-i.i c.loop-i.invariant
    (λ at. let found = c.if-slot_has_corners.ensures.1 at in absurd cc)

pub returns-then-slot_has_corners : goal.returns-then-slot_has_corners
returns-then-slot_has_corners c =
    let side = side_of_slot c.args.arena.now.slots c.args.points.now c.requires.mesh c.args.a c.args.b c.loop-i.i c.requires.differ (c.if-slot_has_corners.ensures.0 refl) in
    (λ h. side, λ h. refl)

pub returns : goal.returns
returns c = (
  λ h. absurd cc,
  λ side.
      let at = slot_of_side c.args.arena.now.slots c.args.points.now c.requires.mesh c.args.a c.args.b side in
      absurd (c.loop-i.invariant at.0 (omega (arith, at.1)) at.2),
)
