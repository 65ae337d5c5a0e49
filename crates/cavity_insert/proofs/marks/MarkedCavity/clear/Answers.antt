use Rattle.std.proofs.Common.{◌≡◌, ◌-◌, length, ap, arith}
use Rattle.std.proofs.lemmas.List.{length-take-le}
use Rattle.mesh_arena.specs.Cavity.{slot_at}
use Rattle.mesh_arena.specs.declared.slot.Slot.{Slot}
use Rattle.cavity_insert.proofs.Marking.{Clearing-start, Clearing-more}
use Rattle.cavity_insert.proofs.marks.MarkedCavity.clear.Goals as goal

pub loop-left-init : goal.loop-left-init
loop-left-init c = record { count = c.len-left.ensures.count; clearing = Clearing-start c.self.inside.found c.self.inside.marks.items c.self.invariant }

pub loop-left-preserved : goal.loop-left-preserved
loop-left-preserved c =
    let left = c.loop-left.self-inside.found in
    let n = c.loop-left.left - 1 in
    let last : length left - 1 ≡ n = omega arith in
    let is : slot_at left n ≡ c.at.result.index = ap (λ (s : Slot). s.index) (c.at.ensures (record { index = 0 })) in
    rw (c.drop_last.ensures, last)
    (record {
      count = omega (arith, length-take-le n left (omega arith));
      clearing = Clearing-more left c.loop-left.self-inside.marks.items n c.at.result.index c.loop-left.invariant.clearing (omega arith) is;
    })
