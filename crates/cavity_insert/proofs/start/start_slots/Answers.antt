use Rattle.std.proofs.Common.{Some, refl, ap, arith}
use Rattle.cavity_insert.proofs.StartMesh.{AreMade, none_made, one_made, all_made}
use Rattle.cavity_insert.proofs.start.start_slots.Goals as goal

pub returns : goal.returns
returns c =
    let t = c.args.t in
    let m0 : AreMade c.new-arena.result.slots t 0 = rw c.new-arena.ensures (none_made t) in
    let m1 = one_made _ _ t 0 _ _ (omega arith) m0 c.in_ok-alloc_slot.ensures.ok refl in
    let m2 = one_made _ _ t 1 _ _ (omega arith) m1 c.in_ok-alloc_slot-2.ensures.ok (ap Some c.ghost_over.ensures) in
    let m3 = one_made _ _ t 2 _ _ (omega arith) m2 c.in_ok-alloc_slot-3.ensures.ok (ap Some c.ghost_over-2.ensures) in
    let m4 = one_made _ _ t 3 _ _ (omega arith) m3 c.in_ok-alloc_slot-4.ensures.ok (ap Some c.ghost_over-3.ensures) in
    all_made _ t (one_made _ _ t 4 _ _ (omega arith) m4 c.in_ok-alloc_slot-5.ensures.ok (ap Some c.ghost_over-4.ensures))
