use Rattle.std.proofs.Common.{arith}
use Rattle.std.proofs.lemmas.Option.{slice_get_within}
use Rattle.mesh_arena.proofs.Cells.{Took-push, Took-fill, full_at_end, free_before_end}
use Rattle.mesh_arena.proofs.arena.Arena.take_slot.Goals as goal

pub invariant_of-self : goal.invariant_of-self
invariant_of-self c =
    let given = rw (← c.self.view_is) at c.requires in
    rw c.push_reserved.ensures.items (record { sound = (Took-push _ _ _ _ c.self.invariant.sound (omega arith) (omega (arith, given.room, full_at_end c.self.inside.cells.items c.self.inside.live c.self.inside.next c.self.invariant.sound.counted (omega arith))) c.requires.differ c.requires.bare).sound; room = omega (arith, c.self.invariant.room, given.room); star = omega (arith, c.self.invariant.star) })

pub returns-then-place-len-clause-takes : goal.returns-then-place-len-clause-takes
returns-then-place-len-clause-takes c =
    let given = rw (← c.self.view_is) at c.requires in
    rw (← c.self.view_is, c.push_reserved.ensures.items) (Took-push _ _ _ _ c.self.invariant.sound (omega arith) (omega (arith, given.room, full_at_end c.self.inside.cells.items c.self.inside.live c.self.inside.next c.self.invariant.sound.counted (omega arith))) c.requires.differ c.requires.bare).takes

pub index-requires : goal.index-requires
index-requires c = omega (arith, slice_get_within c.self.inside.cells.items c.self.inside.next _ (free_before_end c.self.inside.cells.items c.self.inside.live c.self.inside.next c.self.invariant.sound.counted (λ e. omega arith)).1)

pub index_mut-requires : goal.index_mut-requires
index_mut-requires c = omega (arith, slice_get_within c.self.inside.cells.items c.self.inside.next _ (free_before_end c.self.inside.cells.items c.self.inside.live c.self.inside.next c.self.invariant.sound.counted (λ e. omega arith)).1)

pub invariant_of-self-else-place-len : goal.invariant_of-self-else-place-len
invariant_of-self-else-place-len c =
    let given = rw (← c.self.view_is) at c.requires in
    rw c.next_free-self-inside.ensures (record { sound = (Took-fill _ _ _ _ c.args.cell.now c.self.invariant.sound (λ e. omega arith) c.index.ensures c.requires.differ c.requires.bare).sound; room = omega (arith, c.self.invariant.room, given.room); star = omega (arith, c.self.invariant.star) })

pub returns-else-place-len-clause-takes : goal.returns-else-place-len-clause-takes
returns-else-place-len-clause-takes c = rw (← c.self.view_is) (Took-fill _ _ _ _ c.args.cell.now c.self.invariant.sound (λ e. omega arith) c.index.ensures c.requires.differ c.requires.bare).takes

pub overflow_add-self-then-place-len : goal.overflow_add-self-then-place-len
overflow_add-self-then-place-len c =
    let given = rw (← c.self.view_is) at c.requires in
    omega (arith, given.room, full_at_end c.self.inside.cells.items c.self.inside.live c.self.inside.next c.self.invariant.sound.counted (omega arith))
