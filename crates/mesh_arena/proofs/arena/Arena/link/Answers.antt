use Rattle.mesh_arena.proofs.Cells.{Linked-writes}
use Rattle.mesh_arena.proofs.arena.Arena.link.Goals as goal

pub invariant_of-self : goal.invariant_of-self
invariant_of-self c =
    let given = rw (← c.self.view_is) at c.requires in
    record { sound = (Linked-writes _ _ _ _ _ _ _ _ _ _ _ c.self.invariant.sound given.first given.second given.faces.0 given.faces.1 given.differ given.same given.first_free given.second_free c.index_mut-one.ensures.value (record { tet = c.put_side.ensures.tet; live = c.put_side.ensures.live }) c.index_mut-two.ensures.value (record { tet = c.put_side-2.ensures.tet; live = c.put_side-2.ensures.live })).sound; room = c.self.invariant.room; star = c.self.invariant.star }

pub returns-clause-links : goal.returns-clause-links
returns-clause-links c =
    let given = rw (← c.self.view_is) at c.requires in
    rw (← c.self.view_is) (Linked-writes _ _ _ _ _ _ _ _ _ _ _ c.self.invariant.sound given.first given.second given.faces.0 given.faces.1 given.differ given.same given.first_free given.second_free c.index_mut-one.ensures.value (record { tet = c.put_side.ensures.tet; live = c.put_side.ensures.live }) c.index_mut-two.ensures.value (record { tet = c.put_side-2.ensures.tet; live = c.put_side-2.ensures.live })).links
