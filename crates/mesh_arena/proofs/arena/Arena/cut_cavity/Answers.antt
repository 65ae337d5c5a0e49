use Rattle.std.proofs.Common.{arith}
use Rattle.mesh_arena.proofs.Cone.{faces_below}
use Rattle.mesh_arena.proofs.Cells.{next_within}
use Rattle.mesh_arena.proofs.CutCavity.{IsMesh-cut, Cuts-done}
use Rattle.mesh_arena.proofs.arena.Arena.cut_cavity.Goals as goal

pub clear_rim-requires-clause-faces : goal.clear_rim-requires-clause-faces
clear_rim-requires-clause-faces c =
    let given = rw (← c.self.view_is) at c.requires in
    λ r h. (faces_below _ _ _ _ c.self.invariant.sound.mesh (given.rim.has r h)).0

pub invariant_of-self : goal.invariant_of-self
invariant_of-self c =
    let given = rw (← c.self.view_is) at c.requires in
    let old = c.self.inside.cells.items in
    let clears = c.clear_rim.ensures in
    let frees = c.free_cells-self-inside.ensures in
    record {
      sound = record {
        counted = rw c.saturating_sub-self-inside.ensures (frees.frees.counted c.self.inside.live (clears.clears.counted c.self.inside.live c.self.inside.next c.self.invariant.sound.counted));
        mesh = IsMesh-cut old c.clear_rim.new.cells.items c.free_cells-self-inside.new.cells.items c.args.cavity.now c.args.rim.now _ _ c.self.invariant.sound.mesh given.cavity given.rim clears.clears frees.frees;
        small = omega (arith, clears.clears.len, frees.frees.len, c.self.invariant.sound.small);
      };
      room = omega (arith, c.self.invariant.room, clears.capacity, frees.capacity, c.saturating_sub-self-inside.ensures);
      star = c.self.invariant.star;
    }

pub returns-clause-cuts : goal.returns-clause-cuts
returns-clause-cuts c =
    let given = rw (← c.self.view_is) at c.requires in
    rw (← c.self.view_is) (Cuts-done c.self.inside.cells.items c.clear_rim.new.cells.items c.free_cells-self-inside.new.cells.items c.args.cavity.now c.args.rim.now _ _ c.self.invariant.sound.mesh given.cavity given.rim c.clear_rim.ensures.clears c.free_cells-self-inside.ensures.frees)

pub free_cells-self-inside-requires-clause-next : goal.free_cells-self-inside-requires-clause-next
free_cells-self-inside-requires-clause-next c =
    omega (arith, c.self.invariant.sound.small, next_within c.self.inside.cells.items c.self.inside.live c.self.inside.next c.self.invariant.sound.counted)
