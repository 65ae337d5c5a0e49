use Rattle.std.proofs.Common.{◌≡◌, length, refl, arith}
use Rattle.mesh_arena.specs.Cavity.{slot_at}
use Rattle.mesh_arena.proofs.Cells.{live_within}
use Rattle.mesh_arena.proofs.CutCavity.{FreesCells-none, FreesCells-step, live_ahead}
use Rattle.mesh_arena.proofs.cut.free_cells.Goals as goal

pub loop-j-init : goal.loop-j-init
loop-j-init c = record { frees = FreesCells-none c.args.cells.now.items c.args.cavity.now c.args.next; capacity = refl; first = c.requires.next }

pub index_mut-cell-requires : goal.index_mut-cell-requires
index_mut-cell-requires c =
    let j = c.loop-j.j in
    let lt = c.loop-j-test.true in
    omega (arith, live_within c.loop-j.cells.items (slot_at c.args.cavity.now j) (live_ahead c.args.cells.now.items c.loop-j.cells.items c.args.cavity.now j c.args.next c.loop-j.first c.loop-j.invariant.frees lt c.requires.once (c.requires.live j lt)))

pub loop-j-preserved : goal.loop-j-preserved
loop-j-preserved c =
    let j = c.loop-j.j in
    let lt = c.loop-j-test.true in
    record {
      frees = FreesCells-step c.args.cells.now.items c.loop-j.cells.items c.args.cavity.now j c.args.next c.loop-j.first c.loop-j.invariant.frees lt c.requires.once (c.requires.live j lt) c.index_mut-cell.result.now c.free.new.self c.index_mut-cell.ensures.value c.free.ensures.live c.free.ensures.next;
      capacity = c.loop-j.invariant.capacity;
      first = omega (arith, c.requires.few, live_within c.args.cells.now.items (slot_at c.args.cavity.now j) (c.requires.live j lt));
    }

pub returns-clause-frees : goal.returns-clause-frees
returns-clause-frees c =
    let done : c.loop-j.j ≡ length c.args.cavity.now = omega arith in
    rw done at c.loop-j.invariant.frees

pub free-requires : goal.free-requires
free-requires c = c.loop-j.invariant.first
