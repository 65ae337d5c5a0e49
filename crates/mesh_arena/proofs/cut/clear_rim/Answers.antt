use Rattle.std.proofs.Common.{◌≡◌, length, refl, arith}
use Rattle.mesh_arena.specs.Star.{rim_at}
use Rattle.mesh_arena.proofs.Cells.{live_within}
use Rattle.mesh_arena.proofs.CutCavity.{ClearsRim-none, ClearsRim-step, live_rim}
use Rattle.mesh_arena.proofs.cut.clear_rim.Goals as goal

pub loop-r-init : goal.loop-r-init
loop-r-init c = record { clears = ClearsRim-none c.args.cells.now.items c.args.rim.now c.requires.shaped; capacity = refl }

pub index_mut-outer-requires : goal.index_mut-outer-requires
index_mut-outer-requires c =
    let r = c.loop-r.r in
    omega (arith, live_within c.loop-r.cells.items (rim_at c.args.rim.now r).slot.index (live_rim c.args.cells.now.items c.loop-r.cells.items c.args.rim.now r c.loop-r.invariant.clears (c.requires.live r c.loop-r-test.true)))

pub loop-r-preserved : goal.loop-r-preserved
loop-r-preserved c =
    let r = c.loop-r.r in
    let lt = c.loop-r-test.true in
    record {
      clears = ClearsRim-step c.args.cells.now.items c.loop-r.cells.items c.args.rim.now r c.loop-r.invariant.clears (c.requires.live r lt) c.index_mut-outer.result.now c.clear_side.new.self (c.requires.faces r lt) c.index_mut-outer.ensures.value (record { tet = c.clear_side.ensures.tet; live = c.clear_side.ensures.live });
      capacity = c.loop-r.invariant.capacity;
    }

pub returns-clause-clears : goal.returns-clause-clears
returns-clause-clears c =
    let done : c.loop-r.r ≡ length c.args.rim.now = omega arith in
    rw done at c.loop-r.invariant.clears
