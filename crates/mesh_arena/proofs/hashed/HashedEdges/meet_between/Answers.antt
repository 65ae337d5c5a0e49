use Rattle.std.proofs.Common.{refl, arith}
use Rattle.mesh_arena.proofs.EdgesByHash.{IsHashed-read, AddsOnly-hashed}
use Rattle.mesh_arena.proofs.hashed.HashedEdges.meet_between.Goals as goal

pub returns-then-met-self-clause-only : goal.returns-then-met-self-clause-only
returns-then-met-self-clause-only c =
    let table = c.loop-step.self-inside in
    rw (← c.loop-step.invariant.same) (AddsOnly-hashed table.met.items table.round _ (record { low = c.args.low; high = c.args.high }) c.args.face _ (omega arith) refl)

pub returns-then-met-high-clause-found : goal.returns-then-met-high-clause-found
returns-then-met-high-clause-found c =
    let table = c.loop-step.self-inside in
    let met = c.index-met.result.now in
    rw (← c.loop-step.invariant.same, c.at.ensures, ← c.if-met-low.true, ← c.if-met-high.true) (IsHashed-read table.met.items table.round _ met (omega arith) c.index-met.ensures (omega arith))
