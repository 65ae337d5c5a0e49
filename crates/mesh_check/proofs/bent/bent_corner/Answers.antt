use Rattle.std.proofs.Common.{ℕ, ◌<◌, arith}
use Rattle.mesh_check.specs.Bending.{IsBentOnce}
use Rattle.mesh_check.proofs.Firsts.{none_more}
use Rattle.mesh_check.proofs.bent.bent_corner.Goals as goal

pub loop-q-preserved : goal.loop-q-preserved
loop-q-preserved c =
    let m = c.args.mesh in
    none_more (λ k. (k < 4) × IsBentOnce m.points.now m.listed.now c.args.s c.args.t c.args.p k) c.loop-q.q c.loop-q.invariant (λ h. let y = c.is_bent_at.ensures.1 h.1 in absurd (cc))
