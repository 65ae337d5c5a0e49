use Rattle.std.proofs.Common.{◌≡◌, ℕ, ◌<◌, sym, ◌∙◌, arith}
use Rattle.mesh_check.specs.Bending.{IsBentFrom}
use Rattle.mesh_check.proofs.Bends.{from_fails}
use Rattle.mesh_check.proofs.Firsts.{none_more}
use Rattle.mesh_check.proofs.bent.first_bent_corner.Goals as goal

pub loop-p-preserved : goal.loop-p-preserved
loop-p-preserved c =
    let m = c.args.mesh in
    none_more (λ k. (k < 4) × IsBentFrom m.points.now m.listed.now c.args.s c.args.t k) c.loop-p.p c.loop-p.invariant
    (λ h. from_fails m.points.now m.listed.now c.args.s c.args.t c.loop-p.p c.bent_corner.result c.bent_corner.ensures (sym c.is_some.ensures ∙ c.if-is_some.false) h.1)

pub returns : goal.returns
returns c = λ k h. c.loop-p.invariant k (let lt = h.0 in omega arith) h
