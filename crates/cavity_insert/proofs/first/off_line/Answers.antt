use Rattle.std.proofs.Common.{ℕ, zero, suc, ◌<◌, arith, below_more, rules}
use Rattle.geo_laws.specs.Delaunay.{point}
use Rattle.cavity_insert.specs.First.{IsOnLine}
use Rattle.cavity_insert.proofs.Planes.{on_line_first, on_line_second}
use Rattle.cavity_insert.proofs.first.off_line.Goals as goal

pub loop-c-init : goal.loop-c-init
loop-c-init c = at
  where
    at : (i : ℕ) → i < 2 → IsOnLine (point c.args.points.now 0) (point c.args.points.now 1) (point c.args.points.now i)
    at zero h = on_line_first (point c.args.points.now 0) (point c.args.points.now 1)
    at (suc zero) h = on_line_second (point c.args.points.now 0) (point c.args.points.now 1)
    at (suc (suc i)) h = absurd (omega (arith, h))

pub loop-c-preserved : goal.loop-c-preserved
loop-c-preserved c =
    let ps = c.args.points.now in
    let here : IsOnLine (point ps 0) (point ps 1) (point ps c.loop-c.c) = search rules in
    below_more (λ i. IsOnLine (point ps 0) (point ps 1) (point ps i)) c.loop-c.c c.loop-c.invariant here
