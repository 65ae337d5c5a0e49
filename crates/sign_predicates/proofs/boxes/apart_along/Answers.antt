use Rattle.std.proofs.Common.{inl, inr, w32}
use Rattle.exact_algebra.proofs.Size.{read}
use Rattle.sign_predicates.proofs.Apart.{below_at}
use Rattle.sign_predicates.proofs.boxes.apart_along.Goals as goal

pub returns-then-all_below : goal.returns-then-all_below
returns-then-all_below c h =
    let a = c.args in
    let r = c.ranges in
    inl (below_at (read w32 a.a r.a.sfits) (read w32 a.b r.b.sfits) (read w32 a.c r.c.sfits) (read w32 a.d r.d.sfits) (read w32 a.e r.e.sfits) (read w32 a.f r.f.sfits) (c.all_below.ensures h))

pub returns-else-all_below : goal.returns-else-all_below
returns-else-all_below c h =
    let a = c.args in
    let r = c.ranges in
    inr (below_at (read w32 a.d r.d.sfits) (read w32 a.e r.e.sfits) (read w32 a.f r.f.sfits) (read w32 a.a r.a.sfits) (read w32 a.b r.b.sfits) (read w32 a.c r.c.sfits) (c.all_below-else-all_below.ensures h))
