use Rattle.std.proofs.Common.{arith}
use Rattle.std.proofs.lemmas.Int.{ints}
use Rattle.grid_coords.proofs.HalfSums.{kept, on_grid, back_sum, sum_back}
use Rattle.grid_coords.proofs.middle.midpoint.Goals as goal

pub returns-in_err-z : goal.returns-in_err-z
returns-in_err-z c =
    let az = on_grid c.a.inside.z c.a.invariant.z_low c.a.invariant.z_high in
    let bz = on_grid c.b.inside.z c.b.invariant.z_low c.b.invariant.z_high in
    rw c.from_residual-in_err-z.ensures (λ m is. c.in_err-z.ensures m.z (sum_back c.a.inside.z c.b.inside.z _ az bz (rw (← c.a.view_is, ← c.b.view_is) at is.z)))

pub invariant_of-result : goal.invariant_of-result
invariant_of-result c =
    let x = kept c.in_ok-x.x c.in_ok-x.ensures.1 in
    let y = kept c.in_ok-y.y c.in_ok-y.ensures.1 in
    let z = kept c.in_ok-z.z c.in_ok-z.ensures.1 in
    let x-small = c.in_ok-x.ensures.1 in
    let y-small = c.in_ok-y.ensures.1 in
    let z-small = c.in_ok-z.ensures.1 in
    rw (x, y, z) (record { x_low = omega (arith, ints); x_high = omega (arith, ints); y_low = omega (arith, ints); y_high = omega (arith, ints); z_low = omega (arith, ints); z_high = omega (arith, ints) })

pub returns : goal.returns
returns c =
    let x = kept c.in_ok-x.x c.in_ok-x.ensures.1 in
    let y = kept c.in_ok-y.y c.in_ok-y.ensures.1 in
    let z = kept c.in_ok-z.z c.in_ok-z.ensures.1 in
    let a = c.a.inside in
    let b = c.b.inside in
    let g = c.a.invariant in
    let h = c.b.invariant in
    rw (x, y, z, ← c.a.view_is, ← c.b.view_is) (record {
      x = back_sum a.x b.x _ (on_grid a.x g.x_low g.x_high) (on_grid b.x h.x_low h.x_high) c.in_ok-x.ensures.0;
      y = back_sum a.y b.y _ (on_grid a.y g.y_low g.y_high) (on_grid b.y h.y_low h.y_high) c.in_ok-y.ensures.0;
      z = back_sum a.z b.z _ (on_grid a.z g.z_low g.z_high) (on_grid b.z h.z_low h.z_high) c.in_ok-z.ensures.0;
    })
